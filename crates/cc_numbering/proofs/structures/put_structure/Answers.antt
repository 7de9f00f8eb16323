use Rattle.std.proofs.Common.{◌≡◌, ◌∙◌, List, Some, slice_get, ap, sym}
use Rattle.cc_program.specs.declared.types.Structure.{Structure}
use Rattle.cc_scopes.specs.View.{state_of, known_of}
use Rattle.cc_scopes.specs.declared.standing.Standing.{Standing}
use Rattle.cc_numbering.proofs.Known.{put-there}
use Rattle.cc_numbering.proofs.structures.put_structure.Goals as goal

pub returns : goal.returns
unfolding state_of known_of
returns c =
    let a : slice_get c.args.state.now.structures.all.items c.args.id ≡ Some c.in-Some.structure.now = sym (c.in-Some.ensures ∙ ap (λ (xs : List Structure). slice_get xs c.args.id) c.as_slice.ensures.value) in
    let k : slice_get c.args.state.now.structures.standings.items c.args.id ≡ Some c.in-Some-at.standing.now = sym (c.in-Some-at.ensures ∙ ap (λ (xs : List Standing). slice_get xs c.args.id) c.as_slice-2.ensures.value) in
    put-there c.args.numbers.now c.args.state.now.structures.all.items c.args.state.now.structures.standings.items c.args.state.now.structures.layouts.items c.args.id c.args.out.now.items c.push.new.self.items c.args.state.now.structures.kept
    c.in-Some.structure.now c.in-Some-at.standing.now c.in_ok-structure.structure a k c.in_ok-structure.ensures c.in_ok-push.ensures.items
