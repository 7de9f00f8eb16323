use Rattle.std.proofs.Common.{◌∙◌, [], ◌∷◌, ◌++◌, get_or, take, ap, sym}
use Rattle.std.specs.List.{flat_map}
use Rattle.std.proofs.lemmas.Grind.{flat_map-append}
use Rattle.std.proofs.lemmas.List.{append-nil, take_more}
use Rattle.cc_numbering.specs.Structures.{structure_at}
use Rattle.cc_scopes.specs.View.{state_of}
use Rattle.cc_numbering.proofs.structures.structures_in.Goals as goal

pub loop-id-preserved : goal.loop-id-preserved
loop-id-preserved c =
    let order = c.args.order.now in
    let i = c.loop-id.id-index in
    let id = get_or order i 0 in
    let f = structure_at c.args.numbers.now (state_of c.args.state.now).structures in
    c.in_ok-put_structure.ensures
    ∙ (ap (λ l. l ++ f id) c.loop-id.invariant
    ∙ (ap (λ l. flat_map f (take i order) ++ l) (sym (append-nil (f id)))
    ∙ (sym (flat_map-append f (take i order) (id ∷ [])) ∙ ap (flat_map f) (sym (take_more order i 0 c.loop-id-test.true)))))
