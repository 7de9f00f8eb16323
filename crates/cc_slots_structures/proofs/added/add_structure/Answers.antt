use Rattle.std.proofs.Common.{arith, ◌<◌, false, length, get_or, refl}
use Rattle.std.proofs.lemmas.Option.{slice_get-get_or}
use Rattle.cc_slots_structures.specs.declared.standing.Standing.{Standing}
use Rattle.cc_slots_structures.proofs.AddedLemmas.{other_added, structure_added}
use Rattle.cc_slots_structures.proofs.added.add_structure.Goals as goal

pub returns-then-first-s : goal.returns-then-first-s
returns-then-first-s c = other_added c.args.first c.args.s c.args.place c.args.list.now c.args.list.now c.if-first-s.true refl

pub returns : goal.returns
returns c =
    let none : Standing = record { copies = 0; is_open = false; is_automatic = false } in
    let past = c.requires in
    let within = c.if-first-s.false in
    let short : c.args.s < length c.args.list.now = omega (arith, past, within) in
    structure_added c.args.first c.args.s c.args.place c.args.list.now _ (get_or c.args.list.now c.args.s none) c.both.result within (slice_get-get_or c.args.list.now c.args.s none short) refl
    c.both.ensures.copies c.both.ensures.is_open c.both.ensures.is_automatic
