use Rattle.std.proofs.Common.{[], ◌++◌, take, map, subst, sym}
use Rattle.std.proofs.lemmas.List.{append-nil}
use Rattle.cc_program.specs.declared.types.Structure.{Structure}
use Rattle.cc_names.specs.Holds.{Holds}
use Rattle.cc_lower_numbers.proofs.Reservations.{mapped_reserved, mapped_ends}
use Rattle.cc_rewrite_names.proofs.reservations.reserve_tags.Goals as goal

pub loop-structure-init : goal.loop-structure-init
loop-structure-init c = λ r h. subst (λ l. Holds c.args.taken.now l []) (sym (append-nil r)) h

pub loop-structure-preserved : goal.loop-structure-preserved
loop-structure-preserved c = λ r h.
    let xs = c.args.structures.now in
    let i = c.loop-structure.structure-index in
    subst (λ l. Holds c.reserve.new.self l []) (mapped_reserved (λ (x : Structure). x.tag) xs r i c.structure-item.result (c.all.result.now) c.loop-structure-test.true c.structure-item.is (c.all.ensures))
    (c.in_ok-reserve.ensures (r ++ map (λ x. x.tag) (take i xs)) (c.loop-structure.invariant r h))

pub returns : goal.returns
returns c = λ r h. subst (λ l. Holds c.loop-structure.taken l []) (mapped_ends (λ (x : Structure). x.tag) c.args.structures.now r c.loop-structure.structure-index c.loop-structure-test.false) (c.loop-structure.invariant r h)
