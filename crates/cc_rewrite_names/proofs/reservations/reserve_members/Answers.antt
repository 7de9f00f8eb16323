use Rattle.std.proofs.Common.{[], ◌++◌, ap, take, subst, sym}
use Rattle.std.specs.List.{flat_map}
use Rattle.std.proofs.lemmas.List.{append-nil}
use Rattle.cc_program.specs.declared.types.Structure.{Structure}
use Rattle.cc_names.specs.Holds.{Holds}
use Rattle.cc_syntax.specs.Names.{local_names}
use Rattle.cc_lower_numbers.proofs.Reservations.{flat_reserved, flat_ends}
use Rattle.cc_rewrite_names.proofs.reservations.reserve_members.Goals as goal

pub loop-structure-init : goal.loop-structure-init
loop-structure-init c = λ r h. subst (λ l. Holds c.args.taken.now l []) (sym (append-nil r)) h

pub loop-structure-preserved : goal.loop-structure-preserved
loop-structure-preserved c = λ r h.
    let xs = c.args.structures.now in
    let i = c.loop-structure.structure-index in
    subst (λ l. Holds c.reserve_named.new.taken l []) (flat_reserved (λ (x : Structure). local_names x.members) xs r i c.structure-item.result (local_names c.all.result.now) c.loop-structure-test.true c.structure-item.is (ap local_names c.all.ensures))
    (c.in_ok-reserve_named.ensures (r ++ flat_map (λ x. local_names x.members) (take i xs)) (c.loop-structure.invariant r h))

pub returns : goal.returns
returns c = λ r h. subst (λ l. Holds c.loop-structure.taken l []) (flat_ends (λ (x : Structure). local_names x.members) c.args.structures.now r c.loop-structure.structure-index c.loop-structure-test.false) (c.loop-structure.invariant r h)
