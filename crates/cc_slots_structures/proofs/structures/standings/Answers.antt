use Rattle.std.proofs.Common.{arith, ap, sym, subst, ℕ, length}
use Rattle.std.proofs.lemmas.List.{with_items_is}
use Rattle.cc_slots_structures.specs.Added.{AreNowhere}
use Rattle.cc_slots_structures.specs.Standings.{AreStandings}
use Rattle.cc_slots_structures.proofs.structures.standings.Goals as goal

pub add_all-requires : goal.add_all-requires
add_all-requires c =
    subst (AreNowhere (length c.args.p.now.structures)) (sym c.deref_mut.ensures.value)
    (subst (λ (n : ℕ). AreNowhere n c.in_ok-list.list.items) (ap length c.all.ensures) c.in_ok-list.ensures)

pub returns : goal.returns
returns c =
    let count = c.add_all.ensures.count in
    let many = c.in_ok-list.ensures.many in
    let long = ap length c.all.ensures in
    subst (AreStandings c.args.p.now) (sym (with_items_is c.in_ok-list.list c.add_all.new.list (omega (arith, count, many, long)))) c.add_all.ensures
