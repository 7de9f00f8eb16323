-- The ends of a set are in reach.
use Rattle.std.proofs.Common.{ℤ, sym, subst, to_z, of_z}
use Rattle.std.specs.Int.{w128}
use Rattle.cc_explicit.proofs.Reach.{reach_same}
use Rattle.cc_sets.specs.declared.vals.Vals.{Vals}
use Rattle.cc_sets.specs.Rungs.{ValsHas}
use Rattle.cc_sets.proofs.Bounds as at
use Rattle.cc_lattice.specs.Domains.{AreEnds, IsInReach}
use Rattle.cc_sets.specs.laws.Ends.{set_reach}
use Rattle.cc_sets.proofs.keep.keep_range.Goals as goal

ends_reach : (x : Vals) (low high : ℤ) → AreEnds (ValsHas x) (low, high) → IsInReach (to_z w128 (of_z w128 low)) × IsInReach (to_z w128 (of_z w128 high))
ends_reach x low high h =
    let a = set_reach x low h.low_in in
    let b = set_reach x high h.high_in in
    (subst IsInReach (sym (reach_same low a)) a, subst IsInReach (sym (reach_same high b)) b)

pub keep_between-requires-clause-low : goal.keep_between-requires-clause-low
keep_between-requires-clause-low c = (ends_reach c.args.other.now c.in-Some.low c.in-Some.high (at.ends_at c.args.other.now c.ends.result c.in-Some.low c.in-Some.high c.ends.ensures c.in-Some.is)).0

pub keep_between-requires-clause-high : goal.keep_between-requires-clause-high
keep_between-requires-clause-high c = (ends_reach c.args.other.now c.in-Some.low c.in-Some.high (at.ends_at c.args.other.now c.ends.result c.in-Some.low c.in-Some.high c.ends.ensures c.in-Some.is)).1
