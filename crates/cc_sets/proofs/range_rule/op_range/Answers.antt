-- The ends of operands are operands.
use Rattle.std.proofs.Common.{ℤ, sym, subst, to_z, of_z}
use Rattle.std.specs.Int.{w128}
use Rattle.cc_num.specs.declared.int_type.IntType.{IntType}
use Rattle.cc_num.specs.declared.target.Target.{Target}
use Rattle.cc_num.specs.Integers.{IsValueOf}
use Rattle.cc_num.specs.Results.{is_shift}
use Rattle.cc_explicit.proofs.Reach.{reach_same}
use Rattle.cc_sets.specs.declared.vals.Vals.{Vals}
use Rattle.cc_sets.specs.Rungs.{ValsHas}
use Rattle.cc_ranges.specs.Ends.{IsInterval, LieIn}
use Rattle.cc_sets.proofs.Bounds as at
use Rattle.cc_lattice.specs.Domains.{IsIntValue, AreEnds}
use Rattle.cc_lattice.proofs.IntValues.{value_is_int}
use Rattle.cc_ranges.specs.laws.SpanLaws.{second_value}
use Rattle.cc_sets.specs.laws.Ends.{set_reach}
use Rattle.cc_sets.proofs.range_rule.op_range.Goals as goal

abbrev back : ℤ → ℤ
back z = to_z w128 (of_z w128 z)

interval : (x : Vals) (low high : ℤ) → AreEnds (ValsHas x) (low, high) → ((v : ℤ) → ValsHas x v → IsIntValue v) → IsInterval (back low) (back high)
interval x low high h f =
    let e = reach_same low (set_reach x low h.low_in) in
    let g = reach_same high (set_reach x high h.high_in) in
    subst (λ (a : ℤ). IsInterval a (back high)) (sym e) (subst (λ (b : ℤ). IsInterval low b) (sym g) (at.interval_at (ValsHas x) low high h f))

lies : (x : Vals) (low high : ℤ) (t : IntType) (target : Target) → AreEnds (ValsHas x) (low, high) → ((v : ℤ) → ValsHas x v → IsValueOf t target v) → LieIn (back low) (back high) t target
lies x low high t target h f =
    let e = reach_same low (set_reach x low h.low_in) in
    let g = reach_same high (set_reach x high h.high_in) in
    subst (λ (a : ℤ). LieIn a (back high) t target) (sym e) (subst (λ (b : ℤ). LieIn low b t target) (sym g) (at.lie_at (ValsHas x) low high t target h f))

first_ends : (c : goal.In-Some-Some) → AreEnds (ValsHas c.args.a.now) (c.in-Some-Some.la, c.in-Some-Some.ha)
first_ends c = at.ends_at c.args.a.now c.ends.result c.in-Some-Some.la c.in-Some-Some.ha c.ends.ensures c.in-Some-Some.is-0

second_ends : (c : goal.In-Some-Some) → AreEnds (ValsHas c.args.b.now) (c.in-Some-Some.lb, c.in-Some-Some.hb)
second_ends c = at.ends_at c.args.b.now c.ends-2.result c.in-Some-Some.lb c.in-Some-Some.hb c.ends-2.ensures c.in-Some-Some.is-1

pub invariant_of-a : goal.invariant_of-a
invariant_of-a c = record { ends = interval c.args.a.now c.in-Some-Some.la c.in-Some-Some.ha (first_ends c) (λ v h. value_is_int v c.args.t c.args.target.now (c.requires.first v h)) }

pub invariant_of-b : goal.invariant_of-b
invariant_of-b c = record { ends = interval c.args.b.now c.in-Some-Some.lb c.in-Some-Some.hb (second_ends c.before) (λ v h. at.second_int (is_shift c.args.op) c.args.t c.args.target.now v (c.requires.second v h)) }

pub rule-requires-clause-first : goal.rule-requires-clause-first
rule-requires-clause-first c = lies c.args.a.now c.in-Some-Some.la c.in-Some-Some.ha c.args.t c.args.target.now (first_ends c.before.before) c.requires.first

pub rule-requires-clause-second : goal.rule-requires-clause-second
rule-requires-clause-second c = λ s. lies c.args.b.now c.in-Some-Some.lb c.in-Some-Some.hb c.args.t c.args.target.now (second_ends c.before.before) (λ v h. second_value (is_shift c.args.op) c.args.t c.args.target.now v s (c.requires.second v h))
