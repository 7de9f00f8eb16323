-- A number at an end is cut off.
use Rattle.std.proofs.Common.{◌≡◌, ◌∙◌, ℕ, ℤ, pos, ◌+ℤ◌, ◌-ℤ◌, ◌≤ℤ◌, sym, ap, ap₂, arith, to_z, of_z, to_z-of_z}
use Rattle.std.specs.Int.{w128}
use Rattle.std.proofs.lemmas.Int.{ints}
use Rattle.cc_lattice.specs.Domains.{IsInReach}
use Rattle.cc_explicit.proofs.Reach.{reach_same}
use Rattle.cc_sets.specs.declared.gathered.Spread.{Spread}
use Rattle.cc_ranges.specs.Ends.{between}
use Rattle.cc_sets.proofs.Bounds as at
use Rattle.cc_sets.proofs.keep.without.Goals as goal

abbrev back : ℤ → ℤ
back z = to_z w128 (of_z w128 z)

low_reach : (s : Spread) → IsInReach s.low
low_reach s = let w = s.wide.wide in let m = s.wide.most in record { least = s.wide.least; most = omega (arith, ints) }

high_reach : (s : Spread) → IsInReach s.high
high_reach s = let w = s.wide.wide in let l = s.wide.least in record { least = omega (arith, ints); most = s.wide.most }

bits_same : (a b : ℤ) → back a ≡ a → back b ≡ b → of_z w128 a ≡ of_z w128 b → a ≡ b
bits_same a b e f h = sym e ∙ (ap (λ (n : ℕ). to_z w128 n) h ∙ f)

more_one : (a : ℤ) → IsInReach a → back (back a +ℤ pos 1) ≡ a +ℤ pos 1
more_one a p = let l = p.least in let m = p.most in omega (arith, ints)

less_one : (a : ℤ) → IsInReach a → back (back a -ℤ pos 1) ≡ a -ℤ pos 1
less_one a p = let l = p.least in let m = p.most in omega (arith, ints)

ordered : (s : Spread) → s.low ≤ℤ s.high
ordered s = let w = s.wide.wide in omega (arith, ints)

pub returns-then-range-v : goal.returns-then-range-v
returns-then-range-v c =
    let s = c.args.range in
    at.hull_at _ _ c.hull_between.result
    (ap₂ between (more_one s.low (low_reach s)) (reach_same s.high (high_reach s)) ∙ at.without_low s.low s.high c.args.v (bits_same s.low c.args.v (reach_same s.low (low_reach s)) (to_z-of_z c.ranges.v) c.if-range-v.true))
    c.hull_between.ensures

pub returns-then-range-v-2 : goal.returns-then-range-v-2
returns-then-range-v-2 c =
    let s = c.args.range in
    at.hull_at _ _ c.hull_between-then-range-v-2.result
    (ap₂ between (reach_same s.low (low_reach s)) (less_one s.high (high_reach s)) ∙ at.without_high s.low s.high c.args.v (λ e. c.if-range-v.false (ap (of_z w128) e))
    (bits_same s.high c.args.v (reach_same s.high (high_reach s)) (to_z-of_z c.ranges.v) c.if-range-v-2.true))
    c.hull_between-then-range-v-2.ensures

pub returns-else-range-v-2 : goal.returns-else-range-v-2
returns-else-range-v-2 c =
    let s = c.args.range in
    at.hull_at _ _ c.hull_between-else-range-v-2.result
    (ap₂ between (reach_same s.low (low_reach s)) (reach_same s.high (high_reach s)) ∙ at.without_none s.low s.high c.args.v (ordered s) (λ e. c.if-range-v.false (ap (of_z w128) e)) (λ e. c.if-range-v-2.false (ap (of_z w128) e)))
    c.hull_between-else-range-v-2.ensures
