-- An end that is moved by one stays far within 128 bits.
use Rattle.std.proofs.Common.{rules, ◌≡◌, ◌∙◌, ℕ, ℤ, pos, ◌+ℤ◌, ◌-ℤ◌, ◌≤ℤ◌, sym, ap, ap₂, arith, FitsSigned, to_z, of_z, to_z-of_z}
use Rattle.std.specs.Int.{w128, int_max, int_min}
use Rattle.std.proofs.lemmas.Int.{ints}
use Rattle.cc_lattice.specs.Domains.{IsInReach}
use Rattle.cc_explicit.proofs.Reach.{reach_same}
use Rattle.cc_sets.specs.declared.gathered.Spread.{Spread}
use Rattle.cc_ranges.specs.Ends.{between}
use Rattle.cc_sets.proofs.Bounds as at
use Rattle.cc_ranges.specs.Keep.{without, keep_rule}
use Rattle.cc_sets.proofs.keep.keep_between.Goals as goal

abbrev back : ℤ → ℤ
back z = to_z w128 (of_z w128 z)

low_reach : (s : Spread) → IsInReach s.low
low_reach s = let w = s.wide.wide in let m = s.wide.most in record { least = s.wide.least; most = omega (arith, ints) }

high_reach : (s : Spread) → IsInReach s.high
high_reach s = let w = s.wide.wide in let l = s.wide.least in record { least = omega (arith, ints); most = s.wide.most }

more_one : (a : ℤ) → IsInReach a → back (back a +ℤ pos 1) ≡ a +ℤ pos 1
more_one a p = let l = p.least in let m = p.most in omega (arith, ints)

less_one : (a : ℤ) → IsInReach a → back (back a -ℤ pos 1) ≡ a -ℤ pos 1
less_one a p = let l = p.least in let m = p.most in omega (arith, ints)

bits_same : (a b : ℤ) → back a ≡ a → back b ≡ b → of_z w128 a ≡ of_z w128 b → a ≡ b
bits_same a b e f h = sym e ∙ (ap (λ (n : ℕ). to_z w128 n) h ∙ f)

ordered : (s : Spread) → s.low ≤ℤ s.high
ordered s = let w = s.wide.wide in omega (arith, ints)

pub returns-in-Lt : goal.returns-in-Lt
returns-in-Lt c =
    let s = c.args.range in
    let f : FitsSigned w128 c.min.result = search rules in
    at.hull_at _ _ c.hull_between.result
    (ap₂ between (reach_same s.low (low_reach s)) (to_z-of_z f ∙ (c.min.ensures.value ∙ ap₂ int_min (reach_same s.high (high_reach s)) (less_one c.args.high c.requires.high)))
    ∙ ap (λ o. keep_rule o s.low s.high c.args.low c.args.high) (sym c.in-Lt.is))
    c.hull_between.ensures

pub returns-in-Gt : goal.returns-in-Gt
returns-in-Gt c =
    let s = c.args.range in
    let f : FitsSigned w128 c.max.result = search rules in
    at.hull_at _ _ c.hull_between-in-Gt.result
    (ap₂ between (to_z-of_z f ∙ (c.max.ensures.value ∙ ap₂ int_max (reach_same s.low (low_reach s)) (more_one c.args.low c.requires.low))) (reach_same s.high (high_reach s))
    ∙ ap (λ o. keep_rule o s.low s.high c.args.low c.args.high) (sym c.in-Gt.is))
    c.hull_between-in-Gt.ensures

pub returns-in_default : goal.returns-in_default
returns-in_default c =
    let s = c.args.range in
    let d = c.in_default in
    let e = at.is_ne c.args.test c.requires.comparison d.not-Lt d.not-Le d.not-Gt d.not-Ge d.not-Eq in
    at.hull_at _ _ c.without.result
    (ap (without s.low s.high) (reach_same c.args.low c.requires.low) ∙ (at.keep_one s.low s.high c.args.low c.args.high (bits_same c.args.low c.args.high (reach_same c.args.low c.requires.low) (reach_same c.args.high c.requires.high) c.if-low-high.true)
    ∙ ap (λ o. keep_rule o s.low s.high c.args.low c.args.high) (sym e)))
    c.without.ensures

pub returns-in_default-2 : goal.returns-in_default-2
returns-in_default-2 c =
    let s = c.args.range in
    let d = c.in_default in
    let e = at.is_ne c.args.test c.requires.comparison d.not-Lt d.not-Le d.not-Gt d.not-Ge d.not-Eq in
    at.hull_at _ _ c.hull_between-in_default-2.result
    (ap₂ between (reach_same s.low (low_reach s)) (reach_same s.high (high_reach s)) ∙ (at.keep_all s.low s.high c.args.low c.args.high (ordered s) (λ g. c.if-low-high.false (ap (of_z w128) g))
    ∙ ap (λ o. keep_rule o s.low s.high c.args.low c.args.high) (sym e)))
    c.hull_between-in_default-2.ensures
