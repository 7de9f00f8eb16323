-- The ends of 65 numbers lie far apart.
use Rattle.std.proofs.Common.{rules, ◌≡◌, ◌∙◌, ℕ, ◌-◌, ◌<◌, ℤ, pos, List, length, get_or, ap, ap₂, arith, FitsSigned, to_z, of_z, to_z-of_z}
use Rattle.std.specs.Int.{w128, int_max, int_min}
use Rattle.std.specs.List.{Contains}
use Rattle.std.proofs.lemmas.Int.{ints, clamps}
use Rattle.std.proofs.lemmas.List.{get_or_default}
use Rattle.cc_lattice.specs.Domains.{IsInReach}
use Rattle.cc_explicit.specs.Sets.{most_members}
use Rattle.cc_explicit.specs.declared.explicit.Explicit.{Explicit}
use Rattle.cc_explicit.proofs.Lists.{rises}
use Rattle.cc_explicit.proofs.Reach.{reach_same, read_same}
use Rattle.cc_sets.specs.Ranges.{IsSpread}
use Rattle.cc_sets.proofs.Gathering as more
use Rattle.cc_sets.proofs.gather.overflow.Goals as goal

abbrev back : ℤ → ℤ
back z = to_z w128 (of_z w128 z)

low_is : (m : Explicit) (xs : List ℤ) (v r : ℤ) → xs ≡ m.items.items → length m.items.items ≡ most_members → IsInReach v → FitsSigned w128 r → r ≡ int_min (back (get_or xs 0 (pos 0))) (back v)
    → back r ≡ int_min (get_or m.items.items 0 v) v
low_is m xs v r e l i f h =
    let some : 0 < length m.items.items = omega arith in
    to_z-of_z f ∙ (h ∙ ap₂ int_min (ap (λ (ys : List ℤ). back (get_or ys 0 (pos 0))) e ∙ (read_same m.items.items 0 (pos 0) m.reach some ∙ get_or_default m.items.items 0 (pos 0) v some)) (reach_same v i))

high_is : (m : Explicit) (xs : List ℤ) (v r : ℤ) → xs ≡ m.items.items → length m.items.items ≡ most_members → IsInReach v → FitsSigned w128 r → r ≡ int_max (back (get_or xs (length xs - 1) (pos 0))) (back v)
    → back r ≡ int_max (get_or m.items.items (most_members - 1) v) v
high_is m xs v r e l i f h =
    let some : 63 < length m.items.items = omega arith in
    let last : length m.items.items - 1 ≡ 63 = omega arith in
    to_z-of_z f ∙ (h ∙ ap₂ int_max
    (ap (λ (ys : List ℤ). back (get_or ys (length ys - 1) (pos 0))) e ∙ (ap (λ (n : ℕ). back (get_or m.items.items n (pos 0))) last ∙ (read_same m.items.items 63 (pos 0) m.reach some ∙ get_or_default m.items.items 63 (pos 0) v some)))
    (reach_same v i))

low_end : (c : goal.After-max) → back c.min.result ≡ int_min (get_or c.args.members.now.items.items 0 c.args.v) c.args.v
low_end c =
    let f : FitsSigned w128 c.min.result = search rules in
    low_is c.args.members.now c.members-numbers.result.now c.args.v c.min.result c.members-numbers.ensures c.requires.full c.requires.reach f c.min.ensures.value

high_end : (c : goal.After-max) → back c.max.result ≡ int_max (get_or c.args.members.now.items.items (most_members - 1) c.args.v) c.args.v
high_end c =
    let f : FitsSigned w128 c.max.result = search rules in
    high_is c.args.members.now c.members-numbers.result.now c.args.v c.max.result c.members-numbers.ensures c.requires.full c.requires.reach f c.max.ensures.value

far : (m : Explicit) (v low high : ℤ) → IsInReach v → length m.items.items ≡ most_members → (Contains m.items.items v → ⊥) → low ≡ int_min (get_or m.items.items 0 v) v → high ≡ int_max (get_or m.items.items (most_members - 1) v) v → IsSpread low high
far m v low high i l absent e f =
    let ends = more.full_ends m.items.items v (rises m.items.items m.ascending) l in
    let a = m.reach (get_or m.items.items 0 v) ends.low_in in
    let b = m.reach (get_or m.items.items (most_members - 1) v) ends.high_in in
    let a0 = a.least in let b1 = b.most in let i0 = i.least in let i1 = i.most in
    record {
      wide = more.full_wide m.items.items v v low high (rises m.items.items m.ascending) l absent e f;
      least = omega (arith, ints, clamps);
      most = omega (arith, ints, clamps);
    }

pub invariant_of-result : goal.invariant_of-result
invariant_of-result c = record { wide = far c.args.members.now c.args.v _ _ c.requires.reach c.requires.full c.requires.absent (low_end c) (high_end c) }

pub returns-clause-low : goal.returns-clause-low
returns-clause-low c = low_end c.before

pub returns-clause-high : goal.returns-clause-high
returns-clause-high c = high_end c.before
