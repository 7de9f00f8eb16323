-- Members are looked up, and ends compared.
use Rattle.std.proofs.Common.{rules, ◌≡◌, ◌∙◌, Bool, true, false, ℤ, ◌≤ℤ◌, IsTrue, sym, subst, arith, FitsSigned, to_z, of_z, to_z-of_z}
use Rattle.std.specs.Int.{w128}
use Rattle.std.proofs.lemmas.Int.{ints}
use Rattle.cc_explicit.specs.declared.explicit.Explicit.{Explicit}
use Rattle.cc_explicit.proofs.Reach.{reach_same}
use Rattle.cc_sets.specs.declared.range.Range.{Range}
use Rattle.cc_sets.specs.declared.vals.Vals.{Vals}
use Rattle.cc_sets.specs.declared.vals.Vals.TheVariants.{Few, Many}
use Rattle.cc_sets.specs.Rungs.{low_of, high_of, ValsHas, ValsBelow}
use Rattle.cc_lattice.specs.Domains.{AreEnds}
use Rattle.cc_sets.specs.laws.Ends.{set_ends, set_reach}
use Rattle.cc_sets.specs.laws.RungLaws.{not_few}
use Rattle.cc_sets.proofs.Bounds as at
use Rattle.cc_sets.proofs.vals_domain.ValsLattice.below.Goals as goal

abbrev Tells : Bool → Vals → Vals → Type 0
Tells t x y = (IsTrue t → ValsBelow x y) × (ValsBelow x y → IsTrue t)

at_values : (t : Bool) (x y a b : Vals) → x ≡ a → y ≡ b → Tells t a b → Tells t x y
at_values t x y a b e f p = subst (λ (u : Vals). Tells t u y) (sym e) (subst (λ (u : Vals). Tells t a u) (sym f) p)

spanned : (t : Bool) (x : Vals) (r : Range) (low high : ℤ) → AreEnds (ValsHas x) (low, high) → (IsTrue t → (low_of r ≤ℤ low) × (high ≤ℤ high_of r)) × ((low_of r ≤ℤ low) × (high ≤ℤ high_of r) → IsTrue t) → Tells t x (Many r)
spanned t x r low high h p = (
  λ e v k. let s = p.0 e in let a = h.low v k in let b = h.high v k in let s0 = s.0 in let s1 = s.1 in (omega (arith, ints), omega (arith, ints)),
  λ k. p.1 ((k low h.low_in).0, (k high h.high_in).1),
)

pub returns-in-Few-Few : goal.returns-in-Few-Few
returns-in-Few-Few c = at_values c.is_within.result c.args.self.now c.args.other.now (Few c.in-Few-Few.a) (Few c.in-Few-Few.b) c.in-Few-Few.is-0 c.in-Few-Few.is-1 c.is_within.ensures

back_ends : (x : Vals) (low high : ℤ) → AreEnds (ValsHas x) (low, high) → AreEnds (ValsHas x) (to_z w128 (of_z w128 low), to_z w128 (of_z w128 high))
back_ends x low high h =
    let e = reach_same low (set_reach x low h.low_in) in
    let f = reach_same high (set_reach x high h.high_in) in
    subst (λ (a : ℤ). AreEnds (ValsHas x) (a, to_z w128 (of_z w128 high))) (sym e) (subst (λ (b : ℤ). AreEnds (ValsHas x) (low, b)) (sym f) h)

range_ends : (r : Range) (low high : ℤ) → low ≡ low_of r → high ≡ high_of r → AreEnds (ValsHas (Many r)) (low, high)
range_ends r low high e f =
    subst (λ (a : ℤ). AreEnds (ValsHas (Many r)) (a, high)) (sym e) (subst (λ (b : ℤ). AreEnds (ValsHas (Many r)) (low_of r, b)) (sym f) (set_ends (Many r)))

pub returns-in-Some : goal.returns-in-Some
returns-in-Some c =
    let s = c.in-Few-Many.a in
    let r = c.in-Few-Many.b in
    at_values c.reaches.result c.args.self.now c.args.other.now (Few s) (Many r) c.in-Few-Many.is-0 c.in-Few-Many.is-1
    (spanned c.reaches.result (Few s) r _ _ (back_ends (Few s) c.in-Some.low c.in-Some.high (at.ends_at (Few s) c.ends.result c.in-Some.low c.in-Some.high c.ends.ensures c.in-Some.is)) c.reaches.ensures)

never : (x y : Vals) (r : Range) (s : Explicit) → x ≡ Many r → y ≡ Few s → Tells false x y
never x y r s e f = at_values false x y (Many r) (Few s) e f ((λ g. let h : false ≡ true = g in cc), (λ h. absurd (not_few r s h)))

pub returns-in-Many-Few : goal.returns-in-Many-Few
returns-in-Many-Few c = let e = c.in-Many-Few.is-0 in let f = c.in-Many-Few.is-1 in never c.args.self.now c.args.other.now _ _ e f

pub returns-in-Many-Many : goal.returns-in-Many-Many
returns-in-Many-Many c =
    let a = c.in-Many-Many.a in
    let b = c.in-Many-Many.b in
    let f1 : FitsSigned w128 c.low.result = search rules in
    let f2 : FitsSigned w128 c.high.result = search rules in
    at_values c.reaches-in-Many-Many.result c.args.self.now c.args.other.now (Many a) (Many b) c.in-Many-Many.is-0 c.in-Many-Many.is-1
    (spanned c.reaches-in-Many-Many.result (Many a) b _ _ (range_ends a _ _ (to_z-of_z f1 ∙ c.low.ensures) (to_z-of_z f2 ∙ c.high.ensures)) c.reaches-in-Many-Many.ensures)
