-- A number is compared with the ends.
use Rattle.std.proofs.Common.{int_lt, int_le, not, ◌≡◌, ◌∙◌, ℕ, Bool, true, false, ℤ, IsTrue, refl, sym, ap, ap₂, subst, to_z, of_z, to_z-of_z}
use Rattle.std.specs.Int.{w128}
use Rattle.cc_num.specs.declared.op.BinOp.{BinOp}
use Rattle.cc_explicit.proofs.Reach.{reach_same}
use Rattle.cc_sets.specs.declared.vals.Vals.{Vals}
use Rattle.cc_sets.specs.Results.{PassesSome}
use Rattle.cc_sets.specs.Rungs.{ValsHas}
use Rattle.cc_sets.proofs.Bounds as at
use Rattle.cc_num.specs.declared.op.BinOp.TheVariants as op
use Rattle.cc_lattice.specs.Domains.{AreEnds}
use Rattle.std.proofs.Common.{eqb, eq-eqb}
use Rattle.std.proofs.lemmas.Bool.{eqb-true}
use Rattle.cc_sets.specs.laws.Ends.{set_reach}
use Rattle.cc_sets.proofs.keep.passes_some.Goals as goal

abbrev back : ℤ → ℤ
back z = to_z w128 (of_z w128 z)

abbrev Tells : Bool → BinOp → ℤ → Vals → Type 0
Tells b test v x = (IsTrue b → PassesSome test v x) × (PassesSome test v x → IsTrue b)

at_test : (test k : BinOp) (b : Bool) (v : ℤ) (x : Vals) → test ≡ k → Tells b k v x → Tells b test v x
at_test test k b v x e p = subst (λ (o : BinOp). Tells b o v x) (sym e) p

end_same : (x : Vals) (low high : ℤ) → AreEnds (ValsHas x) (low, high) → (back low ≡ low) × (back high ≡ high)
end_same x low high h = (reach_same low (set_reach x low h.low_in), reach_same high (set_reach x high h.high_in))

first : (f : ℤ → ℤ → Bool) (u v w x : ℤ) (test : BinOp) (n : ℤ) (s : Vals) → u ≡ v → w ≡ x → Tells (f v x) test n s → Tells (f u w) test n s
first f u v w x test n s e g p = subst (λ (b : Bool). Tells b test n s) (sym (ap₂ f e g)) p

pub returns-in-Lt : goal.returns-in-Lt
returns-in-Lt c =
    let x = c.args.other.now in
    let h = at.ends_at x c.ends.result c.in-Some.low c.in-Some.high c.ends.ensures c.in-Some.is in
    at_test c.args.test op.Lt _ c.args.v x c.in-Lt.is
    (first int_lt _ c.args.v _ c.in-Some.high op.Lt c.args.v x (to_z-of_z c.ranges.v) (end_same x c.in-Some.low c.in-Some.high h).1 (at.pass_lt x c.in-Some.low c.in-Some.high c.args.v h))

pub returns-in-Le : goal.returns-in-Le
returns-in-Le c =
    let x = c.args.other.now in
    let h = at.ends_at x c.ends.result c.in-Some.low c.in-Some.high c.ends.ensures c.in-Some.is in
    at_test c.args.test op.Le _ c.args.v x c.in-Le.is
    (first int_le _ c.args.v _ c.in-Some.high op.Le c.args.v x (to_z-of_z c.ranges.v) (end_same x c.in-Some.low c.in-Some.high h).1 (at.pass_le x c.in-Some.low c.in-Some.high c.args.v h))

pub returns-in-Gt : goal.returns-in-Gt
returns-in-Gt c =
    let x = c.args.other.now in
    let h = at.ends_at x c.ends.result c.in-Some.low c.in-Some.high c.ends.ensures c.in-Some.is in
    at_test c.args.test op.Gt _ c.args.v x c.in-Gt.is
    (first int_lt _ c.in-Some.low _ c.args.v op.Gt c.args.v x (end_same x c.in-Some.low c.in-Some.high h).0 (to_z-of_z c.ranges.v) (at.pass_gt x c.in-Some.low c.in-Some.high c.args.v h))

pub returns-in-Ge : goal.returns-in-Ge
returns-in-Ge c =
    let x = c.args.other.now in
    let h = at.ends_at x c.ends.result c.in-Some.low c.in-Some.high c.ends.ensures c.in-Some.is in
    at_test c.args.test op.Ge _ c.args.v x c.in-Ge.is
    (first int_le _ c.in-Some.low _ c.args.v op.Ge c.args.v x (end_same x c.in-Some.low c.in-Some.high h).0 (to_z-of_z c.ranges.v) (at.pass_ge x c.in-Some.low c.in-Some.high c.args.v h))

-- equal as bits, and so as numbers
bits_same : (a b : ℤ) → back a ≡ a → back b ≡ b → of_z w128 a ≡ of_z w128 b → a ≡ b
bits_same a b e f h = sym e ∙ (ap (λ (n : ℕ). to_z w128 n) h ∙ f)

clash : true ≡ false → ⊥
clash m = cc

other_bits : (a b : ℤ) (test : BinOp) (v : ℤ) (x : Vals) → back a ≡ a → back b ≡ b → ((a ≡ b → ⊥) → PassesSome test v x) × (PassesSome test v x → a ≡ b → ⊥)
    → Tells (not (eqb (of_z w128 a) (of_z w128 b))) test v x
other_bits a b test v x e f p = by_bool (eqb (of_z w128 a) (of_z w128 b)) refl
  where
    by_bool : (t : Bool) → eqb (of_z w128 a) (of_z w128 b) ≡ t → Tells (not t) test v x
    by_bool true h = ((λ g. let k : false ≡ true = g in cc), (λ q. absurd (p.1 q (bits_same a b e f (eqb-true (of_z w128 a) (of_z w128 b) h)))))
    by_bool false h = ((λ _. p.0 (λ g. let k : eqb (of_z w128 a) (of_z w128 b) ≡ true = eq-eqb (of_z w128 a) (of_z w128 b) (ap (of_z w128) g) in let m : true ≡ false = sym k ∙ h in absurd (clash m))), (λ _. refl))

pub returns-else-v-low : goal.returns-else-v-low
returns-else-v-low c =
    let x = c.args.other.now in
    let v = c.args.v in
    let h = at.ends_at x c.ends.result c.in-Some.low c.in-Some.high c.ends.ensures c.in-Some.is in
    let same = end_same x c.in-Some.low c.in-Some.high h in
    let d = c.in_default in
    at_test c.args.test op.Ne _ v x (at.is_ne c.args.test c.requires d.not-Lt d.not-Le d.not-Gt d.not-Ge d.not-Eq)
    (other_bits v c.in-Some.high op.Ne v x (to_z-of_z c.ranges.v) same.1
    (at.pass_ne x c.in-Some.low c.in-Some.high v h (bits_same v c.in-Some.low (to_z-of_z c.ranges.v) same.0 c.if-v-low.false)))
