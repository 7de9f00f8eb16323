-- Where a test passes though a register has no member, it leaves a member of each greater set of that register: it passes with any, and no
-- operand of its comparison is the register.
use Rattle.std.proofs.Common.{◌≡◌, ◌⊎◌, inl, inr, ℕ, ℤ, Bool, true, List, Option, Some, None, refl, sym, ◌∙◌, subst}
use Rattle.cc_rules.specs.CcLattice.Domains.{IsAtMostOne, is_comparison}
use Rattle.cc_program.specs.CcNum.declared.int_type.IntType.{IntType}
use Rattle.cc_program.specs.CcNum.declared.op.BinOp.{BinOp}
use Rattle.cc_rules.specs.CcPlaces.Abstract.{HasValue}
use Rattle.cc_rules.specs.CcPlaces.declared.abs.Abs.{Abs}
use Rattle.cc_rules.specs.CcPlaces.declared.abs.Abs.TheVariants as abs
use Rattle.cc_program.specs.declared.expr.Expr.{Expr, out-Expr}
use Rattle.cc_program.specs.declared.expr.Expr.TheOpen as one
use Rattle.cc_program.specs.declared.func.Func.{Func}
use Rattle.cc_program.specs.declared.program.Program.{Program}
use Rattle.cc_program.specs.declared.value.Value.{Value}
use Rattle.cc_program.specs.declared.value.Value.TheVariants.{Int, Place}
use Rattle.cc_rules.specs.CcRulesFlows.Tests.{Test, Is, Passes, turned, passing, HasPassing, Stays, IsOperand, IsCutAs, Cut, Uncut, IsCut, ByComparison, ByLabel, ByLabels, IsLeft}
use Rattle.cc_rules_grow.proofs.Kept.{IsKept, ValuesGrow, value_grows}
use Rattle.cc_rules_grow.proofs.Leaving.{LeftIn, With, empty_below, operand_is, passed_by, left_as, ints_same}
use Rattle.cc_rules.specs.CcStateOperators.Domains.{Domain}
use Rattle.cc_rules.proofs.CcStateValues.Same.{IsOrdered, value_at}
use Rattle.cc_rules.specs.CcStateValues.Values.{IsVal}
use Rattle.cc_state_points.specs.CcStateValuesGrow.Growth.{AreRegistersBelow, RegistersPoint}

module _ {I : Type 0} (d : Domain I) (o : IsOrdered d) (k : IsKept d) (p : Program) (id : ℕ) (f : Func) (grown : ValuesGrow d p id f) (register more : ℕ → Option (Abs I))
    (points : RegistersPoint p f register) (below : AreRegistersBelow d.below register more) (e : Expr) (test : Test)
    (r : ℕ) (x : I) (set : register r ≡ Some (abs.Ints x)) (none : (n : ℤ) → d.has x n → ⊥) (y : Abs I) (val : IsVal d p id f register e y) (passed : HasPassing d p id f register e test y) where
  operand_empty : (own : I) (a : Expr) (w : Abs I) → IsOperand d p id f more e test r own a → IsVal d p id f register a w → w ≡ abs.Ints x
  operand_empty own a w h v = operand_is d o k p id f grown register more points below e test register r x own a w set (λ n i. absurd (none n i)) h v

  at_most : (z : I) → z ≡ x → IsAtMostOne (d.has z)
  at_most z same m n h l = absurd (none m (subst (λ (i : I). d.has i m) same h))

  -- a comparison with the register passes nowhere
  no_operand : (own : I) (b : Bool) (q : BinOp) (t : IntType) (a c : Expr) → out-Expr e ≡ one.Bin q t a c → is_comparison q ≡ true → test ≡ Is b → IsOperand d p id f more e test r own a ⊎ IsOperand d p id f more e test r own c → ⊥
  no_operand own b q t a c is_bin compares way operand =
      let (i, j, s, at_a, at_c, operands, gives, same) = value_at d o p id f register e (one.Bin q t a c) y is_bin val in
      let (v, has, truth) = passed in
      let has_it = subst (λ (l : Abs I). HasValue d.has l v) same has in
      let is_way = subst (λ (l : Test). Passes l v) way truth in
      elim operand [
        | inl h ↦
            let i_is : i ≡ x = ints_same i x (operand_empty own a (abs.Ints i) h at_a) in
            let (m, n, in_i, in_j, pass) = passed_by d o k p id f grown register more points below e test q t i j s b v compares operands gives (inl (at_most i i_is)) has_it is_way in
            none m (subst (λ (l : I). d.has l m) i_is in_i)
        | inr h ↦
            let j_is : j ≡ x = ints_same j x (operand_empty own c (abs.Ints j) h at_c) in
            let (m, n, in_i, in_j, pass) = passed_by d o k p id f grown register more points below e test q t i j s b v compares operands gives (inr (at_most j j_is)) has_it is_way in
            none n (subst (λ (l : I). d.has l n) j_is in_j)
      ]

  no_number : (v : Value) → HasValue d.has (abs.Ints x) v → ⊥
  no_number (Int n) h = none n h
  no_number (Place a) h = h

  not_itself : (own : I) → IsOperand d p id f more e test r own e → ⊥
  not_itself own h = let (v, has, truth) = passed in no_number v (subst (λ (l : Abs I). HasValue d.has l v) (operand_empty own e y h val) has)

  uncut : (own u z : I) (q : BinOp) (a c : Expr) → (IsOperand d p id f more e test r own a → ⊥) → IsCutAs d p id f more e test r own q a c u z → z ≡ u
  uncut own u z q a c not (Cut w operand worked kept) = absurd (not operand)
  uncut own u z q a c not (Uncut none same) = same

  cut_is_all : (own z : I) → IsCut d p id f more e test r own z test → z ≡ own
  cut_is_all own z (ByComparison b q t a c u way is_bin compares left right) =
      uncut own u z (turned (passing b q)) c a (λ h. no_operand own b q t a c is_bin compares way (inr h)) right ∙ uncut own own u (passing b q) a c (λ h. no_operand own b q t a c is_bin compares way (inl h)) left
  cut_is_all own z (ByLabel n single way operand hull kept) = absurd (not_itself own operand)
  cut_is_all own z (ByLabels ns way operand cuts) = absurd (not_itself own operand)

  any_stays : (m : ℤ) → Stays d p id f more e test r m
  any_stays m single w hull worked =
      let (v, has, truth) = passed in
      (v, value_grows d k y w (grown register (With d o k p id f grown register more points below e test more r single) points (empty_below d o k p id f grown register more points below e test r x single set none) e y w val worked) v has, truth)

  left_in_has : (own u : I) (m : ℤ) → d.has own m → (a : Option (List ℤ)) → d.members own ≡ a → LeftIn d o k p id f grown register more points below e test more r own a u → d.has u m
  left_in_has own u m h (Some ms) listed hull = hull.has_all m ((k.members_are own ms listed m).1 h, any_stays m)
  left_in_has own u m h None listed (inl cut) = subst (λ (i : I). d.has i m) (sym (cut_is_all own u cut)) h
  left_in_has own u m h None listed (inr (other, same)) = subst (λ (i : I). d.has i m) (sym same) h

  pub something_left : (own : I) (z : Abs I) (v : Value) → HasValue d.has (abs.Ints own) v → IsLeft d p id f more e test r (abs.Ints own) z → (w : Value) × HasValue d.has z w
  something_left own z (Place a) h l = absurd h
  something_left own z (Int m) h l =
      let (u, is, left) = left_as d o k p id f grown register more points below e test more r (abs.Ints own) z l in
      (Int m, subst (λ (i : Abs I). HasValue d.has i (Int m)) (sym is) (left_in_has own u m h (d.members own) refl left))
