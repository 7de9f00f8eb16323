-- A range that is cut by labels, one after the other, and by operands of a comparison; and what is left of a set.
use Rattle.std.proofs.Common.{◌≡◌, ◌↔◌, ◌<◌, ◌≤◌, ◌+◌, ℕ, zero, suc, ℤ, Bool, true, false, IsTrue, List, [], ◌∷◌, length, drop, get_or, Some, None, refl, ap, sym, subst, ◌∙◌, add-one, arith}
use Rattle.std.proofs.Math.Seq.{drop-cons}
use Rattle.std.specs.List.{Contains}
use Rattle.cc_program.specs.CcNum.declared.op.BinOp.{BinOp}
use Rattle.cc_program.specs.CcNum.declared.op.BinOp.TheVariants as op
use Rattle.cc_rules_flows.specs.CcPlaces.declared.abs.Abs.{Abs}
use Rattle.cc_rules_flows.specs.CcPlaces.declared.abs.Abs.TheVariants as abs
use Rattle.cc_rules_flows.specs.CcPlaces.declared.addrs.Addrs.{Addrs}
use Rattle.cc_program.specs.declared.expr.Expr.{Expr, out-Expr}
use Rattle.cc_rules_flows.specs.Tests.{Test, Is, Equals, Differs, passing, turned, ByNone, ByFirst, ByComparison, ByLabel, ByLabels, Compares, OfMembers, OfRange, OfOther, OfAddresses, Cut, Uncut}
use Rattle.cc_rules_tests.specs.Forms.{comparison_in}
use Rattle.cc_rules_tests.specs.Tested.{IsCutAsIn, IsCutByIn, IsCutByOne, IsLeftIn, IsOperandIn, IsRangeLeftIn, IsValWith, StaysIn, test_of}
use Rattle.cc_rules_tests.specs.declared.tested.Tested.{Tested}
use Rattle.cc_rules_tests.proofs.Formed.{comparison_back, no_comparison}
use Rattle.cc_rules_flows.specs.CcStateOperators.Domains.{Domain, IsHull}
use Rattle.cc_rules_flows.specs.CcStateValues.Contexts.{set_in}

at_end : {A : Type 0} (xs : List A) (i : ℕ) → length xs ≤ i → drop i xs ≡ []
at_end [] zero h = refl
at_end [] (suc i) h = refl
at_end (x ∷ xs) zero h = absurd (omega (arith, h))
at_end (x ∷ xs) (suc i) h = at_end xs i (omega (arith, h))

next_of : {A : Type 0} (xs : List A) (i : ℕ) (x : A) → i < length xs → x ≡ get_or xs i x → drop i xs ≡ x ∷ drop (i + 1) xs
next_of xs i x l e = drop-cons xs i x l ∙ (ap (λ y. y ∷ drop (suc i) xs) (sym e) ∙ ap (λ n. x ∷ drop n xs) (sym (add-one i)))

module _ {I : Type 0} (d : Domain I) (t : Tested I) where
  -- what is still to be cut
  abbrev pub IsCutSoFar : List ℤ → I → List ℤ → I → Type 0
  IsCutSoFar labels x rest left = (z : I) → IsCutByIn d t rest left z → IsCutByIn d t labels x z

  pub none_cut : (labels : List ℤ) (x left : I) → left ≡ x → IsCutSoFar labels x labels left
  none_cut labels x left e z h = subst (λ u. IsCutByIn d t labels u z) e h

  pub one_cut : (labels : List ℤ) (x left u : I) (i : ℕ) (n : ℤ) → i < length labels → n ≡ get_or labels i n → IsCutByOne d op.Ne n left u → IsCutSoFar labels x (drop i labels) left → IsCutSoFar labels x (drop (i + 1) labels) u
  one_cut labels x left u i n l e (one, hull, keep) h z k = h z (ByFirst n (drop (i + 1) labels) one u (next_of labels i n l e) hull keep k)

  pub all_cut : (labels : List ℤ) (x left : I) (i : ℕ) → length labels ≤ i → IsCutSoFar labels x (drop i labels) left → IsCutByIn d t labels x left
  all_cut labels x left i l h = h left (ByNone (at_end labels i l) refl)

  -- operands

  pub uncut : (r : ℕ) (x u : I) (o : BinOp) (a b : Expr) → (IsOperandIn d t r x a → ⊥) → IsCutAsIn d t r x o a b u u
  uncut r x u o a b h = Uncut h refl

  pub not_operand : (r : ℕ) (x : I) (a : Expr) (is : Bool) → (IsTrue is ↔ IsOperandIn d t r x a) → is ≡ false → IsOperandIn d t r x a → ⊥
  not_operand r x a is tells e h = let k : is ≡ true = tells.1 h in absurd (cc)

  pub uncut_by : (r : ℕ) (x u : I) (o : BinOp) (a b : Expr) (is : Bool) → (IsTrue is ↔ IsOperandIn d t r x a) → is ≡ false → IsCutAsIn d t r x o a b u u
  uncut_by r x u o a b is tells e = uncut r x u o a b (not_operand r x a is tells e)

  pub cut_by : (r : ℕ) (x u z w : I) (o : BinOp) (a b : Expr) (is : Bool) → (IsTrue is ↔ IsOperandIn d t r x a) → is ≡ true → IsValWith d t.context.now r x b (abs.Ints w) → d.keep o u w z → IsCutAsIn d t r x o a b u z
  cut_by r x u z w o a b is tells e value keep = Cut w (tells.0 e) value keep

  -- what is left

  pub left_members : (r : ℕ) (x u : I) (members : List ℤ) → d.members x ≡ Some members → IsHull d (λ m. Contains members m × StaysIn d t r m) u → IsRangeLeftIn d t r x u
  left_members r x u members h k = OfMembers x u members refl h k refl

  pub left_compared : (r : ℕ) (x u z : I) (b : Bool) (o : BinOp) (a c : Expr) → d.members x ≡ None → test_of t.test ≡ Is b → comparison_in (out-Expr t.expression.now) ≡ Some (o, a, c) →
      IsCutAsIn d t r x (passing b o) a c x u → IsCutAsIn d t r x (turned (passing b o)) c a u z → IsRangeLeftIn d t r x z
  left_compared r x u z b o a c range is form first second =
      let w = comparison_back (out-Expr t.expression.now) o a c form in
      OfRange x z refl range (ByComparison b o w.0 a c u is w.1 w.2 first second) refl

  pub left_compared_by : (r : ℕ) (x z : I) (b : Bool) (o q : BinOp) (a c : Expr) → q ≡ passing b o → d.members x ≡ None → test_of t.test ≡ Is b → comparison_in (out-Expr t.expression.now) ≡ Some (o, a, c) →
      ((u : I) × IsCutAsIn d t r x q a c x u × IsCutAsIn d t r x (turned q) c a u z) → IsRangeLeftIn d t r x z
  left_compared_by r x z b o q a c e range is form (u, first, second) =
      left_compared r x u z b o a c range is form (subst (λ p. IsCutAsIn d t r x p a c x u) e first) (subst (λ p. IsCutAsIn d t r x (turned p) c a u z) e second)

  abbrev ComparesAs : ℕ → I → Test → Type 0
  ComparesAs r x test = Compares d t.context.now.program.now t.context.now.id t.context.now.func.now (set_in t.context.now) t.expression.now (test_of t.test) r x test

  left_other : (r : ℕ) (x z : I) → d.members x ≡ None → (ComparesAs r x (test_of t.test) → ⊥) → z ≡ x → IsRangeLeftIn d t r x z
  left_other r x z range none e = OfOther x refl range none (ap (λ u. abs.Ints u) e)

  pub left_uncompared : (r : ℕ) (x z : I) (b : Bool) → d.members x ≡ None → test_of t.test ≡ Is b → comparison_in (out-Expr t.expression.now) ≡ None → z ≡ x → IsRangeLeftIn d t r x z
  left_uncompared r x z b range is form e = left_other r x z range
      (subst (λ test. ComparesAs r x test → ⊥) (sym is) (λ k. no_comparison (out-Expr t.expression.now) k.0 k.1 k.2 k.3 form k.4 k.5)) e

  pub left_label : (r : ℕ) (x z : I) (n : ℤ) → d.members x ≡ None → test_of t.test ≡ Equals n → IsOperandIn d t r x t.expression.now → IsCutByOne d op.Eq n x z → IsRangeLeftIn d t r x z
  left_label r x z n range is operand (one, hull, keep) = OfRange x z refl range (ByLabel n one is operand hull keep) refl

  pub left_no_label : (r : ℕ) (x z : I) (n : ℤ) → d.members x ≡ None → test_of t.test ≡ Equals n → (IsOperandIn d t r x t.expression.now → ⊥) → z ≡ x → IsRangeLeftIn d t r x z
  left_no_label r x z n range is operand e = left_other r x z range (subst (λ test. ComparesAs r x test → ⊥) (sym is) operand) e

  pub left_labels : (r : ℕ) (x z : I) (ns : List ℤ) → d.members x ≡ None → test_of t.test ≡ Differs ns → IsOperandIn d t r x t.expression.now → IsCutByIn d t ns x z → IsRangeLeftIn d t r x z
  left_labels r x z ns range is operand cut = OfRange x z refl range (ByLabels ns is operand cut) refl

  pub left_no_labels : (r : ℕ) (x z : I) (ns : List ℤ) → d.members x ≡ None → test_of t.test ≡ Differs ns → (IsOperandIn d t r x t.expression.now → ⊥) → z ≡ x → IsRangeLeftIn d t r x z
  left_no_labels r x z ns range is operand e = left_other r x z range (subst (λ test. ComparesAs r x test → ⊥) (sym is) operand) e

  pub left_addresses : (r : ℕ) (y z : Abs I) (s : Addrs) → y ≡ abs.Addrs s → z ≡ y → IsLeftIn d t r y z
  left_addresses r y z s e k = OfAddresses s e k
