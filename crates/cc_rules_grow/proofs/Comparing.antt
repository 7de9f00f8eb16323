-- Comparisons of integers: which one passes where another one gives a truth, and with its operands the other way round.
use Rattle.std.proofs.Common.{arith, ◌≡◌, ℤ, Bool, true, false, true≢false, not, int_lt, int_le, Some, refl, ap, sym, ◌∙◌}
use Rattle.std.specs.Ordering.{int_eq}
use Rattle.std.proofs.lemmas.Bool.Decides.{Decides-int_eq}
use Rattle.std.proofs.lemmas.Int.{ints}
use Rattle.std.proofs.lemmas.Option.{same_Some}
use Rattle.cc_rules.proofs.CcLattice.IntValues.{passing as comparison_is}
use Rattle.cc_rules.specs.CcLattice.Domains.{is_comparison, passes}
use Rattle.cc_program.specs.CcNum.declared.int_type.IntType.{IntType}
use Rattle.cc_program.specs.CcNum.declared.op.BinOp.{BinOp}
use Rattle.cc_program.specs.CcNum.declared.op.BinOp.TheVariants as op
use Rattle.cc_program.specs.CcNum.declared.target.Target.{Target}
use Rattle.cc_program.specs.CcNum.Results.{one_if, result_of}
use Rattle.cc_program.specs.declared.value.Value.TheVariants.{Int}
use Rattle.cc_rules.specs.CcRulesFlows.Tests.{turned, passing}
use Rattle.cc_rules.specs.CcValues.Values.{is_true}

not_less : (a b : ℤ) → int_lt a b ≡ false → int_le b a ≡ true
not_less a b h = grind (arith, ints, h)

not_most : (a b : ℤ) → int_le a b ≡ false → int_lt b a ≡ true
not_most a b h = grind (arith, ints, h)

not_not : (b : Bool) → not b ≡ false → b ≡ true
not_not true h = refl
not_not false h = absurd (true≢false h)

not_false : (b : Bool) → b ≡ false → not b ≡ true
not_false b h = ap not h

pub equal_itself : (a b : ℤ) → a ≡ b → int_eq a b ≡ true
equal_itself a b h = (Decides-int_eq a b).1 h

equal_back : (a b : ℤ) → int_eq a b ≡ true → int_eq b a ≡ true
equal_back a b h = (Decides-int_eq b a).1 (sym ((Decides-int_eq a b).0 h))

same_eq : (a b : ℤ) (x y : Bool) → int_eq a b ≡ x → int_eq b a ≡ y → x ≡ y
same_eq a b true y h k = sym (sym k ∙ equal_back a b h)
same_eq a b false true h k = absurd (true≢false (sym (equal_back b a k) ∙ h))
same_eq a b false false h k = refl

equal_same : (a b : ℤ) → int_eq a b ≡ int_eq b a
equal_same a b = same_eq a b (int_eq a b) (int_eq b a) refl refl

-- two numbers that differ
pub different : (m n : ℤ) → (m ≡ n → ⊥) → not (int_eq m n) ≡ true
different m n h = not_false (int_eq m n) (by (int_eq m n) refl)
  where
    by : (b : Bool) → int_eq m n ≡ b → int_eq m n ≡ false
    by true g = absurd (h ((Decides-int_eq m n).0 g))
    by false g = g

pub passing_compares : (b : Bool) (o : BinOp) → is_comparison o ≡ true → is_comparison (passing b o) ≡ true
passing_compares true o h = h
passing_compares false op.Lt h = refl
passing_compares false op.Le h = refl
passing_compares false op.Gt h = refl
passing_compares false op.Ge h = refl
passing_compares false op.Eq h = refl
passing_compares false op.Ne h = refl
passing_compares false _ h = absurd (cc)

-- where a comparison gives this truth
pub passes_as : (b : Bool) (o : BinOp) (v w : ℤ) → is_comparison o ≡ true → passes o v w ≡ b → passes (passing b o) v w ≡ true
passes_as true o v w h e = e
passes_as false op.Lt v w h e = not_less v w e
passes_as false op.Le v w h e = not_most v w e
passes_as false op.Gt v w h e = not_less w v e
passes_as false op.Ge v w h e = not_most w v e
passes_as false op.Eq v w h e = not_false (int_eq v w) e
passes_as false op.Ne v w h e = not_not (int_eq v w) e
passes_as false _ v w h e = absurd (cc)

pub turned_compares : (o : BinOp) → is_comparison o ≡ true → is_comparison (turned o) ≡ true
turned_compares op.Lt h = refl
turned_compares op.Le h = refl
turned_compares op.Gt h = refl
turned_compares op.Ge h = refl
turned_compares op.Eq h = refl
turned_compares op.Ne h = refl
turned_compares _ h = absurd (cc)

pub turned_passes : (o : BinOp) (v w : ℤ) → is_comparison o ≡ true → passes (turned o) v w ≡ passes o w v
turned_passes op.Lt v w h = refl
turned_passes op.Le v w h = refl
turned_passes op.Gt v w h = refl
turned_passes op.Ge v w h = refl
turned_passes op.Eq v w h = equal_same v w
turned_passes op.Ne v w h = ap not (equal_same v w)
turned_passes _ v w h = absurd (cc)

one_truth : (b : Bool) → is_true (Int (one_if b)) ≡ b
one_truth true = refl
one_truth false = refl

-- the truth of what a comparison gives
pub truth_is : (o : BinOp) (t : IntType) (target : Target) (v w z : ℤ) → is_comparison o ≡ true → result_of o v w t target ≡ Some z → is_true (Int z) ≡ passes o v w
truth_is o t target v w z h e = ap (λ (n : ℤ). is_true (Int n)) (same_Some z (one_if (passes o v w)) (sym e ∙ comparison_is o v w t target h)) ∙ one_truth (passes o v w)
