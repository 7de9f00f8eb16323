-- A constant that an operator or a conversion is folded to is what it gives; and conversions that leave a value as it is.
use Rattle.std.proofs.Common.{◌≡◌, ℕ, suc, zero, ◌*◌, Bool, true, false, not, ◌&&◌, ◌||◌, ℤ, pos, negsuc, Option, Some, None, refl, ap, ◌∙◌, arith, ⊎_elim, if◌then◌else◌}
use Rattle.std.proofs.lemmas.Bool.Decides.{Decides-int_eq}
use Rattle.std.proofs.lemmas.Int.{ints}
use Rattle.std.specs.Prelude.{int_le, option_map}
use Rattle.std.specs.Ordering.{int_eq}
use Rattle.cc_program.specs.CcNum.declared.int_type.IntType.{IntType}
use Rattle.cc_program.specs.CcNum.declared.int_type.IntType.TheVariants as int
use Rattle.cc_program.specs.CcNum.declared.op.BinOp.{BinOp}
use Rattle.cc_program.specs.CcNum.declared.op.BinOp.TheVariants as op
use Rattle.cc_program.specs.CcNum.declared.op.UnOp.{UnOp}
use Rattle.cc_program.specs.CcNum.declared.target.Target.{Target}
use Rattle.cc_program.specs.CcNum.Integers.{least_of_bits, most_of_bits, is_value_of, represents_all, converted}
use Rattle.cc_program.specs.CcNum.Promotions.{promoted}
use Rattle.cc_program.specs.CcNum.Results.{one_if, result_of, unary_result_of, is_shift}
use Rattle.cc_program.proofs.CcNum.Conversions.{int_bytes_is, converted-same}
use Rattle.cc_program.proofs.CcNum.PromotionLaws.{promoted-promoted}
use Rattle.cc_program.proofs.CcNum.ResultLaws.{is_value_from, value_from_test, truth_value, represents_test}
use Rattle.cc_program.specs.declared.value.Value.TheVariants.{Int}
use Rattle.cc_states.specs.CcSyntax.Folding.{Constant, NoConstant, Value as ConstantOf, Traps, result_constant, unary_constant, binary_constant, converted_constant}
use Rattle.cc_states.specs.CcSyntax.Operators.{is_promoted}
use Rattle.cc_states.specs.CcSyntax.SameTypes.{same_int}
use Rattle.cc_states.proofs.CcSyntax.SameLemmas.{int_itself}
use Rattle.cc_states.specs.CcValues.Values.{takes, is_true, unary, binary, conversion, truth, of_truth}

-- ---- folding

-- a test, and a result that is there
given_result : (b : Bool) (r : Option ℤ) (m : ℤ) → (if b then result_constant r else NoConstant) ≡ ConstantOf m → option_map Int (if b then r else None) ≡ Some (Int m)
given_result true None m h = absurd (cc)
given_result true (Some n) m h = let e : n ≡ m = cc in ap (λ (z : ℤ). Some (Int z)) e
given_result false r m h = absurd (cc)

pub unary_folds : (target : Target) (o : UnOp) (t : IntType) (c : Constant) (m : ℤ) → unary_constant target o t c ≡ ConstantOf m → (n : ℤ) × (c ≡ ConstantOf n) × (unary o t target (Some (Int n)) ≡ Some (Int m))
unary_folds target o t NoConstant m h = absurd (cc)
unary_folds target o t (ConstantOf n) m h = (n, refl, given_result (takes t target n) (unary_result_of o n t target) m h)
unary_folds target o t Traps m h = absurd (cc)

grouped : (a b c : Bool) → ((a && b) && c) ≡ (a && (b && c))
grouped true b c = refl
grouped false b c = refl

abbrev FoldsTwo : Target → BinOp → IntType → Constant → Constant → ℤ → Type 0
FoldsTwo target o t c d m = (n : ℤ) × (k : ℤ) × (c ≡ ConstantOf n) × (d ≡ ConstantOf k) × (binary o t target (Some (Int n)) (Some (Int k)) ≡ Some (Int m))

pub binary_folds : (target : Target) (o : BinOp) (t : IntType) (c d : Constant) (m : ℤ) → binary_constant target o t c d ≡ ConstantOf m → FoldsTwo target o t c d m
binary_folds target o t (ConstantOf n) (ConstantOf k) m h = (
  n,
  k,
  refl,
  refl,
  ap (λ (b : Bool). option_map Int (if b then result_of o n k t target else None)) (grouped (is_promoted target t) (is_value_of t target n) (is_shift o || is_value_of t target k)) ∙
      given_result (is_promoted target t && (is_value_of t target n && (is_shift o || is_value_of t target k))) (result_of o n k t target) m h,
)
binary_folds target o t NoConstant d m h = absurd (cc)
binary_folds target o t (ConstantOf n) NoConstant m h = absurd (cc)
binary_folds target o t (ConstantOf n) Traps m h = absurd (cc)
binary_folds target o t Traps NoConstant m h = absurd (cc)
binary_folds target o t Traps (ConstantOf k) m h = absurd (cc)
binary_folds target o t Traps Traps m h = absurd (cc)

pub conversion_folds : (target : Target) (t : IntType) (c : Constant) (m : ℤ) → converted_constant target t c ≡ ConstantOf m → (n : ℤ) × (c ≡ ConstantOf n) × (conversion t target (Some (Int n)) ≡ Some (Int m))
conversion_folds target t NoConstant m h = absurd (cc)
conversion_folds target t (ConstantOf n) m h = let e : converted n t target ≡ m = cc in (n, refl, ap (λ (z : ℤ). Some (Int z)) e)
conversion_folds target t Traps m h = absurd (cc)

-- ---- conversions that leave a value as it is

pub conversion_same : (t : IntType) (target : Target) (n : ℤ) → is_value_of t target n ≡ true → conversion t target (Some (Int n)) ≡ Some (Int n)
conversion_same t target n h = ap (λ (z : ℤ). Some (Int z)) (converted-same t target n (value_from_test t target n h))

-- what holds of an `int` of two bytes, and of four
of_int : (holds : ℕ → Bool) (target : Target) → holds 2 ≡ true → holds 4 ≡ true → holds target.int_bytes ≡ true
of_int holds target h k = ⊎_elim (λ e. ap holds e ∙ h) (λ e. ap holds e ∙ k) (int_bytes_is target)

-- `int` has the values of each smaller type but `unsigned short`, and `unsigned int` has those
abbrev covers : Bool → Bool → ℕ → ℕ → Bool
covers large small w b = int_le (least_of_bits large (8 * b)) (least_of_bits small w) && int_le (most_of_bits small w) (most_of_bits large (8 * b))

int_has_char : (signed : Bool) (target : Target) → covers true signed 8 target.int_bytes ≡ true
int_has_char true target = of_int (covers true true 8) target refl refl
int_has_char false target = of_int (covers true false 8) target refl refl

wider : (s t : IntType) (target : Target) (n : ℤ) → represents_all t s target ≡ true → is_value_of s target n ≡ true → is_value_of t target n ≡ true
wider s t target n h k = is_value_from t target n ((represents_test s t target).0 h n (value_from_test s target n k))

by_int : (t : IntType) (target : Target) (n : ℤ) (b : Bool) → represents_all int.Int t target ≡ b → represents_all int.Int t target ≡ true → is_value_of t target n ≡ true → is_value_of (if b then int.Int else int.UInt) target n ≡ true
by_int t target n true e h k = wider t int.Int target n h k
by_int t target n false e h k = absurd (cc)

by_either : (t : IntType) (target : Target) (n : ℤ) (b : Bool) → represents_all int.Int t target ≡ b → represents_all int.UInt t target ≡ true → is_value_of t target n ≡ true → is_value_of (if b then int.Int else int.UInt) target n ≡ true
by_either t target n true e h k = wider t int.Int target n e k
by_either t target n false e h k = wider t int.UInt target n h k

-- a promotion leaves each value (C99 6.3.1.1, 3)
pub promotion_keeps : (t : IntType) (target : Target) (n : ℤ) → is_value_of t target n ≡ true → is_value_of (promoted t target) target n ≡ true
unfolding promoted
promotion_keeps int.Bool target n h = by_int int.Bool target n _ refl (of_int (λ b. int_le (least_of_bits true (8 * b)) (pos 0) && int_le (pos 1) (most_of_bits true (8 * b))) target refl refl) h
promotion_keeps int.Char target n h = by_int int.Char target n _ refl (int_has_char target.char_signed target) h
promotion_keeps int.SChar target n h = by_int int.SChar target n _ refl (int_has_char true target) h
promotion_keeps int.UChar target n h = by_int int.UChar target n _ refl (int_has_char false target) h
promotion_keeps int.Short target n h = by_int int.Short target n _ refl (of_int (covers true true 16) target refl refl) h
promotion_keeps int.UShort target n h = by_either int.UShort target n _ refl (of_int (covers false false 16) target refl refl) h
promotion_keeps t target n h = h

-- ---- `e != 0`

pub promoted_is : (t : IntType) (target : Target) → is_promoted target (promoted t target) ≡ true
promoted_is t target = ap (λ (s : IntType). same_int s (promoted t target)) (promoted-promoted t target) ∙ int_itself (promoted t target)

unequal : (b : Bool) (n : ℕ) → int_eq (pos (suc n)) (pos 0) ≡ b → not b ≡ true
unequal true n e = let h = (Decides-int_eq (pos (suc n)) (pos 0)).0 e in absurd (omega (arith, ints))
unequal false n e = refl

other_than_0 : (n : ℤ) → not (int_eq n (pos 0)) ≡ is_true (Int n)
other_than_0 (pos zero) = refl
other_than_0 (pos (suc n)) = unequal (int_eq (pos (suc n)) (pos 0)) n refl
other_than_0 (negsuc n) = refl

pub zero_value : (t : IntType) (target : Target) → is_value_of t target (pos 0) ≡ true
zero_value t target = is_value_from t target (pos 0) (truth_value false t target)

pub unequal_0 : (t : IntType) (target : Target) (n : ℤ) → is_promoted target t ≡ true → is_value_of t target n ≡ true → binary op.Ne t target (Some (Int n)) (Some (Int (pos 0))) ≡ of_truth (truth (Some (Int n)))
unfolding result_of
unequal_0 t target n h k =
    ap (λ (b : Bool). option_map Int (if b && (false || is_value_of t target (pos 0)) then Some (one_if (not (int_eq n (pos 0)))) else None)) (ap (λ (b : Bool). b && is_value_of t target n) h ∙ k) ∙
    ap (λ (b : Bool). option_map Int (if b then Some (one_if (not (int_eq n (pos 0)))) else None)) (zero_value t target) ∙
    ap (λ (b : Bool). Some (Int (one_if b))) (other_than_0 n)
