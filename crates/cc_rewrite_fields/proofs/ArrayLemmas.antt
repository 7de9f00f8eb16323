-- Packed arrays: element i stands in element i / n of q's, from bit i % n * b on, where n fields of b bits fill a byte.
use Rattle.std.proofs.Common.{◌≡◌, ◌≢◌, ◌<◌, ◌≤◌, ◌+◌, ◌*◌, ◌^◌, ◌-◌, ◌/◌, ◌%◌, ◌⊎◌, inl, inr, ℕ, zero, suc, pos, Some, refl, ap, ap₂, sym, ◌∙◌, arith, bit_and, bit_or, pow_mono, lt_of_lt_of_le, div-le_self}
use Rattle.std.proofs.lemmas.Int.{ints}
use Rattle.std.proofs.lemmas.Nat.{div-add-mod', mod_below, row_fits}
use Rattle.cc_num.specs.declared.int_type.IntType.TheVariants as int
use Rattle.cc_num.specs.declared.op.BinOp.TheVariants as op
use Rattle.cc_num.specs.declared.op.UnOp.TheVariants as unary
use Rattle.cc_num.specs.declared.target.Target.{Target}
use Rattle.cc_num.specs.Integers.{bits_of}
use Rattle.cc_num.specs.Promotions.{promoted}
use Rattle.cc_num.specs.Results.{result_of, unary_result_of}
use Rattle.cc_num.proofs.ComplementLaws.{unsigned_complement}
use Rattle.cc_num.proofs.ResultLaws.{represented_same, remainder_some}
use Rattle.cc_rewrite_fields.specs.Field.{put, mask}
use Rattle.cc_rewrite_fields.proofs.FieldLemmas.{cleared}
use Rattle.cc_rewrite_fields.proofs.OperatorLemmas.{number_value}

-- ---- two elements

differ : (i j n : ℕ) → i / n ≡ j / n → i % n ≡ j % n → i ≡ j
differ i j n e f = sym (div-add-mod' i n) ∙ ap₂ (λ x y. x * n + y) e f ∙ div-add-mod' j n

apart_by : (x y b : ℕ) → x < y → x * b + b ≤ y * b
apart_by x y b h = row_fits x b y b h (omega arith)

order : (x y : ℕ) → x ≢ y → (x < y) ⊎ (y < x)
order zero zero h = absurd (h refl)
order zero (suc y) h = inl (omega arith)
order (suc x) zero h = inr (omega arith)
order (suc x) (suc y) h = grow (order x y (λ e. h (ap suc e)))
  where
    grow : (x < y) ⊎ (y < x) → (suc x < suc y) ⊎ (suc y < suc x)
    grow (inl k) = inl (omega (arith, k))
    grow (inr k) = inr (omega (arith, k))

beside_by : (x y b : ℕ) → (x < y) ⊎ (y < x) → (x * b + b ≤ y * b) ⊎ (y * b + b ≤ x * b)
beside_by x y b (inl h) = inl (apart_by x y b h)
beside_by x y b (inr h) = inr (apart_by y x b h)

-- fields of one byte don't meet
pub elements_beside : (i j n b : ℕ) → i ≢ j → i / n ≡ j / n → (i % n * b + b ≤ j % n * b) ⊎ (j % n * b + b ≤ i % n * b)
elements_beside i j n b other same = beside_by (i % n) (j % n) b (order (i % n) (j % n) (λ e. other (differ i j n same e)))

-- and each fits it
pub element_fits : (i n b : ℕ) → 0 < n → i % n * b + b ≤ n * b
element_fits i n b h = row_fits (i % n) b n b (mod_below i n h) (omega arith)

-- ---- by the operators of C, in unsigned int

module _ (target : Target) where
  abbrev width : ℕ
  width = bits_of int.UInt target

  promoted_unsigned : promoted int.UInt target ≡ int.UInt
  unfolding promoted
  promoted_unsigned = refl

  -- ~a
  pub not_result : (a : ℕ) → a < 2 ^ width → unary_result_of unary.Not (pos a) int.UInt target ≡ Some (pos (2 ^ width - 1 - a))
  not_result a h = unsigned_complement (pos a) int.UInt target promoted_unsigned refl (number_value a target h) ∙ ap Some (omega (arith, ints, h))

  -- i / n and i % n
  pub div_result : (i n : ℕ) → i < 2 ^ width → result_of op.Div (pos i) (pos (suc n)) int.UInt target ≡ Some (pos (i / suc n))
  unfolding result_of
  div_result i n h = represented_same (pos (i / suc n)) int.UInt target (number_value (i / suc n) target (omega (arith, div-le_self i (suc n), h)))

  pub rem_result : (i n : ℕ) → i < 2 ^ width → suc n < 2 ^ width → result_of op.Rem (pos i) (pos (suc n)) int.UInt target ≡ Some (pos (i % suc n))
  unfolding result_of
  rem_result i n h k = remainder_some (pos i) (pos (suc n)) (pos (i / suc n)) int.UInt target (λ e. cc) (number_value i target h) (number_value (suc n) target k) (div_result i n h)

  pub mul_result : (x b : ℕ) → x * b < 2 ^ width → result_of op.Mul (pos x) (pos b) int.UInt target ≡ Some (pos (x * b))
  unfolding result_of
  mul_result x b h = represented_same (pos (x * b)) int.UInt target (number_value (x * b) target h)

  -- (element & ~(mask << s)) | (code << s), with a shift that is worked out, is the element with the field
  pub element_put : (word s b c : ℕ) → s + b ≤ 8 → word < 2 ^ 8 → c < 2 ^ b → 8 ≤ width → bit_or (bit_and word (2 ^ width - 1 - mask b * 2 ^ s)) (c * 2 ^ s) ≡ put word s b c
  element_put word s b c h k j few = cleared word width s b c (omega (arith, h, few)) (lt_of_lt_of_le k (pow_mono few)) j
