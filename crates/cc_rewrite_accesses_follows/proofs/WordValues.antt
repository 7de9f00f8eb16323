-- What C's operators in unsigned int make of words, of their fields and of codes, where all of them fit.
use Rattle.std.proofs.Common.{◌≡◌, ◌<◌, ◌≤◌, ◌+◌, ◌+ℤ◌, ◌*◌, ◌^◌, ◌/◌, ℕ, ℤ, pos, Bool, true, false, ◌||◌, Option, Some, None, option_map, bit_and, refl, ap, sym, ◌∙◌, arith, lt_of_lt_of_le, pow_mono, pow_pos, pow-add, mod-eq_of_lt}
use Rattle.std.proofs.lemmas.Nat.{and_le_l, row_fits, shr_le}
use Rattle.cc_program.specs.CcNum.declared.int_type.IntType.{IntType}
use Rattle.cc_program.specs.CcNum.declared.int_type.IntType.TheVariants as int
use Rattle.cc_program.specs.CcNum.declared.op.BinOp.{BinOp}
use Rattle.cc_program.specs.CcNum.declared.op.BinOp.TheVariants as op
use Rattle.cc_program.specs.CcNum.declared.target.Target.{Target}
use Rattle.cc_program.specs.CcNum.Integers.{bits_of, is_value_of, IsValueOf}
use Rattle.cc_program.specs.CcNum.Promotions.{promoted}
use Rattle.cc_program.specs.CcNum.Results.{result_of, is_shift}
use Rattle.cc_program.proofs.CcNum.Conversions.{converted-same}
use Rattle.cc_program.proofs.CcNum.ResultLaws.{is_value_from, represented_same}
use Rattle.cc_program.specs.declared.value.Value.{Value}
use Rattle.cc_program.specs.declared.value.Value.TheVariants.{Int}
use Rattle.cc_rewrite_accesses_follows.specs.Numbers.{number}
use Rattle.cc_rewrite_fields.specs.Field.{field, put, mask, keep}
use Rattle.cc_rewrite_fields.proofs.FieldLemmas.{put_below}
use Rattle.cc_rewrite_fields.proofs.OperatorLemmas.{number_value, put_result, field_result, shl_result, word_fits, keep_fits, mask_fits, code_fits}
use Rattle.cc_steps.specs.CcSyntax.Operators.{is_promoted}
use Rattle.cc_steps.specs.CcSyntax.SameTypes.{same_int}
use Rattle.cc_steps.specs.CcValues.Values.{takes, takes_both, binary, conversion}

or_last : (b : Bool) → (b || true) ≡ true
or_last true = refl
or_last false = refl

-- where nothing stands above the field, it is the shifted word
pub field_whole : (w s b : ℕ) → w / 2 ^ s < 2 ^ b → w / 2 ^ s ≡ field w s b
unfolding field
field_whole w s b h = sym (mod-eq_of_lt h)

-- a code in its place
pub placed_below : (n s b c : ℕ) → s + b ≤ n → c < 2 ^ b → c * 2 ^ s < 2 ^ n
placed_below n s b c within h =
    let one : c * 2 ^ s + 2 ^ s ≤ 2 ^ b * 2 ^ s = row_fits c (2 ^ s) (2 ^ b) (2 ^ s) h (omega arith) in
    let two : 2 ^ b * 2 ^ s ≡ 2 ^ (b + s) = sym (pow-add 2 b s) in
    let three : 2 ^ (b + s) ≤ 2 ^ n = pow_mono (omega (arith, within)) in
    omega (arith, one, two, three, pow_pos s)

module _ (target : Target) where
  abbrev width : ℕ
  width = bits_of int.UInt target

  promoted_unsigned : is_promoted target int.UInt ≡ true
  unfolding promoted same_int
  promoted_unsigned = refl

  unsigned_number : (n : ℕ) → n < 2 ^ width → is_value_of int.UInt target (pos n) ≡ true
  unsigned_number n h = is_value_from int.UInt target (pos n) (number_value n target h)

  takes_two : (o : BinOp) (x y : ℕ) → x < 2 ^ width → y < 2 ^ width → takes_both o int.UInt target (pos x) (pos y) ≡ true
  takes_two o x y h k = rw (promoted_unsigned, unsigned_number x h, unsigned_number y k) (or_last (is_shift o))

  takes_shift : (o : BinOp) (x y : ℕ) → is_shift o ≡ true → x < 2 ^ width → takes_both o int.UInt target (pos x) (pos y) ≡ true
  takes_shift o x y e h = rw (promoted_unsigned, unsigned_number x h, e) refl

  binary_by : (o : BinOp) (x y z : ℕ) → takes_both o int.UInt target (pos x) (pos y) ≡ true → result_of o (pos x) (pos y) int.UInt target ≡ Some (pos z) → binary o int.UInt target (number x) (number y) ≡ number z
  binary_by o x y z h k = rw (h, k) refl

  -- a number keeps its value in a type that has it
  pub converted_number : (t : IntType) (n : ℤ) → IsValueOf t target n → conversion t target (Some (Int n)) ≡ Some (Int n)
  converted_number t n h = ap (λ x. Some (Int x)) (converted-same t target n h)

  -- of a word of n bits, which unsigned int has
  module _ (n : ℕ) (few : n ≤ width) (s b : ℕ) (within : s + b ≤ n) where
    pub shifted_word : (word : ℕ) → word < 2 ^ n → s < width → binary op.Shr int.UInt target (number word) (number s) ≡ number (word / 2 ^ s)
    shifted_word word small k =
        binary_by op.Shr word s (word / 2 ^ s) (takes_shift op.Shr word s refl (word_fits target n few word s b within small)) (field_result target n few word s b within small k).0

    pub masked_word : (word : ℕ) → word < 2 ^ n → s < width → binary op.And int.UInt target (number (word / 2 ^ s)) (number (mask b)) ≡ number (field word s b)
    masked_word word small k =
        let fits : word < 2 ^ width = word_fits target n few word s b within small in
        binary_by op.And (word / 2 ^ s) (mask b) (field word s b) (takes_two op.And (word / 2 ^ s) (mask b) (omega (arith, shr_le word s, fits)) (mask_fits target n few word s b within small)) (field_result target n few word s b within small k).1

    pub kept_word : (word c : ℕ) → word < 2 ^ n → c < 2 ^ b → binary op.And int.UInt target (number word) (number (keep n s b)) ≡ number (bit_and word (keep n s b))
    kept_word word c small h =
        binary_by op.And word (keep n s b) (bit_and word (keep n s b)) (takes_two op.And word (keep n s b) (word_fits target n few word s b within small) (keep_fits target n few word s b within small))
        (put_result target n few word s b within small c h).0

    pub raised_code : (c : ℕ) → c < 2 ^ b → s < width → binary op.Shl int.UInt target (number c) (number s) ≡ number (c * 2 ^ s)
    raised_code c h k =
        let own : c < 2 ^ width = lt_of_lt_of_le h (pow_mono (omega (arith, few, within))) in
        binary_by op.Shl c s (c * 2 ^ s) (takes_shift op.Shl c s refl own) (shl_result target c s k (code_fits target n few 0 s b within (pow_pos n) c h))

    pub joined_word : (word c : ℕ) → word < 2 ^ n → c < 2 ^ b → binary op.Or int.UInt target (number (bit_and word (keep n s b))) (number (c * 2 ^ s)) ≡ number (put word s b c)
    joined_word word c small h =
        let fits : word < 2 ^ width = word_fits target n few word s b within small in
        let cut : bit_and word (keep n s b) < 2 ^ width = omega (arith, and_le_l word (keep n s b), fits) in
        binary_by op.Or (bit_and word (keep n s b)) (c * 2 ^ s) (put word s b c) (takes_two op.Or (bit_and word (keep n s b)) (c * 2 ^ s) cut (code_fits target n few word s b within small c h))
        (put_result target n few word s b within small c h).1

  -- sums of values with the lowest value, in a promoted type
  takes_sum : (t : IntType) (a b : ℤ) → is_promoted target t ≡ true → IsValueOf t target a → IsValueOf t target b → takes_both op.Add t target a b ≡ true
  takes_sum t a b e h k = rw (e, is_value_from t target a h, is_value_from t target b k) refl

  sum_result : (t : IntType) (a b : ℤ) → IsValueOf t target (a +ℤ b) → result_of op.Add a b t target ≡ Some (a +ℤ b)
  unfolding result_of
  sum_result t a b h = represented_same (a +ℤ b) t target h

  pub sum_of : (t : IntType) (a b : ℤ) → is_promoted target t ≡ true → IsValueOf t target a → IsValueOf t target b → IsValueOf t target (a +ℤ b) → binary op.Add t target (Some (Int a)) (Some (Int b)) ≡ Some (Int (a +ℤ b))
  sum_of t a b e h k j = rw (takes_sum t a b e h k, sum_result t a b j) refl
