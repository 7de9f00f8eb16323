-- The expressions of the printed text, by the operators of C, in unsigned int of any width that the target has.
use Rattle.std.proofs.Common.{◌≡◌, ◌<◌, ◌≤◌, ◌+◌, ◌*◌, ◌^◌, ◌/◌, ℕ, pos, Bool, true, false, Some, None, refl, ap, ap₂, sym, ◌∙◌, arith, bit_and, bit_or, pow_pos, pow_mono, pow-add, mod-eq_of_lt, if◌then◌else◌, option_and_then, option_map, nat_lt, lt_of_lt_of_le}
use Rattle.std.proofs.lemmas.Int.{ints}
use Rattle.std.proofs.lemmas.Nat.{or_lt, and_le_l, row_fits, shr_le}
use Rattle.cc_num.specs.declared.int_type.IntType.TheVariants as int
use Rattle.cc_num.specs.declared.op.BinOp.TheVariants as op
use Rattle.cc_num.specs.declared.target.Target.{Target}
use Rattle.cc_num.specs.Integers.{bits_of, IsValueOf, converted}
use Rattle.cc_num.specs.Results.{result_of, pattern_of, left_of, floor_of}
use Rattle.cc_num.proofs.Conversions.{converted-same}
use Rattle.cc_num.proofs.ResultLaws.{represented_same}
use Rattle.cc_rewrite_fields.specs.Field.{field, put, mask, keep}
use Rattle.cc_rewrite_fields.proofs.FieldLemmas.{cleared, masked}

-- a number of the bits of an unsigned type
pub number_value : (n : ℕ) (target : Target) → n < 2 ^ bits_of int.UInt target → IsValueOf int.UInt target (pos n)
number_value n target h = record { least = omega (arith, ints); most = omega (arith, ints, h) }

pub byte_value : (n : ℕ) (target : Target) → n < 2 ^ 8 → IsValueOf int.UChar target (pos n)
byte_value n target h = record { least = omega (arith, ints); most = omega (arith, ints, h) }

pub short_value : (n : ℕ) (target : Target) → n < 2 ^ 16 → IsValueOf int.UShort target (pos n)
short_value n target h = record { least = omega (arith, ints); most = omega (arith, ints, h) }

module _ (target : Target) where
  abbrev width : ℕ
  width = bits_of int.UInt target

  pattern_same : (n : ℕ) → n < 2 ^ width → pattern_of width (pos n) ≡ n
  pattern_same n h = mod-eq_of_lt h

  pub and_result : (x y : ℕ) → x < 2 ^ width → y < 2 ^ width → result_of op.And (pos x) (pos y) int.UInt target ≡ Some (pos (bit_and x y))
  unfolding result_of
  and_result x y h k =
      ap (λ n. Some (converted (pos n) int.UInt target)) (ap₂ bit_and (pattern_same x h) (pattern_same y k))
      ∙ ap Some (converted-same int.UInt target (pos (bit_and x y)) (number_value (bit_and x y) target (omega (arith, and_le_l x y, h))))

  pub or_result : (x y : ℕ) → x < 2 ^ width → y < 2 ^ width → result_of op.Or (pos x) (pos y) int.UInt target ≡ Some (pos (bit_or x y))
  unfolding result_of
  or_result x y h k =
      ap (λ n. Some (converted (pos n) int.UInt target)) (ap₂ bit_or (pattern_same x h) (pattern_same y k))
      ∙ ap Some (converted-same int.UInt target (pos (bit_or x y)) (number_value (bit_or x y) target (or_lt width x y h k)))

  places : (s : ℕ) (b : Bool) → nat_lt s width ≡ b → s < width → (if b then Some s else None) ≡ Some s
  places s true e h = refl
  places s false e h = absurd (grind arith)

  pub shl_result : (x s : ℕ) → s < width → x * 2 ^ s < 2 ^ width → result_of op.Shl (pos x) (pos s) int.UInt target ≡ Some (pos (x * 2 ^ s))
  unfolding result_of
  shl_result x s h k =
      ap (option_and_then (left_of (pos x) int.UInt target)) (places s (nat_lt s width) refl h)
      ∙ represented_same (pos (x * 2 ^ s)) int.UInt target (number_value (x * 2 ^ s) target k)

  pub shr_result : (x s : ℕ) → s < width → result_of op.Shr (pos x) (pos s) int.UInt target ≡ Some (pos (x / 2 ^ s))
  unfolding result_of
  shr_result x s h = ap (option_map (floor_of (pos x))) (places s (nat_lt s width) refl h)

  -- of a word of d bits, which unsigned int has
  module _ (d : ℕ) (few : d ≤ width) (word s b : ℕ) (within : s + b ≤ d) (small : word < 2 ^ d) where
    below_width : (n : ℕ) → n < 2 ^ d → n < 2 ^ width
    below_width n h = lt_of_lt_of_le h (pow_mono few)

    -- the word is an unsigned int, and so are the masks and a code in its place
    pub word_fits : word < 2 ^ width
    word_fits = below_width word small

    pub keep_fits : keep d s b < 2 ^ width
    keep_fits = below_width (keep d s b) (omega (arith, pow_pos d))

    pub mask_fits : mask b < 2 ^ width
    mask_fits = let shorter : b ≤ width = omega (arith, within, few) in omega (arith, pow_pos b, pow_mono shorter)

    pub code_fits : (c : ℕ) → c < 2 ^ b → c * 2 ^ s < 2 ^ width
    code_fits c h =
        let one : c * 2 ^ s + 2 ^ s ≤ 2 ^ b * 2 ^ s = row_fits c (2 ^ s) (2 ^ b) (2 ^ s) h (omega arith) in
        let two : 2 ^ b * 2 ^ s ≡ 2 ^ (b + s) = sym (pow-add 2 b s) in
        let three : 2 ^ (b + s) ≤ 2 ^ width = pow_mono (omega (arith, within, few)) in
        omega (arith, one, two, three, pow_pos s)

    -- ((unsigned)t & keep) | (code << s)
    pub put_result : (c : ℕ) → c < 2 ^ b →
        (result_of op.And (pos word) (pos (keep d s b)) int.UInt target ≡ Some (pos (bit_and word (keep d s b))))
        × (result_of op.Or (pos (bit_and word (keep d s b))) (pos (c * 2 ^ s)) int.UInt target ≡ Some (pos (put word s b c)))
    put_result c h = (
      and_result word (keep d s b) word_fits keep_fits,
      or_result (bit_and word (keep d s b)) (c * 2 ^ s) (omega (arith, and_le_l word (keep d s b), word_fits)) (code_fits c h)
          ∙ ap (λ n. Some (pos n)) (cleared word d s b c within small h),
    )

    -- ((unsigned)t >> s) & mask
    pub field_result : s < width →
        (result_of op.Shr (pos word) (pos s) int.UInt target ≡ Some (pos (word / 2 ^ s)))
        × (result_of op.And (pos (word / 2 ^ s)) (pos (mask b)) int.UInt target ≡ Some (pos (field word s b)))
    field_result h = (
      shr_result word s h,
      and_result (word / 2 ^ s) (mask b) (omega (arith, shr_le word s, word_fits)) mask_fits ∙ ap (λ n. Some (pos n)) (masked word s b),
    )
