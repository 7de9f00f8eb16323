-- The integer types of a target: their sizes and their values (C99 5.2.4.2.1, 6.2.5, 6.2.6.2), and
-- the conversion of a value to one of them (6.3.1.2, 6.3.1.3).
use Rattle.std.specs.Prelude.{ℕ, zero, ◌*◌, ◌-◌, ◌^◌, Bool, true, false, ℤ, pos, neg_ℤ, ◌+ℤ◌, ◌-ℤ◌, ◌≤ℤ◌, int_le, ◌&&◌}
use Rattle.std.specs.Int.{int_rem_euclid}
use Rattle.cc_num.specs.declared.int_type.IntType.{IntType}
use Rattle.cc_num.specs.declared.int_type.IntType.TheVariants as int
use Rattle.cc_num.specs.declared.target.Target.{Target}

-- how many bytes a value takes
abbrev pub bytes_of : IntType → Target → ℕ
bytes_of int.Bool target = 1
bytes_of int.Char target = 1
bytes_of int.SChar target = 1
bytes_of int.UChar target = 1
bytes_of int.Short target = 2
bytes_of int.UShort target = 2
bytes_of int.Int target = target.int_bytes
bytes_of int.UInt target = target.int_bytes
bytes_of int.Long target = 4
bytes_of int.ULong target = 4
bytes_of int.LongLong target = 8
bytes_of int.ULongLong target = 8

-- w, how many bits they have
abbrev pub bits_of : IntType → Target → ℕ
bits_of t target = 8 * bytes_of t target

abbrev pub is_signed : IntType → Target → Bool
is_signed int.Bool target = false
is_signed int.Char target = target.char_signed
is_signed int.SChar target = true
is_signed int.UChar target = false
is_signed int.Short target = true
is_signed int.UShort target = false
is_signed int.Int target = true
is_signed int.UInt target = false
is_signed int.Long target = true
is_signed int.ULong target = false
is_signed int.LongLong target = true
is_signed int.ULongLong target = false

-- the least and the greatest number of w bits, in two's complement where they have a sign
abbrev pub least_of_bits : Bool → ℕ → ℤ
least_of_bits true w = neg_ℤ (pos (2 ^ (w - 1)))
least_of_bits false w = pos 0

abbrev pub most_of_bits : Bool → ℕ → ℤ
most_of_bits true w = pos (2 ^ (w - 1) - 1)
most_of_bits false w = pos (2 ^ w - 1)

-- the least value of a type
abbrev pub least_of : IntType → Target → ℤ
least_of int.Bool target = pos 0
least_of t target = least_of_bits (is_signed t target) (bits_of t target)

-- the greatest value of a type
abbrev pub most_of : IntType → Target → ℤ
most_of int.Bool target = pos 1
most_of t target = most_of_bits (is_signed t target) (bits_of t target)

-- a value of the type
pub record IsValueOf (t : IntType) (target : Target) (v : ℤ) : Type 0 where
  pub least : least_of t target ≤ℤ v
  pub most : v ≤ℤ most_of t target

-- whether v is a value of the type, and whether t can represent all the values of s
abbrev pub is_value_of : IntType → Target → ℤ → Bool
is_value_of t target v = int_le (least_of t target) v && int_le v (most_of t target)

abbrev pub represents_all : IntType → IntType → Target → Bool
represents_all t s target = int_le (least_of t target) (least_of s target) && int_le (most_of s target) (most_of t target)

-- the number of w bits that differs from v by a multiple of 2^w, from the least one on
abbrev pub residue_from : ℤ → ℕ → ℤ → ℤ
residue_from least w v = least +ℤ int_rem_euclid (v -ℤ least) (pos (2 ^ w))

abbrev pub truth_of : ℤ → ℤ
truth_of (pos zero) = pos 0
truth_of _ = pos 1

-- v in the type `to`: modulo 2^w into its values; for _Bool whether v is not 0
unfoldable pub converted : ℤ → IntType → Target → ℤ
converted v int.Bool target = truth_of v
converted v to target = residue_from (least_of to target) (bits_of to target) v
