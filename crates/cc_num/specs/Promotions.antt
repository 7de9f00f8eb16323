-- The integer promotions (C99 6.3.1.1) and the usual arithmetic conversions of integers (6.3.1.8).
use Rattle.std.specs.Prelude.{ℕ, Bool, true, false, nat_lt, nat_le, if◌then◌else◌}
use Rattle.cc_num.specs.declared.int_type.IntType.{IntType}
use Rattle.cc_num.specs.declared.int_type.IntType.TheVariants as int
use Rattle.cc_num.specs.declared.target.Target.{Target}
use Rattle.cc_num.specs.Integers.{is_signed, represents_all}

-- the conversion rank, by its order (6.3.1.1, 1)
abbrev pub rank_of : IntType → ℕ
rank_of int.Bool = 0
rank_of int.Char = 1
rank_of int.SChar = 1
rank_of int.UChar = 1
rank_of int.Short = 2
rank_of int.UShort = 2
rank_of int.Int = 3
rank_of int.UInt = 3
rank_of int.Long = 4
rank_of int.ULong = 4
rank_of int.LongLong = 5
rank_of int.ULongLong = 5

-- the unsigned type that corresponds to a signed one (6.2.5, 6)
abbrev pub unsigned_of : IntType → IntType
unsigned_of int.SChar = int.UChar
unsigned_of int.Short = int.UShort
unsigned_of int.Int = int.UInt
unsigned_of int.Long = int.ULong
unsigned_of int.LongLong = int.ULongLong
unsigned_of t = t

-- the promotion: a type of lower rank than int becomes int, if int can represent all its values,
-- else unsigned int; another stays (6.3.1.1, 2)
unfoldable pub promoted : IntType → Target → IntType
promoted t target = if nat_lt (rank_of t) (rank_of int.Int) then (if represents_all int.Int t target then int.Int else int.UInt) else t

-- of two types with signs or two without, the one of greater rank
abbrev pub greater_of : IntType → IntType → IntType
greater_of a b = if nat_lt (rank_of a) (rank_of b) then b else a

-- of a signed type s and an unsigned one u: u, if its rank is greater or equal; else s, if it can
-- represent all values of u; else the unsigned type that corresponds to s
abbrev pub mixed_of : IntType → IntType → Target → IntType
mixed_of s u target = if nat_le (rank_of s) (rank_of u) then u else (if represents_all s u target then s else unsigned_of s)

-- the common type of two promoted ones, by whether they have signs (6.3.1.8, 1)
abbrev pub common_by : Bool → Bool → IntType → IntType → Target → IntType
common_by true false a b target = mixed_of a b target
common_by false true a b target = mixed_of b a target
common_by _ _ a b target = greater_of a b

abbrev pub common_of : IntType → IntType → Target → IntType
common_of a b target = common_by (is_signed a target) (is_signed b target) a b target

-- the type to which two operands are brought: promoted first
unfoldable pub usual_of : IntType → IntType → Target → IntType
usual_of a b target = common_of (promoted a target) (promoted b target) target
