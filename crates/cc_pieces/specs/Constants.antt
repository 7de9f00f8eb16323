-- How a value of an integer type is written (C99 6.4.4.1): in decimal, with the suffix of its type; a negative
-- one in parentheses, and the least of its type by a difference, since its number alone has no such type.
use Rattle.std.specs.Prelude.{ℕ, ◌-◌, ℤ, pos, int_lt, unsigned_abs, Bool, true, false, nat_lt, ◌∷◌, if◌then◌else◌}
use Rattle.std.specs.Ordering.{int_eq}
use Rattle.cc_program.specs.CcNum.declared.int_type.IntType.{IntType}
use Rattle.cc_program.specs.CcNum.declared.int_type.IntType.TheVariants as int
use Rattle.cc_program.specs.CcNum.declared.target.Target.{Target}
use Rattle.cc_program.specs.CcNum.Integers.{least_of}
use Rattle.cc_program.specs.CcNum.Promotions.{rank_of}
use Rattle.cc_lex.specs.declared.token.Mark.TheVariants as m
use Rattle.cc_pieces.specs.Pieces.{Piece, Pieces, punct, number, plain_number, space}

-- the letters of the suffix
abbrev pub has_unsigned_letter : IntType → Bool
has_unsigned_letter int.UInt = true
has_unsigned_letter int.ULong = true
has_unsigned_letter int.ULongLong = true
has_unsigned_letter int.Bool = false
has_unsigned_letter int.Char = false
has_unsigned_letter int.SChar = false
has_unsigned_letter int.UChar = false
has_unsigned_letter int.Short = false
has_unsigned_letter int.UShort = false
has_unsigned_letter int.Int = false
has_unsigned_letter int.Long = false
has_unsigned_letter int.LongLong = false

abbrev pub long_letters_of : IntType → ℕ
long_letters_of int.Long = 1
long_letters_of int.ULong = 1
long_letters_of int.LongLong = 2
long_letters_of int.ULongLong = 2
long_letters_of int.Bool = 0
long_letters_of int.Char = 0
long_letters_of int.SChar = 0
long_letters_of int.UChar = 0
long_letters_of int.Short = 0
long_letters_of int.UShort = 0
long_letters_of int.Int = 0
long_letters_of int.UInt = 0

abbrev pub of_type : IntType → ℕ → Piece
of_type t n = number n (has_unsigned_letter t) (long_letters_of t)

-- a type of a lower rank than int has no constants of its own
abbrev pub is_narrow : IntType → Bool
is_narrow t = nat_lt (rank_of t) (rank_of int.Int)

-- `(-n)`
abbrev pub negative : IntType → ℕ → Pieces → Pieces
negative t n ps = punct m.LParen ∷ punct m.Minus ∷ of_type t n ∷ punct m.RParen ∷ ps

-- `(-n - 1)`
abbrev pub least : IntType → ℕ → Pieces → Pieces
least t n ps = punct m.LParen ∷ punct m.Minus ∷ of_type t n ∷ space ∷ punct m.Minus ∷ space ∷ plain_number 1 ∷ punct m.RParen ∷ ps

unfoldable pub constant : Target → ℤ → IntType → Pieces → Pieces
constant target n t ps =
    if int_lt n (pos 0) then (if int_eq n (least_of t target) then least t (unsigned_abs n - 1) ps else negative t (unsigned_abs n) ps)
    else of_type t (unsigned_abs n) ∷ ps
