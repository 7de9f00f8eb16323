-- Basic types: the words that name one may stand in any order (C99 6.7.2, 2).
use Rattle.std.specs.Prelude.{Bool, true, false, not, ◌&&◌, ◌||◌, Option, Some, None, is_some, if◌then◌else◌}
use Rattle.cc_program.specs.CcNum.declared.int_type.IntType.{IntType}
use Rattle.cc_program.specs.CcNum.declared.int_type.IntType.TheVariants as int
use Rattle.cc_program.specs.declared.types.Shape.{Shape, Void, Int}
use Rattle.cc_specifiers.specs.declared.basic.Basic.{Basic}
use Rattle.cc_specifiers.specs.declared.basic.Length.{Length}
use Rattle.cc_specifiers.specs.declared.basic.Length.TheVariants as lengths
use Rattle.cc_specifiers.specs.declared.basic.Sign.{Sign}
use Rattle.cc_specifiers.specs.declared.basic.Sign.TheVariants as sign
use Rattle.cc_program.specs.CcWords.declared.word.Word.{Word}
use Rattle.cc_program.specs.CcWords.declared.word.Word.TheVariants as w

abbrev pub no_word : Basic
no_word = record { sign = None; length = lengths.Plain; int = false }

abbrev pub with_sign : Sign → Basic → Option Basic
with_sign s b = if is_some b.sign then None else Some (record { sign = Some s; length = b.length; int = b.int })

abbrev pub is_plain : Length → Bool
is_plain lengths.Plain = true
is_plain _ = false

abbrev pub with_length : Length → Basic → Option Basic
with_length l b = if is_plain b.length then Some (record { sign = b.sign; length = l; int = b.int }) else None

abbrev pub longer : Length → Option Length
longer lengths.Plain = Some lengths.Long
longer lengths.Long = Some lengths.LongLong
longer _ = None

abbrev pub with_longer : Basic → Option Length → Option Basic
with_longer b None = None
with_longer b (Some l) = Some (record { sign = b.sign; length = l; int = b.int })

abbrev pub with_int : Basic → Option Basic
with_int b = if b.int then None else Some (record { sign = b.sign; length = b.length; int = true })

-- a word more; None where it stands beside one that it can't stand beside
abbrev pub with_word : Word → Basic → Option Basic
with_word w.Void b = with_length lengths.Void b
with_word w.Bool b = with_length lengths.Bool b
with_word w.Char b = with_length lengths.Char b
with_word w.Short b = with_length lengths.Short b
with_word w.Int b = with_int b
with_word w.Long b = with_longer b (longer b.length)
with_word w.Signed b = with_sign sign.Signed b
with_word w.Unsigned b = with_sign sign.Unsigned b
with_word _ b = None

abbrev pub is_no_word : Basic → Bool
is_no_word b = not (is_some b.sign) && (is_plain b.length && not b.int)

abbrev pub int_by : Option Sign → IntType → IntType → IntType
int_by (Some sign.Unsigned) signed unsigned = unsigned
int_by (Some sign.Signed) signed unsigned = signed
int_by None signed unsigned = signed

abbrev pub char_by : Option Sign → IntType
char_by (Some sign.Unsigned) = int.UChar
char_by (Some sign.Signed) = int.SChar
char_by None = int.Char

abbrev pub alone : Basic → Shape → Option Shape
alone b shape = if is_some b.sign || b.int then None else Some shape

-- the type of a list of words
abbrev pub basic_by : Basic → Length → Option Shape
basic_by b lengths.Void = alone b Void
basic_by b lengths.Bool = alone b (Int int.Bool)
basic_by b lengths.Char = if b.int then None else Some (Int (char_by b.sign))
basic_by b lengths.Short = Some (Int (int_by b.sign int.Short int.UShort))
basic_by b lengths.Long = Some (Int (int_by b.sign int.Long int.ULong))
basic_by b lengths.LongLong = Some (Int (int_by b.sign int.LongLong int.ULongLong))
basic_by b lengths.Plain = if is_some b.sign || b.int then Some (Int (int_by b.sign int.Int int.UInt)) else None

abbrev pub basic_type : Basic → Option Shape
basic_type b = basic_by b b.length
