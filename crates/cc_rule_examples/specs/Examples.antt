-- Targets, constants and lists of words that examples speak of.
use Rattle.std.specs.Prelude.{ℕ, Bool, true, false, List, [], ◌∷◌, Option, Some, None, refl}
use Rattle.std.specs.Option.{option_and_then}
use Rattle.cc_typed_terms.specs.CcLex.declared.token.Suffix.{Suffix}
use Rattle.cc_num.specs.declared.int_type.IntType.TheVariants as int
use Rattle.cc_num.specs.declared.target.Target.{Target}
use Rattle.cc_program.specs.declared.types.CType.{CType}
use Rattle.cc_program.specs.declared.types.Shape.{Shape, Int}
use Rattle.cc_typed_terms.specs.CcSpecifiers.BasicTypes.{no_word, with_word, basic_type}
use Rattle.cc_typed_terms.specs.CcSpecifiers.declared.basic.Basic.{Basic}
use Rattle.cc_program.specs.CcWords.declared.word.Word.{Word}

-- `int` and pointers of 2 bytes, and char with a sign; and `int` and pointers of 4
abbrev pub narrow : Target
narrow = record { int_bytes = 2; pointer_bytes = 2; char_signed = true; align_max = 1; atomic_bytes = 1; int = refl; pointer = refl; align = refl; atomic = refl }

abbrev pub wide : Target
wide = record { int_bytes = 4; pointer_bytes = 4; char_signed = true; align_max = 4; atomic_bytes = 1; int = refl; pointer = refl; align = refl; atomic = refl }

abbrev pub suffix : Bool → Bool → ℕ → Suffix
suffix decimal unsigned longs = record { decimal = decimal; unsigned = unsigned; longs = longs }

-- words of a type, one behind another
abbrev pub words_behind : Option Basic → List Word → Option Basic
words_behind b [] = b
words_behind None (x ∷ xs) = None
words_behind (Some b) (x ∷ xs) = words_behind (with_word x b) xs

abbrev pub type_of_words : List Word → Option Shape
type_of_words xs = option_and_then basic_type (words_behind (Some no_word) xs)

-- `volatile unsigned char`
abbrev pub register : CType
register = record { constant = false; volatile = true; shape = Int int.UChar }
