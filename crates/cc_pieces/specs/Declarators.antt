-- Declarations and names of types (C99 6.7.5, 6.7.6). What a type writes stands on both sides of the declared
-- name: in front of it the words of the innermost type, `*` and opened parentheses, behind it bounds and parameters.
use Rattle.std.specs.Prelude.{ℕ, Bool, true, false, List, [], ◌∷◌, Option, Some, None, slice_get}
use Rattle.cc_program.specs.CcNum.declared.int_type.IntType.{IntType}
use Rattle.cc_program.specs.CcNum.declared.int_type.IntType.TheVariants as int
use Rattle.cc_program.specs.CcWords.declared.word.Word.{Word}
use Rattle.cc_program.specs.CcWords.declared.word.Word.TheVariants as w
use Rattle.cc_lex.specs.declared.token.Mark.TheVariants as m
use Rattle.cc_program.specs.declared.types.CType.{CType, fold-CType}
use Rattle.cc_program.specs.declared.types.Shape.TheOpen as shape
use Rattle.cc_program.specs.declared.types.Sig.{Sig, fold-Sig}
use Rattle.cc_program.specs.declared.types.Structure.{Structure}
use Rattle.cc_pieces.specs.declared.types.Inside.{Inside}
use Rattle.cc_pieces.specs.declared.types.Inside.TheVariants.{Nothing, Name, Pointer}
use Rattle.cc_pieces.specs.Pieces.{Pieces, punct, keyword, ident, plain_number, space, opening, closing}

-- one space, but where nothing of the declarator follows
abbrev pub gap : Inside → Pieces → Pieces
gap Nothing ps = ps
gap Name ps = space ∷ ps
gap Pointer ps = space ∷ ps

-- an array of what a pointer points to, or such a function, has the pointer in parentheses
abbrev pub is_pointer : Inside → Bool
is_pointer Nothing = false
is_pointer Name = false
is_pointer Pointer = true

-- ---- words

abbrev pub two_words : Word → Word → Pieces → Pieces
two_words a b ps = keyword a ∷ space ∷ keyword b ∷ ps

abbrev pub int_name : IntType → Pieces → Pieces
int_name int.Bool ps = keyword w.Bool ∷ ps
int_name int.Char ps = keyword w.Char ∷ ps
int_name int.SChar ps = two_words w.Signed w.Char ps
int_name int.UChar ps = two_words w.Unsigned w.Char ps
int_name int.Short ps = keyword w.Short ∷ ps
int_name int.UShort ps = two_words w.Unsigned w.Short ps
int_name int.Int ps = keyword w.Int ∷ ps
int_name int.UInt ps = two_words w.Unsigned w.Int ps
int_name int.Long ps = keyword w.Long ∷ ps
int_name int.ULong ps = two_words w.Unsigned w.Long ps
int_name int.LongLong ps = two_words w.Long w.Long ps
int_name int.ULongLong ps = keyword w.Unsigned ∷ space ∷ two_words w.Long w.Long ps

-- an integer type in parentheses (6.5.4)
abbrev pub int_cast : IntType → Pieces → Pieces
int_cast t ps = punct m.LParen ∷ int_name t (punct m.RParen ∷ ps)

-- qualifiers in front of words, const before volatile
abbrev pub word_if : Bool → Word → Pieces → Pieces
word_if true a ps = keyword a ∷ space ∷ ps
word_if false a ps = ps

abbrev pub qualifiers : Bool → Bool → Pieces → Pieces
qualifiers constant volatile ps = word_if constant w.Const (word_if volatile w.Volatile ps)

-- qualifiers behind a `*`
abbrev pub pointer_qualifiers : Bool → Bool → Inside → Pieces → Pieces
pointer_qualifiers true true inside ps = two_words w.Const w.Volatile (gap inside ps)
pointer_qualifiers true false inside ps = keyword w.Const ∷ gap inside ps
pointer_qualifiers false true inside ps = keyword w.Volatile ∷ gap inside ps
pointer_qualifiers false false inside ps = ps

abbrev pub tag : Option Structure → Pieces → Pieces
tag None ps = ps
tag (Some s) ps = ident s.tag ∷ ps

-- ---- both sides of the name

pub record Declarator : Type 0 where
  pub front : Inside → Pieces → Pieces
  pub behind : Inside → Pieces → Pieces

abbrev pub type_name_of : Declarator → Pieces → Pieces
type_name_of d ps = d.front Nothing (d.behind Nothing ps)

-- the types of parameters, without names
abbrev pub further : List Declarator → Pieces → Pieces
further [] ps = ps
further (d ∷ ds) ps = punct m.Comma ∷ space ∷ type_name_of d (further ds ps)

abbrev pub parameters : List Declarator → Pieces → Pieces
parameters [] ps = keyword w.Void ∷ ps
parameters (d ∷ ds) ps = type_name_of d (further ds ps)

pub record Signature : Type 0 where
  pub result : Declarator
  pub parameters : Pieces → Pieces

abbrev pub words : (Pieces → Pieces) → Bool → Bool → Declarator
words base constant volatile = record { front = λ inside ps. qualifiers constant volatile (base (gap inside ps)); behind = λ inside ps. ps }

abbrev pub pointer : Declarator → Bool → Bool → Declarator
pointer to constant volatile = record {
  front = λ inside ps. to.front Pointer (punct m.Star ∷ pointer_qualifiers constant volatile inside ps);
  behind = λ inside ps. to.behind Pointer ps;
}

-- an array and a function have no qualifiers of their own
abbrev pub array : Declarator → ℕ → Declarator
array of n = record {
  front = λ inside ps. of.front Name (opening (is_pointer inside) ps);
  behind = λ inside ps. closing (is_pointer inside) (punct m.LBracket ∷ plain_number n ∷ punct m.RBracket ∷ of.behind Name ps);
}

abbrev pub function : Signature → Declarator
function s = record {
  front = λ inside ps. s.result.front Name (opening (is_pointer inside) ps);
  behind = λ inside ps. closing (is_pointer inside) (punct m.LParen ∷ s.parameters (punct m.RParen ∷ s.result.behind Name ps));
}

module _ (structures : List Structure) where
  abbrev pub shape_step : shape.Shape-F (Bool → Bool → Declarator) Declarator Signature → Bool → Bool → Declarator
  shape_step shape.Void = words (λ ps. keyword w.Void ∷ ps)
  shape_step (shape.Int t) = words (int_name t)
  shape_step (shape.Pointer to) = pointer to
  shape_step (shape.Array of n) = λ constant volatile. array of n
  shape_step (shape.Struct s) = words (λ ps. keyword w.Struct ∷ space ∷ tag (slice_get structures s) ps)
  shape_step (shape.Func s) = λ constant volatile. function s

  abbrev pub type_step : shape.CType-F (Bool → Bool → Declarator) Declarator Signature → Declarator
  type_step t = t.shape t.constant t.volatile

  abbrev pub sig_step : shape.Sig-F (Bool → Bool → Declarator) Declarator Signature → Signature
  sig_step s = record { result = s.result; parameters = parameters s.params }

  unfoldable pub declarator : CType → Declarator
  declarator t = fold-CType (Bool → Bool → Declarator) Declarator Signature shape_step type_step sig_step t

  unfoldable pub signature : Sig → Signature
  signature s = fold-Sig (Bool → Bool → Declarator) Declarator Signature shape_step type_step sig_step s

  -- the name of a type (6.7.6)
  abbrev pub type_name : CType → Pieces → Pieces
  type_name t ps = type_name_of (declarator t) ps

  -- a name that is declared with a type (6.7.5)
  abbrev pub declaration : CType → List ℕ → Pieces → Pieces
  declaration t name ps = (declarator t).front Name (ident name ∷ (declarator t).behind Name ps)

  -- a type in parentheses (6.5.4)
  abbrev pub cast : CType → Pieces → Pieces
  cast t ps = punct m.LParen ∷ type_name t (punct m.RParen ∷ ps)
