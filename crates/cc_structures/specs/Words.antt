-- A type word by word, from its outermost part inwards, and the structures that it has or points to, in the same order.
-- Two types are the same where their words and the numbers of these structures are.
use Rattle.std.specs.Prelude.{ℕ, Bool, List, [], ◌∷◌, ◌++◌, length, flat_map}
use Rattle.cc_program.specs.declared.types.CType.{CType, fold-CType}
use Rattle.cc_program.specs.declared.types.Shape.{Shape, fold-Shape}
use Rattle.cc_program.specs.declared.types.Shape.TheOpen as shape
use Rattle.cc_program.specs.declared.types.Sig.{Sig, fold-Sig}
use Rattle.cc_structures.specs.declared.words.Kind.{Kind}
use Rattle.cc_structures.specs.declared.words.Kind.TheVariants as kind
use Rattle.cc_structures.specs.declared.words.Word.{Word}
use Rattle.cc_things.specs.Things.{position_of_type}

abbrev pub word : Bool → Bool → Kind → ℕ → Word
word constant volatile k n = record { constant = constant; volatile = volatile; kind = k; number = n }

-- a shape begins with the qualifiers of its type
abbrev pub ShapeWords : Type 0
ShapeWords = Bool → Bool → List Word

-- how many parameters there are, and the words of the result and of them
pub record SigWords : Type 0 where
  pub count : ℕ
  pub words : List Word

abbrev pub words_step : shape.Shape-F ShapeWords (List Word) SigWords → ShapeWords
words_step shape.Void c v = word c v kind.Void 0 ∷ []
words_step (shape.Int t) c v = word c v kind.Int (position_of_type t) ∷ []
words_step (shape.Pointer to) c v = word c v kind.Pointer 0 ∷ to
words_step (shape.Array of n) c v = word c v kind.Array n ∷ of
words_step (shape.Struct i) c v = word c v kind.Struct 0 ∷ []
words_step (shape.Func sig) c v = word c v kind.Func sig.count ∷ sig.words

abbrev pub words_type : shape.CType-F ShapeWords (List Word) SigWords → List Word
words_type t = t.shape t.constant t.volatile

abbrev pub words_sig : shape.Sig-F ShapeWords (List Word) SigWords → SigWords
words_sig s = record { count = length s.params; words = s.result ++ flat_map (λ ws. ws) s.params }

unfoldable pub type_words : CType → List Word
type_words t = fold-CType ShapeWords (List Word) SigWords words_step words_type words_sig t

unfoldable pub shape_words : Shape → ShapeWords
shape_words s = fold-Shape ShapeWords (List Word) SigWords words_step words_type words_sig s

unfoldable pub sig_words : Sig → SigWords
sig_words s = fold-Sig ShapeWords (List Word) SigWords words_step words_type words_sig s

-- ---- the structures, by their positions

abbrev pub parts_step : shape.Shape-F (List ℕ) (List ℕ) (List ℕ) → List ℕ
parts_step shape.Void = []
parts_step (shape.Int t) = []
parts_step (shape.Pointer to) = to
parts_step (shape.Array of n) = of
parts_step (shape.Struct i) = i ∷ []
parts_step (shape.Func sig) = sig

abbrev pub parts_type : shape.CType-F (List ℕ) (List ℕ) (List ℕ) → List ℕ
parts_type t = t.shape

abbrev pub parts_sig : shape.Sig-F (List ℕ) (List ℕ) (List ℕ) → List ℕ
parts_sig s = s.result ++ flat_map (λ ps. ps) s.params

unfoldable pub type_parts : CType → List ℕ
type_parts t = fold-CType (List ℕ) (List ℕ) (List ℕ) parts_step parts_type parts_sig t

unfoldable pub shape_parts : Shape → List ℕ
shape_parts s = fold-Shape (List ℕ) (List ℕ) (List ℕ) parts_step parts_type parts_sig s

unfoldable pub sig_parts : Sig → List ℕ
sig_parts s = fold-Sig (List ℕ) (List ℕ) (List ℕ) parts_step parts_type parts_sig s
