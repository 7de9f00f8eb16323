-- Which trees show a type, wherever they stand in a text: specifiers, and behind them a declarator, which goes from the
-- type of the specifiers to the declared one (C99 6.7.5).
use Rattle.std.specs.Prelude.{◌≡◌, ℕ, Bool, true, false, not, nat_eq, List, [], ◌∷◌, ◌++◌, map, Option, Some, None, slice_get}
use Rattle.cc_program.specs.CcNum.declared.int_type.IntType.{IntType}
use Rattle.cc_program.specs.CcNum.declared.int_type.IntType.TheVariants as int
use Rattle.cc_program.specs.CcWords.declared.word.Word.{Word}
use Rattle.cc_program.specs.CcWords.declared.word.Word.TheVariants as w
use Rattle.cc_lex.specs.declared.token.Suffix.{Suffix}
use Rattle.cc_program.specs.declared.types.CType.{CType}
use Rattle.cc_program.specs.declared.types.Shape.{out-Shape}
use Rattle.cc_program.specs.declared.types.Shape.TheOpen as shape
use Rattle.cc_program.specs.declared.types.Sig.{Sig, out-Sig}
use Rattle.cc_program.specs.declared.types.Structure.{Structure}
use Rattle.cc_tree.specs.declared.at.At.{At}
use Rattle.cc_tree.specs.declared.tree.Declr as declr
use Rattle.cc_tree.specs.declared.tree.Declr.{Declr}
use Rattle.cc_tree.specs.declared.tree.Param.{Param}
use Rattle.cc_tree.specs.declared.tree.Params as params
use Rattle.cc_tree.specs.declared.tree.Params.{Params}
use Rattle.cc_tree.specs.declared.tree.Spec as spec
use Rattle.cc_tree.specs.declared.tree.Spec.{Spec}
use Rattle.cc_tree.specs.declared.tree.Tree as tree
use Rattle.cc_tree.specs.declared.tree.TypeName.{TypeName}
use Rattle.cc_tree.specs.Tokens.{Name}

-- ---- words

pub data ShowsWords : List Word → List (At Spec) → Type 0 where
  NoWord : ShowsWords [] []
  MoreWords : (x : Word) (xs : List Word) (at : ℕ) (ss : List (At Spec)) → ShowsWords xs ss → ShowsWords (x ∷ xs) (record { at = at; node = spec.Word x } ∷ ss)

abbrev pub flag_words : Bool → Word → List Word
flag_words true x = x ∷ []
flag_words false x = []

abbrev pub qualifier_words : Bool → Bool → List Word
qualifier_words constant volatile = flag_words constant w.Const ++ flag_words volatile w.Volatile

-- the words of an integer type (6.7.2, 2)
abbrev pub int_words : IntType → List Word
int_words int.Bool = w.Bool ∷ []
int_words int.Char = w.Char ∷ []
int_words int.SChar = w.Signed ∷ w.Char ∷ []
int_words int.UChar = w.Unsigned ∷ w.Char ∷ []
int_words int.Short = w.Short ∷ []
int_words int.UShort = w.Unsigned ∷ w.Short ∷ []
int_words int.Int = w.Int ∷ []
int_words int.UInt = w.Unsigned ∷ w.Int ∷ []
int_words int.Long = w.Long ∷ []
int_words int.ULong = w.Unsigned ∷ w.Long ∷ []
int_words int.LongLong = w.Long ∷ w.Long ∷ []
int_words int.ULongLong = w.Unsigned ∷ w.Long ∷ w.Long ∷ []

-- ---- numbers

-- what decides the type of a constant in decimal (6.4.4.1, 5); 0 counts as octal
abbrev pub suffix : ℕ → Bool → ℕ → Suffix
suffix n unsigned longs = record { decimal = not (nat_eq n 0); unsigned = unsigned; longs = longs }

abbrev pub plain_suffix : ℕ → Suffix
plain_suffix n = suffix n false 0

-- ---- types

-- a declared thing: a name with a type, which may be left out, or a function with its parameters, each with a name or not
pub data Core : Type 0 where
  Plain : Option Name → Core
  Function : Name → List (Option Name × CType) → Core

abbrev pub unnamed : List CType → List (Option Name × CType)
unnamed ts = map (λ t. (None, t)) ts

module _ (structures : List Structure) where
  -- the specifiers of a type that is not derived from others
  pub data ShowsBase : CType → List (At Spec) → Type 0 where
    ShowsVoid : (t : CType) (qs ss : List (At Spec)) → out-Shape t.shape ≡ shape.Void → ShowsWords (qualifier_words t.constant t.volatile) qs → ShowsWords (w.Void ∷ []) ss → ShowsBase t (qs ++ ss)
    ShowsInt : (t : CType) (i : IntType) (qs ss : List (At Spec)) → out-Shape t.shape ≡ shape.Int i → ShowsWords (qualifier_words t.constant t.volatile) qs → ShowsWords (int_words i) ss → ShowsBase t (qs ++ ss)
    ShowsStructure : (t : CType) (i : ℕ) (s : Structure) (qs : List (At Spec)) (at : ℕ) → out-Shape t.shape ≡ shape.Struct i → slice_get structures i ≡ Some s → ShowsWords (qualifier_words t.constant t.volatile) qs →
        ShowsBase t (qs ++ record { at = at; node = spec.Struct (Some s.tag) None [] [] } ∷ [])

  mutual
    -- Behind specifiers of the first type the declarator declares the core with the second type; for a function that is
    -- the type of its result.
    pub data Declares : CType → Declr → Core → CType → Type 0 where
      DeclaresNothing : (t : CType) → Declares t declr.Nothing (Plain None) t
      DeclaresName : (t : CType) (x : Name) → Declares t (declr.Named x) (Plain (Some x)) t
      DeclaresFunction : (t : CType) (x : Name) (entries : List (Option Name × CType)) (ps : Params) (at : ℕ) → ShowsParams entries ps →
          Declares t (declr.Func (record { at = at; node = declr.Named x }) ps) (Function x entries) t
      InParens : (b t : CType) (d : At Declr) (core : Core) → Declares b d.node core t → Declares b (declr.Paren d) core t
      -- derived types (6.2.5, 20)
      DeclaresPointer : (c b t : CType) (d : At Declr) (core : Core) → out-Shape c.shape ≡ shape.Pointer b → Declares c d.node core t → Declares b (declr.Pointer (qualifier_words c.constant c.volatile) d) core t
      DeclaresArray : (c b t : CType) (n : ℕ) (d : At Declr) (core : Core) (at : ℕ) → out-Shape c.shape ≡ shape.Array b n → c.constant ≡ false → c.volatile ≡ false → Declares c d.node core t →
          Declares b (declr.Array d (Some (record { at = at; node = tree.Number n (plain_suffix n) }))) core t
      DeclaresFunc : (c t : CType) (sig : Sig) (ps : Params) (d : At Declr) (core : Core) → out-Shape c.shape ≡ shape.Func sig → c.constant ≡ false → c.volatile ≡ false → ShowsParams (unnamed (out-Sig sig).params) ps → Declares c d.node core t →
          Declares (out-Sig sig).result (declr.Func d ps) core t

    -- `void`, or a list of parameters
    pub data ShowsParams : List (Option Name × CType) → Params → Type 0 where
      ShowsNone : ShowsParams [] params.Void
      ShowsSome : (e : Option Name × CType) (es : List (Option Name × CType)) (ps : List (At Param)) → ShowsParamList (e ∷ es) ps → ShowsParams (e ∷ es) (params.Many ps)

    pub data ShowsParamList : List (Option Name × CType) → List (At Param) → Type 0 where
      NoParam : ShowsParamList [] []
      MoreParams : (x : Option Name) (b t : CType) (ss : List (At Spec)) (d : At Declr) (at : ℕ) (es : List (Option Name × CType)) (ps : List (At Param)) → ShowsBase b ss → Declares b d.node (Plain x) t → ShowsParamList es ps →
          ShowsParamList ((x, t) ∷ es) (record { at = at; node = record { specs = ss; declr = d } } ∷ ps)

  -- the name of a type (6.7.6)
  pub data ShowsTypeName : CType → TypeName → Type 0 where
    NamesType : (b t : CType) (ss : List (At Spec)) (d : At Declr) → ShowsBase b ss → Declares b d.node (Plain None) t → ShowsTypeName t (record { specs = ss; declr = d })
