-- The program that texts of C are: each text has tokens, they are a sentence, the sentence breaks no type rule, and what
-- the sentences mean is linked (C99 5.1.1.2, 6.2 to 6.9).
use Rattle.std.specs.Prelude.{◌≡◌, ◌≤◌, ℕ, List, [], ◌∷◌, ◌++◌, filter_map, map, Option, Some, None, Vec}
use Rattle.std.specs.List.{AllZip}
use Rattle.std.specs.declared.alloc.Global.{Global}
use Rattle.cc_type.specs.CcLex.Tokens.{Tokens}
use Rattle.cc_type.specs.CcLex.declared.token.Kind.{Kind}
use Rattle.cc_type.specs.CcLex.declared.token.Kind.TheVariants as kind
use Rattle.cc_type.specs.CcLex.declared.token.Token.{Token}
use Rattle.cc_link.specs.Linked.{Links}
use Rattle.cc_program.specs.CcNum.declared.target.Target.{Target}
use Rattle.cc_program.specs.declared.program.Program.{Program}
use Rattle.cc_program.specs.declared.program.Roles.{Roles}
use Rattle.cc_things.specs.declared.text.Text.{Text}
use Rattle.cc_tree.specs.Faults.{IsRead}
use Rattle.cc_tree.specs.Height.{unit_height, greatest_height}
use Rattle.cc_tree.specs.Sentences.{IsSentence}
use Rattle.cc_tree.specs.declared.unit.Unit.{Unit as UnitTree}
use Rattle.cc_type.specs.Typed.{IsTyped}
use Rattle.cc_type.specs.CcUnit.declared.unit.TypedUnit.{TypedUnit}

-- the bytes of each text
abbrev pub bytes_of : List (Vec ℕ Global) → List (List ℕ)
bytes_of texts = map (λ v. v.items) texts

-- the identifiers among tokens, in order, each as often as it stands there
abbrev pub identifier_in : Kind → Option (List ℕ)
identifier_in (kind.Ident name) = Some name
identifier_in _ = None

abbrev pub identifiers_of : List Token → List (List ℕ)
identifiers_of tokens = filter_map (λ t. identifier_in t.kind) tokens

-- the tokens are a sentence of at most the greatest height that breaks no type rule, and this is its typed unit
pub record IsTypedSentence (target : Target) (roles : Roles) (tokens : List Token) (t : TypedUnit) : Type 0 where
  pub tree : UnitTree
  pub read : IsRead tokens tree
  pub typed : IsTyped tree target roles t

-- the text's tokens are a sentence, of any height, that breaks no type rule; this is what linking takes of it
pub record IsTypedText (target : Target) (roles : Roles) (text : List ℕ) (t : Text) : Type 0 where
  pub tokens : List Token
  pub tokens_of : Tokens text tokens
  pub tree : UnitTree
  pub sentence : IsSentence tokens tree
  pub typed : IsTyped tree target roles t.unit
  pub identifiers : t.identifiers ≡ identifiers_of tokens

-- what linking takes of the text stands behind what it takes of others
pub record IsTypedNext (target : Target) (roles : Roles) (text : List ℕ) (old new : List Text) : Type 0 where
  pub unit : Text
  pub typed : IsTypedText target roles text unit
  pub behind : new ≡ old ++ unit ∷ []

-- the texts are this program, with the target and the roles
pub record Reads (texts : List (List ℕ)) (target : Target) (roles : Roles) (p : Program) : Type 0 where
  pub units : List Text
  pub typed : AllZip (IsTypedText target roles) texts units
  pub linked : Links units target roles p

-- a sentence has no greatest height, but a text is read only where its sentence is no higher than this
abbrev pub IsLow : List ℕ → Type 0
IsLow text = (tokens : List Token) (tree : UnitTree) → Tokens text tokens → IsSentence tokens tree → unit_height tree ≤ greatest_height
