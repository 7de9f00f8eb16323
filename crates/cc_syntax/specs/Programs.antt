-- A program's types, statements and first values: those over the view that it is.
use Rattle.std.specs.Prelude.{ℕ, Bool, List, Option}
use Rattle.cc_program.specs.declared.expr.Expr.{Expr}
use Rattle.cc_program.specs.declared.expr.Expr.TheOpen as one
use Rattle.cc_program.specs.declared.expr.Place.{Place}
use Rattle.cc_program.specs.declared.func.Func.{Func}
use Rattle.cc_program.specs.declared.program.Program.{Program}
use Rattle.cc_program.specs.declared.stmt.Stmt.{Stmt}
use Rattle.cc_program.specs.declared.stmt.Stmt.TheOpen as is
use Rattle.cc_program.specs.declared.types.CType.{CType}
use Rattle.cc_program.specs.declared.types.Sig.{out-Sig}
use Rattle.cc_program.specs.declared.value.Address.{Address}
use Rattle.cc_program.specs.declared.value.Leaf.{Leaf}
use Rattle.cc_program.specs.declared.value.Root.{Root}
use Rattle.cc_syntax.specs.Expressions as typing
use Rattle.cc_syntax.specs.Initial as values
use Rattle.cc_syntax.specs.Kinds.{Kind}
use Rattle.cc_syntax.specs.Statements as statements
use Rattle.cc_syntax.specs.Statements.{SoundWhere, Labelled}
use Rattle.cc_syntax.specs.Types.{Named}
use Rattle.cc_syntax.specs.Values.{ValueType, PlaceType}
use Rattle.cc_syntax.specs.Views as views
use Rattle.cc_syntax.specs.Views.{of_program}

module _ (p : Program) where
  -- the kind of a type, where it may stand in the program
  abbrev pub kind_in : CType → Option Kind
  kind_in t = views.kind_in (of_program p) t

  abbrev pub pointer_type : CType → Option ValueType
  pointer_type t = typing.pointer_type (of_program p) t

  abbrev pub null_type : CType → Option ValueType
  null_type t = typing.null_type (of_program p) t

  abbrev pub qualified_type : CType → ValueType → Option ValueType
  qualified_type t a = typing.qualified_type (of_program p) t a

  -- in a function with these locals
  module _ (locals : List Named) where
    abbrev pub expr_step : one.Expr-F (Option ValueType) (Option PlaceType) → Option ValueType
    expr_step x = typing.expr_step (of_program p) locals x

    abbrev pub place_step : one.Place-F (Option ValueType) (Option PlaceType) → Option PlaceType
    place_step x = typing.place_step (of_program p) locals x

    abbrev pub type_of : Expr → Option ValueType
    type_of e = typing.type_of (of_program p) locals e

    abbrev pub place_type : Place → Option PlaceType
    place_type a = typing.place_type (of_program p) locals a

  -- statements of a function
  module _ (f : Func) where
    abbrev pub typed : Expr → Option ValueType
    typed e = type_of f.locals e

    abbrev pub is_typed : Option Expr → Bool
    is_typed e = statements.is_typed p.target typed (out-Sig f.sig).result e

    abbrev pub is_optional_condition : Option Expr → Bool
    is_optional_condition e = statements.is_optional_condition p.target typed (out-Sig f.sig).result e

    abbrev pub returns : Option Expr → Bool
    returns e = statements.returns p.target typed (out-Sig f.sig).result e

    abbrev pub sound_step : is.Stmt-F SoundWhere Labelled → SoundWhere
    sound_step x = statements.sound_step p.target typed (out-Sig f.sig).result x

    abbrev pub is_sound_stmt : Stmt → SoundWhere
    is_sound_stmt s = statements.is_sound_stmt p.target typed (out-Sig f.sig).result s

    abbrev pub is_sound_body : List Stmt → Bool
    is_sound_body body = statements.is_sound_body p.target typed (out-Sig f.sig).result body

  -- first values
  abbrev pub static_place : Root → Option PlaceType
  static_place root = values.static_place (of_program p) root

  abbrev pub is_address : ValueType → Address → Bool
  is_address to a = values.is_address (of_program p) to a

  abbrev pub AreLeaves : CType → List Leaf → List Leaf → Type 0
  AreLeaves t leaves rest = values.AreLeaves (of_program p) t leaves rest

  abbrev pub AreElements : CType → ℕ → List Leaf → List Leaf → Type 0
  AreElements of n leaves rest = values.AreElements (of_program p) of n leaves rest

  abbrev pub AreMembers : List Named → List Leaf → List Leaf → Type 0
  AreMembers ms leaves rest = values.AreMembers (of_program p) ms leaves rest

  abbrev pub IsInitial : CType → List Leaf → Type 0
  IsInitial t leaves = values.IsInitial (of_program p) t leaves
