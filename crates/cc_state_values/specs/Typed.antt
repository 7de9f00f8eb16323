-- Pure expressions with a value, and sets of the registers of a function, each of values of its type.
use Rattle.std.specs.Prelude.{◌≡◌, ℕ, true, Option, Some, slice_get}
use Rattle.cc_state_operators.specs.CcPlaces.declared.abs.Abs.{Abs}
use Rattle.cc_program.specs.declared.expr.Expr.{Expr}
use Rattle.cc_program.specs.declared.expr.Place.{Place}
use Rattle.cc_program.specs.declared.func.Func.{Func}
use Rattle.cc_program.specs.declared.program.Program.{Program}
use Rattle.cc_state_operators.specs.Domains.{Domain}
use Rattle.cc_state_operators.specs.Types.{AreOf}
use Rattle.cc_state_values.specs.Values.{IsVal}
use Rattle.cc_state_operators.specs.CcSyntax.Effects.{no_one, effects_of, place_effects_of}
use Rattle.cc_state_operators.specs.CcSyntax.Programs.{type_of, place_type}
use Rattle.cc_state_operators.specs.CcSyntax.Registers.{is_register}
use Rattle.cc_state_operators.specs.CcSyntax.Types.{Named}
use Rattle.cc_state_operators.specs.CcSyntax.Values.{ValueType, PlaceType, is_scalar, scalar_value}

-- a pure expression, nothing behind which assigns a register, with a value
pub record IsPure (p : Program) (f : Func) (e : Expr) : Type 0 where
  pub pure : (effects_of f e).pure no_one ≡ true
  pub typed : (t : ValueType) × (type_of p f.locals e ≡ Some t) × (is_scalar t ≡ true)

-- a place, the operands in which are pure
pub record IsPurePlace (p : Program) (f : Func) (a : Place) : Type 0 where
  pub pure : (place_effects_of f a).pure no_one ≡ true
  pub typed : (t : PlaceType) × (place_type p f.locals a ≡ Some t)

module _ {I : Type 0} (d : Domain I) (p : Program) (id : ℕ) (f : Func) (register : ℕ → Option (Abs I)) where
  -- a register has a set of values of its type
  pub record HasSet (r : ℕ) : Type 0 where
    pub local : Named
    pub type : ValueType
    pub set : Abs I
    pub is_local : slice_get f.locals r ≡ Some local
    pub is_type : scalar_value local.1 ≡ Some type
    pub is_set : register r ≡ Some set
    pub of_type : AreOf d p.target type set

  -- each register
  abbrev pub HaveSets : Type 0
  HaveSets = (r : ℕ) → is_register f r ≡ true → HasSet r

  -- what an expression may give, each a value of its type
  pub record IsKnown (e : Expr) (y : Abs I) : Type 0 where
    pub value : IsVal d p id f register e y
    pub of_type : (t : ValueType) → type_of p f.locals e ≡ Some t → AreOf d p.target t y
