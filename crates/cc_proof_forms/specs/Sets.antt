-- What operands may be at points, as sets.
use Rattle.std.specs.Prelude.{ℕ, ℤ, Option, Some, None}
use Rattle.cc_flow_sound.specs.CcEval.declared.spots.Spot.{Spot}
use Rattle.cc_program.specs.declared.expr.Expr.{Expr}
use Rattle.cc_program.specs.declared.expr.Place.{Place}
use Rattle.cc_program.specs.declared.value.Value.{Value}

pub record OperandSets : Type 1 where
  -- at a point: the good values of an expression, and where a place may lead
  pub holds : ℕ → Expr → Value → Type 0
  pub leads : ℕ → Place → Option Spot → Type 0
  -- the test at a point may have an outcome (of `if` 0 or 1, of `switch` the number that it chooses by); and it may have it with a register at
  -- a member of its set, the others being in theirs
  pub passes : ℕ → ℤ → Type 0
  pub passes_with : ℕ → ℕ → Value → ℤ → Type 0

-- by their parts
abbrev pub sets_of : (ℕ → Expr → Value → Type 0) → (ℕ → Place → Option Spot → Type 0) → (ℕ → ℤ → Type 0) → (ℕ → ℕ → Value → ℤ → Type 0) → OperandSets
sets_of holds leads passes passes_with = record { holds = holds; leads = leads; passes = passes; passes_with = passes_with }

-- a value that is good has this property
abbrev pub Good : (Value → Type 0) → Option Value → Type 0
Good P None = Unit {0}
Good P (Some w) = P w
