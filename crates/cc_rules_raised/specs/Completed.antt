-- What flows to a point of a function, with an empty set for each register of which it tells nothing; and what is known at a point, with
-- another set of a cell, or without a pair.
use Rattle.std.specs.Prelude.{◌≡◌, ◌/◌, ◌%◌, ℕ, Bool, not, ◌&&◌, nat_eq, List, length, Option, Some, None, slice_get, slice_set}
use Rattle.std.specs.List.{filter}
use Rattle.cc_rules_asked.specs.CcPlaces.declared.abs.Abs.{Abs}
use Rattle.cc_program.specs.declared.func.Func.{Func}
use Rattle.cc_program.specs.declared.program.Program.{Program}
use Rattle.cc_rules_asked.specs.CcRulesFlows.Nexts.{IsPoint}
use Rattle.cc_rules_asked.specs.CcFlow.declared.types.Point.{Point}
use Rattle.cc_rules_grow.specs.CcState.Shape.{IsRegisterType}
use Rattle.cc_rules_asked.specs.CcStateFacts.declared.facts.PointFact.{PointFact}
use Rattle.cc_rules_asked.specs.CcStateFacts.declared.facts.Row.{Row}
use Rattle.cc_rules_asked.specs.CcStateFacts.Facts.{row_length}
use Rattle.cc_rules_asked.specs.CcStateKeys.Tracked.{registers}
use Rattle.cc_rules_asked.specs.CcStateOperators.Domains.{Domain}
use Rattle.cc_rules_asked.specs.CcStateReads.Reads.{is_pointer}
use Rattle.cc_state_shape.specs.Empty.{IsNone}
use Rattle.cc_rules_asked.specs.CcSyntax.Values.{ValueType}

module _ {I : Type 0} (d : Domain I) (p : Program) where
  -- of the registers of a function, whether each holds addresses
  pub record AreKinds (f : Func) (kinds : List Bool) : Type 0 where
    pub each : length kinds ≡ length (registers f)
    pub kind : (r : ℕ) (t : ValueType) → IsRegisterType d p f r t → slice_get kinds r ≡ Some (is_pointer t)

  abbrev pub AreKindsAt : ℕ → List Bool → Type 0
  AreKindsAt n kinds = (id : ℕ) (f : Func) (point : Point) → IsPoint p n id f point → AreKinds f kinds

  pub record IsCompleted (f : Func) (flow made : PointFact I) : Type 0 where
    pub is : made ≡ record flow { locals = made.locals }
    pub each : length made.locals ≡ length (registers f)
    pub told : (r : ℕ) (y : Abs I) → slice_get flow.locals r ≡ Some y → slice_get made.locals r ≡ Some y
    pub others : (r : ℕ) (t : ValueType) → slice_get flow.locals r ≡ None → IsRegisterType d p f r t → (y : Abs I) × (slice_get made.locals r ≡ Some y) × IsNone d.has (is_pointer t) y

-- ---- changes

abbrev pub row_with : {I : Type 0} → Row I → ℕ → Abs I → Row I
row_with row i y = record { cells = slice_set row.cells i y }

abbrev pub rows_with : {I : Type 0} → List (Row I) → ℕ → Abs I → Option (Row I) → List (Row I)
rows_with rows j y None = rows
rows_with rows j y (Some row) = slice_set rows (j / row_length) (row_with row (j % row_length) y)

abbrev pub fact_with_cell : {I : Type 0} → PointFact I → ℕ → Abs I → PointFact I
fact_with_cell fact j y = record fact { rows = rows_with fact.rows j y (slice_get fact.rows (j / row_length)) }

abbrev pub is_other_pair : ℕ → ℕ → ℕ × ℕ → Bool
is_other_pair r j pair = not (nat_eq pair.0 r && nat_eq pair.1 j)

abbrev pub fact_apart : {I : Type 0} → PointFact I → ℕ → ℕ → PointFact I
fact_apart fact r j = record fact { same = filter (is_other_pair r j) fact.same }
