-- What is known at a point, and what flows there: when the one has all of the other, and what they are together.
use Rattle.std.specs.Prelude.{◌≡◌, ◌⊎◌, ◌<◌, ◌≤◌, ◌+◌, ◌*◌, ℕ, true, All, length, Option, Some, None, IfSome, slice_get, slice_set}
use Rattle.cc_state_facts.specs.declared.facts.Facts.{Facts}
use Rattle.cc_state_facts.specs.declared.facts.PointFact.{PointFact}
use Rattle.cc_state_facts.specs.declared.facts.Row.{Row}
use Rattle.cc_state_facts.specs.Facts.{row_length, fact_at}
pub use Rattle.cc_state_facts.specs.Orders.{is_same, AreRowsAlike, ArePointsAlike, AreRowsBelow, IsPointBelow, IsJoin, IsRowJoin, IsPointJoin}

module _ {I : Type 0} where
  -- a fact of so many registers and tracked cells: rows of 16 at the most, and pairs of these alone
  pub record IsFactOf (registers cells : ℕ) (x : PointFact I) : Type 0 where
    pub each : length x.locals ≡ registers
    pub within : (n i : ℕ) (row : Row I) → slice_get x.rows n ≡ Some row → i < length row.cells → (i < row_length) × (row_length * n + i < cells)
    pub between : All (λ pair. (pair.0 < registers) × (pair.1 < cells)) x.same

  -- rows of 16 at the most, and the flag may be one way or the other
  pub record IsWellFormed (x : PointFact I) : Type 0 where
    pub within : (n : ℕ) (row : Row I) → slice_get x.rows n ≡ Some row → length row.cells ≤ row_length
    pub flag : (x.off ≡ true) ⊎ (x.on ≡ true)

  -- so is each point that is reached
  abbrev pub AreWellFormed : Facts I → Type 0
  AreWellFormed facts = (n : ℕ) → IfSome (fact_at facts n) IsWellFormed

  module _ (below : I → I → Type 0) where
    -- a point has what flows there
    abbrev pub HasFlow : PointFact I → Option (PointFact I) → Type 0
    HasFlow flow None = ⊥
    HasFlow flow (Some fact) = IsPointBelow below flow fact

    -- and what it has with that; a point that was not reached has just that
    abbrev pub IsWithFlow : Option (PointFact I) → PointFact I → PointFact I → Type 0
    IsWithFlow None flow both = both ≡ flow
    IsWithFlow (Some fact) flow both = IsPointJoin below fact flow both

    -- facts in which one point has risen so
    pub record IsRaisedAt (f : Facts I) (point : ℕ) (flow : PointFact I) (g : Facts I) : Type 0 where
      pub both : PointFact I
      pub risen : IsWithFlow (fact_at f point) flow both
      pub is : g ≡ record f { at = slice_set f.at point (Some both) }
