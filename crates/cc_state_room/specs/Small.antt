-- Facts that are small enough for their room to be counted in 128 bits.
use Rattle.std.specs.Prelude.{◌≡◌, ◌≤◌, ℕ, ◌^◌, false, All, length, Option, Some, None}
use Rattle.cc_places.specs.declared.abs.Abs.{Abs}
use Rattle.cc_places.specs.declared.abs.Abs.TheVariants as abs
use Rattle.cc_state_facts.specs.declared.facts.Facts.{Facts}
use Rattle.cc_state_facts.specs.declared.facts.PointFact.{PointFact}
use Rattle.cc_state_facts.specs.declared.facts.Row.{Row}
use Rattle.cc_state_facts.specs.Facts.{row_length}

-- levels from 0 to 7
abbrev pub IsByte : ℕ → Type 0
IsByte levels = levels ≤ 255

module _ {I : Type 0} (most : ℕ) where
  -- a set of addresses that is not exact has at most so many members
  abbrev pub HasFew : Abs I → Type 0
  HasFew (abs.Ints x) = Unit {0}
  HasFew (abs.Addrs s) = s.is_exact ≡ false → length s.members ≤ most

  pub record IsSmallRow (row : Row I) : Type 0 where
    pub short : length row.cells ≤ row_length
    pub cells : All HasFew row.cells

  pub record IsSmallPoint (fact : PointFact I) : Type 0 where
    pub few_locals : length fact.locals ≤ 2 ^ 22
    pub locals : All HasFew fact.locals
    pub few_rows : length fact.rows ≤ 2 ^ 22
    pub rows : All IsSmallRow fact.rows
    pub few_pairs : length fact.same ≤ 2 ^ 40

  abbrev pub IsSmallKnown : Option (PointFact I) → Type 0
  IsSmallKnown None = Unit {0}
  IsSmallKnown (Some fact) = IsSmallPoint fact

  pub record AreSmall (facts : Facts I) : Type 0 where
    pub few_keys : length facts.whole ≤ 2 ^ 32
    pub whole : All HasFew facts.whole
    pub few_functions : length facts.results ≤ 2 ^ 32
    pub results : All HasFew facts.results
    pub levels : All IsByte facts.levels
    pub from : All IsByte facts.from
    pub read_levels : All IsByte facts.read_levels
    pub write_levels : All IsByte facts.write_levels
    pub few_points : length facts.at ≤ 2 ^ 16
    pub at : All IsSmallKnown facts.at
