-- Facts such as a memory of 64 bits holds: levels are bytes, and no set of addresses has more members than 64 bits count.
use Rattle.std.specs.Prelude.{◌≤◌, ℕ, All, length, Option, Some, None}
use Rattle.cc_state_reads.specs.CcPlaces.declared.abs.Abs.{Abs}
use Rattle.cc_state_reads.specs.CcPlaces.declared.abs.Abs.TheVariants as abs
use Rattle.cc_state_reads.specs.CcStateFacts.declared.facts.Facts.{Facts}
use Rattle.cc_state_reads.specs.CcStateFacts.declared.facts.PointFact.{PointFact}
use Rattle.cc_state_reads.specs.CcStateFacts.declared.facts.Row.{Row}
use Rattle.cc_state_room.specs.Small.{IsByte}

-- the greatest number of 64 bits
abbrev pub most_members : ℕ
most_members = 18446744073709551615

module _ {I : Type 0} where
  abbrev pub IsHeldSet : Abs I → Type 0
  IsHeldSet (abs.Ints x) = Unit {0}
  IsHeldSet (abs.Addrs s) = length s.members ≤ most_members

  abbrev pub IsHeldRow : Row I → Type 0
  IsHeldRow row = All IsHeldSet row.cells

  pub record IsHeldPoint (fact : PointFact I) : Type 0 where
    pub locals : All IsHeldSet fact.locals
    pub rows : All IsHeldRow fact.rows

  abbrev pub IsHeldKnown : Option (PointFact I) → Type 0
  IsHeldKnown None = Unit {0}
  IsHeldKnown (Some fact) = IsHeldPoint fact

  pub record HaveLevels (facts : Facts I) : Type 0 where
    pub levels : All IsByte facts.levels
    pub from : All IsByte facts.from
    pub read_levels : All IsByte facts.read_levels
    pub write_levels : All IsByte facts.write_levels

  pub record AreHeld (facts : Facts I) : Type 0 where
    pub whole : All IsHeldSet facts.whole
    pub results : All IsHeldSet facts.results
    pub levels : HaveLevels facts
    pub at : All IsHeldKnown facts.at
