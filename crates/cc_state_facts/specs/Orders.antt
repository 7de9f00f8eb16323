-- Facts part by part: when they are of one kind, when the one are below the other, and what both are together.
use Rattle.std.specs.Prelude.{◌≡◌, ◌⊎◌, ◌<◌, ℕ, Bool, true, ◌||◌, bit_or, List, [], ◌∷◌, length, Option, Some, None}
use Rattle.std.specs.List.{AllByRecursion, AllZip, filter, list_all}
use Rattle.cc_lattice.specs.Orders.{IsLeastUpperBound}
use Rattle.cc_lattice.specs.Tables.{AreJoins}
use Rattle.cc_places.specs.declared.abs.Abs.{Abs}
use Rattle.cc_places.specs.Abstract.{AreOfOneKind, IsBelowAbs}
use Rattle.cc_state_facts.specs.declared.facts.Facts.{Facts}
use Rattle.cc_state_facts.specs.declared.facts.PointFact.{PointFact}
use Rattle.cc_state_facts.specs.declared.facts.Row.{Row}
use Rattle.cc_state_facts.specs.Facts.{has_pair}
use Rattle.cc_state_facts.specs.Levels.{AreLevelsWithin}

-- by the register, then by the cell
abbrev pub IsBefore : ℕ × ℕ → ℕ × ℕ → Type 0
IsBefore a b = (a.0 < b.0) ⊎ ((a.0 ≡ b.0) × (a.1 < b.1))

-- each before all later ones
abbrev pub Ascend : List (ℕ × ℕ) → Type 0
Ascend [] = Unit {0}
Ascend (pair ∷ pairs) = AllByRecursion (IsBefore pair) pairs × Ascend pairs

abbrev pub AreOrderly : {I : Type 0} → PointFact I → Type 0
AreOrderly fact = Ascend fact.same

abbrev pub is_same : {I : Type 0} → PointFact I → ℕ × ℕ → Bool
is_same fact pair = has_pair fact pair.0 pair.1

-- ---- marks, and sets of levels

abbrev pub IsMarkBelow : Bool → Bool → Type 0
IsMarkBelow a b = a ≡ true → b ≡ true

abbrev pub AreMarksBelow : List Bool → List Bool → Type 0
AreMarksBelow x y = AllZip IsMarkBelow x y

abbrev pub IsMarkJoin : Bool → Bool → Bool → Type 0
IsMarkJoin a b c = c ≡ (a || b)

abbrev pub AreLevelSetsBelow : List ℕ → List ℕ → Type 0
AreLevelSetsBelow x y = AllZip AreLevelsWithin x y

abbrev pub IsLevelJoin : ℕ → ℕ → ℕ → Type 0
IsLevelJoin x y z = z ≡ bit_or x y

-- ---- of one kind

module _ {I : Type 0} where
  abbrev pub AreRowsAlike : Row I → Row I → Type 0
  AreRowsAlike x y = AllZip AreOfOneKind x.cells y.cells

  -- as many registers and tracked cells, each with values of one kind
  pub record ArePointsAlike (x y : PointFact I) : Type 0 where
    pub locals : AllZip AreOfOneKind x.locals y.locals
    pub rows : AllZip AreRowsAlike x.rows y.rows

  -- where both are reached; the pairs of each point ascend
  abbrev pub AreKnownAlike : Option (PointFact I) → Option (PointFact I) → Type 0
  AreKnownAlike None None = Unit {0}
  AreKnownAlike None (Some y) = AreOrderly y
  AreKnownAlike (Some x) None = AreOrderly x
  AreKnownAlike (Some x) (Some y) = ArePointsAlike x y × AreOrderly x × AreOrderly y

  -- the same keys, and as many of all; at each place of one kind
  pub record AreAlike (x y : Facts I) : Type 0 where
    pub keys : x.keys ≡ y.keys
    pub whole : AllZip AreOfOneKind x.whole y.whole
    pub results : AllZip AreOfOneKind x.results y.results
    pub by_main : length x.by_main ≡ length y.by_main
    pub by_handler : length x.by_handler ≡ length y.by_handler
    pub levels : length x.levels ≡ length y.levels
    pub from : length x.from ≡ length y.from
    pub handler_reads : length x.handler_reads ≡ length y.handler_reads
    pub handler_writes : length x.handler_writes ≡ length y.handler_writes
    pub read_levels : length x.read_levels ≡ length y.read_levels
    pub write_levels : length x.write_levels ≡ length y.write_levels
    pub at : AllZip AreKnownAlike x.at y.at

  -- ---- the order, over that of a domain

  module _ (below : I → I → Type 0) where
    abbrev pub AreSetsBelow : List (Abs I) → List (Abs I) → Type 0
    AreSetsBelow x y = AllZip (IsBelowAbs below) x y

    abbrev pub AreRowsBelow : Row I → Row I → Type 0
    AreRowsBelow x y = AreSetsBelow x.cells y.cells

    -- each set and flag is, and there are at least the other's pairs
    pub record IsPointBelow (x y : PointFact I) : Type 0 where
      pub off : x.off ≡ true → y.off ≡ true
      pub on : x.on ≡ true → y.on ≡ true
      pub locals : AreSetsBelow x.locals y.locals
      pub rows : AllZip AreRowsBelow x.rows y.rows
      pub same : list_all (is_same x) y.same ≡ true

    -- a point that is not reached is below each other one
    abbrev pub IsKnownBelow : Option (PointFact I) → Option (PointFact I) → Type 0
    IsKnownBelow None y = Unit {0}
    IsKnownBelow (Some x) None = ⊥
    IsKnownBelow (Some x) (Some y) = IsPointBelow x y

    -- each set, mark, set of levels and point is
    pub record IsBelow (x y : Facts I) : Type 0 where
      pub whole : AreSetsBelow x.whole y.whole
      pub results : AreSetsBelow x.results y.results
      pub by_main : AreMarksBelow x.by_main y.by_main
      pub by_handler : AreMarksBelow x.by_handler y.by_handler
      pub levels : AreLevelSetsBelow x.levels y.levels
      pub from : AreLevelSetsBelow x.from y.from
      pub handler_reads : AreMarksBelow x.handler_reads y.handler_reads
      pub handler_writes : AreMarksBelow x.handler_writes y.handler_writes
      pub read_levels : AreLevelSetsBelow x.read_levels y.read_levels
      pub write_levels : AreLevelSetsBelow x.write_levels y.write_levels
      pub at : AllZip IsKnownBelow x.at y.at

    -- ---- joins, place by place

    abbrev pub IsJoin : Abs I → Abs I → Abs I → Type 0
    IsJoin x y z = IsLeastUpperBound AreOfOneKind (IsBelowAbs below) x y z

    abbrev pub AreSetJoins : List (Abs I) → List (Abs I) → List (Abs I) → Type 0
    AreSetJoins x y z = AreJoins IsJoin x y z

    abbrev pub IsRowJoin : Row I → Row I → Row I → Type 0
    IsRowJoin x y z = AreSetJoins x.cells y.cells z.cells

    -- flags and sets together, and the pairs that both have
    pub record IsPointJoin (x y z : PointFact I) : Type 0 where
      pub off : z.off ≡ (x.off || y.off)
      pub on : z.on ≡ (x.on || y.on)
      pub locals : AreSetJoins x.locals y.locals z.locals
      pub rows : AreJoins IsRowJoin x.rows y.rows z.rows
      pub same : z.same ≡ filter (is_same y) x.same

    abbrev pub IsKnownJoin : Option (PointFact I) → Option (PointFact I) → Option (PointFact I) → Type 0
    IsKnownJoin None y z = z ≡ y
    IsKnownJoin (Some x) None z = z ≡ Some x
    IsKnownJoin (Some x) (Some y) None = ⊥
    IsKnownJoin (Some x) (Some y) (Some z) = IsPointJoin x y z

    -- the same keys, and each other part is the two parts together
    pub record AreJoined (x y z : Facts I) : Type 0 where
      pub keys : z.keys ≡ x.keys
      pub whole : AreSetJoins x.whole y.whole z.whole
      pub results : AreSetJoins x.results y.results z.results
      pub by_main : AreJoins IsMarkJoin x.by_main y.by_main z.by_main
      pub by_handler : AreJoins IsMarkJoin x.by_handler y.by_handler z.by_handler
      pub levels : AreJoins IsLevelJoin x.levels y.levels z.levels
      pub from : AreJoins IsLevelJoin x.from y.from z.from
      pub handler_reads : AreJoins IsMarkJoin x.handler_reads y.handler_reads z.handler_reads
      pub handler_writes : AreJoins IsMarkJoin x.handler_writes y.handler_writes z.handler_writes
      pub read_levels : AreJoins IsLevelJoin x.read_levels y.read_levels z.read_levels
      pub write_levels : AreJoins IsLevelJoin x.write_levels y.write_levels z.write_levels
      pub at : AreJoins IsKnownJoin x.at y.at z.at
