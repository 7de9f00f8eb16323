-- The parts of the shape of facts, one by one.
use Rattle.std.specs.Prelude.{◌≡◌, ◌⊎◌, ◌<◌, ◌+◌, ℕ, Bool, true, false, List, length, Option, Some, None, slice_get}
use Rattle.std.specs.List.{AllPairs, Contains, flat_map}
use Rattle.cc_state_reads.specs.CcFlow.declared.types.Point.{Point}
use Rattle.cc_state_reads.specs.CcFlow.Points.{count_of, flow_of}
use Rattle.cc_state_reads.specs.CcPlaces.declared.abs.Abs.{Abs}
use Rattle.cc_program.specs.declared.func.Func.{Func}
use Rattle.cc_program.specs.declared.program.Program.{Program}
use Rattle.cc_program.specs.declared.types.CType.{CType}
use Rattle.cc_state.specs.Shape.{IsCellType, IsSetIn, AreSets, AreRows, IsRegisterType, IsTrackedType, IsPointFact, IsKeyType, IsResultType}
use Rattle.cc_state_reads.specs.CcStateFacts.declared.facts.Facts.{Facts}
use Rattle.cc_state_reads.specs.CcStateFacts.declared.facts.PointFact.{PointFact}
use Rattle.cc_state_reads.specs.CcStateFacts.declared.facts.Row.{Row}
use Rattle.cc_state_reads.specs.CcStateFacts.Facts.{row_length, cell_of, local_of, mark_of, levels_of}
use Rattle.cc_state_reads.specs.CcStateFacts.Orders.{IsBefore}
use Rattle.cc_state_reads.specs.CcStateKeys.Keys.{keys_of}
use Rattle.cc_state_reads.specs.CcStateKeys.Tracked.{registers, tracked}
use Rattle.cc_state_reads.specs.CcStateOperators.Domains.{Domain}
use Rattle.cc_state_reads.specs.CcSyntax.Values.{ValueType}

-- the type of what the cells of a declared type hold, or none where they hold no scalars
abbrev pub IsFoundCellType : CType → Option ValueType → Type 0
IsFoundCellType t None = (u : ValueType) → IsCellType t u → ⊥
IsFoundCellType t (Some u) = IsCellType t u

module _ {I : Type 0} (d : Domain I) (p : Program) where
  -- a set of values of the type that something is of
  abbrev pub IsSetOf : (ValueType → Type 0) → Abs I → Type 0
  IsSetOf IsType y = (t : ValueType) × IsType t × IsSetIn p d t y

  -- the same of the set at a place, which is there
  abbrev pub IsSetAt : (ℕ → Option (Abs I)) → (ℕ → ValueType → Type 0) → ℕ → Type 0
  IsSetAt get IsType n = (t : ValueType) × (y : Abs I) × (IsType n t × (get n ≡ Some y) × IsSetIn p d t y)

  -- ---- what is known at points

  -- as many sets as registers, each of values of its register's type
  abbrev pub HaveLocals : Func → PointFact I → Type 0
  HaveLocals f fact = (length fact.locals ≡ length (registers f)) × AreSets d p (length (registers f)) (local_of fact) (IsRegisterType d p f)

  -- rows of as many sets as tracked cells, each of values of its cell's type
  abbrev pub HaveCells : PointFact I → Type 0
  HaveCells fact = AreRows d p (length (tracked p)) fact.rows × AreSets d p (length (tracked p)) (cell_of fact) (IsTrackedType d p)

  -- of the shape of a function by its id, where there is one
  abbrev pub IsFactIn : ℕ → PointFact I → Type 0
  IsFactIn id fact = (f : Func) → slice_get p.funcs id ≡ Some f → IsPointFact d p f fact

  -- of that of the function of a point by its number, where there is one
  abbrev pub IsFactAt : ℕ → PointFact I → Type 0
  IsFactAt n fact = (point : Point) → slice_get (flow_of p).points n ≡ Some point → IsFactIn point.func fact

  abbrev pub IsKnownAt : ℕ → Option (PointFact I) → Type 0
  IsKnownAt n None = Unit {0}
  IsKnownAt n (Some fact) = IsFactAt n fact

  abbrev pub AreKnown : List (Option (PointFact I)) → Type 0
  AreKnown at = (n : ℕ) (fact : PointFact I) (point : Point) (f : Func) → slice_get at n ≡ Some (Some fact) → slice_get (flow_of p).points n ≡ Some point → slice_get p.funcs point.func ≡ Some f → IsPointFact d p f fact

  -- ---- of facts

  -- as many sets as keys, and as functions, each of values of its type
  abbrev pub HaveKeySets : Facts I → Type 0
  HaveKeySets facts = (length facts.whole ≡ length (keys_of p)) × AreSets d p (length (keys_of p)) (slice_get facts.whole) (IsKeyType d p)

  abbrev pub HaveResultSets : Facts I → Type 0
  HaveResultSets facts = (length facts.results ≡ length p.funcs) × AreSets d p (length p.funcs) (slice_get facts.results) (IsResultType d p)

  -- a place for each point, and what is known there of its shape
  abbrev pub HavePoints : Facts I → Type 0
  HavePoints facts = (length facts.at ≡ count_of p) × AreKnown facts.at

-- of the first so many registers and tracked cells
abbrev pub IsWithin : ℕ → ℕ → ℕ × ℕ → Type 0
IsWithin registers cells pair = (pair.0 < registers) × (pair.1 < cells)

module _ {I : Type 0} (fact : PointFact I) where
  -- the flag may be one way or the other
  abbrev pub IsFlagged : Type 0
  IsFlagged = (fact.off ≡ true) ⊎ (fact.on ≡ true)

  -- pairs of the first so many registers and tracked cells, in order
  abbrev pub HavePairs : ℕ → ℕ → Type 0
  HavePairs registers cells = ((pair : ℕ × ℕ) → Contains fact.same pair → IsWithin registers cells pair) × AllPairs IsBefore fact.same

-- ---- rows

module _ {I : Type 0} where
  -- a row is not empty, and where it is not the last it has 16 cells
  abbrev pub IsFilled : Row I → Bool → Type 0
  IsFilled row is_last = (0 < length row.cells) × (is_last ≡ false → length row.cells ≡ row_length)

  -- each row is not empty, and each with a next one has 16 cells
  abbrev pub AreFilled : List (Row I) → Type 0
  AreFilled rows =
      ((n : ℕ) (row : Row I) → slice_get rows n ≡ Some row → 0 < length row.cells) ×
      ((n : ℕ) (row next : Row I) → slice_get rows n ≡ Some row → slice_get rows (n + 1) ≡ Some next → length row.cells ≡ row_length)

  abbrev pub cells_in : Row I → ℕ
  cells_in row = length row.cells

  -- how many cells rows have
  abbrev pub cell_count : List (Row I) → ℕ
  cell_count rows = length (flat_map (λ (row : Row I). row.cells) rows)

-- ---- lengths, marks and levels

-- a set of levels is empty where neither mark is set
abbrev pub IsMarkedAt : List Bool → List Bool → ℕ → ℕ → Type 0
IsMarkedAt first second n set = mark_of first n ≡ false → mark_of second n ≡ false → set ≡ 0

abbrev pub AreMarked : List Bool → List Bool → List ℕ → Type 0
AreMarked first second levels = (n : ℕ) → IsMarkedAt first second n (levels_of levels n)

module _ {I : Type 0} (facts : Facts I) where
  -- so much by function
  abbrev pub AreByFunction : ℕ → Type 0
  AreByFunction count = (length facts.by_main ≡ count) × (length facts.by_handler ≡ count) × (length facts.levels ≡ count) × (length facts.from ≡ count)

  -- and by key
  abbrev pub AreByKey : ℕ → Type 0
  AreByKey count = (length facts.handler_reads ≡ count) × (length facts.handler_writes ≡ count) × (length facts.read_levels ≡ count) × (length facts.write_levels ≡ count)

  -- what is marked alone has levels
  abbrev pub HaveMarks : Type 0
  HaveMarks =
      AreMarked facts.by_main facts.by_handler facts.levels × AreMarked facts.by_main facts.by_handler facts.from ×
      AreMarked facts.handler_reads facts.handler_writes facts.read_levels × AreMarked facts.handler_reads facts.handler_writes facts.write_levels
