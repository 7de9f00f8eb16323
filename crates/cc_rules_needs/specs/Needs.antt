-- What constraints ask: that slots of the facts have at least some parts. With each part, what is had and what is needed can be told.
use Rattle.std.specs.Prelude.{◌≡◌, ℕ, Bool, true, false, not, List, Option, Some, None, slice_get, take, All}
use Rattle.cc_places.specs.declared.abs.Abs.{Abs}
use Rattle.cc_places.specs.Abstract.{IsBelowAbs}
pub use Rattle.cc_rules_needs.specs.declared.needs.Part.{Part}
pub use Rattle.cc_rules_needs.specs.declared.needs.Part.TheVariants.{Mark, LevelSet, Flags, Values}
pub use Rattle.cc_rules_needs.specs.declared.needs.Slot.{Slot}
pub use Rattle.cc_rules_needs.specs.declared.needs.Slot.TheVariants.{Whole, HandlerReads, HandlerWrites, ReadLevels, WriteLevels, Result, ByMain, ByHandler, Levels, From, Flag, LocalAt, CellAt, Apart}
use Rattle.cc_state_facts.specs.declared.facts.Facts.{Facts}
use Rattle.cc_state_facts.specs.declared.facts.PointFact.{PointFact}
use Rattle.cc_state_facts.specs.Facts.{fact_at, cell_at, local_at, has_pair, mark_of, levels_of}
use Rattle.cc_state_facts.specs.Levels.{AreLevelsWithin}

abbrev pub Needs : Type 0 → Type 0
Needs I = List (Slot × Part I)

module _ {I : Type 0} where
  abbrev pub flags_in : Option (PointFact I) → Part I
  flags_in None = Flags false false
  flags_in (Some fact) = Flags fact.off fact.on

  -- at a point that is not reached, nothing is apart yet
  abbrev pub apart_in : Option (PointFact I) → ℕ → ℕ → Bool
  apart_in None r j = false
  apart_in (Some fact) r j = not (has_pair fact r j)

  -- what the facts have
  abbrev pub get : Slot → Facts I → Part I
  get (Whole k) facts = Values (slice_get facts.whole k)
  get (HandlerReads k) facts = Mark (mark_of facts.handler_reads k)
  get (HandlerWrites k) facts = Mark (mark_of facts.handler_writes k)
  get (ReadLevels k) facts = LevelSet (levels_of facts.read_levels k)
  get (WriteLevels k) facts = LevelSet (levels_of facts.write_levels k)
  get (Result g) facts = Values (slice_get facts.results g)
  get (ByMain g) facts = Mark (mark_of facts.by_main g)
  get (ByHandler g) facts = Mark (mark_of facts.by_handler g)
  get (Levels g) facts = LevelSet (levels_of facts.levels g)
  get (From g) facts = LevelSet (levels_of facts.from g)
  get (Flag n) facts = flags_in (fact_at facts n)
  get (LocalAt n r) facts = Values (local_at facts n r)
  get (CellAt n j) facts = Values (cell_at facts n j)
  get (Apart n r j) facts = Mark (apart_in (fact_at facts n) r j)

  -- by the order of a domain
  module _ (below : I → I → Type 0) where
    abbrev pub AreValuesBelow : Option (Abs I) → Option (Abs I) → Type 0
    AreValuesBelow None y = Unit {0}
    AreValuesBelow (Some x) None = ⊥
    AreValuesBelow (Some x) (Some y) = IsBelowAbs below x y

    abbrev pub IsBelowPart : Part I → Part I → Type 0
    IsBelowPart (Mark a) (Mark b) = a ≡ true → b ≡ true
    IsBelowPart (LevelSet x) (LevelSet y) = AreLevelsWithin x y
    IsBelowPart (Flags off on) (Flags off' on') = (off ≡ true → off' ≡ true) × (on ≡ true → on' ≡ true)
    IsBelowPart (Values x) (Values y) = AreValuesBelow x y
    IsBelowPart _ _ = ⊥

    -- facts have a part
    abbrev pub Has : Facts I → Slot × Part I → Type 0
    Has facts need = IsBelowPart need.1 (get need.0 facts)

    abbrev pub HasAll : Needs I → Facts I → Type 0
    HasAll needs facts = All (Has facts) needs

    -- the first that facts lack, behind those that they have
    pub record IsFirstLacking (needs : Needs I) (facts : Facts I) (k : ℕ) : Type 0 where
      pub need : Slot × Part I
      pub there : slice_get needs k ≡ Some need
      pub lacks : Has facts need → ⊥
      pub before : HasAll (take k needs) facts

    -- facts are below others where they have no more in any slot
    abbrev pub IsBelow : Facts I → Facts I → Type 0
    IsBelow f g = (slot : Slot) → IsBelowPart (get slot f) (get slot g)
