-- What facts say about all runs of their program.
use Rattle.std.specs.Prelude.{◌≡◌, ◌⊎◌, ◌<◌, ℕ, Bool, true, false, is_some, List, Option, Some, slice_get}
use Rattle.cc_state_reads.specs.CcEval.Progress.{no_value}
use Rattle.cc_flow_sound.specs.CcFlow.declared.types.Point.{Point}
use Rattle.cc_flow_sound.specs.CcFlow.Points.{flow_of}
use Rattle.cc_state_reads.specs.CcPlaces.declared.abs.Abs.{Abs}
use Rattle.cc_state_reads.specs.CcPlaces.Abstract.{HasValue}
use Rattle.cc_program.specs.declared.func.Func.{Func}
use Rattle.cc_program.specs.declared.program.Program.{Program}
use Rattle.cc_program.specs.declared.value.Part.{Part}
use Rattle.cc_program.specs.declared.value.Root.TheVariants as root
use Rattle.cc_program.specs.declared.value.Value.{Value}
use Rattle.cc_proof_covers.specs.Covers.{Lies as LiesIn}
use Rattle.cc_proof_covers.specs.Views.{View, view_of}
use Rattle.cc_state_reads.specs.CcStateFacts.declared.facts.Facts.{Facts}
use Rattle.cc_state_reads.specs.CcStateFacts.declared.facts.Key.{Key}
use Rattle.cc_state_reads.specs.CcStateFacts.declared.facts.Key.TheVariants as key
use Rattle.cc_state_reads.specs.CcStateFacts.declared.facts.PointFact.{PointFact}
use Rattle.cc_state_reads.specs.CcStateFacts.Facts.{fact_at, cell_of, local_of, may_be_in, has_pair, mark_of, levels_of}
use Rattle.cc_state_reads.specs.CcStateFacts.Levels.{has_level}
use Rattle.cc_state_reads.specs.CcStateKeys.Keys.{cell_key, key_number}
use Rattle.cc_state_reads.specs.CcStateKeys.Paths.{LeadsTo}
use Rattle.cc_state_reads.specs.CcStateKeys.Tracked.{register_number, tracked_number}
use Rattle.cc_state_reads.specs.CcStateOperators.Domains.{Domain}
use Rattle.cc_state_reads.specs.Reads.{whole_of}
use Rattle.cc_flow_sound.specs.CcSteps.State.{State}
use Rattle.cc_flow_sound.specs.CcSteps.Step.{gives_nothing}

-- the level, from 0 to 7, is in a set
abbrev pub IsLevelIn : ℕ → ℕ → Type 0
IsLevelIn set level = (level < 8) × (has_level set level ≡ true)

module _ {I : Type 0} (d : Domain I) (p : Program) (facts : Facts I) where
  -- the set is there, and has the value
  abbrev pub Has : Option (Abs I) → Value → Type 0
  Has y v = (x : Abs I) × (y ≡ Some x) × HasValue d.has x v

  -- the whole-run set of a key has it
  abbrev pub InWhole : Key → Value → Type 0
  InWhole k v = Has (whole_of p facts k) v

  -- a scalar of a static object, by the key of each path to its position, and one of a local
  abbrev pub StaticAt : ℕ → ℕ → Value → Type 0
  StaticAt i position v = (path : List Part) → LeadsTo p (root.Static i) path position → InWhole (cell_key p (root.Static i) path) v

  abbrev pub LocalOf : ℕ → ℕ → ℕ → Value → Type 0
  LocalOf g r position v = (number : ℕ) (path : List Part) → LeadsTo p (root.Auto number g r) path position → InWhole (cell_key p (root.Auto number g r) path) v

  -- a tracked object may be written from a level
  abbrev pub WrittenFrom : ℕ → ℕ → Type 0
  WrittenFrom i level = (k : ℕ) × (key_number p (key.Object i) ≡ Some k) × IsLevelIn (levels_of facts.write_levels k) level

  -- the levels of the handlers from which a function is reached, where it is reached from handlers
  abbrev pub ReachedFrom : ℕ → ℕ → Type 0
  ReachedFrom g level = (mark_of facts.by_handler g ≡ true) × IsLevelIn (levels_of facts.from g) level

  -- what a function gives; main gives 0 where it falls off its end (C99 5.1.2.2.3)
  abbrev pub ResultOf : ℕ → Value → Type 0
  ResultOf g v = Has (slice_get facts.results g) v ⊎ ((g ≡ p.main) × (gives_nothing (slice_get p.funcs g) ≡ false) × (v ≡ no_value))

  -- ---- at a point

  abbrev pub IsFunctionAt : ℕ → Func → Type 0
  IsFunctionAt n f = (point : Point) × (slice_get (flow_of p).points n ≡ Some point) × (slice_get p.funcs point.func ≡ Some f)

  abbrev pub IsReachedAt : ℕ → Type 0
  IsReachedAt n = (fact : PointFact I) × (fact_at facts n ≡ Some fact)

  abbrev pub MayBeAt : ℕ → Bool → Type 0
  MayBeAt n on = (fact : PointFact I) × (fact_at facts n ≡ Some fact) × (may_be_in fact on ≡ true)

  abbrev pub LocalAt : ℕ → ℕ → Value → Type 0
  LocalAt n r v = (fact : PointFact I) × (f : Func) × (number : ℕ) × (fact_at facts n ≡ Some fact) × IsFunctionAt n f × (register_number f r ≡ Some number) × Has (local_of fact number) v

  abbrev pub CellAt : ℕ → ℕ → Value → Type 0
  CellAt n i v = (fact : PointFact I) × (number : ℕ) × (fact_at facts n ≡ Some fact) × (tracked_number p i ≡ Some number) × Has (cell_of fact number) v

  abbrev pub SameAt : ℕ → ℕ → ℕ → Type 0
  SameAt n r i =
      (fact : PointFact I) × (f : Func) × (number : ℕ) × (cell : ℕ) × (fact_at facts n ≡ Some fact) × IsFunctionAt n f × (register_number f r ≡ Some number) × (tracked_number p i ≡ Some cell) × (has_pair fact number cell ≡ true)

  abbrev pub view : View
  view = view_of
      (λ i. is_some (tracked_number p i))
      StaticAt
      LocalOf
      ResultOf
      (λ g. mark_of facts.by_main g ≡ true)
      (λ g. mark_of facts.by_handler g ≡ true)
      ReachedFrom
      (λ g level. has_level (levels_of facts.levels g) level ≡ true)
      WrittenFrom
      IsReachedAt
      MayBeAt
      LocalAt
      CellAt
      SameAt

  -- the state lies in the facts
  abbrev pub Lies : State → Type 0
  Lies s = LiesIn p view s
