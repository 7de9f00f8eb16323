-- What is at a point: all that flows there is in the facts of it.
use Rattle.std.specs.Prelude.{◌≡◌, ◌⊎◌, ℕ, Bool, true, false, Option, Some}
use Rattle.cc_program.specs.declared.func.Func.{Func}
use Rattle.cc_program.specs.declared.program.Program.{Program}
use Rattle.cc_program.specs.declared.value.Value.{Value}
use Rattle.cc_rules.specs.CcRulesNeeds.Flowing.{Flowing}
use Rattle.cc_state.specs.View.{Has, IsFunctionAt, IsReachedAt, MayBeAt, LocalAt, CellAt, SameAt}
use Rattle.cc_rules.specs.CcStateFacts.declared.facts.Facts.{Facts}
use Rattle.cc_rules.specs.CcStateFacts.declared.facts.PointFact.{PointFact}
use Rattle.cc_rules.specs.CcStateFacts.Facts.{fact_at, cell_of, local_of, has_pair}
use Rattle.cc_rules.specs.CcStateKeys.Tracked.{register_number, tracked_number}
use Rattle.cc_state_values_sound.specs.CcStateOperators.Domains.{Domain}

abbrev pub flag_in : {I : Type 0} → Flowing I → Bool → Bool
flag_in flow true = flow.on
flag_in flow false = flow.off

abbrev pub HasFlag : {I : Type 0} → Flowing I → Type 0
HasFlag flow = (flow.off ≡ true) ⊎ (flow.on ≡ true)

module _ {I : Type 0} (d : Domain I) (p : Program) (facts : Facts I) where
  -- a point of a function that is reached, with what is known there
  pub record IsKnown (n : ℕ) (f : Func) (fact : PointFact I) : Type 0 where
    pub function : IsFunctionAt d p facts n f
    pub there : fact_at facts n ≡ Some fact

  -- the pair is one of what flows
  abbrev pub IsPairIn : Func → Flowing I → ℕ → ℕ → Type 0
  IsPairIn f flow r i = (number : ℕ) × (cell : ℕ) × (register_number f r ≡ Some number) × (tracked_number p i ≡ Some cell) × (flow.pair number cell ≡ true)

  -- a point of a function has what flows there
  pub record Arrives (k : ℕ) (f : Func) (flow : Flowing I) : Type 0 where
    pub reached : IsReachedAt d p facts k
    pub flags : (on : Bool) → flag_in flow on ≡ true → MayBeAt d p facts k on
    pub locals : (r number : ℕ) (w : Value) → register_number f r ≡ Some number → Has d p facts (flow.local number) w → LocalAt d p facts k r w
    pub cells : (i number : ℕ) (w : Value) → tracked_number p i ≡ Some number → Has d p facts (flow.cell number) w → CellAt d p facts k i w
    pub pairs : (r i : ℕ) → SameAt d p facts k r i → IsPairIn f flow r i

  -- it has all that a point has, but for a register or a tracked object
  pub record Keeps (f : Func) (fact : PointFact I) (register object : Option ℕ) (flow : Flowing I) : Type 0 where
    pub locals : (r number : ℕ) (w : Value) → (register ≡ Some r → ⊥) → register_number f r ≡ Some number → Has d p facts (local_of fact number) w → Has d p facts (flow.local number) w
    pub cells : (i number : ℕ) (w : Value) → (object ≡ Some i → ⊥) → tracked_number p i ≡ Some number → Has d p facts (cell_of fact number) w → Has d p facts (flow.cell number) w
    pub pairs : (r i number cell : ℕ) → (register ≡ Some r → ⊥) → register_number f r ≡ Some number → tracked_number p i ≡ Some cell → flow.pair number cell ≡ true → (has_pair fact number cell ≡ true) × (object ≡ Some i → ⊥)

  pub record KeepsFlags (fact : PointFact I) (flow : Flowing I) : Type 0 where
    pub off : fact.off ≡ true → flow.off ≡ true
    pub on : fact.on ≡ true → flow.on ≡ true
