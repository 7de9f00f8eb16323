-- A point that is reached, as the code has it: what is asked of it and of what its statement does, and what it then lets flow.
use Rattle.std.specs.Prelude.{◌≡◌, ◌<◌, ◌^◌, ℕ, Bool, true, false, ◌||◌, List, [], map, length, Option, Some, None, is_some}
use Rattle.cc_program.specs.declared.expr.Expr.{Expr}
use Rattle.cc_program.specs.declared.expr.Place.{Place}
use Rattle.cc_rules_flows.specs.declared.after.Here.{Here}
use Rattle.cc_rules_flows.specs.Acts.{Act, Sets, Reads, Writes, Calls, Saves, Turns, Restores, Tests, Chooses, Returns, Passes}
use Rattle.cc_rules_flows.specs.Flows.{Flows}
use Rattle.cc_rules_flows.specs.Kept.{KeepsShape}
use Rattle.cc_rules_flows.specs.Known.{Tells, AreTold}
use Rattle.cc_rules_needs.specs.Flowing.{Flowing, of_fact, with_flags}
use Rattle.cc_state_reads.specs.CcStateFacts.declared.facts.PointFact.{PointFact}
use Rattle.cc_state_reads.specs.CcStateFacts.Facts.{fact_at, cell_of}
use Rattle.cc_state_reads.specs.CcStateKeys.Keys.{keys_of}
use Rattle.cc_state_reads.specs.CcStateKeys.Tracked.{registers, register_number, tracked}
use Rattle.cc_state_reads.specs.CcStateOperators.Domains.{Domain}
use Rattle.cc_state_reads.specs.Contexts.{HaveKind, ReadsScalar}
use Rattle.cc_state_reads.specs.CcStateValues.Contexts.{HaveSetsIn, IsPureIn, IsPurePlaceIn}
use Rattle.cc_syntax.specs.Sizes.{AreSized}

module _ {I : Type 0} (d : Domain I) (here : Here I) where
  -- the registers of its function have the sets that are known at the point, and each tracked cell has one
  pub record IsHere : Type 0 where
    pub sized : AreSized here.context.program.now.structures here.context.program.now.target
    pub registers : here.context.registers.now ≡ registers here.context.func.now
    pub few : length here.context.registers.now < 2 ^ 32
    pub sets : here.context.sets.now ≡ here.fact.now.locals
    pub each : length here.fact.now.locals ≡ length here.context.registers.now
    pub known : HaveSetsIn d here.context
    pub reached : fact_at here.facts.now here.number ≡ Some here.fact.now
    pub keys : here.facts.now.keys ≡ keys_of here.context.program.now
    pub tracked : here.tracked.now ≡ tracked here.context.program.now
    pub few_tracked : length here.tracked.now < 2 ^ 32
    pub cells : (cell : ℕ) → cell < length here.tracked.now → is_some (cell_of here.fact.now cell) ≡ true

  abbrev pub IsRegister : ℕ → Type 0
  IsRegister r = is_some (register_number here.context.func.now r) ≡ true

  -- its operands are pure, and what gets a value is a register
  abbrev pub MayDo : Act → Type 0
  MayDo (Sets r e) = IsRegister r × IsPureIn d here.context e
  MayDo (Reads r a) = IsRegister r × IsPurePlaceIn d here.context a × ReadsScalar here.context a × HaveKind d here.context here.facts.now a
  MayDo (Writes a e) = IsPureIn d here.context e
  MayDo (Calls result g args) = Unit {0}
  MayDo (Saves None) = Unit {0}
  MayDo (Saves (Some r)) = IsRegister r
  MayDo (Turns on) = Unit {0}
  MayDo (Restores e) = IsPureIn d here.context e
  MayDo (Tests e these those) = Unit {0}
  MayDo (Chooses e cases) = Unit {0}
  MayDo (Returns e) = Unit {0}
  MayDo Passes = Unit {0}

  abbrev pub FlowsHere : Act → List (ℕ × Flowing I) → Type 0
  FlowsHere act flows = Flows d here.context.program.now here.context.id here.context.func.now here.facts.now here.point.now here.number here.fact.now act flows

  -- a fact that keeps the shape of what is known at the point
  abbrev pub KeepsShapeHere : PointFact I → Type 0
  KeepsShapeHere fact = KeepsShape (length here.context.registers.now) (length here.tracked.now) here.fact.now fact

  -- what is known at the point, where the flag may be so; none where it can be neither
  abbrev pub IsWithFlags : Bool → Bool → Option (PointFact I) → Type 0
  IsWithFlags off on None = (off || on) ≡ false
  IsWithFlags off on (Some fact) = ((off || on) ≡ true) × Tells fact (with_flags off on (of_fact here.fact.now)) × KeepsShapeHere fact

  -- a fact that tells what flows to each next point; none where nothing flows to these
  abbrev pub IsAfter : Act → Option (PointFact I) → Type 0
  IsAfter act None = FlowsHere act []
  IsAfter act (Some fact) = (flow : Flowing I) × FlowsHere act (map (λ k. (k, flow)) here.point.now.next) × Tells fact flow × KeepsShapeHere fact

  -- facts that tell what flows, each with the point to which it does
  abbrev pub DoesFlow : Act → List (ℕ × PointFact I) → Type 0
  DoesFlow act told = (flows : List (ℕ × Flowing I)) × FlowsHere act flows × AreTold told flows
