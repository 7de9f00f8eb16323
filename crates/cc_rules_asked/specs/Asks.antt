-- What a rule asks at a point that is reached, as the code has it, and what its operands have to be for that.
use Rattle.std.specs.Prelude.{◌≡◌, ℕ, Bool, true, false, List, All, ◌++◌, Option, Some, None, map}
use Rattle.cc_program.specs.declared.expr.Expr.{Expr}
use Rattle.cc_program.specs.declared.expr.Place.{Place}
use Rattle.cc_program.specs.declared.program.Program.{Program}
use Rattle.cc_rules.specs.Constraints.{Rule}
use Rattle.cc_rules.specs.Rules.{AskedHere, AreKeys}
use Rattle.cc_rules_asked.specs.declared.asked.Asked.{Asked}
use Rattle.cc_rules_asked.specs.declared.asked.Asked.TheVariants as asked
use Rattle.cc_rules_asked.specs.Asked.{all_needs}
use Rattle.cc_rules.specs.CcRulesFlows.declared.after.Here.{Here}
use Rattle.cc_rules.specs.CcRulesFlows.Acts.{Act, Sets, Reads, Writes, Calls, Saves, Turns, Restores, Tests, Chooses, Returns, Passes}
use Rattle.cc_rules.specs.CcRulesNeeds.declared.needs.Part.TheVariants.{Mark, LevelSet}
use Rattle.cc_rules.specs.CcRulesNeeds.declared.needs.Slot.{Slot}
use Rattle.cc_rules.specs.CcRulesNeeds.declared.needs.Slot.TheVariants.{HandlerReads, HandlerWrites, ReadLevels, WriteLevels}
use Rattle.cc_rules.specs.CcStateFacts.declared.facts.Key.{Key}
use Rattle.cc_rules.specs.CcStateKeys.Keys.{key_number}
use Rattle.cc_rules.specs.CcStateOperators.Domains.{Domain}
use Rattle.cc_rules.specs.CcStateValues.Contexts.{IsPureIn, IsPurePlaceIn}

module _ {I : Type 0} (d : Domain I) (here : Here I) where
  -- these are asked by the rule
  abbrev pub AsksHere : Rule → Act → List (Asked I) → Type 0
  AsksHere rule act asked =
      AskedHere d here.context.program.now here.facts.now here.number here.context.id here.context.func.now here.point.now here.fact.now rule act (all_needs here.context.program.now asked)

  -- the operands of what is done are pure, and so are those of its places
  abbrev pub ArePureHere : Act → Type 0
  ArePureHere (Sets r e) = IsPureIn d here.context e
  ArePureHere (Reads r a) = IsPurePlaceIn d here.context a
  ArePureHere (Writes a e) = IsPurePlaceIn d here.context a × IsPureIn d here.context e
  ArePureHere (Calls result g args) = IsPureIn d here.context g × All (IsPureIn d here.context) args
  ArePureHere (Saves result) = Unit {0}
  ArePureHere (Turns on) = Unit {0}
  ArePureHere (Restores e) = IsPureIn d here.context e
  ArePureHere (Tests e these those) = IsPureIn d here.context e
  ArePureHere (Chooses e cases) = IsPureIn d here.context e
  ArePureHere (Returns None) = Unit {0}
  ArePureHere (Returns (Some e)) = IsPureIn d here.context e
  ArePureHere Passes = Unit {0}

  -- the numbers of the keys that a place names
  abbrev pub AreKeysHere : Place → List ℕ → Type 0
  AreKeysHere a numbers = AreKeys d here.context.program.now here.facts.now here.number here.context.id here.context.func.now here.point.now here.fact.now a numbers

-- ---- parts of what a statement does

abbrev pub returned : Act → Option Expr
returned (Sets r e) = None
returned (Reads r a) = None
returned (Writes a e) = None
returned (Calls result g args) = None
returned (Saves result) = None
returned (Turns on) = None
returned (Restores e) = None
returned (Tests e these those) = None
returned (Chooses e cases) = None
returned (Returns e) = e
returned Passes = None

abbrev pub written : Act → Option (Place × Expr)
written (Sets r e) = None
written (Reads r a) = None
written (Writes a e) = Some (a, e)
written (Calls result g args) = None
written (Saves result) = None
written (Turns on) = None
written (Restores e) = None
written (Tests e these those) = None
written (Chooses e cases) = None
written (Returns e) = None
written Passes = None

-- a read, or a write, of a place
abbrev pub touched : Act → Option (Bool × Place)
touched (Sets r e) = None
touched (Reads r a) = Some (false, a)
touched (Writes a e) = Some (true, a)
touched (Calls result g args) = None
touched (Saves result) = None
touched (Turns on) = None
touched (Restores e) = None
touched (Tests e these those) = None
touched (Chooses e cases) = None
touched (Returns e) = None
touched Passes = None

abbrev pub mark_slot : Bool → ℕ → Slot
mark_slot false key = HandlerReads key
mark_slot true key = HandlerWrites key

abbrev pub level_slot : Bool → ℕ → Slot
level_slot false key = ReadLevels key
level_slot true key = WriteLevels key

-- marks of some keys, and then their levels
abbrev pub list_touched : {I : Type 0} → Bool → List ℕ → ℕ → List (Asked I)
list_touched writes keys levels = map (λ k. asked.Part (mark_slot writes k) (Mark true)) keys ++ map (λ k. asked.Part (level_slot writes k) (LevelSet levels)) keys

-- the numbers of some keys of a program
abbrev pub AreNumbered : Program → List Key → List ℕ → Type 0
AreNumbered p keys numbers = map (key_number p) keys ≡ map Some numbers
