-- What is asked where functions may be called, as the code has it.
use Rattle.std.specs.Prelude.{◌≡◌, ◌<◌, ℕ, suc, List, [], ◌∷◌, ◌++◌, length, Option, Some, None, slice_get}
use Rattle.std.specs.List.{flat_map}
use Rattle.cc_state_points.specs.CcPlaces.declared.abs.Abs.{Abs}
use Rattle.cc_state_points.specs.CcPlaces.Abstract.{HasValue}
use Rattle.cc_program.specs.declared.expr.Expr.{Expr}
use Rattle.cc_program.specs.declared.program.Program.{Program}
use Rattle.cc_program.specs.declared.value.Address.TheVariants as address
use Rattle.cc_program.specs.declared.value.Value.TheVariants as value
use Rattle.cc_rules_asked.specs.CcRules.Rules.{AreCalled}
use Rattle.cc_rules_asked.specs.declared.asked.Asked.{Asked}
use Rattle.cc_rules_asked.specs.declared.asked.Asked.TheVariants as asked
use Rattle.cc_rules_functions.specs.declared.functions.Function.{Function}
use Rattle.cc_rules_calls.specs.Called.{functions_in, sets_of}
use Rattle.cc_state_points.specs.CcRulesFlows.declared.after.Here.{Here}
use Rattle.cc_state_points.specs.CcRulesFlows.Acts.{Act, Sets, Reads, Writes, Calls, Saves, Turns, Restores, Tests, Chooses, Returns, Passes}
use Rattle.cc_state_points.specs.CcRulesNeeds.declared.needs.Part.TheVariants.{Mark, LevelSet, Values}
use Rattle.cc_state_points.specs.CcRulesNeeds.declared.needs.Slot.TheVariants.{Whole, ByMain, ByHandler, Levels, From}
use Rattle.cc_state_points.specs.CcStateFacts.declared.facts.Key.TheVariants as key
use Rattle.cc_state_points.specs.CcStateFacts.declared.facts.PointFact.{PointFact}
use Rattle.cc_state_points.specs.CcStateFacts.Facts.{mark_of, levels_of}
use Rattle.cc_state_points.specs.CcStateKeys.Keys.{key_number}
use Rattle.cc_state_points.specs.CcStateOperators.Domains.{Domain}
use Rattle.cc_state_points.specs.CcStateValues.Contexts.{IsValIn}

-- what a call calls, with its arguments
abbrev pub called : Act → Option (Option ℕ × (Expr × List Expr))
called (Sets r e) = None
called (Reads r a) = None
called (Writes a e) = None
called (Calls result g args) = Some (result, (g, args))
called (Saves result) = None
called (Turns on) = None
called (Restores e) = None
called (Tests e these those) = None
called (Chooses e cases) = None
called (Returns e) = None
called Passes = None

-- a parameter that has a key
abbrev pub part_whole : {I : Type 0} → Option ℕ → Abs I → List (Asked I)
part_whole None y = []
part_whole (Some k) y = asked.Part (Whole k) (Values (Some y)) ∷ []

abbrev pub parts_whole : {I : Type 0} → Program → ℕ → ℕ → List (Abs I) → List (Asked I)
parts_whole p g r [] = []
parts_whole p g r (y ∷ ys) = part_whole (key_number p (key.Local g r)) y ++ parts_whole p g (suc r) ys

-- what is known where control comes from elsewhere: registers have these sets, and none is known to equal a cell
abbrev pub fact_with : {I : Type 0} → PointFact I → List (Abs I) → PointFact I
fact_with fact locals = record fact { locals = locals; same = [] }

module _ {I : Type 0} (here : Here I) where
  abbrev pub marks_called : ℕ → List (Asked I)
  marks_called g =
      asked.Part (ByMain g) (Mark (mark_of here.facts.now.by_main here.context.id))
      ∷ asked.Part (ByHandler g) (Mark (mark_of here.facts.now.by_handler here.context.id))
      ∷ asked.Part (Levels g) (LevelSet (levels_of here.facts.now.levels here.context.id))
      ∷ asked.Part (From g) (LevelSet (levels_of here.facts.now.from here.context.id)) ∷ []

  -- what is asked of a function that is called with such sets
  abbrev pub asked_entered : ℕ → Function → List (Abs I) → List (Asked I)
  asked_entered g f ys =
      marks_called g ++ (asked.Point f.entry (length f.registers) (fact_with here.fact.now (sets_of ys f.registers)) ∷ parts_whole here.context.program.now g 0 ys)

  abbrev pub asked_of_one : ℕ → Option Function → List (Abs I) → List (Asked I)
  asked_of_one g None ys = []
  asked_of_one g (Some f) ys = asked_entered g f ys

  abbrev pub asked_of_all : List Function → List ℕ → List (Abs I) → List (Asked I)
  asked_of_all functions ids ys = flat_map (λ g. asked_of_one g (slice_get functions g) ys) ids

  -- this is asked of some functions that are called with some sets
  abbrev pub AreEntries : List Function → List (Asked I) → Type 0
  AreEntries functions list = (ids : List ℕ) × (ys : List (Abs I)) × (list ≡ asked_of_all functions ids ys)

module _ {I : Type 0} (d : Domain I) (here : Here I) where
  abbrev pub AreCalledHere : Expr → List ℕ → Type 0
  AreCalledHere g gs = AreCalled d here.context.program.now here.facts.now here.number here.context.id here.context.func.now here.point.now here.fact.now g gs

  -- the functions whose addresses an operand may give
  abbrev pub AreFunctionsIn : Expr → List ℕ → Type 0
  AreFunctionsIn g gs = (y : Abs I) × IsValIn d here.context g y × (gs ≡ functions_in y)

  -- what may be called is a function of the program
  abbrev pub MayCallHere : Act → Type 0
  MayCallHere (Calls result g args) =
      (y : Abs I) (h : ℕ) → IsValIn d here.context g y → HasValue d.has y (value.Place (address.Func h)) → h < length here.context.program.now.funcs
  MayCallHere (Sets r e) = Unit {0}
  MayCallHere (Reads r a) = Unit {0}
  MayCallHere (Writes a e) = Unit {0}
  MayCallHere (Saves result) = Unit {0}
  MayCallHere (Turns on) = Unit {0}
  MayCallHere (Restores e) = Unit {0}
  MayCallHere (Tests e these those) = Unit {0}
  MayCallHere (Chooses e cases) = Unit {0}
  MayCallHere (Returns e) = Unit {0}
  MayCallHere Passes = Unit {0}
