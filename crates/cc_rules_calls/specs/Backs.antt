-- What is asked behind a call, as the code has it.
use Rattle.std.specs.Prelude.{◌≡◌, ◌<◌, ℕ, pos, true, List, All, ◌++◌, map, length, Option, Some, None, is_some, slice_get, slice_set}
use Rattle.std.specs.List.{Contains}
use Rattle.cc_state_points.specs.CcPlaces.declared.abs.Abs.{Abs}
use Rattle.cc_state_points.specs.CcPlaces.declared.abs.Abs.TheVariants as abs
use Rattle.cc_state_points.specs.CcPlaces.Abstract.{AreOfOneKind, IsBelowAbs}
use Rattle.cc_program.specs.declared.func.Func.{Func}
use Rattle.cc_rules_asked.specs.CcRules.Rules.{ForEach, IsResult, Returned}
use Rattle.cc_rules_asked.specs.declared.asked.Asked.{Asked}
use Rattle.cc_rules_asked.specs.declared.asked.Asked.TheVariants as asked
use Rattle.cc_rules_asked.specs.Asked.{all_needs}
use Rattle.cc_rules_functions.specs.declared.functions.Function.{Function}
use Rattle.cc_rules_functions.specs.Functions.{IsFunctionOf}
use Rattle.cc_rules_calls.specs.Here.{fact_with}
use Rattle.cc_state_points.specs.CcRulesFlows.declared.after.Here.{Here}
use Rattle.cc_state_points.specs.CcRulesFlows.Acts.{Act, Sets, Reads, Writes, Calls, Saves, Turns, Restores, Tests, Chooses, Returns, Passes}
use Rattle.cc_state_points.specs.CcRulesNeeds.Needs.{Needs}
use Rattle.cc_state_points.specs.CcStateFacts.declared.facts.PointFact.{PointFact}
use Rattle.cc_state_points.specs.CcStateFacts.Facts.{fact_at}
use Rattle.cc_state_points.specs.CcStateKeys.Tracked.{register_number}
use Rattle.cc_state_points.specs.CcStateOperators.Domains.{Domain}

-- the sets of registers, where one gets another, by its position
abbrev pub with_given : {A : Type 0} → Option (ℕ × A) → List A → List A
with_given None sets = sets
with_given (Some g) sets = slice_set sets g.0 g.1

-- what is known behind a call, by what is known at the exit
abbrev pub fact_behind : {I : Type 0} → PointFact I → PointFact I → Option (ℕ × Abs I) → PointFact I
fact_behind fact exit given = fact_with exit (with_given given fact.locals)

abbrev pub points_behind : {I : Type 0} → List ℕ → ℕ → PointFact I → List (Asked I)
points_behind next registers flow = map (λ k. asked.Point k registers flow) next

-- a set with 0 too: the least such of its kind
pub record IsWithZero {I : Type 0} (d : Domain I) (x y : Abs I) : Type 0 where
  pub alike : AreOfOneKind x y
  pub above : IsBelowAbs d.below x y
  pub zero : I
  pub is : d.has zero (pos 0)
  pub first : (u : I) → d.has u (pos 0) → d.below zero u
  pub has : IsBelowAbs d.below (abs.Ints zero) y
  pub least : (u : Abs I) → AreOfOneKind x u → IsBelowAbs d.below x u → IsBelowAbs d.below (abs.Ints zero) u → IsBelowAbs d.below y u

-- the register that gets the result of a call
abbrev pub gets : Act → Option ℕ
gets (Sets r e) = None
gets (Reads r a) = None
gets (Writes a e) = None
gets (Calls result g args) = result
gets (Saves result) = None
gets (Turns on) = None
gets (Restores e) = None
gets (Tests e these those) = None
gets (Chooses e cases) = None
gets (Returns e) = None
gets Passes = None

module _ {I : Type 0} (d : Domain I) (here : Here I) where
  abbrev pub IsResultHere : ℕ → Func → Abs I → Type 0
  IsResultHere g callee y = IsResult d here.context.program.now here.facts.now here.number here.context.id here.context.func.now here.point.now here.fact.now g callee y

  -- what a register gets of a function, by its position
  abbrev pub IsGivenHere : Option ℕ → ℕ → Func → Option (ℕ × Abs I) → Type 0
  IsGivenHere None g callee given = given ≡ None
  IsGivenHere (Some r) g callee given =
      (number : ℕ) × (y : Abs I) × (number < length here.context.registers.now) × (register_number here.context.func.now r ≡ Some number) × IsResultHere g callee y × (given ≡ Some (number, y))

  abbrev pub ReturnsHere : Option ℕ → ℕ → Func → Needs I → Type 0
  ReturnsHere result g callee ns = Returned d here.context.program.now here.facts.now here.number here.context.id here.context.func.now here.point.now here.fact.now result g callee ns

  -- what is known behind a call by what is known at the exit of some function of the program, for a next point
  pub record IsBehindAt (number registers : ℕ) (flow : PointFact I) : Type 0 where
    pub id : ℕ
    pub function : Function
    pub exit : PointFact I
    pub given : Option (ℕ × Abs I)
    pub is_function : IsFunctionOf here.context.program.now id function
    pub exited : fact_at here.facts.now function.exit ≡ Some exit
    pub next : Contains here.point.now.next number
    pub all_registers : registers ≡ length here.context.registers.now
    pub is : flow ≡ fact_behind here.fact.now exit given

  -- no part alone
  abbrev pub IsBehind : Asked I → Type 0
  IsBehind (asked.Part slot part) = ⊥
  IsBehind (asked.Point number registers flow) = IsBehindAt number registers flow

  -- what is asked of one more function
  abbrev pub AskMore : Option ℕ → ℕ → Function → List (Asked I) → List (Asked I) → Type 0
  AskMore result g f now new = (more : List (Asked I)) × (new ≡ now ++ more) × ReturnsHere result g f.func.now (all_needs here.context.program.now more) × All IsBehind more

  abbrev pub AskMoreOf : Option ℕ → ℕ → Option Function → List (Asked I) → List (Asked I) → Type 0
  AskMoreOf result g None now new = ⊥
  AskMoreOf result g (Some f) now new = AskMore result g f now new

  -- and of all of them, in order
  abbrev pub EachReturns : Option ℕ → List ℕ → List (Asked I) → Type 0
  EachReturns result ids asked =
      ForEach d here.context.program.now here.facts.now here.number here.context.id here.context.func.now here.point.now here.fact.now
      (Returned d here.context.program.now here.facts.now here.number here.context.id here.context.func.now here.point.now here.fact.now result) ids (all_needs here.context.program.now asked)

  -- what gets the result is a register, and each function has a set of results; of one that gives 0 at its end it is of integers
  abbrev pub MayGetHere : Option ℕ → ℕ → Function → Type 0
  MayGetHere None g f = Unit {0}
  MayGetHere (Some r) g f =
      (is_some (register_number here.context.func.now r) ≡ true) × (is_some (slice_get here.facts.now.results g) ≡ true)
      × ((y : Abs I) → f.gives_zero ≡ true → slice_get here.facts.now.results g ≡ Some y → (u : I) → AreOfOneKind y (abs.Ints u))
