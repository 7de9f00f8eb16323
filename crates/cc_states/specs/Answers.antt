-- The steps that full expressions ask for, and what they may give: each in its type (C99 6.5).
use Rattle.std.specs.Prelude.{◌≡◌, ◌⊎◌, ℕ, Bool, true, false, List, Option, Some, None, slice_get}
use Rattle.cc_program.specs.CcNum.declared.int_type.IntType.TheVariants as int
use Rattle.cc_program.specs.declared.expr.Expr.{Expr}
use Rattle.cc_program.specs.declared.expr.Place.{Place}
use Rattle.cc_program.specs.declared.func.Func.{Func}
use Rattle.cc_program.specs.declared.program.Program.{Program}
use Rattle.cc_program.specs.declared.types.Sig.{out-Sig}
use Rattle.cc_program.specs.declared.value.Address.{Address}
use Rattle.cc_program.specs.declared.value.Address.TheVariants as address
use Rattle.cc_program.specs.declared.value.Cell.{Cell}
use Rattle.cc_program.specs.declared.value.Cell.TheVariants as cell
use Rattle.cc_program.specs.declared.value.Root.{Root}
use Rattle.cc_program.specs.declared.value.Root.TheVariants as root
use Rattle.cc_program.specs.declared.value.Value.{Value}
use Rattle.cc_steps.specs.CcEval.declared.action.Action.{Action}
use Rattle.cc_steps.specs.CcEval.declared.action.Action.TheVariants.{Read, Write, Choose, Call, Flag, Save}
use Rattle.cc_steps.specs.CcEval.declared.mark.Mark.{Mark}
use Rattle.cc_steps.specs.CcEval.declared.mark.Mark.TheVariants.{Gave, Did, Chose}
use Rattle.cc_steps.specs.CcEval.Context.{Context}
use Rattle.cc_steps.specs.CcEval.Eval.{meaning, designation}
use Rattle.cc_steps.specs.CcEval.Marks.{AnswerSteps, AnswerEach, Works}
use Rattle.cc_steps.specs.CcEval.Progress.{Get}
use Rattle.cc_steps.specs.CcSyntax.Registers.{is_address_taken, place_use, is_addressed}
use Rattle.cc_steps.specs.CcSyntax.Values.{ValueType, NoValue, Integer, PlaceType, result_value}
use Rattle.cc_states.specs.Typed.{IsInMemory, HasType, cell_type, IsThere, AreArguments}

-- whether a step may give a bad value
abbrev pub may_be_bad : Action → Bool
may_be_bad (Read at manner) = manner.may_be_bad
may_be_bad (Write at is_event v) = false
may_be_bad (Choose b) = false
may_be_bad (Call callee args) = false
may_be_bad (Flag on) = false
may_be_bad Save = false

-- the type of what a function returns
abbrev pub result_in : Option Func → Option ValueType
result_in None = None
result_in (Some f) = result_value (out-Sig f.sig).result

module _ (p : Program) where
  abbrev pub result_of_call : Address → Option ValueType
  result_of_call address.Null = None
  result_of_call (address.Func f) = result_in (slice_get p.funcs f)
  result_of_call (address.At object path index count) = None

  -- the type of what a step gives
  abbrev pub given_type : Action → Option ValueType
  given_type (Read at manner) = cell_type p at
  given_type (Write at is_event v) = Some NoValue
  given_type (Choose b) = None
  given_type (Call callee args) = result_of_call callee
  given_type (Flag on) = Some NoValue
  given_type Save = Some (Integer int.UChar)

module _ (p : Program) (openings : List ℕ) where
  -- what is called is null or no function, where the call traps, or a function that takes the arguments
  abbrev pub IsCall : Address → List Value → Type 0
  IsCall address.Null args = Unit {0}
  IsCall (address.Func f) args = (func : Func) × (slice_get p.funcs f ≡ Some func) × AreArguments p openings (out-Sig func.sig).params args
  IsCall (address.At object path index count) args = Unit {0}

  -- a step that can be done: what is read or written is there, and takes what is written
  abbrev pub IsAction : Action → Type 0
  IsAction (Read at manner) = (t : ValueType) × (cell_type p at ≡ Some t) × IsThere openings at
  IsAction (Write at is_event v) = (t : ValueType) × (cell_type p at ≡ Some t) × IsThere openings at × HasType p openings t v
  IsAction (Choose b) = Unit {0}
  IsAction (Call callee args) = IsCall callee args
  IsAction (Flag on) = Unit {0}
  IsAction Save = Unit {0}

  -- a mark of the step
  abbrev pub IsMarkOf : Action → Mark → Type 0
  IsMarkOf action (Gave None) = may_be_bad action ≡ true
  IsMarkOf action (Gave (Some v)) = (t : ValueType) × (given_type p action ≡ Some t) × HasType p openings t v
  IsMarkOf action Did = given_type p action ≡ Some NoValue
  IsMarkOf action (Chose b) = action ≡ Choose b

  -- where a step was asked for at the marks in front of one, that is a mark of the step
  abbrev pub AreAnswers : {A : Type 0} → Get A → List Mark → Type 0
  AreAnswers g ms = AnswerSteps IsMarkOf g ms

  -- and one was asked for there in front of each
  abbrev pub AreItsMarks : {A : Type 0} → Get A → List Mark → Type 0
  AreItsMarks g ms = AnswerEach IsMarkOf g ms

-- a full expression is worked in an activation that was opened, of its function
pub record IsActivation (c : Context) (openings : List ℕ) : Type 0 where
  pub function : slice_get c.program.funcs c.id ≡ Some c.func
  pub number : slice_get openings c.number ≡ Some c.id

-- the locals whose addresses an expression takes, or a place, are ones whose addresses are taken in a function
abbrev pub TakesAddressesOf : Func → Expr → Type 0
TakesAddressesOf f e = (r : ℕ) → is_address_taken r e ≡ true → is_addressed f r ≡ true

abbrev pub PlaceTakesAddressesOf : Func → Place → Type 0
PlaceTakesAddressesOf f a = (r : ℕ) → (place_use r a).address_taken ≡ true → is_addressed f r ≡ true

-- what an activation reaches, by its number: a local that it names is its own, and pointers lead to what is in memory
abbrev pub IsReached : Program → ℕ → Root → Type 0
IsReached p number (root.Static i) = Unit {0}
IsReached p number (root.Auto other func local) = (other ≡ number) ⊎ IsInMemory p (root.Auto other func local)

abbrev pub IsCellReached : Program → ℕ → Cell → Type 0
IsCellReached p number (cell.Device d) = Unit {0}
IsCellReached p number (cell.At object path) = IsReached p number object

abbrev pub AreReached : Program → ℕ → Action → Type 0
AreReached p number (Read at manner) = IsCellReached p number at
AreReached p number (Write at is_event v) = IsCellReached p number at
AreReached p number (Choose b) = Unit {0}
AreReached p number (Call callee args) = Unit {0}
AreReached p number (Flag on) = Unit {0}
AreReached p number Save = Unit {0}

-- in the activation with this number
module _ (p : Program) (openings : List ℕ) (number : ℕ) where
  -- a step that can be done, and touches nothing that the activation does not reach
  abbrev pub IsStep : Action → Type 0
  IsStep action = IsAction p openings action × AreReached p number action

  -- what is worked by marks that answer what was asked
  abbrev pub WorksIn : {A : Type 0} → (A → Type 0) → Get A → Type 0
  WorksIn P g = Works (IsMarkOf p openings) IsStep P g

-- an expression, or a place, that has a type in a function's activation
abbrev pub IsTyped : Context → Expr → Type 0
IsTyped c e = (t : ValueType) × ((meaning c e).ctype ≡ Some t)

abbrev pub IsTypedPlace : Context → Place → Type 0
IsTypedPlace c a = (t : PlaceType) × ((designation c a).ctype ≡ Some t)
