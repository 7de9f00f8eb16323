-- What is a state of a run of a program (C99 5.1.2.3): a value in its type for each scalar of its objects, and activations that stand
-- in their functions, each with answers to what its full expression has asked for.
use Rattle.std.specs.Prelude.{◌≡◌, ◌<◌, ℕ, ◌==◌, Bool, true, false, ◌||◌, List, [], ◌∷◌, Option, Some, None, length, slice_get, if◌then◌else◌}
use Rattle.std.specs.List.{list_all}
use Rattle.cc_program.specs.declared.expr.Expr.{Expr}
use Rattle.cc_program.specs.declared.func.Func.{Func}
use Rattle.cc_program.specs.declared.object.Device.{Device}
use Rattle.cc_program.specs.declared.object.Object.{Object}
use Rattle.cc_program.specs.declared.program.Program.{Program}
use Rattle.cc_program.specs.declared.stmt.Stmt.{Stmt, out-Stmt}
use Rattle.cc_program.specs.declared.types.CType.{CType}
use Rattle.cc_program.specs.declared.value.Address.{Address}
use Rattle.cc_program.specs.declared.value.Address.TheVariants as address
use Rattle.cc_program.specs.declared.value.Cell.{Cell}
use Rattle.cc_program.specs.declared.value.Cell.TheVariants as cell
use Rattle.cc_program.specs.declared.value.Part.{Part}
use Rattle.cc_program.specs.declared.value.Root.TheVariants as root
use Rattle.cc_program.specs.declared.value.Value.{Value}
use Rattle.cc_steps.specs.CcCells.Cells.{scalar_in}
use Rattle.cc_steps.specs.CcCells.Scalars.{zeros, position}
use Rattle.cc_steps.specs.CcControl.Control.{Level, first_is, is_loop, is_left_by_break}
use Rattle.cc_steps.specs.CcEval.declared.action.Action.{Action}
use Rattle.cc_steps.specs.CcEval.declared.action.Action.TheVariants.{Read, Write, Choose, Call, Flag, Save}
use Rattle.cc_steps.specs.CcEval.declared.mark.Mark.{Mark}
use Rattle.cc_steps.specs.CcEval.Context.{Context}
use Rattle.cc_steps.specs.CcEval.Eval.{next_of}
use Rattle.cc_steps.specs.CcEval.Progress.{Waits}
use Rattle.cc_steps.specs.Access.{is_open}
use Rattle.cc_steps.specs.State.{Active, State}
use Rattle.cc_steps.specs.Step.{progress_of, cell_position}
pub use Rattle.cc_steps.specs.Step.{worked_at}
use Rattle.cc_steps.specs.Turn.{is_going}
use Rattle.cc_steps.specs.CcSyntax.Expressions.{of_one}
use Rattle.cc_steps.specs.CcSyntax.Initial.{place_at}
use Rattle.cc_steps.specs.CcSyntax.Operators.{is_handler}
use Rattle.cc_steps.specs.CcSyntax.Programs.{is_sound_stmt}
use Rattle.cc_steps.specs.CcSyntax.Types.{Named}
use Rattle.cc_steps.specs.CcSyntax.Values.{ValueType, object_place, read_from}
use Rattle.cc_states.specs.Answers.{AreItsMarks}
use Rattle.cc_states.specs.Inside.{AreInside}
use Rattle.cc_states.specs.Typed.{is_register_in, HasType, MayHave}

-- ---- values

-- as many as a type has scalars, and at the position of each path to one what that may hold (6.2.5, 21)
pub record AreScalars {A : Type 0} (p : Program) (Holds : ValueType → A → Type 0) (t : CType) (values : List A) : Type 0 where
  pub count : length values ≡ length (zeros p.structures t)
  pub typed : (path : List Part) (w : ValueType) → of_one (place_at p.structures path (object_place t)) read_from ≡ Some w →
      (v : A) × (slice_get values (position p.structures path (Some (object_place t))) ≡ Some v) × Holds w v

module _ (p : Program) (openings : List ℕ) where
  abbrev pub AreStatics : List (List Value) → Type 0
  AreStatics statics = (length statics ≡ length p.objects) × ((i : ℕ) (o : Object) → slice_get p.objects i ≡ Some o → (values : List Value) × (slice_get statics i ≡ Some values) × AreScalars p (HasType p openings) o.ctype values)

  -- none stands for what was not written
  abbrev pub AreLocals : Func → List (List (Option Value)) → Type 0
  AreLocals f locals = (length locals ≡ length f.locals) × ((i : ℕ) (l : Named) → slice_get f.locals i ≡ Some l → (values : List (Option Value)) × (slice_get locals i ≡ Some values) × AreScalars p (MayHave p openings) l.1 values)

-- ---- where an activation stands

-- whether `break` and `continue` may stand inside these levels (6.8.6.2, 6.8.6.3)
abbrev pub may_break : List Level → Bool
may_break [] = false
may_break (at ∷ around) = first_is is_left_by_break at.rest || may_break around

abbrev pub may_continue : List Level → Bool
may_continue [] = false
may_continue (at ∷ around) = first_is is_loop at.rest || may_continue around

-- a list whose statements are sound inside these levels
abbrev pub is_sound_in : Program → Func → List Level → List Stmt → Bool
is_sound_in p f around list = list_all (λ s. is_sound_stmt p f s (may_break around) (may_continue around)) list

-- what is left of each list is sound where it stands, the innermost first
abbrev pub AreSound : Program → Func → List Level → Type 0
AreSound p f [] = Unit {0}
AreSound p f (at ∷ around) = (is_sound_in p f around at.rest ≡ true) × AreSound p f around

-- the full expression that is worked in an activation, if one is
abbrev pub expression_of : Active → Option Expr
expression_of a = worked_at a.here a.here.rest

-- ---- activations

-- what was done of the full expression that is worked
abbrev pub AreMarks : Context → List ℕ → Option Expr → List Mark → Type 0
AreMarks c openings None ms = ms ≡ []
AreMarks c openings (Some e) ms = AreItsMarks c.program openings (next_of c e) ms

abbrev pub context_in : Program → Active → Func → Context
context_in p a f = record { program = p; number = a.number; id = a.func; func = f }

-- the first locals, which are parameters, are written scalars
abbrev pub AreWritten : ℕ → List (List (Option Value)) → Type 0
AreWritten n locals = (i : ℕ) → i < n → (v : Value) × (slice_get locals i ≡ Some (Some v ∷ []))

pub record IsActive (p : Program) (openings : List ℕ) (a : Active) : Type 0 where
  pub func : Func
  pub function : slice_get p.funcs a.func ≡ Some func
  pub number : slice_get openings a.number ≡ Some a.func
  -- one that the entry of a handler opened is of a function that may be one
  pub entry : a.handler ≡ true → is_handler func ≡ true
  pub locals : AreLocals p openings func a.locals
  pub parameters : AreWritten func.params a.locals
  pub control : AreSound p func (a.here ∷ a.around)
  pub inside : AreInside func.body (a.here ∷ a.around)
  pub marks : AreMarks (context_in p a func) openings (expression_of a) a.marks

abbrev pub AreActive : Program → List ℕ → List Active → Type 0
AreActive p openings [] = Unit {0}
AreActive p openings (a ∷ below) = IsActive p openings a × AreActive p openings below

-- each one above another was called by it, or has entered as a handler; the first one is of main
abbrev pub AreCalled : Program → List Active → Type 0
AreCalled p [] = Unit {0}
AreCalled p (a ∷ []) = (a.func ≡ p.main) × (a.handler ≡ false)
AreCalled p (a ∷ b ∷ below) = (a.handler ≡ false → (args : List Value) × (progress_of p b (expression_of b) ≡ Waits (Call (address.Func a.func) args))) × AreCalled p (b ∷ below)

-- each was opened behind those below it
abbrev pub AreInOrder : List Active → Type 0
AreInOrder [] = Unit {0}
AreInOrder (a ∷ []) = Unit {0}
AreInOrder (a ∷ b ∷ below) = (b.number < a.number) × AreInOrder (b ∷ below)

-- where activations of these functions were opened so far, by their numbers
pub record IsStateOf (p : Program) (openings : List ℕ) (s : State) : Type 0 where
  pub count : length openings ≡ s.opened
  pub statics : AreStatics p openings s.memory.statics
  pub stack : AreActive p openings s.stack
  pub called : AreCalled p s.stack
  pub order : AreInOrder s.stack
  pub running : is_going s.end ≡ true → (a : Active) × (below : List Active) × (s.stack ≡ a ∷ below)

abbrev pub IsState : Program → State → Type 0
IsState p s = (openings : List ℕ) × IsStateOf p openings s

-- ---- what a step needs

-- the scalar of a local of the open activation that has this number
abbrev pub local_scalar : List Active → ℕ → ℕ → ℕ → Option (Option Value)
local_scalar [] number local position = None
local_scalar (a ∷ below) number local position = if a.number == number then scalar_in a.locals local position else local_scalar below number local position

-- the registers of an activation hold in a stack what they hold in it
abbrev pub KeepsRegisters : Program → List Active → Active → Type 0
KeepsRegisters p stack b =
    (local : ℕ) → is_register_in (slice_get p.funcs b.func) local ≡ true → (position : ℕ) → local_scalar stack b.number local position ≡ scalar_in b.locals local position

-- a device of the program, a scalar of a static object, or a scalar of a local, where its activation is open
abbrev pub IsCellThere : Program → State → Cell → Type 0
IsCellThere p s (cell.Device d) = (device : Device) × (slice_get p.devices d ≡ Some device)
IsCellThere p s (cell.At (root.Static i) path) = (v : Value) × (scalar_in s.memory.statics i (cell_position p (root.Static i) path) ≡ Some v)
IsCellThere p s (cell.At (root.Auto number func local) path) =
    is_open s.stack number ≡ true → (v : Option Value) × (local_scalar s.stack number local (cell_position p (root.Auto number func local) path) ≡ Some v)

-- what is called is null or no function, or one that has as many parameters
abbrev pub IsCalleeThere : Program → Address → List Value → Type 0
IsCalleeThere p address.Null args = Unit {0}
IsCalleeThere p (address.Func f) args = (func : Func) × (slice_get p.funcs f ≡ Some func) × (length args ≡ func.params)
IsCalleeThere p (address.At object path index count) args = Unit {0}

-- what a step is done with is there
abbrev pub IsPossible : Program → State → Action → Type 0
IsPossible p s (Read at manner) = IsCellThere p s at
IsPossible p s (Write at is_event v) = IsCellThere p s at
IsPossible p s (Choose b) = Unit {0}
IsPossible p s (Call callee args) = IsCalleeThere p callee args
IsPossible p s (Flag on) = Unit {0}
IsPossible p s Save = Unit {0}
