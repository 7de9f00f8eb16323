-- With what the rules of its form ask, the steps of an expression statement are allowed, and its value is not known at its point.
use Rattle.std.proofs.Common.{◌≡◌, ◌⊎◌, inr, ℕ, true, false, List, [], Option, Some, None, refl, ap, sym, ◌∙◌, subst, slice_get}
use Rattle.std.proofs.lemmas.Option.{same_Some}
use Rattle.cc_flow_sound.specs.CcCells.Cells.{scalar_in}
use Rattle.cc_flow_sound.proofs.CcEval.Links.{register_linked, place_type_linked}
use Rattle.cc_flow_sound.proofs.CcEval.Works.{works_as}
use Rattle.cc_flow_sound.specs.CcEval.Context.{Context, reached}
use Rattle.cc_flow_sound.specs.CcEval.declared.action.Action.TheVariants.{Read}
use Rattle.cc_flow_sound.specs.CcEval.declared.action.Action.{Action}
use Rattle.cc_flow_sound.specs.CcEval.declared.action.Manner.{Manner}
use Rattle.cc_flow_sound.specs.CcEval.declared.mark.Mark.TheVariants.{Did}
use Rattle.cc_flow_sound.specs.CcEval.declared.mark.Mark.{Mark}
use Rattle.cc_flow_sound.specs.CcEval.declared.spots.Spot.{Spot}
use Rattle.cc_flow_sound.specs.CcEval.Eval.{meaning, designation}
use Rattle.cc_flow_sound.specs.CcEval.Marks.{Works}
use Rattle.cc_flow_sound.specs.CcEval.Progress.{Known, Waits}
use Rattle.cc_program.specs.declared.expr.Expr.TheOpen as one
use Rattle.cc_program.specs.declared.expr.Expr.{Expr, out-Expr}
use Rattle.cc_program.specs.declared.expr.Place.{Place as PlaceOf}
use Rattle.cc_program.specs.declared.func.Func.{Func}
use Rattle.cc_program.specs.declared.program.Program.{Program}
use Rattle.cc_program.specs.declared.stmt.Stmt.TheOpen as is
use Rattle.cc_program.specs.declared.stmt.Stmt.{out-Stmt}
use Rattle.cc_program.specs.declared.value.Cell.TheVariants as cell
use Rattle.cc_program.specs.declared.value.Cell.{Cell}
use Rattle.cc_program.specs.declared.value.Root.TheVariants as root
use Rattle.cc_program.specs.declared.value.Value.{Value}
use Rattle.cc_proof_covers.proofs.Pure.{register_leads}
use Rattle.cc_proof_covers.proofs.Statements.{AtStatement, own}
use Rattle.cc_proof_covers.specs.Invariant.{EndsAt, IsCurrentAt, IsCurrent, AreCurrent, MayBeWritten}
use Rattle.cc_proof_covers.specs.Operands.{IsOperandStep}
use Rattle.cc_proof_covers.specs.Rules.{ReadsWhole, Allowed, AllowedRegister, AllowedWrite, IsHere}
use Rattle.cc_proof_covers.specs.Views.{View}
use Rattle.cc_proof_forms.proofs.Assignments.{assign_not_known}
use Rattle.cc_proof_forms.proofs.Calls.{call_alone, call_not_known, register_called}
use Rattle.cc_proof_forms.proofs.Intrinsics.{off_flags, on_flags, flag_set, flag_not_known, flag_restored, restore_not_known, save_alone, save_not_known, register_saved}
use Rattle.cc_proof_forms.proofs.Places.{place_assigned, register_assigned, register_read}
use Rattle.cc_proof_forms.specs.Sets.{OperandSets, Good}
use Rattle.cc_proof_forms.specs.StatementRules.{IsCellOf, WasReadIn, IsReadWhole, GetsRegister, WriteRule, AreOperands, argument, RegisterRule, GetsOperand, GetsRead, GetsResult, GetsFlag, ExpressionRule, ToRegister, ToPlace, Calls, TurnsOff, TurnsOn, Restores, Saves}
use Rattle.cc_flow_sound.proofs.CcStates.StateLemmas.{asked}
use Rattle.cc_flow_sound.specs.CcStates.States.{expression_of, context_in}
use Rattle.cc_flow_sound.specs.CcSteps.State.{Active, Memory}
use Rattle.cc_flow_sound.specs.CcSteps.Step.{progress_of}
use Rattle.cc_flow_sound.specs.CcSyntax.Effects.{Registers}
use Rattle.cc_flow_sound.specs.CcSyntax.Programs.{place_type}
use Rattle.cc_flow_sound.specs.CcSyntax.Values.{PlaceType}

module _ (p : Program) (v : View) (o : OperandSets) (m : Memory) (a : Active) (f : Func) (n : ℕ) (here : IsHere p v m a f n) (at : AtStatement p a f) (e : Expr) (is_do : out-Stmt at.statement ≡ is.Do e) where
  abbrev c : Context
  c = context_in p a f

  abbrev k : ℕ
  k = (own p a f at).behind

  current : AreCurrent p v m a f n
  current = here.memory.marks refl

  -- by the type of the place
  cell_of : (d : PlaceOf) (s : Option Spot) (to : Cell) → o.leads n d s → reached p (designation c d).ctype s ≡ Some to → IsCellOf p v o a.func f n d to
  cell_of d s to h there = (s, h, ap (λ (t : Option PlaceType). reached p t s) (sym (place_type_linked c d)) ∙ there)

  typed_of : (d : PlaceOf) (t : PlaceType) → place_type p f.locals d ≡ Some t → (t : PlaceType) × ((designation c d).ctype ≡ Some t)
  typed_of d t h = (t, place_type_linked c d ∙ h)

  -- of an argument by its place
  arguments_in : (args : List Expr) → AreOperands p v o a.func f n k args → (i : ℕ) (arg : Expr) → slice_get args i ≡ Some arg → (later : Registers) →
      Works (IsCurrent p v m a f n) (IsOperandStep c) (Good (argument p v o a.func f n k args i)) ((meaning c arg).next later)
  arguments_in args h i arg there later =
      works_as (IsCurrent p v m a f n) (IsOperandStep c) (Good (o.holds n arg)) (Good (argument p v o a.func f n k args i)) ((meaning c arg).next later) in_place (h i arg there m a refl here later)
    where
      in_place : (w : Option Value) → Good (o.holds n arg) w → Good (argument p v o a.func f n k args i) w
      in_place None g = tt
      in_place (Some w) g = (arg, there, g)

  write_allowed : (to : Cell) (w : Value) → WriteRule p v o a.func f n k to w → EndsAt p f a k Did → AllowedWrite p v m a f n to w
  write_allowed (cell.Device d) w h closes = record { next = k; ends = closes; flows = h.flows; keeps = h.keeps }
  write_allowed (cell.At (root.Static i) path) w h closes = record { next = k; ends = closes; flows = h.writes.flows; keeps = h.writes.keeps; value = h.value; tracked = h.tracked }
  write_allowed (cell.At (root.Auto number g r) path) w h closes = inr (record { other = h.other; value = h.value; next = k; ends = closes; flows = h.writes.flows; keeps = h.writes.keeps })

  was_read : (to : Cell) (w : Value) → IsCurrentAt p v m a f n to w → WasReadIn p v o a.func f n to w
  was_read (cell.Device d) w h = h
  was_read (cell.At (root.Static i) path) w h = (h.0, λ t. (h.1 t).0)
  was_read (cell.At (root.Auto number g r) path) w h = h.1

  -- its number is of a call of its function
  own_call : (number g : ℕ) → slice_get here.openings number ≡ Some g → number ≡ a.number → g ≡ a.func
  own_call number g opened same = same_Some g a.func (sym opened ∙ ap (slice_get here.openings) same ∙ here.active.number)

  read_whole : (to : Cell) (how : Manner) → progress_of p a (expression_of a) ≡ Waits (Read to how) → IsReadWhole p v o a.func f n to → ReadsWhole p v m a f n to
  read_whole (cell.Device d) how waits h = tt
  read_whole (cell.At (root.Static i) path) how waits h = h
  read_whole (cell.At (root.Auto number g r) path) how waits h = λ same register. h (own_call number g (asked p here.openings a here.active (Read (cell.At (root.Auto number g r) path) how) waits).2 same) register

  module _ (d : PlaceOf) (x : Expr) (assigns : out-Expr e ≡ one.Assign d x) (r : ℕ) (register : (designation c d).effects.register ≡ Some r) where
    register_allowed : (w : Value) → GetsRegister p v o a.func f n k r w → ((i : ℕ) → v.same k r i → (scalar_in m.statics i 0 ≡ Some w) ⊎ (v.may_be n true × MayBeWritten p v a.func i)) → EndsAt p f a k Did → AllowedRegister p v m a f n a.number a.func r [] w
    register_allowed w h pairs closes = record {
      own = refl;
      whole = refl;
      register = (register_leads c (IsCurrent p v m a f n) d r register).0;
      next = k;
      ends = closes;
      flows = h.flows;
      keeps = h.keeps;
      value = h.value;
      pairs = pairs;
    }

    same_value : (to : Cell) (i : ℕ) (w : Value) → to ≡ cell.At (root.Static i) [] → v.tracked i ≡ true → IsCurrentAt p v m a f n to w → (scalar_in m.statics i 0 ≡ Some w) ⊎ (v.may_be n true × MayBeWritten p v a.func i)
    same_value to i w same tracked h = let known = subst (λ (z : Cell). IsCurrentAt p v m a f n z w) same h in (known.1 tracked).1

    register_steps : RegisterRule p v o a.func f n k d r x → (action : Action) → progress_of p a (expression_of a) ≡ Waits action → Allowed p v m a f n action
    register_steps (GetsOperand operand gets drops) =
        register_assigned p v m a f n at e is_do current d x assigns r register (o.holds n x) (operand m a refl here) (λ w h closes. register_allowed w (gets w h) (λ i q. absurd (drops i q)) closes)
    register_steps (GetsRead b loads leads whole gets same) =
        register_read p v m a f n at e is_do current d x assigns r register b loads (o.leads n b) (leads m a refl here)
        (λ to how g waits. read_whole to how waits (whole to (cell_of b g.0 to g.1 g.2)))
        (λ to w g h closes.
        let there = cell_of b g.0 to g.1 g.2 in
        register_allowed w (gets to w there (was_read to w h)) (λ i u. let q = same to i there u in same_value to i w q.1 q.0 h) closes)
    register_steps (GetsResult fe args calls function arguments t typed rules) =
        register_called p v m a f n x fe args calls (o.holds n fe) (argument p v o a.func f n k args) (function m a refl here) (arguments_in args arguments) at e is_do current d assigns r register (typed_of d t typed) rules
    register_steps (GetsFlag saves t typed rule) = register_saved p v m a f n at e is_do current d x assigns r register (typed_of d t typed) saves rule

  expression_steps : ExpressionRule p v o a.func f n k e → (action : Action) → progress_of p a (expression_of a) ≡ Waits action → Allowed p v m a f n action
  expression_steps (ToRegister d x r assigns register rule) = register_steps d x assigns r (register_linked c d ∙ register) rule
  expression_steps (ToPlace d x assigns leads operand writes) =
      place_assigned p v m a f n at e is_do current d x assigns (o.leads n d) (o.holds n x) (leads m a refl here) (operand m a refl here) (λ s to w h there good closes. write_allowed to w (writes to w (cell_of d s to h there) good) closes)
  expression_steps (Calls fe args calls function arguments rules) =
      call_alone p v m a f n e fe args calls (o.holds n fe) (argument p v o a.func f n k args) (function m a refl here) (arguments_in args arguments) at is_do current rules
  expression_steps (TurnsOff is flows flag) = flag_set p v m a f n at e is_do current false (off_flags p v m a f n at e is_do current is) flows flag
  expression_steps (TurnsOn is flows flag) = flag_set p v m a f n at e is_do current true (on_flags p v m a f n at e is_do current is) flows flag
  expression_steps (Restores x is operand rule) = flag_restored p v m a f n at e is_do current x is (o.holds n x) (operand m a refl here) rule
  expression_steps (Saves is rule) = save_alone p v m a f n at e is_do current is rule

  -- its value is not known at its point
  pub expression_waits : ExpressionRule p v o a.func f n k e → (w : Value) (ms : List Mark) → progress_of p a (expression_of a) ≡ Known (Some w) ms → ⊥
  expression_waits (ToRegister d x r assigns register rule) = assign_not_known p v m a f n at e is_do current d x assigns
  expression_waits (ToPlace d x assigns leads operand writes) = assign_not_known p v m a f n at e is_do current d x assigns
  expression_waits (Calls fe args calls function arguments rules) =
      call_not_known p v m a f n e fe args calls (o.holds n fe) (argument p v o a.func f n k args) (function m a refl here) (arguments_in args arguments) at is_do current
  expression_waits (TurnsOff is flows flag) = flag_not_known p v m a f n at e is_do current false (off_flags p v m a f n at e is_do current is)
  expression_waits (TurnsOn is flows flag) = flag_not_known p v m a f n at e is_do current true (on_flags p v m a f n at e is_do current is)
  expression_waits (Restores x is operand rule) = restore_not_known p v m a f n at e is_do current x is
  expression_waits (Saves is rule) = save_not_known p v m a f n at e is_do current is

  pub expression_allowed : ExpressionRule p v o a.func f n k e → (action : Action) → progress_of p a (expression_of a) ≡ Waits action → Allowed p v m a f n action
  expression_allowed rule = expression_steps rule
