-- `register = call` and `register = irq_save()`: once the result is given it waits to be written, and the activation counts as standing behind
-- the statement.
use Rattle.std.proofs.Common.{◌≡◌, ◌⊎◌, inl, inr, ℕ, Bool, true, List, [], ◌∷◌, ◌++◌, append-nil, Option, Some, ap, sym, ◌∙◌}
use Rattle.cc_flow_sound.specs.CcEval.Context.{Context, reached, cell_at, is_seen}
use Rattle.cc_flow_sound.specs.CcEval.declared.action.Action.TheVariants.{Write}
use Rattle.cc_flow_sound.specs.CcEval.declared.action.Action.{Action}
use Rattle.cc_flow_sound.specs.CcEval.declared.mark.Mark.TheVariants.{Gave, Did}
use Rattle.cc_flow_sound.specs.CcEval.declared.mark.Mark.{Mark}
use Rattle.cc_flow_sound.specs.CcEval.declared.spots.Spot.{Spot}
use Rattle.cc_flow_sound.specs.CcEval.Eval.{meaning, designation, next_of}
use Rattle.cc_flow_sound.specs.CcEval.Marks.{UsesFirst, Works, AnswerSteps}
use Rattle.cc_flow_sound.specs.CcEval.Progress.{Progress, Known, Waits, Traps, Get, known, ask, and_then, bind, needs, given}
use Rattle.cc_program.specs.declared.expr.Expr.TheOpen as one
use Rattle.cc_program.specs.declared.expr.Expr.{Expr, out-Expr}
use Rattle.cc_program.specs.declared.expr.Place.{Place}
use Rattle.cc_program.specs.declared.func.Func.{Func}
use Rattle.cc_program.specs.declared.program.Program.{Program}
use Rattle.cc_program.specs.declared.stmt.Stmt.TheOpen as is
use Rattle.cc_program.specs.declared.stmt.Stmt.{out-Stmt}
use Rattle.cc_program.specs.declared.value.Cell.{Cell}
use Rattle.cc_program.specs.declared.value.Value.{Value}
use Rattle.cc_proof_covers.proofs.Pure.{register_leads}
use Rattle.cc_proof_covers.specs.Operands.{IsOperandStep}
use Rattle.cc_proof_covers.proofs.Statements.{AtStatement, progress_is, works_e, ends}
use Rattle.cc_proof_covers.specs.Invariant.{IsPending, IsCurrent, AreCurrent}
use Rattle.cc_proof_covers.specs.Pending.{is_given, assigns_result, has_result}
use Rattle.cc_proof_covers.specs.Views.{View}
use Rattle.cc_proof_forms.proofs.Assignments.{operands, last, assign_is, operands_use}
use Rattle.cc_proof_forms.proofs.FullSteps.{next, its_answers}
use Rattle.cc_proof_forms.proofs.LastStep.{IsOneStep, IsOperand, IsFinal, operand_or_final}
use Rattle.cc_proof_forms.proofs.Places.{spot_there, own_cell, leads_there}
use Rattle.cc_flow_sound.specs.CcStates.States.{expression_of, context_in}
use Rattle.cc_flow_sound.specs.CcSteps.State.{Active, Memory}
use Rattle.cc_flow_sound.specs.CcSteps.Step.{with_mark}
use Rattle.cc_flow_sound.specs.CcSyntax.Effects.{no_one, also}
use Rattle.cc_flow_sound.specs.CcSyntax.Expressions.{of_two}
use Rattle.cc_flow_sound.specs.CcSyntax.Forms.{form_of, form_at}
use Rattle.cc_flow_sound.specs.CcSyntax.Values.{PlaceType}

-- what is asked for behind a named place is asked for by the value
abbrev beside : Option Spot → Option Value → Get (Option Spot × Option Value)
beside t w = known (t, w)

inner_waits : (q : Progress (Option Value)) (t : Option Spot) (x : Action) → and_then q (beside t) ≡ Waits x → q ≡ Waits x
inner_waits (Known w ms) t x h = absurd (cc)
inner_waits (Waits y) t x h = let g : y ≡ x = cc in ap (λ (z : Action). Waits z) g
inner_waits (Traps ms) t x h = absurd (cc)

module _ (p : Program) (v : View) (m : Memory) (a : Active) (f : Func) (n : ℕ) (at : AtStatement p a f) (e : Expr) (is_do : out-Stmt at.statement ≡ is.Do e) (current : AreCurrent p v m a f n) (d : Place) (x : Expr) (assigns : out-Expr e ≡ one.Assign d x)
    (r : ℕ) (register : (designation (context_in p a f) d).effects.register ≡ Some r) where
  abbrev c : Context
  c = context_in p a f

  abbrev k : ℕ
  k = next p v m a f n at e is_do current

  abbrev IsMark : Action → Mark → Type 0
  IsMark = IsCurrent p v m a f n

  abbrev its_operands : Get (Option Spot × Option Value)
  its_operands = operands p v m a f n at e is_do current d x assigns

  abbrev its_last : Option Spot × Option Value → Get (Option Value)
  its_last = last p v m a f n at e is_do current d x assigns

  abbrev there : Option Spot
  there = spot_there p v m a f n at e is_do current d x assigns r register

  abbrev cell_there : Cell
  cell_there = own_cell p v m a f n at e is_do current d x assigns r register

  operands_are : its_operands ≡ bind ((meaning c x).next no_one) (beside there)
  operands_are =
      ap (λ (z : Get (Option Spot)). bind z (λ t. bind ((meaning c x).next no_one) (λ w. known (t, w))))
      (leads_there p v m a f n at e is_do current d x assigns r register (also (meaning c x).effects.assigned no_one))

  -- the value of the right side is what its last step gives, which no operand asks for
  module _ (typed : (t : PlaceType) × ((designation c d).ctype ≡ Some t)) (gives : is_given (form_of x) ≡ true) (A : Type 0) (ops : Get A) (ends_in : A → Get (Option Value)) (x_is : (ms : List Mark) → (meaning c x).next no_one ms ≡ bind ops ends_in ms)
      (uses : UsesFirst ops) (one : (q : A) → IsOneStep (ends_in q)) (P : A → Type 0) (works : Works IsMark (IsOperandStep c) P ops)
      (given_by : (q : A) (action : Action) (result : Mark → Option Value) → ((ns : List Mark) → ends_in q ns ≡ ask action result ns) → (mark : Mark) → result mark ≡ given mark)
      (action : Action) (asked : its_operands a.marks ≡ Waits action) (other : IsOperandStep c action → ⊥) where
    x_waits : bind ops ends_in a.marks ≡ Waits action
    x_waits = sym (x_is a.marks) ∙ inner_waits ((meaning c x).next no_one a.marks) there action (ap (λ (z : Get (Option Spot × Option Value)). z a.marks) (sym operands_are) ∙ asked)

    x_answers : AnswerSteps IsMark ops a.marks
    x_answers front back mark other' split h =
        its_answers p v m a f n at e is_do current front back mark other' split
        (assign_is p v m a f n at e is_do current d x assigns front
        ∙ ap (λ q. and_then q its_last) (ap (λ (z : Get (Option Spot × Option Value)). z front) operands_are ∙ ap (λ q. and_then q (beside there)) (x_is front ∙ ap (λ q. and_then q ends_in) h)))

    final : IsFinal ops ends_in uses one a.marks action
    final = by (operand_or_final ops ends_in uses one a.marks action x_waits)
      where
        by : IsOperand ops ends_in uses one a.marks action ⊎ IsFinal ops ends_in uses one a.marks action → IsFinal ops ends_in uses one a.marks action
        by (inl h) = absurd (other (works.waits a.marks action x_answers h.waits))
        by (inr h) = h

    operands_after : (mark : Mark) → its_operands (a.marks ++ mark ∷ []) ≡ Known (there, given mark) []
    operands_after mark =
        ap (λ (z : Get (Option Spot × Option Value)). z (a.marks ++ mark ∷ [])) operands_are
        ∙ ap (λ (q : Progress (Option Value)). and_then q (beside there))
        (x_is (a.marks ++ mark ∷ []) ∙ final.ends mark ∙ ap (λ (w : Option Value). Known w []) (given_by final.value action final.result final.step mark))

    abbrev event : Bool
    event = is_seen (designation c d).ctype

    reaches : reached p (designation c d).ctype there ≡ Some cell_there
    reaches = ap (λ (u : Option PlaceType). of_two u there (cell_at p)) typed.1

    has : has_result (expression_of a) ≡ true
    has = ap has_result (works_e p a f at e is_do) ∙ ap (λ y. assigns_result (form_at y)) assigns ∙ gives

    module _ (y : Value) where
      abbrev ms : List Mark
      ms = a.marks ++ Gave (Some y) ∷ []

      last_is : (ns : List Mark) → its_last (there, Some y) ns ≡ ask (Write cell_there event y) (λ mark. Some y) ns
      last_is ns = ap (λ (o : Option Cell). needs o (λ to. ask (Write to event y) (λ mark. Some y)) ns) reaches

      writes_next : next_of c e ms ≡ Waits (Write cell_there event y)
      writes_next = assign_is p v m a f n at e is_do current d x assigns ms ∙ ap (λ q. and_then q its_last) (operands_after (Gave (Some y))) ∙ last_is []

      then_known : next_of c e (ms ++ Did ∷ []) ≡ Known (Some y) []
      then_known =
          let u = (operands_use p v m a f n at e is_do current d x assigns).known (there, Some y) ms [] (operands_after (Gave (Some y))) in
          assign_is p v m a f n at e is_do current d x assigns (ms ++ Did ∷ [])
          ∙ ap (λ (ns : List Mark). bind its_operands its_last (ns ++ Did ∷ [])) (u.1 ∙ append-nil u.0)
          ∙ ap (λ q. and_then q its_last) (u.2 (Did ∷ [])) ∙ last_is (Did ∷ [])

      -- the same statement, with that mark
      abbrev after : AtStatement p (with_mark a (Gave (Some y))) f
      after = record { function = at.function; statement = at.statement; rest = at.rest; here = at.here; site = at.site; stands = at.stands; levels = at.levels }

      pub is_pending : IsPending p f (with_mark a (Gave (Some y))) k r y
      is_pending = record {
        given = has;
        register = (register_leads c IsMark d r register).0;
        event = event;
        waits = progress_is p a f at e (works_e p a f at e is_do) ms ∙ writes_next;
        ends = ends p (with_mark a (Gave (Some y))) f after e is_do Did y [] then_known;
      }
