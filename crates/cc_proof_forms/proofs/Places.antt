-- `place = operand`, `register = operand` and `register = place`: what they ask for, by what their operands may be.
use Rattle.std.proofs.Common.{◌≡◌, ◌⊎◌, inl, inr, ℕ, [], Option, Some, refl, ap, sym, ◌∙◌, subst}
use Rattle.cc_flow_sound.proofs.CcEval.Opened.{meaning_at}
use Rattle.cc_flow_sound.proofs.CcEval.Works.{works_known, works_ask, works_bind, works_needs}
use Rattle.cc_flow_sound.specs.CcEval.Context.{Context, reached}
use Rattle.cc_flow_sound.specs.CcEval.declared.action.Action.TheVariants.{Read}
use Rattle.cc_flow_sound.specs.CcEval.declared.action.Action.{Action}
use Rattle.cc_flow_sound.specs.CcEval.declared.action.Manner.{Manner}
use Rattle.cc_flow_sound.specs.CcEval.declared.mark.Mark.TheVariants.{Did}
use Rattle.cc_flow_sound.specs.CcEval.declared.mark.Mark.{Mark}
use Rattle.cc_flow_sound.specs.CcEval.declared.spots.Spot.TheVariants as spot
use Rattle.cc_flow_sound.specs.CcEval.declared.spots.Spot.{Spot}
use Rattle.cc_flow_sound.specs.CcEval.Eval.{Meaning, Designation, meaning, designation, fetched, manner}
use Rattle.cc_flow_sound.specs.CcEval.Marks.{Works}
use Rattle.cc_flow_sound.specs.CcEval.Progress.{Waits, known, ask, and_then, given}
use Rattle.cc_program.specs.declared.expr.Expr.TheOpen as one
use Rattle.cc_program.specs.declared.expr.Expr.{Expr, out-Expr}
use Rattle.cc_program.specs.declared.expr.Place.{Place}
use Rattle.cc_program.specs.declared.func.Func.{Func}
use Rattle.cc_program.specs.declared.program.Program.{Program}
use Rattle.cc_program.specs.declared.stmt.Stmt.TheOpen as is
use Rattle.cc_program.specs.declared.stmt.Stmt.{out-Stmt}
use Rattle.cc_program.specs.declared.value.Cell.TheVariants as cell
use Rattle.cc_program.specs.declared.value.Cell.{Cell}
use Rattle.cc_program.specs.declared.value.Root.TheVariants as root
use Rattle.cc_program.specs.declared.value.Value.{Value}
use Rattle.cc_proof_covers.proofs.Pure.{named_cell, register_leads}
use Rattle.cc_proof_covers.specs.Operands.{IsOperandStep}
use Rattle.cc_proof_covers.proofs.Statements.{AtStatement}
use Rattle.cc_proof_covers.specs.Invariant.{EndsAt, IsCurrentAt, IsCurrent, AreCurrent}
use Rattle.cc_proof_covers.specs.Rules.{ReadsWhole, GoesOn, Allowed, AllowedRegister, AllowedWrite}
use Rattle.cc_proof_covers.specs.Views.{View}
use Rattle.cc_proof_forms.proofs.Assignments.{operands, last, assign_is, assign_allowed}
use Rattle.cc_proof_forms.proofs.FullSteps.{next, next_is, operand_step}
use Rattle.cc_proof_forms.specs.Sets.{Good}
use Rattle.cc_flow_sound.specs.CcStates.States.{expression_of, context_in}
use Rattle.cc_flow_sound.specs.CcSteps.State.{Active, Memory}
use Rattle.cc_flow_sound.specs.CcSteps.Step.{progress_of}
use Rattle.cc_flow_sound.specs.CcSyntax.Effects.{Registers, no_one}

module _ (p : Program) (v : View) (m : Memory) (a : Active) (f : Func) (n : ℕ) (at : AtStatement p a f) (e : Expr) (is_do : out-Stmt at.statement ≡ is.Do e) (current : AreCurrent p v m a f n) (d : Place) (x : Expr) (assigns : out-Expr e ≡ one.Assign d x) where
  abbrev c : Context
  c = context_in p a f

  abbrev k : ℕ
  k = next p v m a f n at e is_do current

  abbrev IsMark : Action → Mark → Type 0
  IsMark = IsCurrent p v m a f n

  abbrev IsOperandStep' : Action → Type 0
  IsOperandStep' = IsOperandStep c

  -- `place = operand`, whatever the place leads to
  pub place_assigned : (Spots : Option Spot → Type 0) (val : Value → Type 0) → ((later : Registers) → Works IsMark IsOperandStep' Spots ((designation c d).leads later)) →
      ((later : Registers) → Works IsMark IsOperandStep' (Good val) ((meaning c x).next later)) →
      ((s : Option Spot) (to : Cell) (w : Value) → Spots s → reached p (designation c d).ctype s ≡ Some to → val w → EndsAt p f a k Did → AllowedWrite p v m a f n to w) →
      (action : Action) → progress_of p a (expression_of a) ≡ Waits action → Allowed p v m a f n action
  place_assigned Spots val leads value writes =
      assign_allowed p v m a f n at e is_do current d x assigns Spots (Good val) IsOperandStep' leads (value no_one) (λ action h w on. operand_step p v m a f n action h on) (λ s to w h there good closes. writes s to w h there good closes)

  -- ---- a register

  module _ (r : ℕ) (register : (designation c d).effects.register ≡ Some r) where
    abbrev pub spot_there : Option Spot
    spot_there = Some (spot.Object (root.Auto a.number a.func r) [])

    abbrev pub own_cell : Cell
    own_cell = cell.At (root.Auto a.number a.func r) []

    pub leads_there : (later : Registers) → (designation c d).leads later ≡ known spot_there
    leads_there = (register_leads c IsMark d r register).1

    module _ (In : Option Value → Type 0) (IsStep : Action → Type 0) (value : Works IsMark IsStep In ((meaning c x).next no_one)) where
      pub register_allowed : ((action : Action) → IsStep action → operands p v m a f n at e is_do current d x assigns a.marks ≡ Waits action → GoesOn p v m a f n → Allowed p v m a f n action) →
          ((w : Value) → In (Some w) → EndsAt p f a k Did → AllowedRegister p v m a f n a.number a.func r [] w) → (action : Action) → progress_of p a (expression_of a) ≡ Waits action → Allowed p v m a f n action
      register_allowed asks writes =
          assign_allowed p v m a f n at e is_do current d x assigns (λ s. s ≡ spot_there) In IsStep
          (λ later. subst (Works IsMark IsStep (λ s. s ≡ spot_there)) (sym (leads_there later)) (works_known IsMark IsStep (λ s. s ≡ spot_there) spot_there refl)) value asks
          (λ s to w h there good closes.
          let is : to ≡ own_cell = named_cell p (designation c d).ctype (root.Auto a.number a.func r) [] to (ap (λ (z : Option Spot). reached p (designation c d).ctype z) (sym h) ∙ there) in
          subst (λ (z : Cell). AllowedWrite p v m a f n z w) (sym is) (inl (writes w good closes)))

    -- `register = operand`
    pub register_assigned : (val : Value → Type 0) → ((later : Registers) → Works IsMark IsOperandStep' (Good val) ((meaning c x).next later)) → ((w : Value) → val w → EndsAt p f a k Did → AllowedRegister p v m a f n a.number a.func r [] w) →
        (action : Action) → progress_of p a (expression_of a) ≡ Waits action → Allowed p v m a f n action
    register_assigned val value writes = register_allowed (Good val) IsOperandStep' (value no_one) (λ action h w on. operand_step p v m a f n action h on) (λ w h closes. writes w h closes)

    -- `register = place`
    module _ (b : Place) (loads : out-Expr x ≡ one.Load b) (Spots : Option Spot → Type 0) (leads : (later : Registers) → Works IsMark IsOperandStep' Spots ((designation c b).leads later)) where
      abbrev from : Designation
      from = designation c b

      -- a cell to which the place leads
      abbrev pub IsFrom : Cell → Type 0
      IsFrom to = (s : Option Spot) × Spots s × (reached p from.ctype s ≡ Some to)

      abbrev IsStep : Action → Type 0
      IsStep action = IsOperandStep' action ⊎ ((to : Cell) × (how : Manner) × IsFrom to × (action ≡ Read to how))

      -- what was read there
      abbrev WasRead : Option Value → Type 0
      WasRead w = (y : Value) → w ≡ Some y → (to : Cell) × IsFrom to × IsCurrentAt p v m a f n to y

      given_current : (to : Cell) (how : Manner) (mark : Mark) → IsFrom to → IsMark (Read to how) mark → WasRead (given mark)
      given_current to how mark there h y g = (to, there, h.2 y (ap given (sym h.1) ∙ g))

      fetched_works : (later : Registers) (s : Option Spot) → Spots s → Works IsMark IsStep WasRead (fetched c from later s)
      fetched_works later s h =
          works_needs IsMark IsStep WasRead (reached p from.ctype s) (λ to. ask (Read to (manner from later)) given)
          (λ to q. works_ask IsMark IsStep WasRead (Read to (manner from later)) given (inr (to, manner from later, (s, h, q), refl)) (λ mark k. given_current to (manner from later) mark (s, h, q) k))

      leads_wider : (later : Registers) → Works IsMark IsStep Spots (from.leads later)
      leads_wider later = record { known = λ ms left s answers h. (leads later).known ms left s answers h; waits = λ ms action answers h. inl ((leads later).waits ms action answers h) }

      loaded_works : (later : Registers) → Works IsMark IsStep WasRead ((meaning c x).next later)
      loaded_works later =
          subst (λ (z : Meaning). Works IsMark IsStep WasRead (z.next later)) (sym (meaning_at c x (one.Load b) loads))
          (works_bind IsMark IsStep Spots WasRead (from.leads later) (fetched c from later) (leads_wider later) (λ s h. fetched_works later s h))

      -- a read that is asked for is whole
      abbrev AreWhole : Type 0
      AreWhole = (to : Cell) (how : Manner) → IsFrom to → progress_of p a (expression_of a) ≡ Waits (Read to how) → ReadsWhole p v m a f n to

      asked_of : (action : Action) → operands p v m a f n at e is_do current d x assigns a.marks ≡ Waits action → progress_of p a (expression_of a) ≡ Waits action
      asked_of action h = next_is p v m a f n at e is_do current a.marks ∙ assign_is p v m a f n at e is_do current d x assigns a.marks ∙ ap (λ q. and_then q (last p v m a f n at e is_do current d x assigns)) h

      step_allowed : AreWhole → (action : Action) → IsStep action → operands p v m a f n at e is_do current d x assigns a.marks ≡ Waits action → GoesOn p v m a f n → Allowed p v m a f n action
      step_allowed whole action (inl h) asked on = operand_step p v m a f n action h on
      step_allowed whole action (inr h) asked on = subst (Allowed p v m a f n) (sym h.3) (whole h.0 h.1 h.2 (asked_of action asked ∙ ap (λ (z : Action). Waits z) h.3), on)

      pub register_read : AreWhole →
          ((to : Cell) (w : Value) → IsFrom to → IsCurrentAt p v m a f n to w → EndsAt p f a k Did → AllowedRegister p v m a f n a.number a.func r [] w) →
          (action : Action) → progress_of p a (expression_of a) ≡ Waits action → Allowed p v m a f n action
      register_read whole writes =
          register_allowed WasRead IsStep (loaded_works no_one) (step_allowed whole) (λ w h closes. let g = h w refl in writes g.0 w g.1 g.2 closes)
