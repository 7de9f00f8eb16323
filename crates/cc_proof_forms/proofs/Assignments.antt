-- What assignments ask for: what their operands ask for, and then the write.
use Rattle.std.proofs.Common.{◌≡◌, inl, inr, ℕ, Bool, List, [], ◌∷◌, Option, Some, None, refl, ap, sym, ◌∙◌, subst}
use Rattle.cc_flow_sound.proofs.CcEval.MeaningUses.{meaning_uses, designation_uses}
use Rattle.cc_flow_sound.proofs.CcEval.Opened.{meaning_at}
use Rattle.cc_flow_sound.proofs.CcEval.Uses.{uses_known, uses_bind}
use Rattle.cc_flow_sound.proofs.CcEval.Works.{works_known, works_ask, works_bind, works_needs}
use Rattle.cc_flow_sound.specs.CcEval.Context.{Context, reached, is_seen}
use Rattle.cc_flow_sound.specs.CcEval.declared.action.Action.TheVariants.{Write}
use Rattle.cc_flow_sound.specs.CcEval.declared.action.Action.{Action}
use Rattle.cc_flow_sound.specs.CcEval.declared.mark.Mark.TheVariants.{Did}
use Rattle.cc_flow_sound.specs.CcEval.declared.mark.Mark.{Mark}
use Rattle.cc_flow_sound.specs.CcEval.declared.spots.Spot.{Spot}
use Rattle.cc_flow_sound.specs.CcEval.Eval.{Meaning, Designation, meaning, designation, next_of, place_and_value, stored}
use Rattle.cc_flow_sound.specs.CcEval.Marks.{UsesFirst, Works}
use Rattle.cc_flow_sound.specs.CcEval.Progress.{Progress, Known, Waits, Traps, Get, known, ask, bind, needs}
use Rattle.cc_program.specs.declared.expr.Expr.TheOpen as one
use Rattle.cc_program.specs.declared.expr.Expr.{Expr, out-Expr}
use Rattle.cc_program.specs.declared.expr.Place.{Place}
use Rattle.cc_program.specs.declared.func.Func.{Func}
use Rattle.cc_program.specs.declared.program.Program.{Program}
use Rattle.cc_program.specs.declared.stmt.Stmt.TheOpen as is
use Rattle.cc_program.specs.declared.stmt.Stmt.{out-Stmt}
use Rattle.cc_program.specs.declared.value.Cell.{Cell}
use Rattle.cc_program.specs.declared.value.Value.{Value}
use Rattle.cc_proof_covers.proofs.Statements.{AtStatement}
use Rattle.cc_proof_covers.specs.Invariant.{EndsAt, IsCurrent, AreCurrent}
use Rattle.cc_proof_covers.specs.Rules.{GoesOn, Allowed, AllowedWrite}
use Rattle.cc_proof_covers.specs.Views.{View}
use Rattle.cc_proof_forms.proofs.FullSteps.{next, not_known, step_allowed}
use Rattle.cc_proof_forms.proofs.LastStep.{IsOneStep}
use Rattle.cc_flow_sound.specs.CcStates.States.{expression_of, context_in}
use Rattle.cc_flow_sound.specs.CcSteps.State.{Active, Memory}
use Rattle.cc_flow_sound.specs.CcSteps.Step.{progress_of}
use Rattle.cc_flow_sound.specs.CcSyntax.Effects.{Registers, no_one, also}

-- ---- the write

write_step : (o : Option Cell) (w : Option Value) (event : Bool) → IsOneStep (needs o (λ to. needs w (λ x. ask (Write to event x) (λ m. w))))
write_step None w event = inl (λ ms. refl)
write_step (Some to) None event = inl (λ ms. refl)
write_step (Some to) (Some x) event = inr (Write to event x, (λ m. Some x), λ ms. refl)

traps_waits : (q : Progress (Option Value)) (ms : List Mark) (x : Action) → q ≡ Traps ms → q ≡ Waits x → ⊥
traps_waits q ms x h e = cc

waits_both : (q : Progress (Option Value)) (x y : Action) → q ≡ Waits x → q ≡ Waits y → x ≡ y
waits_both q x y h e = cc

known_both : (x y : Option Value) (ms ns : List Mark) → Known x ms ≡ Known y ns → x ≡ y
known_both x y ms ns e = cc

pub record IsWrite (o : Option Cell) (w : Option Value) (event : Bool) (action : Action) (result : Mark → Option Value) : Type 0 where
  pub to : Cell
  pub value : Value
  pub there : o ≡ Some to
  pub good : w ≡ Some value
  pub is : action ≡ Write to event value
  pub gives : (m : Mark) → result m ≡ Some value

write_of : (o : Option Cell) (w : Option Value) (event : Bool) (action : Action) (result : Mark → Option Value) → ((ns : List Mark) → needs o (λ to. needs w (λ x. ask (Write to event x) (λ m. w))) ns ≡ ask action result ns) → IsWrite o w event action result
write_of None w event action result h = absurd (traps_waits (Traps []) [] action refl (h []))
write_of (Some to) None event action result h = absurd (traps_waits (Traps []) [] action refl (h []))
write_of (Some to) (Some x) event action result h = record {
  to = to;
  value = x;
  there = refl;
  good = refl;
  is = sym (waits_both (Waits (Write to event x)) (Write to event x) action refl (h []));
  gives = λ m. sym (known_both (Some x) (result m) [] [] (h (m ∷ [])));
}

module _ (p : Program) (v : View) (m : Memory) (a : Active) (f : Func) (n : ℕ) (at : AtStatement p a f) (e : Expr) (is_do : out-Stmt at.statement ≡ is.Do e) (current : AreCurrent p v m a f n) (d : Place) (x : Expr) (assigns : out-Expr e ≡ one.Assign d x) where
  abbrev c : Context
  c = context_in p a f

  abbrev k : ℕ
  k = next p v m a f n at e is_do current

  abbrev IsMark : Action → Mark → Type 0
  IsMark = IsCurrent p v m a f n

  abbrev pub its_place : Designation
  its_place = designation c d

  abbrev pub operands : Get (Option Spot × Option Value)
  operands = place_and_value its_place (meaning c x) no_one

  abbrev pub last : Option Spot × Option Value → Get (Option Value)
  last q = stored c its_place q.0 q.1 q.1

  pub assign_is : (ms : List Mark) → next_of c e ms ≡ bind operands last ms
  assign_is ms = ap (λ (z : Meaning). z.next no_one ms) (meaning_at c e (one.Assign d x) assigns)

  pub operands_use : UsesFirst operands
  operands_use =
      uses_bind (its_place.leads (also (meaning c x).effects.assigned no_one)) (λ z. bind ((meaning c x).next no_one) (λ w. known (z, w))) (designation_uses c d (also (meaning c x).effects.assigned no_one))
      (λ z. uses_bind ((meaning c x).next no_one) (λ w. known (z, w)) (meaning_uses c x no_one) (λ w. uses_known (z, w)))

  last_is_one : (q : Option Spot × Option Value) → IsOneStep (last q)
  last_is_one q = write_step (reached p its_place.ctype q.0) q.1 (is_seen its_place.ctype)

  module _ (Spots : Option Spot → Type 0) (In : Option Value → Type 0) (IsStep : Action → Type 0) (leads : (later : Registers) → Works IsMark IsStep Spots (its_place.leads later)) (value : Works IsMark IsStep In ((meaning c x).next no_one)) where
    abbrev Both : Option Spot × Option Value → Type 0
    Both q = Spots q.0 × In q.1

    both_work : Works IsMark IsStep Both operands
    both_work =
        works_bind IsMark IsStep Spots Both (its_place.leads (also (meaning c x).effects.assigned no_one)) (λ t. bind ((meaning c x).next no_one) (λ w. known (t, w))) (leads (also (meaning c x).effects.assigned no_one))
        (λ t h. works_bind IsMark IsStep In Both ((meaning c x).next no_one) (λ w. known (t, w)) value (λ w g. works_known IsMark IsStep Both (t, w) (h, g)))

    -- `place = value`, where the place leads to such places, and the value is such
    pub assign_allowed : ((action : Action) → IsStep action → operands a.marks ≡ Waits action → GoesOn p v m a f n → Allowed p v m a f n action) →
        ((s : Option Spot) (to : Cell) (w : Value) → Spots s → reached p its_place.ctype s ≡ Some to → In (Some w) → EndsAt p f a k Did → AllowedWrite p v m a f n to w) →
        (action : Action) → progress_of p a (expression_of a) ≡ Waits action → Allowed p v m a f n action
    assign_allowed asks writes =
        step_allowed p v m a f n at e is_do current (Option Spot × Option Value) operands last assign_is operands_use last_is_one Both IsStep both_work asks
        (λ q h action result step closes.
        let w = write_of (reached p its_place.ctype q.0) q.1 (is_seen its_place.ctype) action result step in
        subst (Allowed p v m a f n) (sym w.is) (writes q.0 w.to w.value h.0 w.there (subst In w.good h.1) (closes Did w.value (w.gives Did))))

  -- its write has no mark, so its value is not known at its point
  abbrev Never : (A : Type 0) → A → Type 0
  Never A q = ⊥

  abbrev AnyStep : Action → Type 0
  AnyStep action = Unit {0}

  last_never : (q : Option Spot × Option Value) → Works IsMark AnyStep (Never (Option Value)) (last q)
  last_never q =
      works_needs IsMark AnyStep (Never (Option Value)) (reached p its_place.ctype q.0) (λ to. needs q.1 (λ w. ask (Write to (is_seen its_place.ctype) w) (λ mark. q.1)))
      (λ to h. works_needs IsMark AnyStep (Never (Option Value)) q.1 (λ w. ask (Write to (is_seen its_place.ctype) w) (λ mark. q.1))
      (λ w g. works_ask IsMark AnyStep (Never (Option Value)) (Write to (is_seen its_place.ctype) w) (λ mark. q.1) tt (λ mark n. n)))

  operands_work : Works IsMark AnyStep (λ q. Unit {0}) operands
  operands_work = record { known = λ ms left q answers h. (operands_use.known q ms left h, tt); waits = λ ms action answers h. tt }

  pub assign_not_known : (w : Value) (ms : List Mark) → progress_of p a (expression_of a) ≡ Known (Some w) ms → ⊥
  assign_not_known =
      not_known p v m a f n at e is_do current
      (record {
        known = λ ms left w answers h. absurd (all_never.known ms left w (λ front back mark action split g. answers front back mark action split (assign_is front ∙ g)) (sym (assign_is ms) ∙ h)).1;
        waits = λ ms action answers h. tt;
      })
    where
      all_never : Works IsMark AnyStep (Never (Option Value)) (bind operands last)
      all_never = works_bind IsMark AnyStep (λ q. Unit {0}) (Never (Option Value)) operands last operands_work (λ q h. last_never q)
