-- Turns without an arrival, one after the other, of one activation alone. Where the flag is off they are made whoever arrives.
use Rattle.std.proofs.Common.{◌≡◌, ℕ, zero, suc, Bool, false, List, [], ◌∷◌, ◌++◌, Option, Some, None, slice_get, refl, ap, sym, ◌∙◌, subst}
use Rattle.cc_program.specs.declared.expr.Expr.{Expr}
use Rattle.cc_program.specs.declared.func.Func.{Func}
use Rattle.cc_program.specs.declared.program.Program.{Program}
use Rattle.cc_program.specs.declared.stmt.Stmt.{Stmt}
use Rattle.cc_program.specs.declared.value.Value.{Value}
use Rattle.cc_rewrite_accesses_follows.specs.Accesses.{context}
use Rattle.cc_rewrite_accesses_follows.specs.Asked.{Asked, mark_of, needs_of, Asks}
use Rattle.cc_rewrite_accesses_follows.proofs.Turns.{steps, head-met, tail-met, unknown, now, ask-turn}
use Rattle.cc_rewrite_residues.specs.Residues.{AreMet, Does, statics_after, locals_after, Turns, Stops, Leads, alone}
use Rattle.cc_rewrite_residues.specs.Standing.{Frame, Locals, Spot, standing, Rest, running}
use Rattle.cc_rewrite_residues.proofs.DoSteps.{off-turn}
use Rattle.cc_steps.specs.CcControl.Control.{Level}
use Rattle.cc_steps.specs.CcEval.Eval.{next_of}
use Rattle.cc_steps.specs.CcEval.declared.mark.Mark.{Mark}
use Rattle.cc_steps.specs.Runs.{run}
use Rattle.cc_steps.specs.State.{Active, State}
use Rattle.cc_steps.specs.Step.{is_known, stopped}
use Rattle.cc_steps.specs.declared.event.End.TheVariants.{Trap}
use Rattle.cc_steps.specs.Turn.{turn}

module _ (p : Program) (r : Rest) (flag : Bool) where
  unfoldable pub Passing : ℕ → State → State → Type 0
  Passing zero s t = s ≡ t
  Passing (suc n) s t = (statics : List (List Value)) × (a : Active) × (s ≡ running r flag statics a) × Passing n (turn p s None) t

  pub passed : (t : State) → Passing zero t t
  unfolding Passing
  passed t = refl

  pub pass : (n : ℕ) (statics : List (List Value)) (a : Active) (s t : State) → turn p (running r flag statics a) None ≡ s → Passing n s t → Passing (suc n) (running r flag statics a) t
  unfolding Passing
  pass n statics a s t e h = (statics, a, refl, subst (λ (x : State). Passing n x t) (sym e) h)

  pub passing-run : (n : ℕ) (s t : State) → Passing n s t → run p s (alone n) ≡ t
  unfolding Passing
  passing-run zero s t h = h
  passing-run (suc n) s t h = passing-run n (turn p s None) t h.3

module _ (p : Program) (r : Rest) where
  whoever : (s : State) (statics : List (List Value)) (a : Active) → s ≡ running r false statics a → (arrival : Option ℕ) → turn p s None ≡ turn p s arrival
  whoever s statics a e arrival = ap (λ x. turn p x None) e ∙ sym (off-turn p r statics a arrival) ∙ ap (λ x. turn p x arrival) (sym e)

  pub passing-leads : (n : ℕ) (s t : State) → t.memory.trace ≡ r.trace → Passing p r false n s t → Leads p n s t
  unfolding Passing
  passing-leads zero s t same h = h
  passing-leads (suc n) s t same h = (
    ap (λ (x : State). x.end) h.2,
    ap (λ (x : State). x.memory.trace) h.2 ∙ sym same,
    λ arrival. subst (λ (x : State). Leads p n x t) (whoever s h.0 h.1 h.2 arrival) (passing-leads n (turn p s None) t same h.3),
  )

-- all that a statement asks for
pub asked-passing : (p : Program) (frame : Frame) (f : Func) (known : slice_get p.funcs frame.func ≡ Some f) (e : Expr) (rest : List Stmt) (position : ℕ) (around : List Level) (Then : List Mark → Type 0) →
    ((ms : List Mark) → Then ms → is_known (next_of (context p frame f) e ms) ≡ false) → (r : Rest) (flag : Bool) (statics : List (List Value)) (locals : Locals) (n : ℕ) (t : State) →
    ((ms : List Mark) → Then ms → Passing p r flag n (running r flag statics (standing frame locals (now p frame f known e rest position around ms))) t) → (asked : List Asked) (ms : List Mark) → AreMet (needs_of asked) locals →
    Asks (context p frame f) (next_of (context p frame f) e) Then ms asked → Passing p r flag (steps asked n) (running r flag statics (standing frame locals (now p frame f known e rest position around ms))) t
asked-passing p frame f known e rest position around Then last r flag statics locals n t end [] ms met h = end ms h
asked-passing p frame f known e rest position around Then last r flag statics locals n t end (a ∷ asked) ms met h =
    pass p r flag (steps asked n) statics (standing frame locals (now p frame f known e rest position around ms)) _ t
    (ask-turn p frame f known e rest position around a ms h.0 h.1 h.2 (unknown (context p frame f) (next_of (context p frame f) e) Then last (ms ++ mark_of a ∷ []) asked h.3) r flag statics locals (head-met a asked locals met))
    (asked-passing p frame f known e rest position around Then last r flag statics locals n t end asked (ms ++ mark_of a ∷ []) (tail-met a asked locals met) h.3)

module _ (p : Program) (frame : Frame) (f : Func) (known : slice_get p.funcs frame.func ≡ Some f) (e : Expr) (rest : List Stmt) (position : ℕ) (around : List Level) (Then : List Mark → Type 0)
    (last : (ms : List Mark) → Then ms → is_known (next_of (context p frame f) e ms) ≡ false) (r : Rest) (flag : Bool) (statics : List (List Value)) (locals : Locals)
  where
    abbrev stood : List Mark → State
    stood ms = running r flag statics (standing frame locals (now p frame f known e rest position around ms))

    -- and what it does then
    pub done-passing : (does : Does) (to : Spot) → ((ms : List Mark) → Then ms → Turns p frame [] (now p frame f known e rest position around ms) does to) → (n : ℕ) (t : State) →
        Passing p r flag n (running r flag (statics_after does statics) (standing frame (locals_after does locals) to)) t → (asked : List Asked) (ms : List Mark) → AreMet (needs_of asked) locals →
        Asks (context p frame f) (next_of (context p frame f) e) Then ms asked → Passing p r flag (steps asked (suc n)) (stood ms) t
    done-passing does to end n t more =
        asked-passing p frame f known e rest position around Then last r flag statics locals (suc n) t
        (λ ms got. pass p r flag n statics (standing frame locals (now p frame f known e rest position around ms)) _ t (end ms got r flag statics locals tt) more)

    -- or that it traps
    pub failed-passing : ((ms : List Mark) → Then ms → Stops p frame [] (now p frame f known e rest position around ms)) → (asked : List Asked) (ms : List Mark) → AreMet (needs_of asked) locals →
        Asks (context p frame f) (next_of (context p frame f) e) Then ms asked → (all : List Mark) × Passing p r flag (steps asked 1) (stood ms) (stopped (stood all) Trap)
    failed-passing end [] ms met h = (ms, pass p r flag 0 statics (standing frame locals (now p frame f known e rest position around ms)) _ _ (end ms h r flag statics locals tt) (passed p r flag (stopped (stood ms) Trap)))
    failed-passing end (a ∷ asked) ms met h =
        let more = failed-passing end asked (ms ++ mark_of a ∷ []) (tail-met a asked locals met) h.3 in (
          more.0,
          pass p r flag (steps asked 1) statics (standing frame locals (now p frame f known e rest position around ms)) _ _
              (ask-turn p frame f known e rest position around a ms h.0 h.1 h.2 (unknown (context p frame f) (next_of (context p frame f) e) Then last (ms ++ mark_of a ∷ []) asked h.3) r flag statics locals (head-met a asked locals met))
              more.1,
        )
