-- The turns of an expression statement, one by one: what it asks for that nothing else sees, and what it does then.
use Rattle.std.proofs.Common.{◌≡◌, ◌+◌, ℕ, zero, suc, Bool, true, false, List, [], ◌∷◌, ◌++◌, Option, Some, None, slice_get, length, refl, ap, sym, ◌∙◌, subst, arith}
use Rattle.cc_program.specs.declared.expr.Expr.{Expr}
use Rattle.cc_program.specs.declared.func.Func.{Func}
use Rattle.cc_program.specs.declared.program.Program.{Program}
use Rattle.cc_program.specs.declared.stmt.Stmt.{Stmt, Do, out-Stmt}
use Rattle.cc_program.specs.declared.stmt.Stmt.TheOpen as is
use Rattle.cc_program.specs.declared.stmt.Stmt.TheVariants.{outs-Do}
use Rattle.cc_program.specs.declared.value.Cell.{Cell}
use Rattle.cc_program.specs.declared.value.Part.{Part}
use Rattle.cc_program.specs.declared.value.Root.TheVariants as root
use Rattle.cc_program.specs.declared.value.Value.{Value}
use Rattle.cc_rewrite_accesses_follows.specs.Accesses.{in_list, behind_one, next_position, context}
use Rattle.cc_rewrite_accesses_follows.specs.Asked.{Asked, Register, Way, mark_of, needs_of, Covers, unseen, register_cell, static_cell, IsAskedBy, Asks, IsWriting, IsTrapping}
use Rattle.cc_rewrite_residues.specs.Residues.{Need, AreMet, AreOwn, Does, Nothing, SetsLocal, SetsStatic, Turns, Stops, Residue, Doomed, Inside}
use Rattle.cc_rewrite_residues.specs.Standing.{Frame, Locals, Spot, spot, standing, todo, Rest, running}
use Rattle.cc_rewrite_residues.proofs.DoSteps.{marked-on, marked-last, reads-local, reads-bad, writes-local, traps, chooses, next-simple}
use Rattle.cc_steps.specs.CcCells.Cells.{scalar_in, with_scalar}
use Rattle.cc_steps.specs.CcControl.Control.{Level}
use Rattle.cc_steps.specs.CcEval.Context.{Context}
use Rattle.cc_steps.specs.CcEval.Eval.{next_of}
use Rattle.cc_steps.specs.CcEval.Progress.{Progress, Waits, Get}
use Rattle.cc_steps.specs.CcEval.declared.action.Action.{Action}
use Rattle.cc_steps.specs.CcEval.declared.action.Action.TheVariants.{Read, Write}
use Rattle.cc_steps.specs.CcEval.declared.mark.Mark.{Mark}
use Rattle.cc_steps.specs.CcEval.declared.mark.Mark.TheVariants.{Gave, Did}
use Rattle.cc_steps.specs.Runs.{is_empty}
use Rattle.cc_steps.specs.Step.{did, is_known, stepped, cell_position, has_read, static_content}
use Rattle.cc_steps.specs.Turn.{turn}

-- how many steps they take, with so many behind them
abbrev pub steps : List Asked → ℕ → ℕ
steps [] n = n
steps (a ∷ asked) n = suc (steps asked n)

pub same-steps : (asked others : List Asked) (n : ℕ) → length asked ≡ length others → steps asked n ≡ steps others n
same-steps [] [] n e = refl
same-steps (a ∷ asked) (b ∷ others) n e = ap suc (same-steps asked others n (omega (arith, e)))
same-steps [] (b ∷ others) n e = absurd (omega (arith, e))
same-steps (a ∷ asked) [] n e = absurd (omega (arith, e))

pub head-met : (a : Asked) (asked : List Asked) (locals : Locals) → AreMet (needs_of (a ∷ asked)) locals → AreMet (needs_of (a ∷ [])) locals
head-met (Register r (Some v)) asked locals h = (h.0, tt)
head-met (Register r None) asked locals h = (h.0, tt)
head-met (Way b) asked locals h = tt

pub tail-met : (a : Asked) (asked : List Asked) (locals : Locals) → AreMet (needs_of (a ∷ asked)) locals → AreMet (needs_of asked) locals
tail-met (Register r (Some v)) asked locals h = h.1
tail-met (Register r None) asked locals h = h.1
tail-met (Way b) asked locals h = h

pub not-empty : {A : Type 0} → (xs : List A) (x : A) → is_empty (xs ++ x ∷ []) ≡ false
not-empty [] x = refl
not-empty (y ∷ xs) x = refl

-- what asks is not known yet
pub unknown : (c : Context) (next : Get (Option Value)) (Then : List Mark → Type 0) → ((ms : List Mark) → Then ms → is_known (next ms) ≡ false) → (ms : List Mark) (asked : List Asked) → Asks c next Then ms asked → is_known (next ms) ≡ false
unknown c next Then last ms [] h = last ms h
unknown c next Then last ms (a ∷ asked) h = ap is_known h.1

pub unknown-writing : (c : Context) (e : Expr) (to : Cell) (v : Value) (ms : List Mark) → IsWriting c e to v ms → is_known (next_of c e ms) ≡ false
unknown-writing c e to v ms h = ap is_known h.0

pub unknown-trapping : (c : Context) (e : Expr) (ms : List Mark) → IsTrapping c e ms → is_known (next_of c e ms) ≡ false
unknown-trapping c e ms h = ap is_known h.1

waits-on : (q : Progress (Option Value)) (a b : Action) → q ≡ Waits a → a ≡ b → q ≡ Waits b
waits-on q a b h e = subst (λ (x : Action). q ≡ Waits x) e h

abbrev no_rest : Rest
no_rest = record { inputs = []; trace = []; below = []; opened = 0 }

module _ (p : Program) (frame : Frame) (f : Func) (known : slice_get p.funcs frame.func ≡ Some f) where
  -- the step that an expression statement makes
  stepping-at : (x : Stmt) (e : Expr) → out-Stmt x ≡ is.Do e → (rest : List Stmt) (n : ℕ) (around : List Level) (r : Rest) (flag : Bool) (statics : List (List Value)) (locals : Locals) (ms : List Mark) (q : Progress (Option Value)) →
      next_of (context p frame f) e ms ≡ q → turn p (running r flag statics (standing frame locals (in_list (x ∷ rest) n around ms))) None
      ≡ stepped p (is.Do e) (running r flag statics (standing frame locals (in_list (x ∷ rest) n around ms))) (standing frame locals (in_list (x ∷ rest) n around ms)) r.below q
  stepping-at x e simple rest n around r flag statics locals ms q h = rw (simple, known, h) refl

  -- behind a statement stands the next one
  pub in-front : (e : Expr) (rest : List Stmt) (n : ℕ) (around : List Level) → behind_one p frame (Do e ∷ rest) n around ≡ in_list (Do e ∷ rest) (next_position n) around []
  in-front e rest n around = ap (λ to. spot to []) (next-simple p frame f known no_rest (Do e) rest (next_position n) around e (outs-Do e))

  module _ (e : Expr) (rest : List Stmt) (n : ℕ) (around : List Level) where
    abbrev pub now : List Mark → Spot
    now ms = in_list (Do e ∷ rest) n around ms

    abbrev behind : Spot
    behind = behind_one p frame rest n around

    stepping : (r : Rest) (flag : Bool) (statics : List (List Value)) (locals : Locals) (ms : List Mark) (q : Progress (Option Value)) → next_of (context p frame f) e ms ≡ q →
        turn p (running r flag statics (standing frame locals (now ms))) None ≡ stepped p (is.Do e) (running r flag statics (standing frame locals (now ms))) (standing frame locals (now ms)) r.below q
    stepping r flag statics locals ms q h = stepping-at (Do e) e (outs-Do e) rest n around r flag statics locals ms q h

    -- ---- one turn

    pub ask-turn : (a : Asked) (ms : List Mark) (action : Action) → next_of (context p frame f) e ms ≡ Waits action → IsAskedBy (context p frame f) a action → is_known (next_of (context p frame f) e (ms ++ mark_of a ∷ [])) ≡ false →
        (r : Rest) (flag : Bool) (statics : List (List Value)) (locals : Locals) → AreMet (needs_of (a ∷ [])) locals →
        turn p (running r flag statics (standing frame locals (now ms))) None ≡ running r flag statics (standing frame locals (now (ms ++ mark_of a ∷ [])))
    ask-turn (Register i (Some v)) ms action h by more r flag statics locals met =
        reads-local p frame f known r (Do e) rest n around e (outs-Do e) flag statics locals ms i by.0 v (waits-on _ action _ h by.1) met.0
        ∙ marked-on p frame f known r (Do e) rest n around e (outs-Do e) flag statics locals ms (Gave (Some v)) more
    ask-turn (Register i None) ms action h by more r flag statics locals met =
        reads-bad p frame f known r (Do e) rest n around e (outs-Do e) flag statics locals ms i true (waits-on _ action _ h by) refl met.0
        ∙ marked-on p frame f known r (Do e) rest n around e (outs-Do e) flag statics locals ms (Gave None) more
    ask-turn (Way b) ms action h by more r flag statics locals met =
        chooses p frame f known r (Do e) rest n around e (outs-Do e) flag statics locals ms b (waits-on _ action _ h by)
        ∙ marked-on p frame f known r (Do e) rest n around e (outs-Do e) flag statics locals ms (mark_of (Way b)) more

    pub read-turn : (object : ℕ) (path : List Part) (position : ℕ) (b : Bool) (v : Value) (ms : List Mark) → next_of (context p frame f) e ms ≡ Waits (Read (static_cell object path) (unseen b)) → cell_position p (root.Static object) path ≡ position →
        is_known (next_of (context p frame f) e (ms ++ Gave (Some v) ∷ [])) ≡ false → (r : Rest) (flag : Bool) (statics : List (List Value)) (locals : Locals) → scalar_in statics object position ≡ Some v →
        turn p (running r flag statics (standing frame locals (now ms))) None ≡ running r flag statics (standing frame locals (now (ms ++ Gave (Some v) ∷ [])))
    read-turn object path position b v ms h located more r flag statics locals there =
        stepping r flag statics locals ms _ h
        ∙ ap (λ k. has_read p (running r flag statics (standing frame locals (now ms))) (static_cell object path) (unseen b) (static_content (scalar_in statics object k))) located
        ∙ ap (λ x. has_read p (running r flag statics (standing frame locals (now ms))) (static_cell object path) (unseen b) (static_content x)) there
        ∙ marked-on p frame f known r (Do e) rest n around e (outs-Do e) flag statics locals ms (Gave (Some v)) more

    pub set-turn : (needs : List Need) (i : ℕ) (v : Value) (ms : List Mark) → IsWriting (context p frame f) e (register_cell (context p frame f) i) v ms → Turns p frame needs (now ms) (SetsLocal i v) behind
    set-turn needs i v ms h r flag statics locals met =
        writes-local p frame f known r (Do e) rest n around e (outs-Do e) flag statics locals ms i v h.0
        ∙ marked-last p frame f known r (Do e) rest n around e (outs-Do e) flag statics (with_scalar locals i 0 (Some v)) ms Did h.1

    pub write-turn : (needs : List Need) (object : ℕ) (path : List Part) (position : ℕ) (v : Value) (ms : List Mark) → cell_position p (root.Static object) path ≡ position →
        IsWriting (context p frame f) e (static_cell object path) v ms → Turns p frame needs (now ms) (SetsStatic object position v) behind
    write-turn needs object path position v ms located h r flag statics locals met =
        stepping r flag statics locals ms _ h.0
        ∙ ap (λ k. did p (running r flag (with_scalar statics object k v) (standing frame locals (now ms))) Did) located
        ∙ marked-last p frame f known r (Do e) rest n around e (outs-Do e) flag (with_scalar statics object position v) locals ms Did h.1

    pub trap-turn : (needs : List Need) (ms : List Mark) → IsTrapping (context p frame f) e ms → Stops p frame needs (now ms)
    trap-turn needs ms h r flag statics locals met = traps p frame f known r (Do e) rest n around e (outs-Do e) flag statics locals ms h.0 h.1

    -- ---- what is left of the statement, as a residue

    module _ (own : ℕ → ℕ → Bool) (base : ℕ) (needs : List Need) (needs_own : AreOwn (own frame.func) needs) (Then : List Mark → Type 0) (last : (ms : List Mark) → Then ms → is_known (next_of (context p frame f) e ms) ≡ false) where
      asked-turn : (a : Asked) (asked : List Asked) (ms : List Mark) → Covers needs (a ∷ asked) → Asks (context p frame f) (next_of (context p frame f) e) Then ms (a ∷ asked) → Turns p frame needs (now ms) Nothing (now (ms ++ mark_of a ∷ []))
      asked-turn a asked ms covers h r flag statics locals met =
          ask-turn a ms h.0 h.1 h.2 (unknown (context p frame f) (next_of (context p frame f) e) Then last (ms ++ mark_of a ∷ []) asked h.3) r flag statics locals (head-met a asked locals (covers locals met))

      pub left-residue : (does : Does) (to : Spot) → ((ms : List Mark) → Then ms → Turns p frame needs (now ms) does to) → (asked : List Asked) (ms : List Mark) → Covers needs asked →
          Asks (context p frame f) (next_of (context p frame f) e) Then ms asked → Residue p frame own base (steps asked zero) needs (now ms) does to
      left-residue does to end [] ms covers h = end ms h
      left-residue does to end (a ∷ asked) ms covers h = (
        Nothing,
        now (ms ++ mark_of a ∷ []),
        needs,
        tt,
        asked-turn a asked ms covers h,
        (λ locals met. met),
        needs_own,
        left-residue does to end asked (ms ++ mark_of a ∷ []) (λ locals met. tail-met a asked locals (covers locals met)) h.3,
      )

      pub left-inside : (does : Does) (to : Spot) (end : (ms : List Mark) → Then ms → Turns p frame needs (now ms) does to) (asked : List Asked) (ms : List Mark) (covers : Covers needs asked)
          (h : Asks (context p frame f) (next_of (context p frame f) e) Then ms asked) → Inside p frame own base (steps asked zero) needs (now ms) does to (left-residue does to end asked ms covers h)
      unfolding left-residue
      left-inside does to end [] ms covers h = tt
      left-inside does to end (a ∷ asked) ms covers h =
          (not-empty ms (mark_of a), left-inside does to end asked (ms ++ mark_of a ∷ []) (λ locals met. tail-met a asked locals (covers locals met)) h.3)

      pub left-doomed : ((ms : List Mark) → Then ms → Stops p frame needs (now ms)) → (asked : List Asked) (ms : List Mark) → Covers needs asked → Asks (context p frame f) (next_of (context p frame f) e) Then ms asked →
          Doomed p frame own base (steps asked zero) needs (now ms)
      left-doomed end [] ms covers h = end ms h
      left-doomed end (a ∷ asked) ms covers h = (
        Nothing,
        now (ms ++ mark_of a ∷ []),
        needs,
        tt,
        asked-turn a asked ms covers h,
        (λ locals met. met),
        needs_own,
        left-doomed end asked (ms ++ mark_of a ∷ []) (λ locals met. tail-met a asked locals (covers locals met)) h.3,
      )
