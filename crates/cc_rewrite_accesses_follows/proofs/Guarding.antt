-- Statements between a save and a restore of the interrupt flag: what comes is fixed once the flag was saved, whoever arrives.
use Rattle.std.proofs.Common.{◌≡◌, ◌≤◌, ℕ, zero, suc, Bool, true, false, List, [], ◌∷◌, Option, Some, None, slice_get, refl, ap, sym, ◌∙◌, subst}
use Rattle.cc_program.specs.CcNum.Results.{one_if}
use Rattle.cc_program.specs.declared.expr.Expr.{Expr}
use Rattle.cc_program.specs.declared.func.Func.{Func}
use Rattle.cc_program.specs.declared.program.Program.{Program}
use Rattle.cc_program.specs.declared.stmt.Stmt.{Stmt, Do}
use Rattle.cc_program.specs.declared.stmt.Stmt.TheVariants.{outs-Do}
use Rattle.cc_program.specs.declared.value.Value.{Value}
use Rattle.cc_program.specs.declared.value.Value.TheVariants.{Int}
use Rattle.cc_rewrite_accesses_follows.specs.Accesses.{in_list, behind_one, next_position, context, saving, restoring}
use Rattle.cc_rewrite_accesses_follows.specs.Asked.{IsPlain, register_cell}
use Rattle.cc_rewrite_accesses_follows.proofs.Passing.{Passing, passed, pass, passing-leads}
use Rattle.cc_rewrite_accesses_follows.proofs.Turns.{in-front, set-turn}
use Rattle.cc_rewrite_residues.specs.Residues.{Agree, Does, Leads, Need, SetsLocal, Turns, alone}
use Rattle.cc_rewrite_residues.specs.Standing.{Frame, Locals, Spot, standing, Rest, running}
use Rattle.cc_rewrite_residues.proofs.DoSteps.{marked-on, marked-last, reads-local, saves, flags}
use Rattle.cc_rewrite_residues.proofs.Evaluates.{next-saving, next-restoring, soft}
use Rattle.cc_rewrite_residues.proofs.Evaluates as evaluates
use Rattle.cc_rewrite_simulation.specs.Comparison.{Comparison}
use Rattle.cc_rewrite_simulation.specs.Relation.{Ended, Shared, Stands, Guarded, Failing}
use Rattle.cc_rewrite_simulation.specs.Simulated.{IsTurnFollowed}
use Rattle.cc_rewrite_simulation.proofs.Follows.{met, paired}
use Rattle.cc_steps.specs.CcCells.Cells.{scalar_in, with_scalar}
use Rattle.cc_steps.specs.CcControl.Control.{Level}
use Rattle.cc_steps.specs.CcEval.Eval.{next_of}
use Rattle.cc_steps.specs.CcEval.Progress.{Known, Waits, given, needs as needs_good, ask, no_value}
use Rattle.cc_steps.specs.CcEval.declared.action.Action.TheVariants.{Flag}
use Rattle.cc_steps.specs.CcEval.declared.mark.Mark.TheVariants.{Gave, Did}
use Rattle.cc_steps.specs.CcSyntax.Effects.{no_one}
use Rattle.cc_steps.specs.CcValues.Values.{truth}
use Rattle.cc_steps.specs.Rows.{rows_of}
use Rattle.cc_steps.specs.Runs.{run}
use Rattle.cc_steps.specs.State.{State}
use Rattle.cc_steps.specs.Step.{is_known, stopped}
use Rattle.cc_steps.specs.Turn.{turn}
use Rattle.cc_steps.specs.declared.event.End.TheVariants.{Going, Trap}

truth-flag : (b : Bool) → truth (Some (Int (one_if b))) ≡ Some b
truth-flag true = refl
truth-flag false = refl

-- ---- the save and the restore

module _ (p : Program) (frame : Frame) (f : Func) (known : slice_get p.funcs frame.func ≡ Some f) where
  -- to the statement behind
  pub on-next : (needs : List Need) (s : Spot) (does : Does) (e : Expr) (rest : List Stmt) (n : ℕ) (around : List Level) → Turns p frame needs s does (behind_one p frame (Do e ∷ rest) n around) →
      Turns p frame needs s does (in_list (Do e ∷ rest) (next_position n) around [])
  on-next needs s does e rest n around h = subst (λ (to : Spot). Turns p frame needs s does to) (in-front p frame f known e rest n around) h

  module _ (g : ℕ) (plain : IsPlain (context p frame f) g) where
    is_plain : evaluates.IsPlain (context p frame f) g
    is_plain = record { named = plain.named; there = plain.there; plain = plain.plain }

    pub guard-saves : (rest : List Stmt) (n : ℕ) (around : List Level) (r : Rest) (flag : Bool) (statics : List (List Value)) (locals : Locals) →
        turn p (running r flag statics (standing frame locals (in_list (Do (saving g) ∷ rest) n around []))) None
        ≡ running r false statics (standing frame locals (in_list (Do (saving g) ∷ rest) n around (Gave (Some (Int (one_if flag))) ∷ [])))
    guard-saves rest n around r flag statics locals =
        saves p frame f known r (Do (saving g)) rest n around (saving g) (outs-Do (saving g)) flag statics locals [] (next-saving (context p frame f) g is_plain [])
        ∙ marked-on p frame f known r (Do (saving g)) rest n around (saving g) (outs-Do (saving g)) false statics locals [] (Gave (Some (Int (one_if flag))))
        (ap is_known (next-saving (context p frame f) g is_plain (Gave (Some (Int (one_if flag))) ∷ [])))

    pub guard-sets : (v : Value) (e : Expr) (rest : List Stmt) (n : ℕ) (around : List Level) → Turns p frame [] (in_list (Do (saving g) ∷ Do e ∷ rest) n around (Gave (Some v) ∷ [])) (SetsLocal g v) (in_list (Do e ∷ rest) (next_position n) around [])
    guard-sets v e rest n around =
        on-next [] (in_list (Do (saving g) ∷ Do e ∷ rest) n around (Gave (Some v) ∷ [])) (SetsLocal g v) e rest n around
        (set-turn p frame f known (saving g) (Do e ∷ rest) n around [] g v (Gave (Some v) ∷ [])
        (next-saving (context p frame f) g is_plain (Gave (Some v) ∷ []), ap is_known (next-saving (context p frame f) g is_plain (Gave (Some v) ∷ Did ∷ []))))

    pub guard-restores : (rest : List Stmt) (n : ℕ) (around : List Level) (r : Rest) (flag : Bool) (statics : List (List Value)) (locals : Locals) → scalar_in locals g 0 ≡ Some (Some (Int (one_if flag))) →
        Passing p r false 2 (running r false statics (standing frame locals (in_list (Do (restoring g) ∷ rest) n around []))) (running r flag statics (standing frame locals (behind_one p frame rest n around)))
    guard-restores rest n around r flag statics locals has =
        let v : Value = Int (one_if flag) in
        let last : next_of (context p frame f) (restoring g) (Gave (Some v) ∷ []) ≡ Waits (Flag flag) =
        next-restoring (context p frame f) g is_plain (Gave (Some v) ∷ []) ∙ ap (λ b. needs_good b (λ b. ask (Flag b) given) []) (truth-flag flag) in
        let end : next_of (context p frame f) (restoring g) (Gave (Some v) ∷ Did ∷ []) ≡ Known (Some no_value) [] =
        next-restoring (context p frame f) g is_plain (Gave (Some v) ∷ Did ∷ []) ∙ ap (λ b. needs_good b (λ b. ask (Flag b) given) (Did ∷ [])) (truth-flag flag) in
        pass p r false 1 statics (standing frame locals (in_list (Do (restoring g) ∷ rest) n around [])) _ _
        (reads-local p frame f known r (Do (restoring g)) rest n around (restoring g) (outs-Do (restoring g)) false statics locals [] g (soft (context p frame f) g no_one) v (next-restoring (context p frame f) g is_plain []) has
        ∙ marked-on p frame f known r (Do (restoring g)) rest n around (restoring g) (outs-Do (restoring g)) false statics locals [] (Gave (Some v)) (ap is_known last))
        (pass p r false 0 statics (standing frame locals (in_list (Do (restoring g) ∷ rest) n around (Gave (Some v) ∷ []))) _ _
        (flags p frame f known r (Do (restoring g)) rest n around (restoring g) (outs-Do (restoring g)) false statics locals (Gave (Some v) ∷ []) flag last
        ∙ marked-last p frame f known r (Do (restoring g)) rest n around (restoring g) (outs-Do (restoring g)) flag statics locals (Gave (Some v) ∷ []) Did (ap is_known end)) (passed p r false (running r flag statics (standing frame locals (behind_one p frame rest n around)))))

-- ---- the first turn of Q, and P stays

module _ {Q P : Program} (c : Comparison Q P) where
  pub guard-meeting : (s t first : State) (n m : ℕ) (rq rp : Rest) (flag : Bool) (qs ps : List (List Value)) (frame : Frame) (ql pl : Locals) (sq sp : Spot) → turn Q s None ≡ first →
      Passing Q rq false (suc n) first (running rq flag qs (standing frame ql sq)) → t.end ≡ Going → t.memory.trace ≡ rp.trace → run P t (alone m) ≡ running rp flag ps (standing frame pl sp) →
      Shared c (Unit {0}) frame.handler rq rp qs ps → Agree (c.base frame.func) ql pl → Stands c (Unit {0}) qs frame ql pl sq sp → IsTurnFollowed c (Unit {0}) s t None
  guard-meeting s t first n m rq rp flag qs ps frame ql pl sq sp e passes goes quiet source shared agree stands = (
    [],
    Guarded tt (record {
      n = n;
      m = m;
      last = running rq flag qs (standing frame ql sq);
      source_last = running rp flag ps (standing frame pl sp);
      leads = subst (λ (x : State). Leads Q (suc n) x (running rq flag qs (standing frame ql sq))) (sym e) (passing-leads Q rq (suc n) first (running rq flag qs (standing frame ql sq)) refl passes);
      goes = goes;
      quiet = quiet;
      source = source;
      meets = met c (Unit {0}) rq rp flag qs ps _ _ shared (paired c (Unit {0}) qs frame ql pl sq sp agree stands);
    }),
  )

  -- where both trap
  pub guard-failing : (s t first q_last p_last : State) (n m : ℕ) (rq : Rest) → turn Q s None ≡ first → Passing Q rq false (suc n) first (stopped q_last Trap) → q_last.memory.trace ≡ rq.trace → rows_of Q rq.trace ≡ rows_of P p_last.memory.trace →
      t.end ≡ Going → t.memory.trace ≡ p_last.memory.trace → run P t (alone m) ≡ stopped p_last Trap → IsTurnFollowed c (Unit {0}) s t None
  guard-failing s t first q_last p_last n m rq e passes same rows goes quiet source = (
    [],
    Failing tt (record {
      n = n;
      m = m;
      last = stopped q_last Trap;
      source_last = stopped p_last Trap;
      leads = subst (λ (x : State). Leads Q (suc n) x (stopped q_last Trap)) (sym e) (passing-leads Q rq (suc n) first (stopped q_last Trap) same passes);
      goes = goes;
      quiet = quiet;
      source = source;
      ended = record { rows = ap (rows_of Q) same ∙ rows; end = refl; over = refl };
    }),
  )
