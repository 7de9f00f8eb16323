-- An expression statement: its code is run as it is, and then both go on behind it.
use Rattle.std.proofs.Common.{◌≡◌, ◌≤◌, ◌⊎◌, inl, inr, ℕ, Bool, true, false, List, [], ◌∷◌, ◌++◌, Some, refl, ap, sym, ◌∙◌, subst}
use Rattle.std.specs.Prelude.{slice_get}
use Rattle.cc_states.specs.CcControl.declared.phase.Phase.TheVariants.{First}
use Rattle.cc_states.specs.CcEval.declared.action.Action.{Action}
use Rattle.cc_states.specs.CcEval.declared.mark.Mark.{Mark}
use Rattle.cc_states.specs.CcEval.Eval.{meaning}
use Rattle.cc_states.specs.CcEval.Progress.{Known, Waits, Get, known, bind}
use Rattle.cc_program.specs.declared.expr.Expr.{Expr}
use Rattle.cc_program.specs.declared.stmt.Case.{Case}
use Rattle.cc_program.specs.declared.stmt.Stmt.{Stmt, out-Stmt}
use Rattle.cc_program.specs.declared.stmt.Stmt.TheOpen as is
use Rattle.cc_program.specs.declared.value.Value.{Value}
use Rattle.cc_states.specs.CcSyntax.Effects.{no_one}
use Rattle.cc_meaning_simulations.specs.Continuations.{Remainder, remainder, resume}
use Rattle.cc_meaning_simulations.specs.LocalSimulations.{Approaches, PGoes}
use Rattle.cc_meaning_simulations.specs.LocalSteps.{LocalState, Locals, Jump, local_state}
use Rattle.cc_meaning_simulations.specs.Transitions.{ControlState, Jumps, is_at_boundary, jump_to, transition_in, transition}
use Rattle.cc_lower_expressions.specs.Expressions.{Piece, Make}
use Rattle.cc_lower_expressions.specs.Statements.{lower}
use Rattle.cc_lower_expressions_follows.specs.Trees.{Regs, Setting, context_p, IsShared}
use Rattle.cc_lower_expressions_follows.specs.Claims.{good}
use Rattle.cc_lower_expressions_follows.specs.Registered.{regs_in}
use Rattle.cc_lower_expressions_follows.specs.Relation.{code_tree, Declared}
use Rattle.cc_lower_expressions_follows.specs.WholeLists.{AreSame, RunAlike, effect_of, IsLoweredRight}
use Rattle.cc_lower_expressions_follows.specs.WholeMatches.{AreAlike, AreTogether, MatchIn, InEffect}
use Rattle.cc_lower_expressions_follows.specs.WholePlaces.{AllThere, opened_at, IsTypedAt, AreAt}
use Rattle.cc_lower_expressions_follows.specs.WholeRegion.{is_do as does_it, control_in, nowhere, next_p, left_of, InDo, StandsInStatement, Working, Left, StandsInCode}
use Rattle.cc_lower_expressions_follows.specs.WholeTrees.{AreTyped}
use Rattle.cc_lower_expressions_follows.proofs.TreeLaws.{bind-known}
use Rattle.cc_lower_expressions_follows.proofs.WholeBridge.{IsLowered, IsSoon, bridge}
use Rattle.cc_lower_expressions_follows.proofs.WholeLists.{AreBegun, begins_there, lower_level}
use Rattle.cc_lower_expressions_follows.proofs.WholeRegions.{enters_code, enters_at_boundary}
use Rattle.cc_lower_expressions_follows.proofs.WholeStatements.{known_there, transition_is}

module _ (w : Setting) (hidden : ℕ → ℕ → Bool) (lowered : IsLowered w hidden) (Good : Stmt → Type 0) (Match : LocalState → LocalState → Type 0) (matches : (q p : LocalState) → MatchIn w Good q p → Match q p)
    (s : Stmt) (e : Expr) (l l' : List Stmt) (ps qs : List Remainder) (is_do : out-Stmt s ≡ is.Do e) (right : IsLoweredRight w e) (together : AreTogether w Good l l' ps qs) (next : AreBegun w hidden Good Match matches l l' ps qs) where
  abbrev here : Remainder
  here = remainder (s ∷ l) First

  abbrev At : Bool → ControlState → Locals → ControlState → Locals → Type 0
  At late qc ql pc pl = Approaches hidden w.q w.p Match late (local_state qc ql) (local_state pc pl)

  abbrev Stands : List Mark → ControlState → Get Value → Type 0
  Stands ms a t = StandsInStatement w s l First ps e ms a t

  abbrev Soon : Bool → List Mark → ControlState → ControlState → Get Value → Type 0
  Soon late ms qc pc x = IsSoon w hidden lowered s l First ps e (InDo is_do) l' qs right.writes (RunAlike w) known late ms qc pc x

  behind : (openings : List ℕ) → slice_get openings w.number ≡ Some w.id → (late : Bool) (pc : ControlState) (pl : Locals) (qc : ControlState) (ql : Locals) → AreTyped (opened_at w openings) (regs_in w.from pl) → AreAlike w pl ql →
      pc ≡ jump_to w.p (nowhere w) (resume l ps) → qc ≡ jump_to w.q (nowhere w) (resume l' qs) → At late qc ql pc pl
  behind openings opened late pc pl qc ql typed alike i j =
      subst (λ (c : ControlState). At late qc ql c pl) (sym i) (subst (λ (c : ControlState). At late c ql (jump_to w.p (nowhere w) (resume l ps)) pl) (sym j) (next.starts openings opened late pl ql typed alike))

  share : (ms : List Mark) (pc : ControlState) (pl : Locals) (qc : ControlState) (ql : Locals) (g : Get Value) (r : Regs) (h : Get (Unit {0})) (t : Regs) → AreAt w (RunAlike w) known s l First ps e l' qs ms pc pl qc ql g r h t →
      (action : Action) → IsShared w action → g [] ≡ Waits action → h [] ≡ Waits action → Match (local_state qc ql) (local_state pc pl)
  share ms pc pl qc ql g r h t at action shared eg eh = matches _ _ (InEffect s e l l' ps qs ms pc pl qc ql g r h t action is_do right together at shared eg eh)

  -- the value was known from the beginning
  jumps : (ms : List Mark) (pc : ControlState) (a : Value) (r : List Mark) → pc ≡ control_in w here ps ms → next_p w e ms ≡ Known (Some a) r → transition w.p pc ≡ Jumps (jump_to w.p (nowhere w) (resume l ps))
  jumps ms pc a r i k =
      ap (transition w.p) i ∙ transition_is w lowered.function_p s l First ps e (lowered.laws_p e) (InDo is_do) ms ∙
      ap (transition_in w.p (out-Stmt s) (control_in w here ps ms)) k ∙
      ap (λ (x : is.Stmt-F Stmt Case). transition_in w.p x (control_in w here ps ms) (Known (Some a) r)) is_do

  module _ (openings : List ℕ) (late : Bool) (ms : List Mark) (pc : ControlState) (pl : Locals) (qc : ControlState) (ql : Locals) (a : Value) (typed : slice_get openings w.number ≡ Some w.id) (regs : AreTyped (opened_at w openings) (regs_in w.from pl)) (alike : AreAlike w pl ql)
      (q_there : qc ≡ jump_to w.q (nowhere w) (resume l' qs)) (soon : Soon late ms qc pc (known a)) where
    at_q : ms ≡ [] → late ≡ false → is_at_boundary pc ≡ true → is_at_boundary qc ≡ true
    at_q none h b = by_case (soon h b)
      where
        by_case : (is_at_boundary qc ≡ true) ⊎ ((v : Value) × (known a ≡ known v) × (ms ≡ [] → ⊥)) → is_at_boundary qc ≡ true
        by_case (inl k) = k
        by_case (inr k) = absurd (k.2 none)

    still : (r : List Mark) → next_p w e ms ≡ Known (Some a) r → pc ≡ control_in w here ps ms → (ms ≡ []) ⊎ ((v : Value) (r : List Mark) → next_p w e ms ≡ Known (Some v) r → ⊥) → At late qc ql pc pl
    still r k i (inl none) =
        PGoes late (local_state qc ql) (local_state pc pl) (local_state (jump_to w.p (nowhere w) (resume l ps)) pl) (Jump pc (jump_to w.p (nowhere w) (resume l ps)) pl (jumps ms pc a r i k)) (at_q none)
        (behind openings typed false (jump_to w.p (nowhere w) (resume l ps)) pl qc ql regs alike refl q_there)
    still r k i (inr never) = absurd (never a r k)

    leaves : Stands ms pc (known a) → At late qc ql pc pl
    leaves (Left v i j d) = behind openings typed late pc pl qc ql regs alike i q_there
    leaves (Working i j u) =
        let k = known_there w lowered.function_p s l First ps e (lowered.laws_p e) (InDo is_do) ms (known a) a j refl in
        still k.0 k.1 i (u (ap does_it is_do))

  exit : (openings : List ℕ) (late : Bool) (ms : List Mark) (pc : ControlState) (pl : Locals) (qc : ControlState) (ql : Locals) (a : Value) (r t : Regs) → IsTypedAt w e openings ms r → Stands ms pc (known a) → qc ≡ jump_to w.q (nowhere w) (resume l' qs) →
      regs_in w.from pl ≡ r → regs_in w.to ql ≡ t → AllThere w.from pl → AllThere w.to ql → RunAlike w a tt r t → Soon late ms qc pc (known a) → At late qc ql pc pl
  exit openings late ms pc pl qc ql a r t typed stands q_there i j has_p has_q same soon =
      leaves openings late ms pc pl qc ql a typed.opened (subst (AreTyped (opened_at w openings)) (sym i) typed.typed)
      (record { same = subst (λ (x : Regs). AreSame w x (regs_in w.to ql)) (sym i) (subst (AreSame w r) (sym j) same); has_p = has_p; has_q = has_q }) q_there soon stands

  -- where both are in the middle of it
  pub effect_goes_on : (openings : List ℕ) (late : Bool) (ms : List Mark) (pc : ControlState) (pl : Locals) (qc : ControlState) (ql : Locals) (g : Get Value) (r : Regs) (h : Get (Unit {0})) (t : Regs) → IsTypedAt w e openings ms r →
      AreAt w (RunAlike w) known s l First ps e l' qs ms pc pl qc ql g r h t → Soon late ms qc pc (bind g known) → At late qc ql pc pl
  effect_goes_on openings late ms pc pl qc ql g r h t typed at soon =
      bridge w hidden lowered s l First ps e (InDo is_do) l' qs right.writes (RunAlike w) known Match share exit openings (at.does openings typed.opened typed.marks) late ms pc pl qc ql typed at soon

  -- ---- it begins

  module _ (k : ℕ) (above : w.base ≤ k) (declared : Declared w k (lower w.p w.from s k).temps) where
    its_piece : lower w.p w.from s k ≡ effect_of w e k
    its_piece = ap (λ (m : Make (Unit {0})). m k) (lower_level w s (is.Do e) is_do)

    abbrev code : List Stmt
    code = (effect_of w e k).stmts

    abbrev tree : Get (Unit {0})
    tree = code_tree w code

    begins_effect : AreBegun w hidden Good Match matches (s ∷ l) (code ++ l') ps qs
    begins_effect = record {
      starts = λ openings opened late pl ql typed alike.
          subst (λ (c : ControlState). At late (jump_to w.q (nowhere w) (resume (code ++ l') qs)) ql c pl) (sym (begins_there w w.p s l ps (is.Do e) is_do refl refl))
          (effect_goes_on openings late [] (control_in w here ps []) pl (jump_to w.q (nowhere w) (resume (code ++ l') qs)) ql (good ((meaning (context_p w) e).next no_one)) (regs_in w.from pl) tree (regs_in w.to ql)
          (record { opened = opened; marks = λ front back m split. absurd (nothing_in front back m split); typed = typed })
          (record {
            does = λ all there marks. right.effect all there k above (subst (λ (x : Piece (Unit {0})). Declared w k x.temps) its_piece declared) (regs_in w.from pl) (regs_in w.to ql) alike.same;
            stands = Working refl (bind-known (good (left_of w e []))) (λ h. inl refl);
            code = subst (StandsInCode w l' qs (jump_to w.q (nowhere w) (resume (code ++ l') qs))) (bind-known tree) (enters_code w l' qs lowered.laws_q lowered.asks_q lowered.function_q code (right.effect_code k));
            regs_p = refl;
            regs_q = refl;
            has_p = alike.has_p;
            has_q = alike.has_q;
          })
          (λ h b. inl at_boundary));
      boundary = at_boundary;
    }
      where
        nothing_in : (front back : List Mark) (m : Mark) → [] ≡ front ++ m ∷ back → ⊥
        nothing_in [] back m h = absurd (cc)
        nothing_in (x ∷ front) back m h = absurd (cc)

        at_boundary : is_at_boundary (jump_to w.q (nowhere w) (resume (code ++ l') qs)) ≡ true
        at_boundary = enters_at_boundary w l' qs lowered.laws_q lowered.asks_q lowered.function_q code (right.effect_code k) next.boundary

    pub effect_begins : AreBegun w hidden Good Match matches (s ∷ l) ((lower w.p w.from s k).stmts ++ l') ps qs
    effect_begins = subst (λ (x : Piece (Unit {0})). AreBegun w hidden Good Match matches (s ∷ l) (x.stmts ++ l') ps qs) (sym its_piece) begins_effect
