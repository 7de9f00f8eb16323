-- A statement that goes on by a value: its code is run as its full expression, q works what is left, and then both have the value.
use Rattle.std.proofs.Common.{◌≡◌, ◌≤◌, inl, ℕ, Bool, true, false, List, [], ◌∷◌, ◌++◌, Option, Some, None, refl, ap, sym, ◌∙◌, subst}
use Rattle.cc_states.specs.CcControl.declared.phase.Phase.TheVariants.{First}
use Rattle.cc_states.specs.CcEval.declared.action.Action.{Action}
use Rattle.cc_states.specs.CcEval.declared.mark.Mark.{Mark}
use Rattle.cc_states.specs.CcEval.Eval.{meaning}
use Rattle.cc_states.specs.CcEval.Progress.{Known, Waits, Get, known, bind}
use Rattle.cc_program.specs.declared.expr.Expr.{Expr}
use Rattle.cc_program.specs.declared.program.Program.{Program}
use Rattle.cc_program.specs.declared.stmt.Case.{Case}
use Rattle.cc_program.specs.declared.stmt.Stmt.{Stmt, out-Stmt}
use Rattle.cc_program.specs.declared.stmt.Stmt.TheOpen as is
use Rattle.cc_program.specs.declared.value.Value.{Value}
use Rattle.cc_states.specs.CcSteps.Runs.{begins_at}
use Rattle.cc_states.specs.CcSyntax.Effects.{no_one}
use Rattle.cc_meaning_simulations.specs.Continuations.{Remainder, remainder, resume}
use Rattle.cc_meaning_simulations.specs.LocalSimulations.{Approaches, Arrives, BothTrap}
use Rattle.cc_meaning_simulations.specs.LocalSteps.{LocalState, Locals, Trapping, local_state}
use Rattle.cc_meaning_simulations.specs.Transitions.{ControlState, is_at_boundary, jump_to, transition_in}
use Rattle.cc_lower_expressions_follows.specs.Trees.{Regs, Setting, context_p, context_q, IsShared}
use Rattle.cc_lower_expressions_follows.specs.Registered.{regs_in}
use Rattle.cc_lower_expressions_follows.specs.Region.{next_q}
use Rattle.cc_lower_expressions_follows.specs.Relation.{code_tree, Declared}
use Rattle.cc_lower_expressions_follows.specs.WholeLists.{AreSame, GivesAlike, piece_of, IsLoweredRight, IsLast, LastIf, LastSwitch, LastReturn}
use Rattle.cc_lower_expressions_follows.specs.WholeMatches.{needed, AreAlike, AreTogether, MatchIn, InOperand, AtValue}
use Rattle.cc_lower_expressions_follows.specs.WholePlaces.{AllThere, opened_at, IsTypedAt, AreAt}
use Rattle.cc_lower_expressions_follows.specs.WholeRegion.{is_do, control_in, nowhere, IsWorkedIn, InDo, InIf, InSwitch, InReturn, StandsInStatement, Working, Left, StandsInCode}
use Rattle.cc_lower_expressions_follows.specs.WholeTrees.{Does}
use Rattle.cc_lower_expressions_follows.proofs.TreeLaws.{bind-known}
use Rattle.cc_lower_expressions_follows.proofs.WholeBridge.{IsLowered, IsSoon, bridge}
use Rattle.cc_lower_expressions_follows.proofs.WholeLists.{AreBegun, begins_there}
use Rattle.cc_lower_expressions_follows.proofs.WholeRegions.{enters_code, enters_at_boundary}
use Rattle.cc_lower_expressions_follows.proofs.WholeStatements.{known_there, aborts_there}
use Rattle.cc_lower_expressions_follows.proofs.WholeValues.{at_last, comes_to, transition_last}

-- what the two statements are
pub record AreLast (y : is.Stmt-F Stmt Case) (e x : Expr) (z : is.Stmt-F Stmt Case) : Type 0 where
  pub works_p : IsWorkedIn y e
  pub works_q : IsWorkedIn z x
  pub stays_p : is_do y ≡ false
  pub stays_q : is_do z ≡ false

pub last_kinds : (w : Setting) (Good : Stmt → Type 0) (y z : is.Stmt-F Stmt Case) (e x : Expr) → IsLast w Good y e x z → AreLast y e x z
last_kinds w Good _ _ _ _ (LastIf e x a b these those h k) = record { works_p = InIf a b refl; works_q = InIf these those refl; stays_p = refl; stays_q = refl }
last_kinds w Good _ _ _ _ (LastSwitch e x cases others h) = record { works_p = InSwitch cases refl; works_q = InSwitch others refl; stays_p = refl; stays_q = refl }
last_kinds w Good _ _ _ _ (LastReturn e x) = record { works_p = InReturn refl; works_q = InReturn refl; stays_p = refl; stays_q = refl }

-- it begins where it stands
pub begins_working : (w : Setting) (p : Program) (s : Stmt) (l : List Stmt) (around : List Remainder) (e : Expr) → IsWorkedIn (out-Stmt s) e → jump_to p (nowhere w) (resume (s ∷ l) around) ≡ control_in w (remainder (s ∷ l) First) around []
begins_working w p s l around e (InDo d) = begins_there w p s l around (is.Do e) d refl refl
begins_working w p s l around e (InIf a b d) = begins_there w p s l around (is.If e a b) d refl refl
begins_working w p s l around e (InSwitch cases d) = begins_there w p s l around (is.Switch e cases) d refl refl
begins_working w p s l around e (InReturn d) = begins_there w p s l around (is.Return (Some e)) d refl refl

pub begins_at_boundary : (s : Stmt) (e : Expr) → IsWorkedIn (out-Stmt s) e → begins_at (out-Stmt s) First ≡ true
begins_at_boundary s e (InDo d) = ap (λ (y : is.Stmt-F Stmt Case). begins_at y First) d
begins_at_boundary s e (InIf a b d) = ap (λ (y : is.Stmt-F Stmt Case). begins_at y First) d
begins_at_boundary s e (InSwitch cases d) = ap (λ (y : is.Stmt-F Stmt Case). begins_at y First) d
begins_at_boundary s e (InReturn d) = ap (λ (y : is.Stmt-F Stmt Case). begins_at y First) d

module _ (w : Setting) (hidden : ℕ → ℕ → Bool) (lowered : IsLowered w hidden) (Good : Stmt → Type 0) (Match : LocalState → LocalState → Type 0) (matches : (q p : LocalState) → MatchIn w Good q p → Match q p)
    (s u : Stmt) (e x : Expr) (l l' : List Stmt) (ps qs : List Remainder) (last : IsLast w Good (out-Stmt s) e x (out-Stmt u)) (right : IsLoweredRight w e) (together : AreTogether w Good l l' ps qs) where
  abbrev At : Bool → ControlState → Locals → ControlState → Locals → Type 0
  At late qc ql pc pl = Approaches hidden w.q w.p Match late (local_state qc ql) (local_state pc pl)

  abbrev here : Remainder
  here = remainder (s ∷ l) First

  abbrev kinds : AreLast (out-Stmt s) e x (out-Stmt u)
  kinds = last_kinds w Good (out-Stmt s) (out-Stmt u) e x last

  abbrev Stands : List Mark → ControlState → Get Value → Type 0
  Stands ms a t = StandsInStatement w s l First ps e ms a t

  abbrev Soon : Bool → List Mark → ControlState → ControlState → Get Value → Type 0
  Soon late ms qc pc y = IsSoon w hidden lowered s l First ps e kinds.works_p (u ∷ l') qs right.writes (GivesAlike w x) needed late ms qc pc y

  share : (ms : List Mark) (pc : ControlState) (pl : Locals) (qc : ControlState) (ql : Locals) (g : Get (Option Value)) (r : Regs) (h : Get (Unit {0})) (t : Regs) → AreAt w (GivesAlike w x) needed s l First ps e (u ∷ l') qs ms pc pl qc ql g r h t →
      (action : Action) → IsShared w action → g [] ≡ Waits action → h [] ≡ Waits action → Match (local_state qc ql) (local_state pc pl)
  share ms pc pl qc ql g r h t at action shared eg eh = matches _ _ (InOperand s u e x l l' ps qs ms pc pl qc ql g r h t action last right together at shared eg eh)

  abbrev last_at : List Mark → ControlState
  last_at ns = at_last w hidden lowered u l' qs x kinds.works_q kinds.stays_q ns

  near_there : (late : Bool) (pc : ControlState) (ns : List Mark) → (late ≡ false → is_at_boundary pc ≡ true → ns ≡ []) → late ≡ false → is_at_boundary pc ≡ true → is_at_boundary (last_at ns) ≡ true
  near_there late pc ns near h b = ap (λ (n : List Mark). is_at_boundary (last_at n)) (near h b) ∙ begins_at_boundary u x kinds.works_q

  -- both have the value
  have_value : (late : Bool) (ms ns : List Mark) (pc : ControlState) (pl ql : Locals) (v : Value) (j : List Mark) → Stands ms pc (known v) → next_q w x ns ≡ Known (Some v) j → AreAlike w pl ql → (late ≡ false → is_at_boundary pc ≡ true → ns ≡ []) → At late (last_at ns) ql pc pl
  have_value late ms ns pc pl ql v j (Working i k u') known_q alike near =
      let r = known_there w lowered.function_p s l First ps e (lowered.laws_p e) kinds.works_p ms (known v) v k refl in
      subst (λ (c : ControlState). At late (last_at ns) ql c pl) (sym i)
      (Arrives late _ _ (matches _ _ (AtValue s u e x l l' ps qs ms ns v r.0 j pl ql last together r.1 known_q alike)) (near_there late (control_in w here ps ms) ns (λ h b. near h (ap is_at_boundary i ∙ b))))
  have_value late ms ns pc pl ql v j (Left v' i k d) known_q alike near = let contrary : false ≡ true = sym kinds.stays_p ∙ d in absurd (cc)

  -- or it is bad
  have_none : (late : Bool) (ms ns : List Mark) (pc : ControlState) (pl ql : Locals) → Stands ms pc (needed None) → next_q w x ns ≡ Known None [] → (late ≡ false → is_at_boundary pc ≡ true → ns ≡ []) → At late (last_at ns) ql pc pl
  have_none late ms ns pc pl ql stands known_q near =
      BothTrap late _ _
      (Trapping (last_at ns) ql (transition_last w hidden lowered u l' qs x kinds.works_q kinds.stays_q ns ∙ ap (transition_in w.q (out-Stmt u) (last_at ns)) known_q))
      (Trapping pc pl (aborts_there w lowered.function_p s l First ps e (lowered.laws_p e) kinds.works_p ms pc (needed None) stands [] refl))
      (near_there late pc ns near)

  by_value : (a : Option Value) (late : Bool) (ms ns : List Mark) (pc : ControlState) (pl ql : Locals) → Stands ms pc (needed a) → next_q w x ns ≡ Known a [] → AreAlike w pl ql → (late ≡ false → is_at_boundary pc ≡ true → ns ≡ []) → At late (last_at ns) ql pc pl
  by_value None late ms ns pc pl ql stands known_q alike near = have_none late ms ns pc pl ql stands known_q near
  by_value (Some v) late ms ns pc pl ql stands known_q alike near = have_value late ms ns pc pl ql v [] stands known_q alike near

  exit : (openings : List ℕ) (late : Bool) (ms : List Mark) (pc : ControlState) (pl : Locals) (qc : ControlState) (ql : Locals) (a : Option Value) (r t : Regs) → IsTypedAt w e openings ms r → Stands ms pc (needed a) → qc ≡ jump_to w.q (nowhere w) (resume (u ∷ l') qs) →
      regs_in w.from pl ≡ r → regs_in w.to ql ≡ t → AllThere w.from pl → AllThere w.to ql → GivesAlike w x a tt r t → Soon late ms qc pc (needed a) → At late qc ql pc pl
  exit openings late ms pc pl qc ql a r t typed stands q_there i j has_p has_q post soon =
      subst (λ (c : ControlState). At late c ql pc pl) (sym (q_there ∙ begins_working w w.q u l' qs x kinds.works_q))
      (comes_to w hidden lowered u l' qs x kinds.works_q kinds.stays_q Match pc pl a t ((meaning (context_q w) x).next no_one) t post.1 late [] ql refl j has_q (λ h b. refl)
      (λ late' ns ql' known_q regs has near. by_value a late' ms ns pc pl ql' stands known_q
      (record { same = subst (λ (y : Regs). AreSame w y (regs_in w.to ql')) (sym i) (subst (AreSame w r) (sym regs) post.0); has_p = has_p; has_q = has }) near))

  -- where both are in the middle of it
  pub operand_goes_on : (openings : List ℕ) (late : Bool) (ms : List Mark) (pc : ControlState) (pl : Locals) (qc : ControlState) (ql : Locals) (g : Get (Option Value)) (r : Regs) (h : Get (Unit {0})) (t : Regs) → IsTypedAt w e openings ms r →
      AreAt w (GivesAlike w x) needed s l First ps e (u ∷ l') qs ms pc pl qc ql g r h t → Soon late ms qc pc (bind g needed) → At late qc ql pc pl
  operand_goes_on openings late ms pc pl qc ql g r h t typed at soon =
      bridge w hidden lowered s l First ps e kinds.works_p (u ∷ l') qs right.writes (GivesAlike w x) needed Match share exit openings (at.does openings typed.opened typed.marks) late ms pc pl qc ql typed at soon

  -- ---- it begins

  module _ (k : ℕ) (above : w.base ≤ k) (declared : Declared w k (piece_of w e k).temps) (is_x : (piece_of w e k).value ≡ x) where
    abbrev code : List Stmt
    code = (piece_of w e k).stmts

    abbrev tree : Get (Unit {0})
    tree = code_tree w code

    nothing_in : (front back : List Mark) (m : Mark) → [] ≡ front ++ m ∷ back → ⊥
    nothing_in [] back m h = absurd (cc)
    nothing_in (y ∷ front) back m h = absurd (cc)

    last_at_boundary : is_at_boundary (jump_to w.q (nowhere w) (resume (u ∷ l') qs)) ≡ true
    last_at_boundary = ap is_at_boundary (begins_working w w.q u l' qs x kinds.works_q) ∙ begins_at_boundary u x kinds.works_q

    at_boundary : is_at_boundary (jump_to w.q (nowhere w) (resume (code ++ u ∷ l') qs)) ≡ true
    at_boundary = enters_at_boundary w (u ∷ l') qs lowered.laws_q lowered.asks_q lowered.function_q code (right.operand_code k) last_at_boundary

    pub operand_begins : AreBegun w hidden Good Match matches (s ∷ l) (code ++ u ∷ l') ps qs
    operand_begins = record {
      starts = λ openings opened late pl ql typed alike.
          subst (λ (c : ControlState). At late (jump_to w.q (nowhere w) (resume (code ++ u ∷ l') qs)) ql c pl) (sym (begins_working w w.p s l ps e kinds.works_p))
          (operand_goes_on openings late [] (control_in w here ps []) pl (jump_to w.q (nowhere w) (resume (code ++ u ∷ l') qs)) ql ((meaning (context_p w) e).next no_one) (regs_in w.from pl) tree (regs_in w.to ql)
          (record { opened = opened; marks = λ front back m split. absurd (nothing_in front back m split); typed = typed })
          (record {
            does = λ all there marks. subst (λ (y : Expr). Does (opened_at w all) (GivesAlike w y) ((meaning (context_p w) e).next no_one) (regs_in w.from pl) tree (regs_in w.to ql)) is_x
                (right.operand all there k above declared (regs_in w.from pl) (regs_in w.to ql) alike.same);
            stands = Working refl refl (λ h. absurd (no_do h));
            code = subst (StandsInCode w (u ∷ l') qs (jump_to w.q (nowhere w) (resume (code ++ u ∷ l') qs))) (bind-known tree) (enters_code w (u ∷ l') qs lowered.laws_q lowered.asks_q lowered.function_q code (right.operand_code k));
            regs_p = refl;
            regs_q = refl;
            has_p = alike.has_p;
            has_q = alike.has_q;
          })
          (λ h b. inl at_boundary));
      boundary = at_boundary;
    }
      where
        no_do : is_do (out-Stmt s) ≡ true → ⊥
        no_do h = let contrary : false ≡ true = sym kinds.stays_p ∙ h in absurd (cc)
