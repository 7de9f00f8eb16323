-- Where p goes on with lists of statements and q with what these become, local states approach each other.
use Rattle.std.proofs.Common.{arith, ◌≡◌, ◌≤◌, ◌+◌, ℕ, suc, Bool, true, false, List, [], ◌∷◌, ◌++◌, length, Option, Some, None, refl, ap, sym, ◌∙◌, subst, if◌then◌else◌}
use Rattle.std.specs.Prelude.{slice_get}
use Rattle.cc_states.specs.CcControl.declared.phase.Phase.{Phase}
use Rattle.cc_states.specs.CcControl.declared.phase.Phase.TheVariants.{First, Test}
use Rattle.cc_states.specs.CcControl.Control.{is_loop, opening, first_phase}
use Rattle.cc_program.specs.declared.expr.Expr.{Expr, out-Expr}
use Rattle.cc_program.specs.declared.program.Program.{Program}
use Rattle.cc_program.specs.declared.stmt.Case.{Case}
use Rattle.cc_program.specs.declared.stmt.Stmt.{Stmt, out-Stmt, map-Stmt, fold_out-Stmt}
use Rattle.cc_program.specs.declared.stmt.Stmt.TheOpen as is
use Rattle.cc_program.proofs.Each.{Each}
use Rattle.cc_states.specs.CcSteps.Runs.{begins_at}
use Rattle.cc_states.specs.CcSteps.Step.{is_past, passed}
use Rattle.cc_meaning_simulations.specs.Continuations.{Continuation, Remainder, remainder, resume}
use Rattle.cc_meaning_simulations.specs.LocalSimulations.{Approaches, Arrives}
use Rattle.cc_meaning_simulations.specs.LocalSteps.{LocalState, Locals, local_state}
use Rattle.cc_meaning_simulations.specs.Transitions.{ControlState, at_continuation, is_at_boundary, jump_to}
use Rattle.cc_meaning_simulations.proofs.ContinuationLemmas.{begin_stands}
use Rattle.cc_lower_expressions.specs.Expressions.{Temps, Make}
use Rattle.cc_lower_expressions.specs.Statements.{lower, lower_case, lower_in, lower_case_in, lower_list}
use Rattle.cc_lower_expressions_follows.specs.Trees.{Setting}
use Rattle.cc_lower_expressions_follows.specs.Registered.{regs_in}
use Rattle.cc_lower_expressions_follows.specs.Relation.{Declared}
use Rattle.cc_lower_expressions_follows.specs.WholeLists.{is_one_at, AreBranches, Ifs, Switches, AreLowered, NoneLowered, OneLowered, AreAround, Outside, InBranch, InGuard, InLoop}
use Rattle.cc_lower_expressions_follows.specs.WholeMatches.{AreAlike, AreTogether, MatchIn, AtLoop, AtEnd}
use Rattle.cc_lower_expressions_follows.specs.WholePlaces.{opened_at}
use Rattle.cc_lower_expressions_follows.specs.WholeRegion.{control_in, nowhere}
use Rattle.cc_lower_expressions_follows.specs.WholeTrees.{AreTyped}

-- ---- temporaries

module _ (w : Setting) where
  pub declared_left : (k : ℕ) (xs ys : Temps) → Declared w k (xs ++ ys) → Declared w k xs
  declared_left k [] ys h = tt
  declared_left k (x ∷ xs) ys h = (h.0, declared_left (suc k) xs ys h.1)

  pub declared_right : (k : ℕ) (xs ys : Temps) → Declared w k (xs ++ ys) → Declared w (k + length xs) ys
  declared_right k [] ys h = subst (λ (n : ℕ). Declared w n ys) (no_more k) h
    where
      no_more : (k : ℕ) → k ≡ k + 0
      no_more k = omega arith
  declared_right k (x ∷ xs) ys h = subst (λ (n : ℕ). Declared w n ys) (one_more (length xs)) (declared_right (suc k) xs ys h.1)
    where
      one_more : (n : ℕ) → suc k + n ≡ k + suc n
      one_more n = omega arith

  module _ (Good : Stmt → Type 0) where
    -- a list is lowered statement by statement
    pub lists_lowered : (list : List Stmt) (k : ℕ) → w.base ≤ k → Declared w k (lower_list w.p w.from list k).temps → Each Good list → AreLowered w Good list (lower_list w.p w.from list k).stmts
    lists_lowered [] k above declared good = NoneLowered
    lists_lowered (s ∷ l) k above declared good =
        let x = lower w.p w.from s k in
        OneLowered s k l (lower_list w.p w.from l (k + length x.temps)).stmts above (declared_left k x.temps _ declared) good.0
        (lists_lowered l (k + length x.temps) (omega (arith, above)) (declared_right k x.temps _ declared) good.1)

-- ---- where a statement begins

module _ (w : Setting) where
  -- where nothing is passed, it begins there
  pub begins_there : (p : Program) (s : Stmt) (l : List Stmt) (around : List Remainder) (x : is.Stmt-F Stmt Case) → out-Stmt s ≡ x → opening x ≡ [] → passed x (first_phase x) ≡ None →
      jump_to p (nowhere w) (resume (s ∷ l) around) ≡ control_in w (remainder (s ∷ l) (first_phase x)) around []
  begins_there p s l around x e o n =
      ap (jump_to p (nowhere w)) (begin_stands s l around (ap opening e ∙ o) ∙ ap (λ (y : is.Stmt-F Stmt Case). (remainder (s ∷ l) (first_phase y), around)) e) ∙
      ap (λ (y : Option (Option Expr)). at_continuation (nowhere w) (if is_past p w.number w.id [] y then (remainder (s ∷ l) Test, around) else (remainder (s ∷ l) (first_phase x), around)))
      (ap (λ (y : is.Stmt-F Stmt Case). passed y (first_phase x)) e ∙ n)

  -- a loop goes on with its test
  pub stays_there : (p : Program) (s : Stmt) (l : List Stmt) (phase : Phase) (around : List Remainder) (x : is.Stmt-F Stmt Case) → out-Stmt s ≡ x → passed x phase ≡ None →
      jump_to p (nowhere w) (remainder (s ∷ l) phase, around) ≡ control_in w (remainder (s ∷ l) phase) around []
  stays_there p s l phase around x e n =
      ap (λ (y : Option (Option Expr)). at_continuation (nowhere w) (if is_past p w.number w.id [] y then (remainder (s ∷ l) Test, around) else (remainder (s ∷ l) phase, around))) (ap (λ (y : is.Stmt-F Stmt Case). passed y phase) e ∙ n)

-- out of a list that is done, which is the body of no loop, or of one
pub resume_past : (s : Stmt) (rest : List Stmt) (phase : Phase) (around : List Remainder) → is_loop (out-Stmt s) ≡ false → resume [] (remainder (s ∷ rest) phase ∷ around) ≡ resume rest around
resume_past s rest phase around h = ap (λ (b : Bool). if b then (remainder (s ∷ rest) phase, around) else resume rest around) h

pub resume_loop : (s : Stmt) (rest : List Stmt) (phase : Phase) (around : List Remainder) → is_loop (out-Stmt s) ≡ true → resume [] (remainder (s ∷ rest) phase ∷ around) ≡ (remainder (s ∷ rest) phase, around)
resume_loop s rest phase around h = ap (λ (b : Bool). if b then (remainder (s ∷ rest) phase, around) else resume rest around) h

-- ---- lists that are done

module _ (w : Setting) (hidden : ℕ → ℕ → Bool) (Good : Stmt → Type 0) (Match : LocalState → LocalState → Type 0) (matches : (q p : LocalState) → MatchIn w Good q p → Match q p) where
  abbrev pub Nearing : Bool → ControlState → Locals → ControlState → Locals → Type 0
  Nearing late qc ql pc pl = Approaches hidden w.q w.p Match late (local_state qc ql) (local_state pc pl)

  -- where p goes on with a list and q with another one
  abbrev pub Starts : List Stmt → List Stmt → List Remainder → List Remainder → Type 0
  Starts l l' ps qs = (openings : List ℕ) → slice_get openings w.number ≡ Some w.id → (late : Bool) (pl ql : Locals) → AreTyped (opened_at w openings) (regs_in w.from pl) → AreAlike w pl ql →
      Nearing late (jump_to w.q (nowhere w) (resume l' qs)) ql (jump_to w.p (nowhere w) (resume l ps)) pl

  -- and q is at a boundary there
  pub record AreBegun (l l' : List Stmt) (ps qs : List Remainder) : Type 0 where
    pub starts : Starts l l' ps qs
    pub boundary : is_at_boundary (jump_to w.q (nowhere w) (resume l' qs)) ≡ true

  pub begun_at : (l m l' m' : List Stmt) (ps qs ns os : List Remainder) → resume l ps ≡ resume m ns → resume l' qs ≡ resume m' os → AreBegun m m' ns os → AreBegun l l' ps qs
  begun_at l m l' m' ps qs ns os e f h = record {
    starts = λ openings opened late pl ql typed alike.
        subst (λ (c : Continuation). Nearing late (jump_to w.q (nowhere w) (resume l' qs)) ql (jump_to w.p (nowhere w) c) pl) (sym e)
        (subst (λ (c : Continuation). Nearing late (jump_to w.q (nowhere w) c) ql (jump_to w.p (nowhere w) (resume m ns)) pl) (sym f) (h.starts openings opened late pl ql typed alike));
    boundary = ap (λ (c : Continuation). is_at_boundary (jump_to w.q (nowhere w) c)) f ∙ h.boundary;
  }

  branch_goes_on : (x y : is.Stmt-F Stmt Case) → AreBranches x y → (is_loop x ≡ false) × (is_loop y ≡ false)
  branch_goes_on _ _ (Ifs e x a b these those) = (refl, refl)
  branch_goes_on _ _ (Switches e x cases others) = (refl, refl)

  abbrev Together : List Remainder → List Remainder → Type 0
  Together ps qs = AreAround w Good ps qs

  -- at `while (1)`
  pub at_loop : (s u : Stmt) (e : Expr) (body body' l l' : List Stmt) (ps qs : List Remainder) → out-Stmt s ≡ is.While e body → out-Stmt u ≡ is.While e body' → is_one_at (out-Expr e) ≡ true → AreLowered w Good body body' → AreTogether w Good l l' ps qs →
      (late : Bool) (pl ql : Locals) → AreAlike w pl ql → Nearing late (control_in w (remainder (u ∷ l') Test) qs []) ql (control_in w (remainder (s ∷ l) Test) ps []) pl
  at_loop s u e body body' l l' ps qs i j one bodies together late pl ql alike =
      Arrives late _ _ (matches _ _ (AtLoop s u e body body' l l' ps qs pl ql i j one bodies together alike)) (λ h b. ap (λ (x : is.Stmt-F Stmt Case). begins_at x Test) j)

  module _ (lists : (l l' : List Stmt) (ps qs : List Remainder) → AreLowered w Good l l' → Together ps qs → AreBegun [] [] ps qs → AreBegun l l' ps qs) where
    pub ends : (ps qs : List Remainder) → Together ps qs → AreBegun [] [] ps qs
    ends _ _ Outside = record { starts = λ openings opened late pl ql typed alike. Arrives late _ _ (matches _ _ (AtEnd pl ql)) (λ h b. refl); boundary = refl }
    ends _ _ (InBranch s t l l' ps qs branches lowered around) =
        let k = branch_goes_on (out-Stmt s) (out-Stmt t) branches in
        begun_at [] l [] l' (remainder (s ∷ l) First ∷ ps) (remainder (t ∷ l') First ∷ qs) ps qs (resume_past s l First ps k.0) (resume_past t l' First qs k.1) (lists l l' ps qs lowered around (ends ps qs around))
    ends _ _ (InGuard t x these those ps qs e around) =
        begun_at [] [] [] [] ps (remainder (t ∷ []) First ∷ qs) ps qs refl (resume_past t [] First qs (ap is_loop e)) (ends ps qs around)
    ends _ _ (InLoop s t e body body' l l' ps qs i j one bodies lowered around) =
        let p_there = ap (jump_to w.p (nowhere w)) (resume_loop s l Test ps (ap is_loop i)) ∙ stays_there w w.p s l Test ps (is.While e body) i refl in
        let q_there = ap (jump_to w.q (nowhere w)) (resume_loop t l' Test qs (ap is_loop j)) ∙ stays_there w w.q t l' Test qs (is.While e body') j refl in
        record {
          starts = λ openings opened late pl ql typed alike.
              subst (λ (c : ControlState). Nearing late (jump_to w.q (nowhere w) (resume [] (remainder (t ∷ l') Test ∷ qs))) ql c pl) (sym p_there)
              (subst (λ (c : ControlState). Nearing late c ql (control_in w (remainder (s ∷ l) Test) ps []) pl) (sym q_there)
              (at_loop s t e body body' l l' ps qs i j one bodies (record { lists = lowered; around = around }) late pl ql alike));
          boundary = ap is_at_boundary q_there ∙ ap (λ (x : is.Stmt-F Stmt Case). begins_at x Test) j;
        }

-- ---- a statement by its level

module _ (w : Setting) where
  pub lower_level : (s : Stmt) (x : is.Stmt-F Stmt Case) → out-Stmt s ≡ x → lower w.p w.from s ≡ lower_in w.p w.from (map-Stmt Stmt Case (Make (Unit {0})) (Make Case) (lower w.p w.from) (lower_case w.p w.from) x)
  unfolding lower lower_case
  lower_level s x e =
      fold_out-Stmt (Make (Unit {0})) (Make Case) (lower_in w.p w.from) (lower_case_in w.p w.from) s ∙
      ap (λ (y : is.Stmt-F Stmt Case). lower_in w.p w.from (map-Stmt Stmt Case (Make (Unit {0})) (Make Case) (lower w.p w.from) (lower_case w.p w.from) y)) e
