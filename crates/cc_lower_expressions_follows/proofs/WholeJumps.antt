-- `break` and `continue`: out of the same levels both go to places beside each other.
use Rattle.std.proofs.Common.{◌≡◌, ℕ, Bool, true, false, List, [], ◌∷◌, Some, refl, ap, sym, subst, if◌then◌else◌}
use Rattle.std.specs.Prelude.{slice_get}
use Rattle.cc_states.specs.CcControl.declared.phase.Phase.{Phase}
use Rattle.cc_states.specs.CcControl.declared.phase.Phase.TheVariants.{First, Test}
use Rattle.cc_states.specs.CcControl.Control.{is_loop, is_left_by_break}
use Rattle.cc_program.specs.declared.stmt.Case.{Case}
use Rattle.cc_program.specs.declared.stmt.Stmt.{Stmt, out-Stmt}
use Rattle.cc_program.specs.declared.stmt.Stmt.TheOpen as is
use Rattle.cc_meaning_simulations.specs.Continuations.{Continuation, Remainder, remainder, resume, break_out, continue_on}
use Rattle.cc_meaning_simulations.specs.LocalSimulations.{Approaches, Arrives}
use Rattle.cc_meaning_simulations.specs.LocalSteps.{LocalState, Locals, local_state}
use Rattle.cc_meaning_simulations.specs.Transitions.{ControlState, jump_to}
use Rattle.cc_lower_expressions_follows.specs.Trees.{Setting}
use Rattle.cc_lower_expressions_follows.specs.Registered.{regs_in}
use Rattle.cc_lower_expressions_follows.specs.WholeLists.{AreBranches, Ifs, Switches, AreAround, Outside, InBranch, InGuard, InLoop}
use Rattle.cc_lower_expressions_follows.specs.WholeMatches.{AreAlike, AreTogether, MatchIn, AtEnd}
use Rattle.cc_lower_expressions_follows.specs.WholePlaces.{opened_at}
use Rattle.cc_lower_expressions_follows.specs.WholeRegion.{control_in, nowhere}
use Rattle.cc_lower_expressions_follows.specs.WholeTrees.{AreTyped}
use Rattle.cc_lower_expressions_follows.proofs.WholeLists.{AreBegun, at_loop, stays_there}

pub break_past : (s : Stmt) (rest : List Stmt) (phase : Phase) (around : List Remainder) → is_left_by_break (out-Stmt s) ≡ false → break_out (remainder (s ∷ rest) phase ∷ around) ≡ break_out around
break_past s rest phase around h = ap (λ (b : Bool). if b then resume rest around else break_out around) h

pub break_here : (s : Stmt) (rest : List Stmt) (phase : Phase) (around : List Remainder) → is_left_by_break (out-Stmt s) ≡ true → break_out (remainder (s ∷ rest) phase ∷ around) ≡ resume rest around
break_here s rest phase around h = ap (λ (b : Bool). if b then resume rest around else break_out around) h

pub continue_past : (s : Stmt) (rest : List Stmt) (phase : Phase) (around : List Remainder) → is_loop (out-Stmt s) ≡ false → continue_on (remainder (s ∷ rest) phase ∷ around) ≡ continue_on around
continue_past s rest phase around h = ap (λ (b : Bool). if b then (remainder (s ∷ rest) phase, around) else continue_on around) h

pub continue_here : (s : Stmt) (rest : List Stmt) (phase : Phase) (around : List Remainder) → is_loop (out-Stmt s) ≡ true → continue_on (remainder (s ∷ rest) phase ∷ around) ≡ (remainder (s ∷ rest) phase, around)
continue_here s rest phase around h = ap (λ (b : Bool). if b then (remainder (s ∷ rest) phase, around) else continue_on around) h

module _ (w : Setting) (hidden : ℕ → ℕ → Bool) (Good : Stmt → Type 0) (Match : LocalState → LocalState → Type 0) (matches : (q p : LocalState) → MatchIn w Good q p → Match q p)
    (begins : (l l' : List Stmt) (ps qs : List Remainder) → AreTogether w Good l l' ps qs → AreBegun w hidden Good Match matches l l' ps qs)
    (openings : List ℕ) (opened : slice_get openings w.number ≡ Some w.id) (pl ql : Locals) (typed : AreTyped (opened_at w openings) (regs_in w.from pl)) (alike : AreAlike w pl ql) where
  abbrev pub Nears : Continuation → Continuation → Type 0
  Nears y x = Approaches hidden w.q w.p Match false (local_state (jump_to w.q (nowhere w) y) ql) (local_state (jump_to w.p (nowhere w) x) pl)

  nears_at : (y x y' x' : Continuation) → y ≡ y' → x ≡ x' → Nears y' x' → Nears y x
  nears_at y x y' x' e f h = subst (λ (c : Continuation). Nears c x) (sym e) (subst (λ (c : Continuation). Nears y' c) (sym f) h)

  pub list_begins : (l l' : List Stmt) (ps qs : List Remainder) → AreTogether w Good l l' ps qs → Nears (resume l' qs) (resume l ps)
  list_begins l l' ps qs h = (begins l l' ps qs h).starts openings opened false pl ql typed alike

  pub breaks : (ps qs : List Remainder) → AreAround w Good ps qs → Nears (break_out qs) (break_out ps)
  breaks _ _ Outside = Arrives false _ _ (matches _ _ (AtEnd pl ql)) (λ h b. refl)
  breaks _ _ (InBranch s t l l' ps qs branches lowered around) = by_kind (out-Stmt s) (out-Stmt t) refl refl branches (breaks ps qs around)
    where
      by_kind : (x y : is.Stmt-F Stmt Case) → out-Stmt s ≡ x → out-Stmt t ≡ y → AreBranches x y → Nears (break_out qs) (break_out ps) → Nears (break_out (remainder (t ∷ l') First ∷ qs)) (break_out (remainder (s ∷ l) First ∷ ps))
      by_kind _ _ i j (Ifs e x a b these those) h = nears_at _ _ _ _ (break_past t l' First qs (ap is_left_by_break j)) (break_past s l First ps (ap is_left_by_break i)) h
      by_kind _ _ i j (Switches e x cases others) h =
          nears_at _ _ _ _ (break_here t l' First qs (ap is_left_by_break j)) (break_here s l First ps (ap is_left_by_break i)) (list_begins l l' ps qs (record { lists = lowered; around = around }))
  breaks _ _ (InGuard t x these those ps qs e around) = nears_at (break_out (remainder (t ∷ []) First ∷ qs)) (break_out ps) (break_out qs) (break_out ps) (break_past t [] First qs (ap is_left_by_break e)) refl (breaks ps qs around)
  breaks _ _ (InLoop s t e body body' l l' ps qs i j one bodies lowered around) =
      nears_at _ _ _ _ (break_here t l' Test qs (ap is_left_by_break j)) (break_here s l Test ps (ap is_left_by_break i)) (list_begins l l' ps qs (record { lists = lowered; around = around }))

  pub continues : (ps qs : List Remainder) → AreAround w Good ps qs → Nears (continue_on qs) (continue_on ps)
  continues _ _ Outside = Arrives false _ _ (matches _ _ (AtEnd pl ql)) (λ h b. refl)
  continues _ _ (InBranch s t l l' ps qs branches lowered around) = by_kind (out-Stmt s) (out-Stmt t) refl refl branches (continues ps qs around)
    where
      by_kind : (x y : is.Stmt-F Stmt Case) → out-Stmt s ≡ x → out-Stmt t ≡ y → AreBranches x y → Nears (continue_on qs) (continue_on ps) → Nears (continue_on (remainder (t ∷ l') First ∷ qs)) (continue_on (remainder (s ∷ l) First ∷ ps))
      by_kind _ _ i j (Ifs e x a b these those) h = nears_at _ _ _ _ (continue_past t l' First qs (ap is_loop j)) (continue_past s l First ps (ap is_loop i)) h
      by_kind _ _ i j (Switches e x cases others) h = nears_at _ _ _ _ (continue_past t l' First qs (ap is_loop j)) (continue_past s l First ps (ap is_loop i)) h
  continues _ _ (InGuard t x these those ps qs e around) = nears_at (continue_on (remainder (t ∷ []) First ∷ qs)) (continue_on ps) (continue_on qs) (continue_on ps) (continue_past t [] First qs (ap is_loop e)) refl (continues ps qs around)
  continues _ _ (InLoop s t e body body' l l' ps qs i j one bodies lowered around) =
      nears_at _ _ _ _ (continue_here t l' Test qs (ap is_loop j)) (continue_here s l Test ps (ap is_loop i))
      (subst (λ (c : ControlState). Approaches hidden w.q w.p Match false (local_state (jump_to w.q (nowhere w) (remainder (t ∷ l') Test, qs)) ql) (local_state c pl)) (sym (stays_there w w.p s l Test ps (is.While e body) i refl))
      (subst (λ (c : ControlState). Approaches hidden w.q w.p Match false (local_state c ql) (local_state (control_in w (remainder (s ∷ l) Test) ps []) pl)) (sym (stays_there w w.q t l' Test qs (is.While e body') j refl))
      (at_loop w hidden Good Match matches s t e body body' l l' ps qs i j one bodies (record { lists = lowered; around = around }) false pl ql alike)))
