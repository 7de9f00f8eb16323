-- Where local states match, both make the same transition, and approach each other again behind it.
use Rattle.std.proofs.Common.{◌≡◌, inr, ℕ, ℤ, Bool, true, false, List, [], ◌∷◌, ◌++◌, Option, Some, None, refl, ap, sym, ◌∙◌, subst}
use Rattle.std.specs.Prelude.{slice_get, pos}
use Rattle.cc_states.specs.CcControl.declared.phase.Phase.TheVariants.{First, Test}
use Rattle.cc_states.specs.CcControl.Control.{behind_body}
use Rattle.cc_states.specs.CcEval.declared.action.Action.{Action}
use Rattle.cc_states.specs.CcEval.declared.action.Action.TheVariants.{Choose}
use Rattle.cc_states.specs.CcEval.declared.mark.Mark.{Mark}
use Rattle.cc_states.specs.CcEval.Progress.{Progress, Known, Waits, Get, known, and_then, bind, no_value}
use Rattle.cc_program.specs.declared.expr.Expr.{Expr, out-Expr}
use Rattle.cc_program.specs.declared.func.Func.{Func}
use Rattle.cc_program.specs.declared.program.Program.{Program}
use Rattle.cc_program.specs.declared.stmt.Case.{Case}
use Rattle.cc_program.specs.declared.stmt.Stmt.{Stmt, out-Stmt}
use Rattle.cc_program.specs.declared.stmt.Stmt.TheOpen as is
use Rattle.cc_program.specs.declared.value.Value.{Value}
use Rattle.cc_program.specs.declared.value.Value.TheVariants.{Int}
use Rattle.cc_states.specs.CcSteps.Step.{worked, progress_in, number_in}
use Rattle.cc_states.specs.CcValues.Values.{is_true}
use Rattle.cc_states.specs.Answers.{IsMarkOf}
use Rattle.cc_states.proofs.CcEval.Works.{one_answer}
use Rattle.cc_meaning_simulations.specs.Continuations.{Remainder, remainder, resume, enclosing, in_arm, in_cases, found_case}
use Rattle.cc_meaning_simulations.specs.LocalSimulations.{AreAlike as AlikeIn, Approaches, Expects}
use Rattle.cc_meaning_simulations.specs.LocalSteps.{LocalState, Locals, local_state}
use Rattle.cc_meaning_simulations.specs.Transitions.{ControlState, Transition, Performs, Jumps, is_at_boundary, jump_to, marked_control, progress_there, transition_in, transition}
use Rattle.cc_lower_expressions_follows.specs.Trees.{Regs, Setting, after, IsShared}
use Rattle.cc_lower_expressions_follows.specs.Registered.{regs_in}
use Rattle.cc_lower_expressions_follows.specs.Region.{next_q}
use Rattle.cc_lower_expressions_follows.specs.WholeLists.{is_one_at, RunAlike, GivesAlike, AreBranches, Ifs, AreLowered, AreLoweredCases, AreAround, InBranch, InLoop, IsLast, LastIf, LastSwitch, LastReturn}
use Rattle.cc_lower_expressions_follows.specs.WholeMatches.{needed, AreAlike, AreTogether, MatchIn, InEffect, InOperand, AtValue, InCondition, AtArm, AtLoop, AtBreak, AtContinue, AtReturn, AtEnd}
use Rattle.cc_lower_expressions_follows.specs.WholePlaces.{opened_at, IsTypedAt, MarkFits, AreAt}
use Rattle.cc_lower_expressions_follows.specs.WholeRegion.{control_in, nowhere, next_p, IsWorkedIn, InDo, InIf, StandsInStatement}
use Rattle.cc_lower_expressions_follows.specs.WholeTrees.{AreTyped}
use Rattle.cc_lower_expressions_follows.proofs.WholeBridge.{IsLowered, its_before, its_last, not_empty}
use Rattle.cc_lower_expressions_follows.proofs.WholeEffects.{effect_goes_on}
use Rattle.cc_lower_expressions_follows.proofs.WholeGuards.{condition_goes_on, jumps_p, jumps_q}
use Rattle.cc_lower_expressions_follows.proofs.WholeJumps.{breaks, continues, list_begins}
use Rattle.cc_lower_expressions_follows.proofs.WholeLists.{AreBegun}
use Rattle.cc_lower_expressions_follows.proofs.WholeOperands.{operand_goes_on, last_kinds}
use Rattle.cc_lower_expressions_follows.proofs.WholeRegions.{GoesOn, ByStep, ByBranch, goes_on}
use Rattle.cc_lower_expressions_follows.proofs.WholeStatements.{StepsTo, steps_to, transition_is}
use Rattle.cc_lower_expressions_follows.proofs.WholeTrees.{behind_both}
use Rattle.cc_lower_expressions_follows.proofs.WholeValues.{transition_last}

module _ (w : Setting) (hidden : ℕ → ℕ → Bool) (lowered : IsLowered w hidden) (Good : Stmt → Type 0) (Match : LocalState → LocalState → Type 0) (matches : (q p : LocalState) → MatchIn w Good q p → Match q p)
    (begins : (l l' : List Stmt) (ps qs : List Remainder) → AreTogether w Good l l' ps qs → AreBegun w hidden Good Match matches l l' ps qs)
    (Fits : LocalState → Mark → Type 0)
    -- a mark that fits is one of the step that p waits for
    (fit : (s : Stmt) (e : Expr) (l : List Stmt) (ps : List Remainder) (ms : List Mark) (pc : ControlState) (pl : Locals) (t : Get Value) (action : Action) → IsWorkedIn (out-Stmt s) e → StandsInStatement w s l First ps e ms pc t → t [] ≡ Waits action → next_p w e ms ≡ Waits action →
    (m : Mark) → Fits (local_state pc pl) m → MarkFits w e ms action m (regs_in w.from pl))
    -- the cases of a `switch` are found alike
    (found : (s u : Stmt) (e x : Expr) (cases others : List Case) (l l' : List Stmt) (ps qs : List Remainder) → out-Stmt s ≡ is.Switch e cases → out-Stmt u ≡ is.Switch x others → AreLoweredCases w Good cases others → AreTogether w Good l l' ps qs →
    (openings : List ℕ) → slice_get openings w.number ≡ Some w.id → (pl ql : Locals) → AreTyped (opened_at w openings) (regs_in w.from pl) → AreAlike w pl ql → (n : ℤ) →
    Approaches hidden w.q w.p Match false (local_state (jump_to w.q (nowhere w) (in_cases (found_case n others) (remainder (u ∷ l') First) qs)) ql) (local_state (jump_to w.p (nowhere w) (in_cases (found_case n cases) (remainder (s ∷ l) First) ps)) pl))
    -- `while (1)` has the value 1 in both
    (ones : (e : Expr) → is_one_at (out-Expr e) ≡ true → (next_p w e [] ≡ Known (Some (Int (pos 1))) []) × (next_q w e [] ≡ Known (Some (Int (pos 1))) [])) where
  abbrev Again : LocalState → LocalState → Type 0
  Again q p = Approaches hidden w.q w.p Match false q p

  abbrev Alike : LocalState → LocalState → Transition → Transition → Type 0
  Alike q p d e = AlikeIn hidden Again (Expects hidden w.q w.p Match Fits) q p d e

  alike_by : (q p : LocalState) (d d' e e' : Transition) → d ≡ d' → e ≡ e' → Alike q p d' e' → Alike q p d e
  alike_by q p d d' e e' i j h = subst (λ (x : Transition). Alike q p x e) (sym i) (subst (λ (x : Transition). Alike q p d' x) (sym j) h)

  shared_no_choice : {B : Type 0} (action : Action) (b : Option Bool) → action ≡ Choose b → IsShared w action → B
  shared_no_choice action b e shared = absurd (subst (IsShared w) e shared)

  -- ---- the same step

  module _ (s : Stmt) (e : Expr) (l : List Stmt) (ps : List Remainder) (works : IsWorkedIn (out-Stmt s) e) (out : List Stmt) (outer : List Remainder) {A : Type 0} (Q : A → Unit {0} → Regs → Regs → Type 0) (F : A → Get Value)
      (ms : List Mark) (pc : ControlState) (pl : Locals) (qc : ControlState) (ql : Locals) (g : Get A) (r : Regs) (h : Get (Unit {0})) (t : Regs) (action : Action)
      (at : AreAt w Q F s l First ps e out outer ms pc pl qc ql g r h t) (shared : IsShared w action) (eg : g [] ≡ Waits action) (eh : h [] ≡ Waits action)
      (further : (openings : List ℕ) (m : Mark) (pc' qc' : ControlState) → IsTypedAt w e openings (ms ++ m ∷ []) r → AreAt w Q F s l First ps e out outer (ms ++ m ∷ []) pc' pl qc' ql (after g m) r (after h m) t →
      (is_at_boundary pc' ≡ true → (v : Value) × (bind (after g m) F ≡ known v)) → Again (local_state qc' ql) (local_state pc' pl)) where
    abbrev with_rest : Progress A → Progress Value
    with_rest x = and_then x F

    n : StepsTo w lowered.function_p s l First ps e (lowered.laws_p e) works ms pc (bind g F) action
    n = steps_to w lowered.function_p s l First ps e (lowered.laws_p e) works ms pc (bind g F) at.stands action (ap with_rest eg)

    by_next : GoesOn w out outer lowered.laws_q lowered.asks_q lowered.function_q qc h action → Alike (local_state qc ql) (local_state pc pl) (transition w.q qc) (transition w.p pc)
    by_next (ByBranch b c is_branch jumps next) = shared_no_choice action (Some b) is_branch shared
    by_next (ByStep performs next) = alike_by (local_state qc ql) (local_state pc pl) _ (Performs action) _ (Performs action) performs n.performs (refl, expected)
      where
        expected : (m : Mark) → Fits (local_state pc pl) m → Again (local_state (marked_control w.q qc m) ql) (local_state (marked_control w.p pc m) pl)
        expected m fits =
            let f = fit s e l ps ms pc pl (bind g F) action works at.stands (ap with_rest eg) n.asked m fits in
            further f.openings m (marked_control w.p pc m) (marked_control w.q qc m)
            (record {
              opened = f.before.opened;
              marks = one_answer (IsMarkOf w.p f.openings) (next_p w e) ms m action f.before.marks n.asked f.mark;
              typed = subst (AreTyped (opened_at w f.openings)) at.regs_p f.before.typed;
            })
            (record {
              does = λ all opened marks. behind_both (opened_at w all) Q lowered.own_p lowered.own_q (at.does all opened (its_before w all (next_p w e) ms m marks)) action shared eg eh m (its_last w all (next_p w e) ms m action n.asked marks);
              stands = n.marked m;
              code = next m;
              regs_p = at.regs_p;
              regs_q = at.regs_q;
              has_p = at.has_p;
              has_q = at.has_q;
            }) (n.soon m)

    same_step : Alike (local_state qc ql) (local_state pc pl) (transition w.q qc) (transition w.p pc)
    same_step = by_next (goes_on w out outer lowered.laws_q lowered.asks_q lowered.function_q qc h at.code action eh)

  -- ---- both have the value

  module _ (openings : List ℕ) (opened : slice_get openings w.number ≡ Some w.id) where
    goes : (pl ql : Locals) → AreTyped (opened_at w openings) (regs_in w.from pl) → AreAlike w pl ql → (l l' : List Stmt) (ps qs : List Remainder) → AreTogether w Good l l' ps qs →
        Again (local_state (jump_to w.q (nowhere w) (resume l' qs)) ql) (local_state (jump_to w.p (nowhere w) (resume l ps)) pl)
    goes pl ql typed alike l l' ps qs h = list_begins w hidden Good Match matches begins openings opened pl ql typed alike l l' ps qs h

    module _ (s u : Stmt) (l l' : List Stmt) (ps qs : List Remainder) (ms ns : List Mark) (v : Value) (pl ql : Locals) (together : AreTogether w Good l l' ps qs) (typed : AreTyped (opened_at w openings) (regs_in w.from pl)) (alike : AreAlike w pl ql) where
      abbrev p_here : ControlState
      p_here = control_in w (remainder (s ∷ l) First) ps ms

      abbrev q_here : ControlState
      q_here = control_in w (remainder (u ∷ l') First) qs ns

      abbrev AlikeHere : Transition → Transition → Type 0
      AlikeHere d e = Alike (local_state q_here ql) (local_state p_here pl) d e

      -- the levels inside both
      inside : (y z : is.Stmt-F Stmt Case) → out-Stmt s ≡ y → out-Stmt u ≡ z → AreBranches y z → AreAround w Good (remainder (s ∷ l) First ∷ ps) (remainder (u ∷ l') First ∷ qs)
      inside y z i j b = InBranch s u l l' ps qs (subst (λ (x : is.Stmt-F Stmt Case). AreBranches x (out-Stmt u)) (sym i) (subst (λ (x : is.Stmt-F Stmt Case). AreBranches y x) (sym j) b)) together.lists together.around

      arm : (b : Bool) (a c a' c' : List Stmt) → AreLowered w Good a a' → AreLowered w Good c c' → AreAround w Good (remainder (s ∷ l) First ∷ ps) (remainder (u ∷ l') First ∷ qs) →
          Again (local_state (jump_to w.q (nowhere w) (in_arm b a' c' (remainder (u ∷ l') First ∷ qs))) ql) (local_state (jump_to w.p (nowhere w) (in_arm b a c (remainder (s ∷ l) First ∷ ps))) pl)
      arm true a c a' c' h k around = goes pl ql typed alike a a' (remainder (s ∷ l) First ∷ ps) (remainder (u ∷ l') First ∷ qs) (record { lists = h; around = around })
      arm false a c a' c' h k around = goes pl ql typed alike c c' (remainder (s ∷ l) First ∷ ps) (remainder (u ∷ l') First ∷ qs) (record { lists = k; around = around })

      enclosed : (t : Stmt) (r : List Stmt) (y : is.Stmt-F Stmt Case) → out-Stmt t ≡ y → behind_body y ≡ First → enclosing (remainder (t ∷ r) First) ≡ remainder (t ∷ r) First
      enclosed t r y i b = ap (remainder (t ∷ r)) (ap behind_body i ∙ b)

      by_last : (y z : is.Stmt-F Stmt Case) (e x : Expr) → out-Stmt s ≡ y → out-Stmt u ≡ z → IsLast w Good y e x z → (i j : List Mark) → AlikeHere (transition_in w.q z q_here (Known (Some v) j)) (transition_in w.p y p_here (Known (Some v) i))
      by_last _ _ _ _ d f (LastIf e x a c a' c' h k) i j =
          subst (λ (y : Remainder). Again (local_state (jump_to w.q (nowhere w) (in_arm (is_true v) a' c' (y ∷ qs))) ql) (local_state (jump_to w.p (nowhere w) (in_arm (is_true v) a c (enclosing (remainder (s ∷ l) First) ∷ ps))) pl)) (sym (enclosed u l' (is.If x a' c') f refl))
          (subst (λ (y : Remainder). Again (local_state (jump_to w.q (nowhere w) (in_arm (is_true v) a' c' (remainder (u ∷ l') First ∷ qs))) ql) (local_state (jump_to w.p (nowhere w) (in_arm (is_true v) a c (y ∷ ps))) pl)) (sym (enclosed s l (is.If e a c) d refl))
          (arm (is_true v) a c a' c' h k (inside (is.If e a c) (is.If x a' c') d f (Ifs e x a c a' c'))))
      by_last _ _ _ _ d f (LastSwitch e x cases others h) i j = found s u e x cases others l l' ps qs d f h together openings opened pl ql typed alike (number_in v)
      by_last _ _ _ _ d f (LastReturn e x) i j = refl

      same_value : (e x : Expr) (last : IsLast w Good (out-Stmt s) e x (out-Stmt u)) (i j : List Mark) → next_p w e ms ≡ Known (Some v) i → next_q w x ns ≡ Known (Some v) j → AlikeHere (transition w.q q_here) (transition w.p p_here)
      same_value e x last i j known_p known_q =
          let k = last_kinds w Good (out-Stmt s) (out-Stmt u) e x last in
          alike_by (local_state q_here ql) (local_state p_here pl) _ _ _ _
          (transition_last w hidden lowered u l' qs x k.works_q k.stays_q ns ∙ ap (transition_in w.q (out-Stmt u) q_here) known_q)
          (transition_is w lowered.function_p s l First ps e (lowered.laws_p e) k.works_p ms ∙ ap (transition_in w.p (out-Stmt s) p_here) known_p)
          (by_last (out-Stmt s) (out-Stmt u) e x refl refl last i j)

    -- ---- without a full expression

    progress_none : (p : Program) (f : Func) (at : Remainder) (around : List Remainder) → slice_get p.funcs w.id ≡ Some f → progress_there p (control_in w at around []) None ≡ Known (Some no_value) []
    progress_none p f at around e = ap (λ (o : Option Func). progress_in p w.number w.id [] o None) e

    plain_transition : (p : Program) (f : Func) (s : Stmt) (l : List Stmt) (around : List Remainder) (y : is.Stmt-F Stmt Case) → slice_get p.funcs w.id ≡ Some f → out-Stmt s ≡ y → worked y First ≡ None →
        transition p (control_in w (remainder (s ∷ l) First) around []) ≡ transition_in p y (control_in w (remainder (s ∷ l) First) around []) (Known (Some no_value) [])
    plain_transition p f s l around y e d n =
        ap (λ (x : is.Stmt-F Stmt Case). transition_in p x (control_in w (remainder (s ∷ l) First) around []) (progress_there p (control_in w (remainder (s ∷ l) First) around []) (worked x First))) d ∙
        ap (λ (x : Option Expr). transition_in p y (control_in w (remainder (s ∷ l) First) around []) (progress_there p (control_in w (remainder (s ∷ l) First) around []) x)) n ∙
        ap (transition_in p y (control_in w (remainder (s ∷ l) First) around [])) (progress_none p f (remainder (s ∷ l) First) around e)

    -- ---- `while (1)`

    loop_transition : (p : Program) (f : Func) (s : Stmt) (l : List Stmt) (around : List Remainder) (e : Expr) (body : List Stmt) → slice_get p.funcs w.id ≡ Some f → out-Stmt s ≡ is.While e body →
        progress_there p (control_in w (remainder (s ∷ l) Test) around []) (Some e) ≡ Known (Some (Int (pos 1))) [] → transition p (control_in w (remainder (s ∷ l) Test) around []) ≡ Jumps (jump_to p (nowhere w) (resume body (enclosing (remainder (s ∷ l) Test) ∷ around)))
    loop_transition p f s l around e body h d k =
        ap (λ (x : is.Stmt-F Stmt Case). transition_in p x (control_in w (remainder (s ∷ l) Test) around []) (progress_there p (control_in w (remainder (s ∷ l) Test) around []) (worked x Test))) d ∙
        ap (transition_in p (is.While e body) (control_in w (remainder (s ∷ l) Test) around [])) k

    loop_encloses : (s : Stmt) (l : List Stmt) (e : Expr) (body : List Stmt) → out-Stmt s ≡ is.While e body → enclosing (remainder (s ∷ l) Test) ≡ remainder (s ∷ l) Test
    loop_encloses s l e body d = ap (remainder (s ∷ l)) (ap behind_body d)

    -- ---- all of them

    pub alike_in : (q p : LocalState) → MatchIn w Good q p → AreTyped (opened_at w openings) (regs_in w.from p.locals) → Alike q p (transition w.q q.control) (transition w.p p.control)
    alike_in _ _ (InEffect s e l l' ps qs ms pc pl qc ql g r h t action d right together at shared eg eh) typed =
        same_step s e l ps (InDo d) l' qs (RunAlike w) known ms pc pl qc ql g r h t action at shared eg eh
        (λ all m pc' qc' typed' at' soon. effect_goes_on w hidden lowered Good Match matches s e l l' ps qs d right together (begins l l' ps qs together) all false (ms ++ m ∷ []) pc' pl qc' ql (after g m) r (after h m) t typed' at'
        (λ k b. let x = soon b in inr (x.0, x.1, not_empty ms m)))
    alike_in _ _ (InOperand s u e x l l' ps qs ms pc pl qc ql g r h t action last right together at shared eg eh) typed =
        let k = last_kinds w Good (out-Stmt s) (out-Stmt u) e x last in
        same_step s e l ps k.works_p (u ∷ l') qs (GivesAlike w x) needed ms pc pl qc ql g r h t action at shared eg eh
        (λ all m pc' qc' typed' at' soon. operand_goes_on w hidden lowered Good Match matches s u e x l l' ps qs last right together all false (ms ++ m ∷ []) pc' pl qc' ql (after g m) r (after h m) t typed' at'
        (λ i b. let y = soon b in inr (y.0, y.1, not_empty ms m)))
    alike_in _ _ (AtValue s u e x l l' ps qs ms ns v i j pl ql last together known_p known_q alike) typed = same_value s u l l' ps qs ms ns v pl ql together typed alike e x last i j known_p known_q
    alike_in _ _ (InCondition s e arm l l' ps qs f x u rest outer ms pc pl qc ql g r h t action d right together guard at shared eg eh) typed =
        same_step s e l ps (InIf arm [] d) (u ∷ rest) outer (GivesAlike w x) f ms pc pl qc ql g r h t action at shared eg eh
        (λ all m pc' qc' typed' at' soon. condition_goes_on w hidden lowered Good Match matches s e arm l l' ps qs d right together (begins l l' ps qs together) f x u rest outer guard all false (ms ++ m ∷ []) pc' pl qc' ql (after g m) r (after h m) t typed' at'
        (λ k b. let y = soon b in inr (y.0, y.1, not_empty ms m)))
    alike_in _ _ (AtArm s u e x arm these l rest ps outer ms ns v v' i j pl ql d f arms around known_p known_q is_v is_v' alike) typed =
        alike_by (local_state (control_in w (remainder (u ∷ rest) First) outer ns) ql) (local_state (control_in w (remainder (s ∷ l) First) ps ms) pl) _ _ _ _
        (jumps_q w hidden lowered u x these rest outer f ns v' j known_q ∙ ap (λ (b : Bool). Jumps (jump_to w.q (nowhere w) (in_arm b these [] (remainder (u ∷ rest) First ∷ outer)))) is_v')
        (jumps_p w hidden lowered s e arm l ps d ms v i known_p ∙ ap (λ (b : Bool). Jumps (jump_to w.p (nowhere w) (in_arm b arm [] (remainder (s ∷ l) First ∷ ps)))) is_v)
        (goes pl ql typed alike arm these (remainder (s ∷ l) First ∷ ps) (remainder (u ∷ rest) First ∷ outer) (record { lists = arms; around = around }))
    alike_in _ _ (AtLoop s u e body body' l l' ps qs pl ql d f one bodies together alike) typed =
        let v = ones e one in
        let around = InLoop s u e body body' l l' ps qs d f one bodies together.lists together.around in
        alike_by (local_state (control_in w (remainder (u ∷ l') Test) qs []) ql) (local_state (control_in w (remainder (s ∷ l) Test) ps []) pl) _ _ _ _
        (loop_transition w.q w.to u l' qs e body' lowered.function_q f (ap (λ (o : Option Func). progress_in w.q w.number w.id [] o (Some e)) lowered.function_q ∙ v.1) ∙ ap (λ (y : Remainder). Jumps (jump_to w.q (nowhere w) (resume body' (y ∷ qs)))) (loop_encloses u l' e body' f))
        (loop_transition w.p w.from s l ps e body lowered.function_p d (ap (λ (o : Option Func). progress_in w.p w.number w.id [] o (Some e)) lowered.function_p ∙ v.0) ∙ ap (λ (y : Remainder). Jumps (jump_to w.p (nowhere w) (resume body (y ∷ ps)))) (loop_encloses s l e body d))
        (goes pl ql typed alike body body' (remainder (s ∷ l) Test ∷ ps) (remainder (u ∷ l') Test ∷ qs) (record { lists = bodies; around = around }))
    alike_in _ _ (AtBreak s u l l' ps qs pl ql d f around alike) typed =
        alike_by (local_state (control_in w (remainder (u ∷ l') First) qs []) ql) (local_state (control_in w (remainder (s ∷ l) First) ps []) pl) _ _ _ _ (plain_transition w.q w.to u l' qs is.Break lowered.function_q f refl) (plain_transition w.p w.from s l ps is.Break lowered.function_p d refl) (breaks w hidden Good Match matches begins openings opened pl ql typed alike ps qs around)
    alike_in _ _ (AtContinue s u l l' ps qs pl ql d f around alike) typed =
        alike_by (local_state (control_in w (remainder (u ∷ l') First) qs []) ql) (local_state (control_in w (remainder (s ∷ l) First) ps []) pl) _ _ _ _ (plain_transition w.q w.to u l' qs is.Continue lowered.function_q f refl) (plain_transition w.p w.from s l ps is.Continue lowered.function_p d refl) (continues w hidden Good Match matches begins openings opened pl ql typed alike ps qs around)
    alike_in _ _ (AtReturn s u l l' ps qs pl ql d f) typed =
        alike_by (local_state (control_in w (remainder (u ∷ l') First) qs []) ql) (local_state (control_in w (remainder (s ∷ l) First) ps []) pl) _ _ _ _ (plain_transition w.q w.to u l' qs (is.Return None) lowered.function_q f refl) (plain_transition w.p w.from s l ps (is.Return None) lowered.function_p d refl) refl
    alike_in _ _ (AtEnd pl ql) typed = tt
