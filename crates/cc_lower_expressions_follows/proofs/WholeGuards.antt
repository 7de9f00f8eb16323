-- An `if` without `else`: p works the condition, and q its parts, each behind the `if` on the one before it; where all are true both go into the
-- arm, and else both go on behind the `if`.
use Rattle.std.proofs.Common.{◌≡◌, inl, ◌||◌, ℕ, Bool, true, false, List, [], ◌∷◌, ◌++◌, Option, Some, None, refl, ap, sym, ◌∙◌, subst, append_assoc}
use Rattle.std.specs.Prelude.{slice_get}
use Rattle.cc_states.specs.CcControl.declared.phase.Phase.TheVariants.{First}
use Rattle.cc_states.specs.CcControl.Control.{behind_body, is_loop}
use Rattle.cc_states.specs.CcEval.declared.action.Action.{Action}
use Rattle.cc_states.specs.CcEval.declared.action.Action.TheVariants.{Choose}
use Rattle.cc_states.specs.CcEval.declared.mark.Mark.{Mark}
use Rattle.cc_states.specs.CcEval.declared.mark.Mark.TheVariants.{Chose}
use Rattle.cc_states.specs.CcEval.Eval.{meaning}
use Rattle.cc_states.specs.CcEval.Progress.{Known, Waits, Traps, Get, known, bind}
use Rattle.cc_program.specs.declared.expr.Expr.{Expr}
use Rattle.cc_program.specs.declared.stmt.Case.{Case}
use Rattle.cc_program.specs.declared.stmt.Stmt.{Stmt, out-Stmt}
use Rattle.cc_program.specs.declared.stmt.Stmt.TheOpen as is
use Rattle.cc_program.specs.declared.value.Value.{Value}
use Rattle.cc_states.specs.CcValues.Values.{is_true}
use Rattle.cc_states.specs.Answers.{IsMarkOf}
use Rattle.cc_states.specs.CcSyntax.Effects.{no_one}
use Rattle.cc_states.proofs.CcEval.Works.{one_answer}
use Rattle.cc_meaning_simulations.specs.Continuations.{Remainder, remainder, resume, enclosing, in_arm}
use Rattle.cc_meaning_simulations.specs.LocalSimulations.{Approaches, Arrives, QGoes, PGoes, BothTrap}
use Rattle.cc_meaning_simulations.specs.LocalSteps.{LocalState, Locals, Jump, Branch, Trapping, local_state}
use Rattle.cc_meaning_simulations.specs.Transitions.{ControlState, Jumps, is_at_boundary, jump_to, marked_control, transition_in, transition}
use Rattle.cc_lower_expressions_follows.specs.Trees.{Regs, Setting, context_p, context_q, IsShared, after}
use Rattle.cc_lower_expressions_follows.specs.Registered.{regs_in}
use Rattle.cc_lower_expressions_follows.specs.Region.{are_code, next_q}
use Rattle.cc_lower_expressions_follows.specs.Relation.{code_tree}
use Rattle.cc_lower_expressions_follows.specs.WholeGuards.{LeadsTo, There, Branches, Settles, IsConjunct, Operates, IsGuard, LastGuard, NextGuard, IsGuarded}
use Rattle.cc_lower_expressions_follows.specs.WholeLists.{AreSame, GivesAlike, IsLoweredRight, AreLowered, AreAround}
use Rattle.cc_lower_expressions_follows.specs.WholeMatches.{needed, AreAlike, AreTogether, MatchIn, InCondition, AtArm}
use Rattle.cc_lower_expressions_follows.specs.WholePlaces.{AllThere, opened_at, IsTypedAt, AreAt}
use Rattle.cc_lower_expressions_follows.specs.WholeRegion.{is_do, control_in, nowhere, next_p, IsWorkedIn, InIf, StandsInStatement, Working, Left, StandsInCode}
use Rattle.cc_lower_expressions_follows.specs.WholeTrees.{AreTyped}
use Rattle.cc_lower_expressions_follows.proofs.TreeLaws.{bind-known}
use Rattle.cc_lower_expressions_follows.proofs.WholeBridge.{IsLowered, IsSoon, bridge}
use Rattle.cc_lower_expressions_follows.proofs.WholeLists.{AreBegun, resume_past}
use Rattle.cc_lower_expressions_follows.proofs.WholeOperands.{begins_working, begins_at_boundary}
use Rattle.cc_lower_expressions_follows.proofs.WholeRegions.{enters_code, enters_at_boundary}
use Rattle.cc_lower_expressions_follows.proofs.WholeStatements.{steps_to, known_there, aborts_there, transition_is}
use Rattle.cc_lower_expressions_follows.proofs.WholeValues.{at_last, comes_to, transition_last}

-- where an `if` goes once its value is known
pub encloses : (t : Stmt) (rest : List Stmt) (x : Expr) (these those : List Stmt) → out-Stmt t ≡ is.If x these those → enclosing (remainder (t ∷ rest) First) ≡ remainder (t ∷ rest) First
encloses t rest x these those i = ap (remainder (t ∷ rest)) (ap behind_body i)

pub past_arm : (t : Stmt) (rest : List Stmt) (outer : List Remainder) (x : Expr) (these : List Stmt) (b : Bool) → out-Stmt t ≡ is.If x these [] → b ≡ false → in_arm b these [] (remainder (t ∷ rest) First ∷ outer) ≡ resume rest outer
past_arm t rest outer x these b i h = ap (λ (c : Bool). in_arm c these [] (remainder (t ∷ rest) First ∷ outer)) h ∙ resume_past t rest First outer (ap is_loop i)

module _ (w : Setting) (hidden : ℕ → ℕ → Bool) (lowered : IsLowered w hidden) where
  -- p's `if`
  module _ (s : Stmt) (e : Expr) (arm l : List Stmt) (ps : List Remainder) (d : out-Stmt s ≡ is.If e arm []) where
    abbrev works_p : IsWorkedIn (out-Stmt s) e
    works_p = InIf arm [] d

    pub jumps_p : (ms : List Mark) (v : Value) (i : List Mark) → next_p w e ms ≡ Known (Some v) i →
        transition w.p (control_in w (remainder (s ∷ l) First) ps ms) ≡ Jumps (jump_to w.p (nowhere w) (in_arm (is_true v) arm [] (remainder (s ∷ l) First ∷ ps)))
    jumps_p ms v i k =
        let here = control_in w (remainder (s ∷ l) First) ps ms in
        transition_is w lowered.function_p s l First ps e (lowered.laws_p e) works_p ms ∙ ap (transition_in w.p (out-Stmt s) here) k ∙ ap (λ (y : is.Stmt-F Stmt Case). transition_in w.p y here (Known (Some v) i)) d ∙
        ap (λ (y : Remainder). Jumps (jump_to w.p (nowhere w) (in_arm (is_true v) arm [] (y ∷ ps)))) (encloses s l e arm [] d)

  -- an `if` of q on the value of a part
  module _ (u : Stmt) (x : Expr) (inner rest : List Stmt) (outer : List Remainder) (is_if : out-Stmt u ≡ is.If x inner []) where
    abbrev works_q : IsWorkedIn (out-Stmt u) x
    works_q = InIf inner [] is_if

    abbrev stays_q : is_do (out-Stmt u) ≡ false
    stays_q = ap is_do is_if

    abbrev pub at_if : List Mark → ControlState
    at_if ns = at_last w hidden lowered u rest outer x works_q stays_q ns

    pub comes_to_if : jump_to w.q (nowhere w) (resume (u ∷ rest) outer) ≡ at_if []
    comes_to_if = begins_working w w.q u rest outer x works_q

    pub if_at_boundary : is_at_boundary (at_if []) ≡ true
    if_at_boundary = begins_at_boundary u x works_q

    pub jumps_q : (ns : List Mark) (v : Value) (j : List Mark) → next_q w x ns ≡ Known (Some v) j → transition w.q (at_if ns) ≡ Jumps (jump_to w.q (nowhere w) (in_arm (is_true v) inner [] (remainder (u ∷ rest) First ∷ outer)))
    jumps_q ns v j k =
        transition_last w hidden lowered u rest outer x works_q stays_q ns ∙ ap (transition_in w.q (out-Stmt u) (at_if ns)) k ∙ ap (λ (y : is.Stmt-F Stmt Case). transition_in w.q y (at_if ns) (Known (Some v) j)) is_if ∙
        ap (λ (y : Remainder). Jumps (jump_to w.q (nowhere w) (in_arm (is_true v) inner [] (y ∷ outer)))) (encloses u rest x inner [] is_if)

module _ (w : Setting) (hidden : ℕ → ℕ → Bool) (lowered : IsLowered w hidden) (Good : Stmt → Type 0) (Match : LocalState → LocalState → Type 0) (matches : (q p : LocalState) → MatchIn w Good q p → Match q p)
    (s : Stmt) (e : Expr) (arm l l' : List Stmt) (ps qs : List Remainder) (d : out-Stmt s ≡ is.If e arm []) (right : IsLoweredRight w e) (together : AreTogether w Good l l' ps qs) (next : AreBegun w hidden Good Match matches l l' ps qs) where
  abbrev At : Bool → ControlState → Locals → ControlState → Locals → Type 0
  At late qc ql pc pl = Approaches hidden w.q w.p Match late (local_state qc ql) (local_state pc pl)

  abbrev here : Remainder
  here = remainder (s ∷ l) First

  abbrev works : IsWorkedIn (out-Stmt s) e
  works = InIf arm [] d

  abbrev Stands : List Mark → ControlState → Get Value → Type 0
  Stands ms a t = StandsInStatement w s l First ps e ms a t

  abbrev Guard : (Option Value → Get Value) → Expr → Stmt → List Stmt → List Remainder → Type 0
  Guard f x u rest outer = IsGuard w Good s arm l l' ps qs f x u rest outer

  -- p goes on by branch steps, while q is at a boundary
  chooses_on : (openings : List ℕ) (qc : ControlState) (ql pl : Locals) (r : Regs) (t : Get Value) → is_at_boundary qc ≡ true → (g : Get Value) → LeadsTo t g → (late : Bool) (ms : List Mark) (pc : ControlState) → IsTypedAt w e openings ms r → Stands ms pc g →
      ((late : Bool) (ms : List Mark) (pc : ControlState) → IsTypedAt w e openings ms r → Stands ms pc t → At late qc ql pc pl) → At late qc ql pc pl
  chooses_on openings qc ql pl r t b g (There k) late ms pc typed stands further = further late ms pc typed (subst (Stands ms pc) k stands)
  chooses_on openings qc ql pl r t b g (Branches c waits rest) late ms pc typed stands further =
      let n = steps_to w lowered.function_p s l First ps e (lowered.laws_p e) works ms pc g stands (Choose c) waits in
      PGoes late (local_state qc ql) (local_state pc pl) (local_state (marked_control w.p pc (Chose c)) pl) (Branch pc pl c n.performs) (λ h at. b)
      (chooses_on openings qc ql pl r t b (after g (Chose c)) rest false (ms ++ Chose c ∷ []) (marked_control w.p pc (Chose c))
      (record { opened = typed.opened; marks = one_answer (IsMarkOf w.p openings) (next_p w e) ms (Chose c) (Choose c) typed.marks n.asked refl; typed = typed.typed }) (n.marked (Chose c)) further)

  -- it stands there once its value is known
  record IsKnown (ms : List Mark) (pc : ControlState) (v : Value) : Type 0 where
    at : pc ≡ control_in w here ps ms
    left : List Mark
    value : next_p w e ms ≡ Known (Some v) left

  known_at : (ms : List Mark) (pc : ControlState) (v : Value) → Stands ms pc (known v) → IsKnown ms pc v
  known_at ms pc v (Working i j k) = let x = known_there w lowered.function_p s l First ps e (lowered.laws_p e) works ms (known v) v j refl in record { at = i; left = x.0; value = x.1 }
  known_at ms pc v (Left u i j k) = let contrary : false ≡ true = sym (ap is_do d) ∙ k in absurd (cc)

  -- ---- at an `if` of q

  module _ (f : Option Value → Get Value) (x : Expr) (u : Stmt) (inner rest : List Stmt) (outer : List Remainder) (is_if : out-Stmt u ≡ is.If x inner []) where
    abbrev if_with : List Mark → ControlState
    if_with ns = at_if w hidden lowered u x inner rest outer is_if ns

    abbrev works_u : IsWorkedIn (out-Stmt u) x
    works_u = InIf inner [] is_if

    abbrev stays_u : is_do (out-Stmt u) ≡ false
    stays_u = ap is_do is_if

    abbrev IsNear : Bool → ControlState → List Mark → Type 0
    IsNear late pc ns = late ≡ false → is_at_boundary pc ≡ true → ns ≡ []

    near_if : (late : Bool) (pc : ControlState) (ns : List Mark) → IsNear late pc ns → late ≡ false → is_at_boundary pc ≡ true → is_at_boundary (if_with ns) ≡ true
    near_if late pc ns near h b = ap (λ (n : List Mark). is_at_boundary (if_with n)) (near h b) ∙ if_at_boundary w hidden lowered u x inner rest outer is_if

    -- q works its value
    works_on : (late : Bool) (pc : ControlState) (pl ql : Locals) (o : Option Value) (r t : Regs) → regs_in w.from pl ≡ r → regs_in w.to ql ≡ t → AllThere w.from pl → AllThere w.to ql → GivesAlike w x o tt r t →
        ((late : Bool) (ns : List Mark) (ql : Locals) → next_q w x ns ≡ Known o [] → AreAlike w pl ql → IsNear late pc ns → At late (if_with ns) ql pc pl) → At late (if_with []) ql pc pl
    works_on late pc pl ql o r t i j has_p has_q post further =
        comes_to w hidden lowered u rest outer x works_u stays_u Match pc pl o t ((meaning (context_q w) x).next no_one) t post.1 late [] ql refl j has_q (λ h b. refl)
        (λ late' ns ql' known_q regs has near. further late' ns ql' known_q
        (record { same = subst (λ (y : Regs). AreSame w y (regs_in w.to ql')) (sym i) (subst (AreSame w r) (sym regs) post.0); has_p = has_p; has_q = has }) near)

    -- both traps
    traps_at : (ms : List Mark) (pc : ControlState) (pl : Locals) → Stands ms pc (f None) → f None [] ≡ Traps [] → (late : Bool) (ns : List Mark) (ql : Locals) → next_q w x ns ≡ Known None [] → IsNear late pc ns → At late (if_with ns) ql pc pl
    traps_at ms pc pl stands traps late ns ql known_q near =
        BothTrap late _ _
        (Trapping (if_with ns) ql (transition_last w hidden lowered u rest outer x works_u stays_u ns ∙ ap (transition_in w.q (out-Stmt u) (if_with ns)) known_q))
        (Trapping pc pl (aborts_there w lowered.function_p s l First ps e (lowered.laws_p e) works ms pc (f None) stands [] traps))
        (near_if late pc ns near)

    module _ (openings : List ℕ) (opened : slice_get openings w.number ≡ Some w.id) where
      -- neither goes into its arm
      goes_past : resume rest outer ≡ resume l' qs → (ms : List Mark) (pc : ControlState) (pl : Locals) (v : Value) → Stands ms pc (known v) → is_true v ≡ false → AreTyped (opened_at w openings) (regs_in w.from pl) →
          (late : Bool) (ns : List Mark) (ql : Locals) (v' : Value) → next_q w x ns ≡ Known (Some v') [] → is_true v' ≡ false → AreAlike w pl ql → At late (if_with ns) ql pc pl
      goes_past back ms pc pl v stands none typed late ns ql v' known_q none' alike =
          let k = known_at ms pc v stands in
          let p_there : transition w.p pc ≡ Jumps (jump_to w.p (nowhere w) (resume l ps)) =
          ap (transition w.p) k.at ∙ jumps_p w hidden lowered s e arm l ps d ms v k.left k.value ∙ ap (λ y. Jumps (jump_to w.p (nowhere w) y)) (past_arm s l ps e arm (is_true v) d none) in
          let q_there : transition w.q (if_with ns) ≡ Jumps (jump_to w.q (nowhere w) (resume l' qs)) =
          jumps_q w hidden lowered u x inner rest outer is_if ns v' [] known_q ∙ ap (λ y. Jumps (jump_to w.q (nowhere w) y)) (past_arm u rest outer x inner (is_true v') is_if none' ∙ back) in
          QGoes late _ _ (local_state (jump_to w.q (nowhere w) (resume l' qs)) ql) (Jump (if_with ns) (jump_to w.q (nowhere w) (resume l' qs)) ql q_there)
          (PGoes (late || is_at_boundary (if_with ns)) _ _ (local_state (jump_to w.p (nowhere w) (resume l ps)) pl) (Jump pc (jump_to w.p (nowhere w) (resume l ps)) pl p_there) (λ h b. next.boundary)
          (next.starts openings opened false pl ql typed alike))

    -- ---- what q does where p comes to the end of the part

    abbrev Soon : Bool → List Mark → ControlState → ControlState → Get Value → Type 0
    Soon late ms qc pc y = IsSoon w hidden lowered s l First ps e works (u ∷ rest) outer right.writes (GivesAlike w x) f late ms qc pc y

    -- where the value is true
    abbrev GoesIn : Type 0
    GoesIn = (openings : List ℕ) (late : Bool) (ms : List Mark) (pc : ControlState) (pl ql : Locals) (v : Value) (r t : Regs) → IsTypedAt w e openings ms r → Stands ms pc (f (Some v)) → is_true v ≡ true →
        regs_in w.from pl ≡ r → regs_in w.to ql ≡ t → AllThere w.from pl → AllThere w.to ql → GivesAlike w x (Some v) tt r t → At late (if_with []) ql pc pl

    -- in the middle of the part
    abbrev GoesOn : Type 0
    GoesOn = (openings : List ℕ) (late : Bool) (ms : List Mark) (pc : ControlState) (pl : Locals) (qc : ControlState) (ql : Locals) (g : Get (Option Value)) (r : Regs) (h : Get (Unit {0})) (t : Regs) → IsTypedAt w e openings ms r →
        AreAt w (GivesAlike w x) f s l First ps e (u ∷ rest) outer ms pc pl qc ql g r h t → Soon late ms qc pc (bind g f) → At late qc ql pc pl

    module _ (conjunct : IsConjunct f) (back : resume rest outer ≡ resume l' qs) (guard : Guard f x u rest outer) (goes_in : GoesIn) where
      share : (ms : List Mark) (pc : ControlState) (pl : Locals) (qc : ControlState) (ql : Locals) (g : Get (Option Value)) (r : Regs) (h : Get (Unit {0})) (t : Regs) → AreAt w (GivesAlike w x) f s l First ps e (u ∷ rest) outer ms pc pl qc ql g r h t →
          (action : Action) → IsShared w action → g [] ≡ Waits action → h [] ≡ Waits action → Match (local_state qc ql) (local_state pc pl)
      share ms pc pl qc ql g r h t at action shared eg eh = matches _ _ (InCondition s e arm l l' ps qs f x u rest outer ms pc pl qc ql g r h t action d right together guard at shared eg eh)

      by_truth : (openings : List ℕ) (late : Bool) (ms : List Mark) (pc : ControlState) (pl ql : Locals) (v : Value) (r t : Regs) (b : Bool) → is_true v ≡ b → IsTypedAt w e openings ms r → Stands ms pc (f (Some v)) →
          regs_in w.from pl ≡ r → regs_in w.to ql ≡ t → AllThere w.from pl → AllThere w.to ql → GivesAlike w x (Some v) tt r t → At late (if_with []) ql pc pl
      by_truth openings late ms pc pl ql v r t true is_b typed stands i j has_p has_q post = goes_in openings late ms pc pl ql v r t typed stands is_b i j has_p has_q post
      by_truth openings late ms pc pl ql v r t false is_b typed stands i j has_p has_q post =
          let k = conjunct.falsely v is_b in
          chooses_on openings (if_with []) ql pl r (known k.0) (if_at_boundary w hidden lowered u x inner rest outer is_if) (f (Some v)) k.2 late ms pc typed stands
          (λ late' ms' pc' typed' stands'. works_on late' pc' pl ql (Some v) r t i j has_p has_q post
          (λ late'' ns ql' known_q alike near. goes_past openings typed.opened back ms' pc' pl k.0 stands' k.1 (subst (AreTyped (opened_at w openings)) (sym i) typed.typed) late'' ns ql' v known_q is_b alike))

      by_value : (openings : List ℕ) (late : Bool) (ms : List Mark) (pc : ControlState) (pl ql : Locals) (o : Option Value) (r t : Regs) → IsTypedAt w e openings ms r → Stands ms pc (f o) →
          regs_in w.from pl ≡ r → regs_in w.to ql ≡ t → AllThere w.from pl → AllThere w.to ql → GivesAlike w x o tt r t → At late (if_with []) ql pc pl
      by_value openings late ms pc pl ql None r t typed stands i j has_p has_q post =
          works_on late pc pl ql None r t i j has_p has_q post (λ late' ns ql' known_q alike near. traps_at ms pc pl stands conjunct.traps late' ns ql' known_q near)
      by_value openings late ms pc pl ql (Some v) r t typed stands i j has_p has_q post = by_truth openings late ms pc pl ql v r t (is_true v) refl typed stands i j has_p has_q post

      exit : (openings : List ℕ) (late : Bool) (ms : List Mark) (pc : ControlState) (pl : Locals) (qc : ControlState) (ql : Locals) (o : Option Value) (r t : Regs) → IsTypedAt w e openings ms r → Stands ms pc (f o) → qc ≡ jump_to w.q (nowhere w) (resume (u ∷ rest) outer) →
          regs_in w.from pl ≡ r → regs_in w.to ql ≡ t → AllThere w.from pl → AllThere w.to ql → GivesAlike w x o tt r t → Soon late ms qc pc (f o) → At late qc ql pc pl
      exit openings late ms pc pl qc ql o r t typed stands q_there i j has_p has_q post soon =
          subst (λ (c : ControlState). At late c ql pc pl) (sym (q_there ∙ comes_to_if w hidden lowered u x inner rest outer is_if)) (by_value openings late ms pc pl ql o r t typed stands i j has_p has_q post)

      part_goes_on : GoesOn
      part_goes_on openings late ms pc pl qc ql g r h t typed at soon =
          bridge w hidden lowered s l First ps e works (u ∷ rest) outer right.writes (GivesAlike w x) f Match share exit openings (at.does openings typed.opened typed.marks) late ms pc pl qc ql typed at soon

  -- ---- the last part

  module _ (f : Option Value → Get Value) (x : Expr) (u : Stmt) (rest : List Stmt) (outer : List Remainder) (these : List Stmt) (is_if : out-Stmt u ≡ is.If x these []) (truly : (v : Value) → is_true v ≡ true → Settles true (f (Some v)))
      (arms : AreLowered w Good arm these) (around : AreAround w Good (here ∷ ps) (remainder (u ∷ rest) First ∷ outer)) where
    abbrev last_if : List Mark → ControlState
    last_if ns = at_if w hidden lowered u x these rest outer is_if ns

    into_arm : (ms : List Mark) (pc : ControlState) (pl : Locals) (v : Value) → Stands ms pc (known v) → is_true v ≡ true → (late : Bool) (ns : List Mark) (ql : Locals) (v' : Value) → next_q w x ns ≡ Known (Some v') [] → is_true v' ≡ true → AreAlike w pl ql →
        (late ≡ false → is_at_boundary pc ≡ true → ns ≡ []) → At late (last_if ns) ql pc pl
    into_arm ms pc pl v stands is_v late ns ql v' known_q is_v' alike near =
        let k = known_at ms pc v stands in
        subst (λ (c : ControlState). At late (last_if ns) ql c pl) (sym k.at)
        (Arrives late _ _ (matches _ _ (AtArm s u e x arm these l rest ps outer ms ns v v' k.left [] pl ql d is_if arms around k.value known_q is_v is_v' alike))
        (near_if f x u these rest outer is_if late (control_in w here ps ms) ns (λ h b. near h (ap is_at_boundary k.at ∙ b))))

    last_goes_in : GoesIn f x u these rest outer is_if
    last_goes_in openings late ms pc pl ql v r t typed stands is_v i j has_p has_q post =
        let k = truly v is_v in
        chooses_on openings (last_if []) ql pl r (known k.0) (if_at_boundary w hidden lowered u x these rest outer is_if) (f (Some v)) k.2 late ms pc typed stands
        (λ late' ms' pc' typed' stands'. works_on f x u these rest outer is_if late' pc' pl ql (Some v) r t i j has_p has_q post
        (λ late'' ns ql' known_q alike near. into_arm ms' pc' pl k.0 stands' k.1 late'' ns ql' v known_q is_v alike near))

  -- ---- the others

  -- the next part begins
  module _ (h : Option Value → Get Value) (y : Expr) (z : Stmt) (inner : List Stmt) (is_z : out-Stmt z ≡ is.If y inner []) (rest : List Stmt) (outer : List Remainder) (code : List Stmt) (runs : are_code code ≡ true) where
    abbrev begun : ControlState
    begun = jump_to w.q (nowhere w) (resume (code ++ z ∷ rest) outer)

    begun_at_boundary : is_at_boundary begun ≡ true
    begun_at_boundary =
        enters_at_boundary w (z ∷ rest) outer lowered.laws_q lowered.asks_q lowered.function_q code runs (ap is_at_boundary (comes_to_if w hidden lowered z y inner rest outer is_z) ∙ if_at_boundary w hidden lowered z y inner rest outer is_z)

    abbrev tree : Get (Unit {0})
    tree = code_tree w code

    part_begins : (g : Get (Option Value)) → Operates w y g code → GoesOn h y z inner rest outer is_z → (openings : List ℕ) (late : Bool) (ms : List Mark) (pc : ControlState) (pl ql : Locals) → IsTypedAt w e openings ms (regs_in w.from pl) → Stands ms pc (bind g h) → AreAlike w pl ql →
        At late begun ql pc pl
    part_begins g operates further openings late ms pc pl ql typed stands alike =
        further openings late ms pc pl begun ql g (regs_in w.from pl) tree (regs_in w.to ql) typed
        (record {
          does = λ all there marks. operates all there (regs_in w.from pl) (regs_in w.to ql) alike.same;
          stands = stands;
          code = subst (StandsInCode w (z ∷ rest) outer begun) (bind-known tree) (enters_code w (z ∷ rest) outer lowered.laws_q lowered.asks_q lowered.function_q code runs);
          regs_p = refl;
          regs_q = refl;
          has_p = alike.has_p;
          has_q = alike.has_q;
        })
        (λ i b. inl begun_at_boundary)

  module _ (f : Option Value → Get Value) (x : Expr) (u : Stmt) (rest : List Stmt) (outer : List Remainder) (code : List Stmt) (y : Expr) (z : Stmt) (g : Get (Option Value)) (h : Option Value → Get Value) (is_if : out-Stmt u ≡ is.If x (code ++ z ∷ []) [])
      (truly : (v : Value) → is_true v ≡ true → LeadsTo (bind g h) (f (Some v))) (operates : Operates w y g code) (runs : are_code code ≡ true) (inner : List Stmt) (is_z : out-Stmt z ≡ is.If y inner [])
      (further : GoesOn h y z inner [] (remainder (u ∷ rest) First ∷ outer) is_z) where
    abbrev next_if : List Mark → ControlState
    next_if ns = at_if w hidden lowered u x (code ++ z ∷ []) rest outer is_if ns

    abbrev into : ControlState
    into = jump_to w.q (nowhere w) (resume (code ++ z ∷ []) (remainder (u ∷ rest) First ∷ outer))

    into_part : (openings : List ℕ) (ms : List Mark) (pc : ControlState) (pl : Locals) → IsTypedAt w e openings ms (regs_in w.from pl) → Stands ms pc (bind g h) → (late : Bool) (ns : List Mark) (ql : Locals) (v : Value) → next_q w x ns ≡ Known (Some v) [] → is_true v ≡ true → AreAlike w pl ql →
        At late (next_if ns) ql pc pl
    into_part openings ms pc pl typed stands late ns ql v known_q is_v alike =
        QGoes late _ _ (local_state into ql)
        (Jump (next_if ns) into ql (jumps_q w hidden lowered u x (code ++ z ∷ []) rest outer is_if ns v [] known_q ∙ ap (λ (b : Bool). Jumps (jump_to w.q (nowhere w) (in_arm b (code ++ z ∷ []) [] (remainder (u ∷ rest) First ∷ outer)))) is_v))
        (part_begins h y z inner is_z [] (remainder (u ∷ rest) First ∷ outer) code runs g operates further openings (late || is_at_boundary (next_if ns)) ms pc pl ql typed stands alike)

    next_goes_in : GoesIn f x u (code ++ z ∷ []) rest outer is_if
    next_goes_in openings late ms pc pl ql v r t typed stands is_v i j has_p has_q post =
        chooses_on openings (next_if []) ql pl r (bind g h) (if_at_boundary w hidden lowered u x (code ++ z ∷ []) rest outer is_if) (f (Some v)) (truly v is_v) late ms pc typed stands
        (λ late' ms' pc' typed' stands'. works_on f x u (code ++ z ∷ []) rest outer is_if late' pc' pl ql (Some v) r t i j has_p has_q post
        (λ late'' ns ql' known_q alike near. into_part openings ms' pc' pl (subst (IsTypedAt w e openings ms') (sym i) typed') stands' late'' ns ql' v known_q is_v alike))

  -- ---- all of them

  -- what a guard has inside
  record HasIf (f : Option Value → Get Value) (x : Expr) (u : Stmt) (rest : List Stmt) (outer : List Remainder) : Type 0 where
    inner : List Stmt
    is_if : out-Stmt u ≡ is.If x inner []
    goes_on : GoesOn f x u inner rest outer is_if

  each_goes_on : (f : Option Value → Get Value) (x : Expr) (u : Stmt) (rest : List Stmt) (outer : List Remainder) → Guard f x u rest outer → HasIf f x u rest outer
  each_goes_on _ _ _ _ _ (LastGuard f x u rest outer these is_if conjunct back truly arms around) = record {
    inner = these;
    is_if = is_if;
    goes_on = part_goes_on f x u these rest outer is_if conjunct back (LastGuard f x u rest outer these is_if conjunct back truly arms around) (last_goes_in f x u rest outer these is_if truly arms around);
  }
  each_goes_on _ _ _ _ _ (NextGuard f x u rest outer code y z g h is_if conjunct back truly operates runs guard) =
      let k = each_goes_on h y z [] (remainder (u ∷ rest) First ∷ outer) guard in
      record {
        inner = code ++ z ∷ [];
        is_if = is_if;
        goes_on = part_goes_on f x u (code ++ z ∷ []) rest outer is_if conjunct back (NextGuard f x u rest outer code y z g h is_if conjunct back truly operates runs guard)
            (next_goes_in f x u rest outer code y z g h is_if truly operates runs k.inner k.is_if k.goes_on);
      }

  -- where both are in the middle of a part
  pub condition_goes_on : (f : Option Value → Get Value) (x : Expr) (u : Stmt) (rest : List Stmt) (outer : List Remainder) → Guard f x u rest outer → (openings : List ℕ) (late : Bool) (ms : List Mark) (pc : ControlState) (pl : Locals) (qc : ControlState) (ql : Locals) (g : Get (Option Value)) (r : Regs) (h : Get (Unit {0})) (t : Regs) → IsTypedAt w e openings ms r →
      AreAt w (GivesAlike w x) f s l First ps e (u ∷ rest) outer ms pc pl qc ql g r h t → IsSoon w hidden lowered s l First ps e works (u ∷ rest) outer right.writes (GivesAlike w x) f late ms qc pc (bind g f) → At late qc ql pc pl
  condition_goes_on f x u rest outer guard = (each_goes_on f x u rest outer guard).goes_on

  -- it begins
  module _ (stmts : List Stmt) (made : IsGuarded w Good s arm l l' ps qs (bind ((meaning (context_p w) e).next no_one) needed) stmts l' qs) where
    nothing_in : (front back : List Mark) (m : Mark) → [] ≡ front ++ m ∷ back → ⊥
    nothing_in [] back m h = absurd (cc)
    nothing_in (y ∷ front) back m h = absurd (cc)

    no_do : is_do (out-Stmt s) ≡ true → ⊥
    no_do h = let contrary : false ≡ true = sym (ap is_do d) ∙ h in absurd (cc)

    first_if : HasIf made.behind made.operand made.test l' qs
    first_if = each_goes_on made.behind made.operand made.test l' qs made.guard

    in_front : AreBegun w hidden Good Match matches (s ∷ l) (made.code ++ made.test ∷ l') ps qs
    in_front = record {
      starts = λ openings opened late pl ql typed alike.
          subst (λ (c : ControlState). At late (jump_to w.q (nowhere w) (resume (made.code ++ made.test ∷ l') qs)) ql c pl) (sym (begins_working w w.p s l ps e works))
          (part_begins made.behind made.operand made.test first_if.inner first_if.is_if l' qs made.code made.runs made.first made.operates first_if.goes_on openings late [] (control_in w here ps []) pl ql
          (record { opened = opened; marks = λ front back m split. absurd (nothing_in front back m split); typed = typed })
          (subst (Stands [] (control_in w here ps [])) made.begins (Working refl refl (λ h. absurd (no_do h)))) alike);
      boundary = begun_at_boundary made.behind made.operand made.test first_if.inner first_if.is_if l' qs made.code made.runs;
    }

    pub condition_begins : AreBegun w hidden Good Match matches (s ∷ l) (stmts ++ l') ps qs
    condition_begins = subst (λ (m : List Stmt). AreBegun w hidden Good Match matches (s ∷ l) m ps qs) (sym (ap (λ (m : List Stmt). m ++ l') made.made ∙ append_assoc made.code (made.test ∷ []) l')) in_front
