-- `place++` and `place--`, as a value and alone, of every place.
use Rattle.std.proofs.Common.{◌≡◌, ◌≤◌, ℕ, ◌+◌, pos, Bool, true, false, not, [], ◌∷◌, ◌++◌, length, Option, Some, None, refl, ap, sym, ◌∙◌, subst, arith, if◌then◌else◌}
use Rattle.std.specs.Prelude.{option_and_then}
use Rattle.std.proofs.lemmas.List.{length-append}
use Rattle.cc_program.specs.declared.program.Program.{Program}
use Rattle.cc_program.specs.declared.func.Func.{Func}
use Rattle.cc_program.specs.declared.types.CType.{CType}
use Rattle.cc_program.specs.declared.stmt.Stmt.{Do}
use Rattle.cc_program.specs.declared.expr.Expr.{Expr, Load, Assign}
use Rattle.cc_program.specs.declared.expr.Place.{Place, Local}
use Rattle.cc_program.specs.declared.value.Value.{Value}
use Rattle.cc_program.specs.declared.value.Value.TheVariants.{Int}
use Rattle.cc_states.specs.CcSyntax.Effects.{Registers, also, only, is_soft, PlaceEffects}
use Rattle.cc_states.specs.CcSyntax.Registers.{is_register}
use Rattle.cc_states.specs.CcSyntax.Values.{ValueType, read_from}
use Rattle.cc_states.specs.CcEval.Context.{Context}
use Rattle.cc_states.specs.CcEval.Eval.{Meaning, Designation, meaning, designation, value_type, fetched, changed as changed_values, stepped_by_one, sum_or_difference, one_more_type}
use Rattle.cc_lower_expressions.specs.Expressions.{Piece, piece, onto, into, done, emit, ◌>>=◌, PlaceLowering, temp, value_of, stepped, step_value, step_alone}
use Rattle.cc_lower_expressions_follows.specs.Trees.{Regs, Setting, context_p, context_q, Sim}
use Rattle.cc_lower_expressions_follows.specs.Relation.{code_tree, Alike, ValueOf, Declared, IsTemp, Agree, Gives}
use Rattle.cc_lower_expressions_follows.specs.Claims.{After, Worked, good, IsOperand, IsLocal, Operands, Effects, IsRightPlace}
use Rattle.cc_lower_expressions_follows.proofs.ChangePlaces.{step_value_there, step_alone_there}
use Rattle.cc_lower_expressions_follows.proofs.Forks.{also_none}
use Rattle.cc_lower_expressions_follows.proofs.Loads.{register_typed, temp_gives, local_value_unassigning, typed_local, temp_agrees}
use Rattle.cc_lower_expressions_follows.proofs.Opened.{at-Local}
use Rattle.cc_lower_expressions_follows.proofs.Operands.{Unassigning, sim_count, declared_left, declared_right}
use Rattle.cc_lower_expressions_follows.proofs.Owned.{Fits}
use Rattle.cc_lower_expressions_follows.proofs.StepOwn.{new_none, step_own_value, step_own_alone, step_own_here}
use Rattle.cc_lower_expressions_follows.specs.Agreement.{TypesAgree}
use Rattle.cc_lower_expressions_follows.proofs.Agreement.{equal_types}
use Rattle.cc_states.specs.CcEval.Progress.{bind}
use Rattle.cc_lower_expressions_follows.proofs.Answered.{AllAnswers}

module _ (w : Setting) (alike : Alike w) (down : Bool) where
  abbrev cp : Context
  cp = context_p w

  abbrev cq : Context
  cq = context_q w

  -- the new value
  abbrev pub step_of : Designation → Option Value → Option Value
  step_of d u = changed_values w.p.target (sum_or_difference down) (one_more_type w.p.target (value_type cp d)) (value_type cp d) u (Some (Int (pos 1)))

  -- the expression of the new value gives it, where what was read is of the type of the place
  abbrev pub StepLaw : Designation → PlaceLowering → Program → Func → (Option ValueType → CType) → (Option ValueType → Option ValueType → Bool) → Type 0
  StepLaw d l p f declares is_same =
      (old : Expr) → Unassigning w old → TypesAgree (meaning cq old).ctype (value_of l) →
      Unassigning w (stepped p f declares is_same l down old) × ((u : Option Value) (s : Regs) → ValueOf w (value_type cp d) u → Gives w old u s → Gives w (stepped p f declares is_same l down old) (step_of d u) s)

  -- and it is of the type of the register
  abbrev pub StepFits : Designation → Type 0
  StepFits d = (i : ℕ) → d.effects.register ≡ Some i → (x z : Value) → Fits w alike i x → step_of d (Some x) ≡ Some z → Fits w alike i z

  module _ (d : Designation) (l : PlaceLowering) (right : IsRightPlace w d l) (m : Meaning) (same : m.effects.assigned ≡ also (only d.effects.register) d.effects.assigned) (typed : m.ctype ≡ value_of l)
      (next : (later : Registers) → m.next later ≡ stepped_by_one cp d down later) (p : Program) (f : Func) (declares : Option ValueType → CType) (is_same : Option ValueType → Option ValueType → Bool) where
    abbrev new_of : Expr → Expr
    new_of old = stepped p f declares is_same l down old

    module _ (law : StepLaw d l p f declares is_same) (fits : StepFits d)
        (reads : (later : Registers) → AllAnswers w.p w.openings (ValueOf w (value_type cp d)) (bind (d.leads later) (fetched cp d later))) where
      abbrev own : Option ValueType
      own = value_of l

      abbrev value_piece : ℕ → Piece Place → Piece Expr
      value_piece k x = onto x ((into own (Load x.value) >>= (λ old. emit (Do (Assign x.value (new_of old))) >>= (λ u. done old))) (k + length x.temps))

      abbrev alone_piece : Registers → ℕ → Option ℕ → Piece Place → Piece (Unit {0})
      alone_piece later k o x = onto x (((if is_soft o later then done (Load x.value) else into own (Load x.value)) >>= (λ old. emit (Do (Assign x.value (new_of old))))) (k + length x.temps))

      temp_law : (n : ℕ) → IsTemp w n own → Unassigning w (new_of (temp n)) × ((u : Option Value) (s : Regs) → ValueOf w (value_type cp d) u → Gives w (temp n) u s → Gives w (new_of (temp n)) (step_of d u) s)
      temp_law n h = law (temp n) (local_value_unassigning w alike n) (temp_agrees w alike n own own h refl)

      register_is : l.effects.register ≡ d.effects.register
      register_is = ap (λ (e : PlaceEffects). e.register) right.effects

      -- ---- a place that is no register

      module _ (none : d.effects.register ≡ None) (later : Registers) (k : ℕ) (above : w.base ≤ k) where
        same_none : m.effects.assigned ≡ d.effects.assigned
        same_none = same ∙ ap (λ (o : Option ℕ). also (only o) d.effects.assigned) none

        value_none : Declared w k (value_piece k (l.operands later k)).temps → IsOperand w m later k (value_piece k (l.operands later k))
        value_none declared =
            let x = l.operands later k in
            let n = k + length x.temps in
            let last = (declared_right w k x.temps (own ∷ []) declared).0 in
            let place = right.operands later k above (declared_left w k x.temps (own ∷ []) declared) in
            let h = temp_law n last in
            record {
              assigned = local_value_unassigning w alike n;
              ctype = temp_agrees w alike n own m.ctype last typed;
              sim = λ r s y.
                  subst (λ (q : Registers). Sim w (After w q later k (length (x.temps ++ own ∷ [])) (Gives w (temp n)) s) (m.next later) r (code_tree w (value_piece k x).stmts) s) (sym same_none)
                  (subst (λ g. Sim w (After w d.effects.assigned later k (length (x.temps ++ own ∷ [])) (Gives w (temp n)) s) g r (code_tree w (value_piece k x).stmts) s) (sym (next later))
                  (sim_count w d.effects.assigned later k (length x.temps + 1) (length (x.temps ++ own ∷ [])) (Gives w (temp n)) s (stepped_by_one cp d down later) r (code_tree w (value_piece k x).stmts) s (sym (length-append x.temps (own ∷ [])))
                  (step_value_there w alike d none reads (right.shared none) down later k above x place n refl last.register (new_of (temp n)) h.0 h.1 r s y)));
            }

        alone_none : Declared w k (alone_piece later k None (l.operands later k)).temps → (r s : Regs) → Agree w r s → Sim w (Worked w m.effects.assigned k s) (good (m.next later)) r (code_tree w (alone_piece later k None (l.operands later k)).stmts) s
        alone_none declared r s y =
            let x = l.operands later k in
            let n = k + length x.temps in
            let last = (declared_right w k x.temps (own ∷ []) declared).0 in
            let place = right.operands later k above (declared_left w k x.temps (own ∷ []) declared) in
            let h = temp_law n last in
            subst (λ (q : Registers). Sim w (Worked w q k s) (good (m.next later)) r (code_tree w (alone_piece later k None x).stmts) s) (sym same_none)
            (subst (λ g. Sim w (Worked w d.effects.assigned k s) (good g) r (code_tree w (alone_piece later k None x).stmts) s) (sym (next later))
            (step_alone_there w alike d none reads (right.shared none) down later k above x place n refl last.register (new_of (temp n)) h.0 h.1 r s y))

      -- ---- a register

      module _ (i : ℕ) (here : IsLocal w d l i) (some : d.effects.register ≡ Some i) (later : Registers) (k : ℕ) (above : w.base ≤ k) where
        next_i : m.next later ≡ stepped_by_one cp (designation cp (Local i)) down later
        next_i = next later ∙ ap (λ (e : Designation). stepped_by_one cp e down later) here.designates

        same_i : m.effects.assigned ≡ only (Some i)
        same_i =
            same ∙ ap (λ (o : Option ℕ). also (only o) d.effects.assigned) some ∙ ap (λ (e : Designation). also (only (Some i)) e.effects.assigned) here.designates ∙
            ap (λ (e : Designation). also (only (Some i)) e.effects.assigned) (at-Local cp i) ∙ also_none (only (Some i))

        law_i : (old : Expr) → ((u : Option Value) (s : Regs) → ValueOf w (value_type cp d) u → Gives w old u s → Gives w (new_of old) (step_of d u) s) →
            (u : Option Value) (s : Regs) → ValueOf w (value_type cp d) u → Gives w old u s → Gives w (new_of old) (step_of (designation cp (Local i)) u) s
        law_i old h u s k g = subst (λ (e : Designation). Gives w (new_of old) (step_of e u) s) here.designates (h u s k g)

        -- what the register holds is of the type of the place
        is_value : (x : Value) → Fits w alike i x → ValueOf w (value_type cp d) (Some x)
        is_value x k = register_typed w alike d later l i here (λ v. ValueOf w (value_type cp d) v) (reads later) x k

        bad_value : (t : Option ValueType) → ValueOf w t None
        bad_value None = tt
        bad_value (Some t) = tt

        fits_i : (x z : Value) → Fits w alike i x → step_of (designation cp (Local i)) (Some x) ≡ Some z → Fits w alike i z
        fits_i x z g e = fits i some x z g (ap (λ (e : Designation). step_of e (Some x)) here.designates ∙ e)

        in_q : is_register w.to i ≡ true
        in_q = alike.registers i here.below ∙ here.register

        plus_zero : k + 0 ≡ k
        plus_zero = omega arith

        abbrev self : Piece Place
        self = piece [] [] (Local i)

        abbrev n : ℕ
        n = k + 0

        value_some : Declared w k (value_piece k self).temps → IsOperand w m later k (value_piece k self)
        value_some declared =
            let last = subst (λ j. IsTemp w j own) (sym plus_zero) declared.0 in
            let h = temp_law n last in
            record {
              assigned = local_value_unassigning w alike n;
              ctype = temp_agrees w alike n own m.ctype last typed;
              sim = λ r s y.
                  subst (λ (q : Registers). Sim w (After w q later k 1 (Gives w (temp n)) s) (m.next later) r (code_tree w (value_piece k self).stmts) s) (sym same_i)
                  (subst (λ g. Sim w (After w (only (Some i)) later k 1 (Gives w (temp n)) s) g r (code_tree w (value_piece k self).stmts) s) (sym next_i)
                  (step_own_value w alike i here.below here.register down later n (omega (arith, above)) last.register (new_of (temp n)) (λ x t k e. law_i (temp n) h.1 (Some x) t (is_value x k) (temp_gives w alike n last.register (Some x) t e)) fits_i k plus_zero r s y));
            }

        abbrev alone_by : Bool → Piece (Unit {0})
        alone_by b = onto self (((if not b then done (Load (Local i)) else into own (Load (Local i))) >>= (λ old. emit (Do (Assign (Local i) (new_of old))))) n)

        alone_some : (b : Bool) → later i ≡ b → Declared w k (alone_by b).temps → (r s : Regs) → Agree w r s → Sim w (Worked w m.effects.assigned k s) (good (m.next later)) r (code_tree w (alone_by b).stmts) s
        alone_some true e declared r s y =
            let last = subst (λ j. IsTemp w j own) (sym plus_zero) declared.0 in
            let h = temp_law n last in
            subst (λ (q : Registers). Sim w (Worked w q k s) (good (m.next later)) r (code_tree w (alone_by true).stmts) s) (sym same_i)
            (subst (λ g. Sim w (Worked w (only (Some i)) k s) (good g) r (code_tree w (alone_by true).stmts) s) (sym next_i)
            (step_own_alone w alike i here.below here.register down later n (omega (arith, above)) last.register (new_of (temp n)) (λ x t k e. law_i (temp n) h.1 (Some x) t (is_value x k) (temp_gives w alike n last.register (Some x) t e)) fits_i k plus_zero r s y))
        alone_some false e declared r s y =
            let h = law (temp i) (local_value_unassigning w alike i) (equal_types (typed_local w alike d later l i here ∙ sym (ap (option_and_then read_from) right.ctype))) in
            subst (λ (q : Registers). Sim w (Worked w q k s) (good (m.next later)) r (code_tree w (alone_by false).stmts) s) (sym same_i)
            (subst (λ g. Sim w (Worked w (only (Some i)) k s) (good g) r (code_tree w (alone_by false).stmts) s) (sym next_i)
            (step_own_here w alike i here.below here.register down later k e (new_of (temp i)) (λ x t k e. law_i (temp i) h.1 (Some x) t (is_value x k) (temp_gives w alike i in_q (Some x) t e))
            (λ t e. subst (λ (u : Option Value). Gives w (new_of (temp i)) u t) (new_none w alike i here.below here.register down later) (law_i (temp i) h.1 None t (bad_value (value_type cp d)) (temp_gives w alike i in_q None t e))) fits_i above r s y))

      -- ---- every place

      by_value : (later : Registers) (k : ℕ) → w.base ≤ k → (o : Option ℕ) → d.effects.register ≡ o → Declared w k (value_piece k (l.operands later k)).temps → IsOperand w m later k (value_piece k (l.operands later k))
      by_value later k above None e = value_none e later k above
      by_value later k above (Some i) e =
          let here = right.local i e in
          subst (λ (x : Piece Place). Declared w k (value_piece k x).temps → IsOperand w m later k (value_piece k x)) (sym (here.itself later k)) (value_some i here e later k above)

      abbrev IsAlone : ℕ → Registers → Piece (Unit {0}) → Type 0
      IsAlone k later x = Declared w k x.temps → (r s : Regs) → Agree w r s → Sim w (Worked w m.effects.assigned k s) (good (m.next later)) r (code_tree w x.stmts) s

      by_alone : (later : Registers) (k : ℕ) → w.base ≤ k → (o : Option ℕ) → d.effects.register ≡ o → IsAlone k later (alone_piece later k l.effects.register (l.operands later k))
      by_alone later k above None e =
          subst (λ (o : Option ℕ). IsAlone k later (alone_piece later k o (l.operands later k))) (sym (register_is ∙ e)) (alone_none e later k above)
      by_alone later k above (Some i) e =
          let here = right.local i e in
          subst (λ (o : Option ℕ). IsAlone k later (alone_piece later k o (l.operands later k))) (sym (register_is ∙ e))
          (subst (λ (x : Piece Place). IsAlone k later (alone_piece later k (Some i) x)) (sym (here.itself later k)) (alone_some i here e later k above (later i) refl))

      pub step_works : Operands w m (step_value p f declares is_same l down) × Effects w m (step_alone p f declares is_same l down)
      step_works = ((λ later k above. by_value later k above d.effects.register refl), (λ later k above. by_alone later k above d.effects.register refl))
