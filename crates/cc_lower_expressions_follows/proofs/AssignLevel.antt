-- An assignment, as a value and alone, to a register and to another place.
use Rattle.std.proofs.Common.{◌≡◌, ◌≤◌, ℕ, suc, ◌+◌, true, [], ◌∷◌, ◌++◌, length, Option, Some, None, refl, ap, sym, ◌∙◌, subst, arith, is_some, if◌then◌else◌}
use Rattle.cc_program.specs.declared.stmt.Stmt.{Do}
use Rattle.cc_program.specs.declared.expr.Expr.{Expr, Assign}
use Rattle.cc_program.specs.declared.expr.Place.{Place, Local}
use Rattle.cc_states.specs.CcSyntax.Effects.{Registers, also, only, Effects, PlaceEffects}
use Rattle.cc_states.specs.CcSyntax.Registers.{is_register}
use Rattle.cc_states.specs.CcEval.Context.{Context}
use Rattle.cc_states.specs.CcEval.Eval.{Meaning, Designation, designation, assigned as assigned_next}
use Rattle.cc_lower_expressions.specs.Expressions.{Piece, piece, onto, emit, ◌>>=◌, Lowers, Lowering, PlaceLowering, temp, set, value_of, number_of, assigned_value, assignment, place_and}
use Rattle.cc_lower_expressions_follows.specs.Trees.{Regs, Setting, context_p, context_q, Sim}
use Rattle.cc_lower_expressions_follows.specs.Relation.{code_tree, Alike, Declared, IsTemp, Agree, Gives}
use Rattle.cc_lower_expressions_follows.specs.Claims.{After, Worked, good, IsOperand, Operands, Effects as EffectsOf, IsLocal, IsRight, IsRightPlace}
use Rattle.cc_lower_expressions_follows.proofs.Answered.{AllAnswers}
use Rattle.cc_lower_expressions_follows.proofs.Assembled.{right_assigned}
use Rattle.cc_lower_expressions_follows.proofs.Loads.{local_value_unassigning, temp_agrees}
use Rattle.cc_lower_expressions_follows.proofs.Opened.{at-Local}
use Rattle.cc_lower_expressions_follows.proofs.Operands.{declared_left, declared_right}
use Rattle.cc_lower_expressions_follows.proofs.Owned.{Fits, assigned_alone, assigned_register}
use Rattle.cc_lower_expressions_follows.proofs.Puts.{put_alone}

module _ (w : Setting) (alike : Alike w) where
  abbrev cp : Context
  cp = context_p w

  abbrev cq : Context
  cq = context_q w

  module _ (d : Designation) (l : PlaceLowering) (e : Meaning) (le : Lowering) (rd : IsRightPlace w d l) (re : IsRight w e le) (m : Meaning)
      (same : m.effects.assigned ≡ also (only d.effects.register) (also d.effects.assigned e.effects.assigned)) (typed : m.ctype ≡ value_of l) (next : (later : Registers) → m.next later ≡ assigned_next cp d e later)
      (fits : (i : ℕ) → d.effects.register ≡ Some i → (later : Registers) → AllAnswers w.p w.openings (Fits w alike i) (good (e.next later))) where
    abbrev kept_of : Option ℕ → Registers
    kept_of o = also (only o) (also d.effects.assigned e.effects.assigned)

    register_is : l.effects.register ≡ d.effects.register
    register_is = ap (λ (z : PlaceEffects). z.register) rd.effects

    -- ---- a register

    module _ (i : ℕ) (some : d.effects.register ≡ Some i) (here : IsLocal w d l i) where
      assigned_some : m.effects.assigned ≡ also (only (Some i)) e.effects.assigned
      assigned_some =
          same ∙ ap kept_of some ∙
          ap (λ (q : Registers). also (only (Some i)) (also q e.effects.assigned)) (ap (λ (d : Designation). d.effects.assigned) here.designates ∙ ap (λ (d : Designation). d.effects.assigned) (at-Local cp i))

      next_local : (later : Registers) → m.next later ≡ assigned_next cp (designation cp (Local i)) e later
      next_local later = next later ∙ ap (λ (d : Designation). assigned_next cp d e later) here.designates

      in_q : is_register w.to i ≡ true
      in_q = alike.registers i here.below ∙ here.register

      value_at : (later : Registers) (k : ℕ) → w.base ≤ k → (x : Piece Place) → x ≡ piece [] [] (Local i) →
          Declared w k (onto x (let n = k + length x.temps in let y = le.whole (value_of l) n later (n + 1) in piece (value_of l ∷ (y.temps ++ [])) (y.stmts ++ Do (Assign x.value (temp n)) ∷ []) (temp n))).temps →
          IsOperand w m later k (onto x (let n = k + length x.temps in let y = le.whole (value_of l) n later (n + 1) in piece (value_of l ∷ (y.temps ++ [])) (y.stmts ++ Do (Assign x.value (temp n)) ∷ []) (temp n)))
      value_at later k above x is_local = subst (λ (x : Piece Place). Declared w k (made_of x).temps → IsOperand w m later k (made_of x)) (sym is_local) there
        where
          made_of : Piece Place → Piece Expr
          made_of x = onto x (let n = k + length x.temps in let y = le.whole (value_of l) n later (n + 1) in piece (value_of l ∷ (y.temps ++ [])) (y.stmts ++ Do (Assign x.value (temp n)) ∷ []) (temp n))

          there : Declared w k (made_of (piece [] [] (Local i))).temps → IsOperand w m later k (made_of (piece [] [] (Local i)))
          there declared =
              let n = k + 0 in
              let y = le.whole (value_of l) n later (n + 1) in
              let count = length (value_of l ∷ (y.temps ++ [])) in
              let last = subst (λ j. IsTemp w j (value_of l)) (plus_zero k) declared.0 in
              let rest = subst (λ j. Declared w j y.temps) (one_more k) (declared_left w (suc k) y.temps [] declared.1) in
              record {
                assigned = local_value_unassigning w alike n;
                ctype = temp_agrees w alike n (value_of l) m.ctype last typed;
                sim = λ r s z.
                    subst (λ (q : Registers). Sim w (After w q later k count (Gives w (temp n)) s) (m.next later) r (code_tree w (y.stmts ++ set i (temp n) ∷ [])) s) (sym assigned_some)
                    (subst (λ g. Sim w (After w (also (only (Some i)) e.effects.assigned) later k count (Gives w (temp n)) s) g r (code_tree w (y.stmts ++ set i (temp n) ∷ [])) s) (sym (next_local later))
                    (assigned_register w alike i here.below here.register e later k n count above refl (omega arith) (n + 1) (omega arith) last.register y.stmts (fits i some later)
                    (λ r' s' z'. re.whole (value_of l) n later (n + 1) (omega (arith, above)) (omega arith) last.register rest r' s' z') r s z));
              }
            where
              plus_zero : (k : ℕ) → k ≡ k + 0
              plus_zero k = omega arith

              one_more : (k : ℕ) → suc k ≡ k + 0 + 1
              one_more k = omega arith

      pub value_register : Operands w m (assigned_value l le)
      value_register later k above =
          subst (λ (q : Registers). Declared w k (with_later q).temps → IsOperand w m later k (with_later q)) (sym (ap (λ (z : Effects). z.assigned) re.effects))
          (value_at later k above (l.operands (also e.effects.assigned later) k) (here.itself (also e.effects.assigned later) k))
        where
          with_later : Registers → Piece Expr
          with_later q =
              let x = l.operands (also q later) k in
              onto x (let n = k + length x.temps in let y = le.whole (value_of l) n later (n + 1) in piece (value_of l ∷ (y.temps ++ [])) (y.stmts ++ Do (Assign x.value (temp n)) ∷ []) (temp n))

      alone_register : EffectsOf w m (λ later. le.whole (value_of l) i later)
      alone_register later k above declared r s z =
          subst (λ (q : Registers). Sim w (Worked w q k s) (good (m.next later)) r (code_tree w (le.whole (value_of l) i later k).stmts) s) (sym assigned_some)
          (subst (λ g. Sim w (Worked w (also (only (Some i)) e.effects.assigned) k s) (good g) r (code_tree w (le.whole (value_of l) i later k).stmts) s) (sym (next_local later))
          (assigned_alone w alike i here.below here.register e later k above (le.whole (value_of l) i later k).stmts (fits i some later)
          (λ r' s' z'. re.whole (value_of l) i later k above (omega (arith, here.below, above)) in_q declared r' s' z') r s z))

    -- ---- another place

    module _ (none : d.effects.register ≡ None) where
      assigned_none : m.effects.assigned ≡ also d.effects.assigned e.effects.assigned
      assigned_none = same ∙ ap kept_of none

      value_place : Operands w m (assigned_value l le)
      value_place = right_assigned w alike d l e le rd re none m assigned_none typed next

      alone_place : EffectsOf w m (λ later. place_and l le later >>= (λ x. emit (Do (Assign x.0 x.1))))
      alone_place later k above = subst (λ (q : Registers). Works-with q) (sym (ap (λ (z : Effects). z.assigned) re.effects)) there
        where
          alone_with : Registers → Piece (Unit {0})
          alone_with q =
              let x = l.operands (also q later) k in
              let y = le.operand later (k + length x.temps) in
              piece ((x.temps ++ y.temps) ++ []) ((x.stmts ++ y.stmts) ++ Do (Assign x.value y.value) ∷ []) tt

          Works-with : Registers → Type 0
          Works-with q = Declared w k (alone_with q).temps → (r s : Regs) → Agree w r s → Sim w (Worked w m.effects.assigned k s) (good (m.next later)) r (code_tree w (alone_with q).stmts) s

          there : Works-with e.effects.assigned
          there declared r s z =
              let x = l.operands (also e.effects.assigned later) k in
              let y = le.operand later (k + length x.temps) in
              let both = declared_left w k (x.temps ++ y.temps) [] declared in
              subst (λ (q : Registers). Sim w (Worked w q k s) (good (m.next later)) r (code_tree w ((x.stmts ++ y.stmts) ++ Do (Assign x.value y.value) ∷ [])) s) (sym assigned_none)
              (subst (λ g. Sim w (Worked w (also d.effects.assigned e.effects.assigned) k s) (good g) r (code_tree w ((x.stmts ++ y.stmts) ++ Do (Assign x.value y.value) ∷ [])) s) (sym (next later))
              (put_alone w alike d e later k above x y (rd.operands (also e.effects.assigned later) k above (declared_left w k x.temps y.temps both))
              (re.operand later (k + length x.temps) (omega (arith, above)) (declared_right w k x.temps y.temps both)) (rd.shared none (also e.effects.assigned later)) r s z))

    -- ---- both

    abbrev alone_by : Option ℕ → Lowers (Unit {0})
    alone_by o later = if is_some o then le.whole (value_of l) (number_of o) later else (place_and l le later >>= (λ x. emit (Do (Assign x.0 x.1))))

    by_register : (o : Option ℕ) → d.effects.register ≡ o → Operands w m (assigned_value l le) × EffectsOf w m (alone_by o)
    by_register None f = (value_place f, alone_place f)
    by_register (Some i) f = let here = rd.local i f in (value_register i f here, alone_register i f here)

    pub assign_works : Operands w m (assigned_value l le) × EffectsOf w m (assignment l le)
    assign_works =
        let x = by_register d.effects.register refl in
        (x.0, subst (λ (o : Option ℕ). EffectsOf w m (alone_by o)) (sym register_is) x.1)
