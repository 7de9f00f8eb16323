-- `place op= value` alone, and `place++` and `place--`, of a place that is no register.
use Rattle.std.proofs.Common.{◌≡◌, ◌≤◌, ℕ, ◌+◌, pos, Bool, true, false, [], ◌∷◌, ◌++◌, length, Option, Some, None, refl, ap, sym, ◌∙◌, subst}
use Rattle.cc_program.specs.CcNum.declared.int_type.IntType.{IntType}
use Rattle.cc_program.specs.CcNum.declared.op.BinOp.{BinOp}
use Rattle.cc_program.specs.declared.stmt.Stmt.{Do}
use Rattle.cc_program.specs.declared.expr.Expr.{Expr, Load, Assign}
use Rattle.cc_program.specs.declared.expr.Place.{Place}
use Rattle.cc_program.specs.declared.value.Cell.{Cell}
use Rattle.cc_program.specs.declared.value.Value.{Value}
use Rattle.cc_program.specs.declared.value.Value.TheVariants.{Int}
use Rattle.cc_states.specs.CcSyntax.Effects.{Registers, no_one, also, is_soft}
use Rattle.cc_states.specs.CcSyntax.Registers.{is_register}
use Rattle.cc_states.specs.CcEval.declared.action.Manner.{Manner}
use Rattle.cc_states.specs.CcEval.declared.action.Action.TheVariants.{Read}
use Rattle.cc_states.specs.CcEval.declared.spots.Spot.{Spot}
use Rattle.cc_states.specs.CcEval.Context.{Context, is_seen, reached}
use Rattle.cc_states.specs.CcEval.Eval.{Meaning, Designation, meaning, designation, manner, place_and_value, value_type, fetched, changed as changed_values, changed_by, stepped_by_one, sum_or_difference, one_more_type}
use Rattle.cc_states.specs.CcEval.declared.mark.Mark.{Mark}
use Rattle.cc_states.specs.Answers.{IsMarkOf}
use Rattle.cc_states.specs.CcEval.Progress.{Get, Known, known, ask, bind, needs, given}
use Rattle.cc_lower_expressions.specs.Expressions.{Piece, temp, set}
use Rattle.cc_lower_expressions_follows.specs.Trees.{Regs, Setting, context_p, context_q, Other, Sim, Runs, Is}
use Rattle.cc_lower_expressions_follows.specs.Relation.{code_tree, stmt_tree, Alike, ValueOf, Agree, Gives, Leads}
use Rattle.cc_lower_expressions_follows.specs.Claims.{IsApart, After, Worked, good, IsOperand, IsPlace}
use Rattle.cc_lower_expressions_follows.proofs.Changes.{change_value, change_alone, sim_new}
use Rattle.cc_lower_expressions_follows.proofs.Loads.{sure_read, temp_gives, local_value_unassigning}
use Rattle.cc_lower_expressions_follows.proofs.Operands.{Unassigning}
use Rattle.cc_lower_expressions_follows.proofs.Puts.{sim_led}
use Rattle.cc_lower_expressions_follows.proofs.Answered.{AllAnswers, answer_of, Further, sim_further}
use Rattle.cc_lower_expressions_follows.proofs.Agreement.{seen_agrees, reached_agrees}
use Rattle.cc_lower_expressions_follows.specs.Agreement.{PlacesAgree}
use Rattle.cc_lower_expressions_follows.proofs.Reached.{same_reached}
use Rattle.cc_lower_expressions_follows.proofs.Rules.{take_tree, put_tree}
use Rattle.cc_lower_expressions_follows.proofs.Statements.{put_operands, tree-put, tree-read, tree-set, puts_runs}
use Rattle.cc_lower_expressions_follows.proofs.TreeLaws.{runs_bind, sim_weaker}
use Rattle.cc_lower_expressions_follows.proofs.Apart.{Led-apart, led_apart}

module _ (w : Setting) (alike : Alike w) (d : Designation) (none : d.effects.register ≡ None)
    (reads : (later : Registers) → AllAnswers w.p w.openings (ValueOf w (value_type (context_p w) d)) (bind (d.leads later) (fetched (context_p w) d later)))
    (shared : (later : Registers) → AllAnswers w.p w.openings (IsApart w d) (d.leads later)) where
  abbrev cp : Context
  cp = context_p w

  abbrev cq : Context
  cq = context_q w

  -- ---- what is read there is of the type of the place

  abbrev Old : Value → Type 0
  Old x = ValueOf w (value_type cp d) (Some x)

  abbrev Reads : Registers → Option Spot → Type 0
  Reads later o = AllAnswers w.p w.openings (ValueOf w (value_type cp d)) (fetched cp d later o)

  abbrev Typed-led : Registers → Piece Place → Option Spot → Regs → Type 0
  Typed-led later x o t = Led-apart w d x.value o t × Reads later o

  abbrev fetch_at : Option Cell → Bool → Get (Option Value)
  fetch_at c soft = needs c (λ cell. ask (Read cell (record { is_event = is_seen d.ctype; may_be_bad = soft })) given)

  never : (later : Registers) → is_soft d.effects.register later ≡ false
  never later = ap (λ (r : Option ℕ). is_soft r later) none

  read_typed : (before later : Registers) (o : Option Spot) → Reads before o → (c : Cell) → reached w.p d.ctype o ≡ Some c → (mark : Mark) → IsMarkOf w.p w.openings (Read c (manner d later)) mark → (x : Value) → given mark ≡ Some x → Old x
  read_typed before later o h c e mark i x g =
      let here : AllAnswers w.p w.openings (ValueOf w (value_type cp d)) (fetch_at (Some c) (is_soft d.effects.register later)) =
      subst (λ (z : Option Cell). AllAnswers w.p w.openings (ValueOf w (value_type cp d)) (fetch_at z (is_soft d.effects.register later))) e
      (subst (λ (b : Bool). AllAnswers w.p w.openings (ValueOf w (value_type cp d)) (fetch_at (reached w.p d.ctype o) b)) (never before ∙ sym (never later)) h) in
      subst (λ (v : Option Value). ValueOf w (value_type cp d) v) g (answer_of w.p w.openings (λ v. ValueOf w (value_type cp d) v) (Read c (manner d later)) mark i here)

  led_typed : (later : Registers) (k : ℕ) (x : Piece Place) → IsPlace w d later k x → (r s : Regs) → Agree w r s →
      Sim w (After w d.effects.assigned later k (length x.temps) (Typed-led later x) s) (d.leads later) r (code_tree w x.stmts) s
  led_typed later k x place r s a =
      sim_weaker w (Further w (After w d.effects.assigned later k (length x.temps) (Led-apart w d x.value) s) (ValueOf w (value_type cp d)) (fetched cp d later)) (After w d.effects.assigned later k (length x.temps) (Typed-led later x) s)
      (λ o u r1 s1 q. record { agree = q.0.agree; kept = q.0.kept; value = λ t h. (q.0.value t h, q.1) })
      (sim_further w (After w d.effects.assigned later k (length x.temps) (Led-apart w d x.value) s) (ValueOf w (value_type cp d)) (fetched cp d later) (led_apart w d later k x (shared later) place r s a) (reads later))

  -- ---- what q does at the place

  module _ (a : Place) (typed : PlacesAgree (designation cq a).ctype d.ctype) (register : (designation cq a).effects.register ≡ d.effects.register) (later : Registers) where
    abbrev b : Designation
    b = designation cq a

    never_bad : (manner d later).may_be_bad ≡ false
    never_bad = ap (λ (r : Option ℕ). is_soft r later) none

    same_manner : manner b no_one ≡ manner d later
    same_manner =
        ap (λ (e : Bool). record { is_event = e; may_be_bad = is_soft b.effects.register no_one }) (seen_agrees b.ctype d.ctype typed) ∙
        ap (λ (r : Option ℕ). record { is_event = is_seen d.ctype; may_be_bad = is_soft r no_one }) (register ∙ none) ∙
        ap (λ (r : Option ℕ). record { is_event = is_seen d.ctype; may_be_bad = is_soft r later }) (sym none)

    abbrev cell_of : Get (Option Cell)
    cell_of = bind (b.leads no_one) (λ s. known (reached w.q b.ctype s))

    takes : (n : ℕ) → is_register w.to n ≡ true → stmt_tree w (set n (Load a)) ≡ take_tree w cell_of (λ c. Read c (manner d later)) n
    takes n in_n =
        let u = alike.unseen n in_n in
        tree-read w n u.0 u.1 u.2 a ∙ ap (λ (m : Manner). take_tree w cell_of (λ c. Read c m) n) same_manner

    leads_there : (o : Option Spot) (t : Regs) → Leads w a o t → Runs w (reached w.p d.ctype o) t cell_of t
    leads_there o t h = runs_bind (Other w) (λ s. known (reached w.q b.ctype s)) h (Is (ap (λ c ms. Known c ms) (reached_agrees w.q b.ctype d.ctype typed o ∙ same_reached w alike d.ctype o)))

    module _ (v : Expr) (pure : Unassigning w v) where
      writes : stmt_tree w (Do (Assign a v)) ≡ put_tree (put_operands w b (meaning cq v)) (is_seen d.ctype)
      writes = tree-put w a v ∙ ap (λ (e : Bool). put_tree (put_operands w b (meaning cq v)) e) (seen_agrees b.ctype d.ctype typed)

      puts_there : (o : Option Spot) (u : Option Value) (t : Regs) → Leads w a o t → Gives w v u t → Runs w (reached w.p d.ctype o, u) t (put_operands w b (meaning cq v)) t
      puts_there o u t h g =
          subst (λ (c : Option Cell). Runs w (c, u) t (put_operands w b (meaning cq v)) t) (reached_agrees w.q b.ctype d.ctype typed o ∙ same_reached w alike d.ctype o) (puts_runs w a v o u t pure h g)

  -- ---- `place++` and `place--`

  module _ (down : Bool) (later : Registers) (k : ℕ) (above : w.base ≤ k) (x : Piece Place) (place : IsPlace w d later k x) (n : ℕ) (is_n : n ≡ k + length x.temps) (in_n : is_register w.to n ≡ true) (v : Expr) (pure : Unassigning w v) where
    abbrev stepped_value : Option Value → Option Value
    stepped_value u = changed_values w.p.target (sum_or_difference down) (one_more_type w.p.target (value_type cp d)) (value_type cp d) u (Some (Int (pos 1)))

    module _ (gives : (u : Option Value) (t : Regs) → ValueOf w (value_type cp d) u → Gives w (temp n) u t → Gives w v (stepped_value u) t) where
      runs_step : (o : Option Spot) (z : Value) (t : Regs) → Old z → Typed-led later x o t → t n ≡ Some z → Runs w (reached w.p d.ctype o, stepped_value (Some z)) t (put_operands w (designation cq x.value) (meaning cq v)) t
      runs_step o z t u h e = puts_there x.value place.ctype place.register later v pure o (stepped_value (Some z)) t h.0.0 (gives (Some z) t u (temp_gives w alike n in_n (Some z) t e))

      pub step_value_there : (r s : Regs) → Agree w r s →
          Sim w (After w d.effects.assigned later k (length x.temps + 1) (Gives w (temp n)) s) (stepped_by_one cp d down later) r (code_tree w (x.stmts ++ set n (Load x.value) ∷ Do (Assign x.value v) ∷ [])) s
      step_value_there r s y =
          change_value w alike (d.leads later) (reached w.p d.ctype) (manner d later) (λ c m h. sure_read w c (manner d later) m (never_bad x.value place.ctype place.register later) h) (is_seen d.ctype) (λ o u. stepped_value u) (λ o u. u) d.effects.assigned later k (length x.temps) above
          (Typed-led later x) x.stmts n is_n in_n (set n (Load x.value)) (Do (Assign x.value v)) (cell_of x.value place.ctype place.register later) (takes x.value place.ctype place.register later n in_n)
          (λ o t h. leads_there x.value place.ctype place.register later o t h.0.0) (λ o t h c e. h.0.1 c e) Old (λ o t h c e mark i z g. read_typed later later o h.1 c e mark i z g)
          (put_operands w (designation cq x.value) (meaning cq v)) (writes x.value place.ctype place.register later v pure) runs_step (λ o u. refl) r s (led_typed later k x place r s y)

      pub step_alone_there : (r s : Regs) → Agree w r s →
          Sim w (Worked w d.effects.assigned k s) (good (stepped_by_one cp d down later)) r (code_tree w (x.stmts ++ set n (Load x.value) ∷ Do (Assign x.value v) ∷ [])) s
      step_alone_there r s y =
          change_alone w alike (d.leads later) (reached w.p d.ctype) (manner d later) (λ c m h. sure_read w c (manner d later) m (never_bad x.value place.ctype place.register later) h) (is_seen d.ctype) (λ o u. stepped_value u) (λ o u. u) d.effects.assigned later k (length x.temps) above
          (Typed-led later x) x.stmts n is_n in_n (set n (Load x.value)) (Do (Assign x.value v)) (cell_of x.value place.ctype place.register later) (takes x.value place.ctype place.register later n in_n)
          (λ o t h. leads_there x.value place.ctype place.register later o t h.0.0) (λ o t h c e. h.0.1 c e) Old (λ o t h c e mark i z g. read_typed later later o h.1 c e mark i z g)
          (put_operands w (designation cq x.value) (meaning cq v)) (writes x.value place.ctype place.register later v pure) runs_step (λ o z u e. (z, refl)) r s (led_typed later k x place r s y)

  -- ---- `place op= value` alone

  module _ (o : BinOp) (t : IntType) (e : Meaning) (later : Registers) (k : ℕ) (above : w.base ≤ k) (x : Piece Place) (y : Piece Expr) (place : IsPlace w d (also e.effects.assigned later) k x) (value : IsOperand w e later (k + length x.temps) y)
      (n : ℕ) (is_n : n ≡ k + (length x.temps + length y.temps)) (in_n : is_register w.to n ≡ true) (v : Expr) (pure : Unassigning w v) where
    abbrev changed_value : Option Value → Option Value → Option Value
    changed_value u z = changed_values w.p.target o t (value_type cp d) u z

    abbrev Pair-led : Option Spot × Option Value → Regs → Type 0
    Pair-led p t = Typed-led (also e.effects.assigned later) x p.0 t × Gives w y.value p.1 t

    pair_typed : (p : Option Spot × Option Value) (t : Regs) → Pair-led p t → (c : Cell) → reached w.p d.ctype p.0 ≡ Some c → (mark : Mark) → IsMarkOf w.p w.openings (Read c (manner d later)) mark → (z : Value) → given mark ≡ Some z → Old z
    pair_typed p t h c f mark i z g = read_typed (also e.effects.assigned later) later p.0 h.0.1 c f mark i z g

    pair_led : (r s : Regs) → Agree w r s →
        Sim w (After w (also d.effects.assigned e.effects.assigned) later k (length x.temps + length y.temps) (λ p t. Pair-led p t) s) (place_and_value d e later) r (code_tree w (x.stmts ++ y.stmts)) s
    pair_led r s i = sim_led w alike d e later k above x y value (Typed-led (also e.effects.assigned later) x) (λ r s a. led_typed (also e.effects.assigned later) k x place r s a) r s i

    module _ (gives : (u z : Option Value) (s : Regs) → ValueOf w (value_type cp d) u → Gives w (temp n) u s → Gives w y.value z s → Gives w v (changed_value u z) s) where
      pub change_alone_there : (r s : Regs) → Agree w r s →
          Sim w (Worked w (also d.effects.assigned e.effects.assigned) k s) (good (changed_by cp d o t e later)) r (code_tree w ((x.stmts ++ y.stmts) ++ set n (Load x.value) ∷ Do (Assign x.value v) ∷ [])) s
      change_alone_there r s i =
          change_alone w alike (place_and_value d e later) (λ p. reached w.p d.ctype p.0) (manner d later) (λ c m h. sure_read w c (manner d later) m (never_bad x.value place.ctype place.register later) h) (is_seen d.ctype)
          (λ p u. changed_value u p.1) (λ p u. changed_value u p.1) (also d.effects.assigned e.effects.assigned) later k (length x.temps + length y.temps) above (λ p t. Pair-led p t) (x.stmts ++ y.stmts) n is_n in_n (set n (Load x.value)) (Do (Assign x.value v))
          (cell_of x.value place.ctype place.register later) (takes x.value place.ctype place.register later n in_n) (λ p t h. leads_there x.value place.ctype place.register later p.0 t h.0.0.0) (λ p t h c f. h.0.0.1 c f) Old pair_typed
          (put_operands w (designation cq x.value) (meaning cq v)) (writes x.value place.ctype place.register later v pure)
          (λ p z t u h f. puts_there x.value place.ctype place.register later v pure p.0 (changed_value (Some z) p.1) t h.0.0.0 (gives (Some z) p.1 t u (temp_gives w alike n in_n (Some z) t f) h.1))
          (λ p z u f. (u, f)) r s (pair_led r s i)

      -- as a value
      module _ (j : ℕ) (is_j : j ≡ k + (length x.temps + length y.temps) + 1) (in_j : is_register w.to j ≡ true) where
        pub change_value_there : (r s : Regs) → Agree w r s →
            Sim w (After w (also d.effects.assigned e.effects.assigned) later k (length x.temps + length y.temps + 2) (Gives w (temp j)) s) (changed_by cp d o t e later) r
            (code_tree w ((x.stmts ++ y.stmts) ++ set n (Load x.value) ∷ set j v ∷ Do (Assign x.value (temp j)) ∷ [])) s
        change_value_there r s i =
            let u = alike.unseen j in_j in
            sim_new w alike (place_and_value d e later) (λ p. reached w.p d.ctype p.0) (manner d later) (λ c m h. sure_read w c (manner d later) m (never_bad x.value place.ctype place.register later) h) (is_seen d.ctype)
            (λ p u. changed_value u p.1) (also d.effects.assigned e.effects.assigned) later k (length x.temps + length y.temps) above (λ p t. Pair-led p t) (x.stmts ++ y.stmts) n j is_n is_j in_n in_j (set n (Load x.value)) (set j v) (Do (Assign x.value (temp j)))
            (cell_of x.value place.ctype place.register later) (takes x.value place.ctype place.register later n in_n) (λ p t h. leads_there x.value place.ctype place.register later p.0 t h.0.0.0) (λ p t h c f. h.0.0.1 c f) Old pair_typed
            ((meaning cq v).next no_one) (tree-set w j u.0 u.1 u.2 v) (λ p z t u h f. gives (Some z) p.1 t u (temp_gives w alike n in_n (Some z) t f) h.1)
            (put_operands w (designation cq x.value) (meaning cq (temp j))) (writes x.value place.ctype place.register later (temp j) (local_value_unassigning w alike j))
            (λ p z t h f. puts_there x.value place.ctype place.register later (temp j) (local_value_unassigning w alike j) p.0 (Some z) t h.0.0.0 (temp_gives w alike j in_j (Some z) t f))
            r s (pair_led r s i)
