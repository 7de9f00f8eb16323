-- A place and an operand; and assignments to places as expression statements.
use Rattle.std.proofs.Common.{Bool, ◌≡◌, ◌≤◌, ℕ, ◌+◌, [], ◌∷◌, ◌++◌, length, Option, refl, ap, sym, ◌∙◌, subst}
use Rattle.cc_program.specs.declared.stmt.Stmt.{Do}
use Rattle.cc_program.specs.declared.expr.Expr.{Expr, Assign}
use Rattle.cc_program.specs.declared.expr.Place.{Place}
use Rattle.cc_program.specs.declared.value.Cell.{Cell}
use Rattle.cc_program.specs.declared.value.Value.{Value}
use Rattle.cc_states.specs.CcSyntax.Effects.{Registers, also}
use Rattle.cc_states.specs.CcEval.declared.spots.Spot.{Spot}
use Rattle.cc_states.specs.CcEval.Context.{Context, is_seen, reached}
use Rattle.cc_states.specs.CcEval.Eval.{Meaning, Designation, meaning, designation, place_and_value, stored, assigned as assigned_next}
use Rattle.cc_states.specs.CcEval.Progress.{Get, known, bind, needs}
use Rattle.cc_lower_expressions.specs.Expressions.{Piece}
use Rattle.cc_lower_expressions_follows.specs.Trees.{Regs, Setting, context_p, context_q, Sim, Done, Runs}
use Rattle.cc_lower_expressions_follows.specs.Relation.{code_tree, stmt_tree, Alike, Agree, Gives, Leads}
use Rattle.cc_lower_expressions_follows.specs.Claims.{IsApart, After, Worked, good, IsOperand, IsPlace}
use Rattle.cc_lower_expressions_follows.proofs.Combined.{sim_then, sim_two}
use Rattle.cc_lower_expressions_follows.proofs.Frames.{holds_now}
use Rattle.cc_lower_expressions_follows.proofs.Reached.{same_reached}
use Rattle.cc_lower_expressions_follows.proofs.Rules.{put_tree, sim_put}
use Rattle.cc_lower_expressions_follows.proofs.Statements.{put_operands, tree-put, puts_runs}
use Rattle.cc_lower_expressions_follows.proofs.TreeLaws.{bind-assoc}
use Rattle.cc_lower_expressions_follows.proofs.Agreement.{seen_agrees, reached_agrees}
use Rattle.cc_lower_expressions_follows.proofs.Answered.{AllAnswers}
use Rattle.cc_lower_expressions_follows.proofs.Apart.{Led-apart, led_apart}

module _ (w : Setting) (alike : Alike w) where
  abbrev cp : Context
  cp = context_p w

  abbrev cq : Context
  cq = context_q w

  module _ (d : Designation) (e : Meaning) (later : Registers) (k : ℕ) (above : w.base ≤ k) (x : Piece Place) (y : Piece Expr) (value : IsOperand w e later (k + length x.temps) y) (Led : Option Spot → Regs → Type 0)
      (led : (r s : Regs) → Agree w r s → Sim w (After w d.effects.assigned (also e.effects.assigned later) k (length x.temps) Led s) (d.leads (also e.effects.assigned later)) r (code_tree w x.stmts) s) where
    abbrev pub Led-pair : Option Spot × Option Value → Regs → Type 0
    Led-pair p t = Led p.0 t × Gives w y.value p.1 t

    pub sim_led : (r s : Regs) → Agree w r s →
        Sim w (After w (also d.effects.assigned e.effects.assigned) later k (length x.temps + length y.temps) (λ p t. Led-pair p t) s) (place_and_value d e later) r (code_tree w (x.stmts ++ y.stmts)) s
    sim_led r s z =
        sim_two w (d.leads (also e.effects.assigned later)) (e.next later) (λ o v. (o, v)) d.effects.assigned e.effects.assigned later k (length x.temps) (length y.temps) Led (Gives w y.value) (λ p t. Led-pair p t) above
        (λ o v t g h. (g, h)) x.stmts y.stmts r s (led r s z) (λ r' s' z'. value.sim r' s' z')

  module _ (d : Designation) (e : Meaning) (later : Registers) (k : ℕ) (above : w.base ≤ k) (x : Piece Place) (y : Piece Expr)
      (place : IsPlace w d (also e.effects.assigned later) k x) (value : IsOperand w e later (k + length x.temps) y) where
    abbrev pub Pair : Option Spot × Option Value → Regs → Type 0
    Pair p t = Leads w x.value p.0 t × Gives w y.value p.1 t

    pub sim_pair : (r s : Regs) → Agree w r s →
        Sim w (After w (also d.effects.assigned e.effects.assigned) later k (length x.temps + length y.temps) (λ p t. Pair p t) s) (place_and_value d e later) r (code_tree w (x.stmts ++ y.stmts)) s
    sim_pair r s z = sim_led d e later k above x y value (Leads w x.value) (λ r s a. place.sim r s a) r s z

    -- ---- the write of a place that is no register, whose answer nobody uses

    abbrev Pair-apart : Option Spot × Option Value → Regs → Type 0
    Pair-apart p t = Led-apart w d x.value p.0 t × Gives w y.value p.1 t

    pair_apart : AllAnswers w.p w.openings (IsApart w d) (d.leads (also e.effects.assigned later)) → (r s : Regs) → Agree w r s →
        Sim w (After w (also d.effects.assigned e.effects.assigned) later k (length x.temps + length y.temps) (λ p t. Pair-apart p t) s) (place_and_value d e later) r (code_tree w (x.stmts ++ y.stmts)) s
    pair_apart shared r s z = sim_led d e later k above x y value (Led-apart w d x.value) (λ r s a. led_apart w d (also e.effects.assigned later) k x shared place r s a) r s z

    abbrev keeps : Option Value → Get Value
    keeps v = needs v known

    abbrev stores : Option Spot × Option Value → Get (Option Value)
    stores p = stored cp d p.0 p.1 p.1

    puts : stmt_tree w (Do (Assign x.value y.value)) ≡ put_tree (put_operands w (designation cq x.value) (meaning cq y.value)) (is_seen d.ctype)
    puts = tree-put w x.value y.value ∙ ap (λ (b : Bool). put_tree (put_operands w (designation cq x.value) (meaning cq y.value)) b) (seen_agrees (designation cq x.value).ctype d.ctype place.ctype)

    runs : (p : Option Spot × Option Value) (t : Regs) → Pair p t → Runs w (reached w.p d.ctype p.0, p.1) t (put_operands w (designation cq x.value) (meaning cq y.value)) t
    runs p t h =
        subst (λ (c : Option Cell). Runs w (c, p.1) t (put_operands w (designation cq x.value) (meaning cq y.value)) t)
        (reached_agrees w.q (designation cq x.value).ctype d.ctype place.ctype p.0 ∙ same_reached w alike d.ctype p.0)
        (puts_runs w x.value y.value p.0 p.1 t value.assigned h.0 h.1)

    pub put_alone : AllAnswers w.p w.openings (IsApart w d) (d.leads (also e.effects.assigned later)) → (r s : Regs) → Agree w r s →
        Sim w (Worked w (also d.effects.assigned e.effects.assigned) k s) (good (assigned_next cp d e later)) r (code_tree w ((x.stmts ++ y.stmts) ++ Do (Assign x.value y.value) ∷ [])) s
    put_alone shared r s z =
        let Q = Worked w (also d.effects.assigned e.effects.assigned) k s in
        subst (λ g. Sim w Q g r (code_tree w ((x.stmts ++ y.stmts) ++ Do (Assign x.value y.value) ∷ [])) s) (sym (bind-assoc (place_and_value d e later) stores keeps))
        (sim_then w (After w (also d.effects.assigned e.effects.assigned) later k (length x.temps + length y.temps) (λ p t. Pair-apart p t) s) Q (λ p. bind (stores p) keeps) (x.stmts ++ y.stmts) (Do (Assign x.value y.value) ∷ [])
        (place_and_value d e later) r s (pair_apart shared r s z)
        (λ p r' s' q.
        subst (λ h. Sim w Q (bind (stores p) keeps) r' (bind h (λ u. known tt)) s') (sym puts)
        (sim_put w Q (known tt) (is_seen d.ctype) keeps p.1 r' s' (put_operands w (designation cq x.value) (meaning cq y.value)) (reached w.p d.ctype p.0) p.1
        (let h = holds_now w later k (k + (length x.temps + length y.temps)) (λ t. Pair-apart p t) s' q.value in runs p s' (h.0.0, h.1))
        (λ c f. (holds_now w later k (k + (length x.temps + length y.temps)) (λ t. Pair-apart p t) s' q.value).0.1 c f)
        (λ v f. subst (λ (z : Option Value). Sim w Q (keeps z) r' (known tt) s') (sym f) (Done v tt refl refl (record { agree = q.agree; kept = q.kept }))))))
