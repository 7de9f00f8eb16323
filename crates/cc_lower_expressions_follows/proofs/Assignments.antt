-- Assignments.
use Rattle.std.proofs.Common.{Bool, ◌≡◌, ◌≤◌, ℕ, suc, ◌+◌, true, [], ◌∷◌, ◌++◌, length, Option, Some, None, refl, ap, sym, ◌∙◌, subst, arith}
use Rattle.std.proofs.lemmas.List.{length-append}
use Rattle.cc_program.specs.declared.stmt.Stmt.{Do}
use Rattle.cc_program.specs.declared.expr.Expr.{Expr, Assign}
use Rattle.cc_program.specs.declared.expr.Place.{Place}
use Rattle.cc_program.specs.declared.value.Cell.{Cell}
use Rattle.cc_program.specs.declared.value.Value.{Value}
use Rattle.cc_states.specs.CcSyntax.Effects.{Registers, also}
use Rattle.cc_states.specs.CcSyntax.Registers.{is_register}
use Rattle.cc_states.specs.CcEval.declared.spots.Spot.{Spot}
use Rattle.cc_states.specs.CcEval.Context.{Context, is_seen, reached}
use Rattle.cc_states.specs.CcEval.Eval.{Meaning, Designation, meaning, designation, assigned as assigned_next}
use Rattle.cc_lower_expressions.specs.Expressions.{Piece, piece, Lowering, PlaceLowering, temp, value_of}
use Rattle.cc_lower_expressions_follows.specs.Trees.{Regs, Setting, context_p, context_q, Sim, Runs}
use Rattle.cc_lower_expressions_follows.specs.Relation.{code_tree, stmt_tree, Alike, Declared, Gives, Leads}
use Rattle.cc_lower_expressions_follows.specs.Claims.{After, IsOperand, IsPlace, IsRight, IsRightPlace}
use Rattle.cc_lower_expressions_follows.proofs.Rules.{put_tree}
use Rattle.cc_lower_expressions_follows.proofs.Assigns.{sim_assigned}
use Rattle.cc_lower_expressions_follows.proofs.Loads.{temp_gives, local_value_unassigning, temp_agrees}
use Rattle.cc_lower_expressions_follows.proofs.Operands.{declared_left, declared_right}
use Rattle.cc_lower_expressions_follows.proofs.Reached.{same_reached}
use Rattle.cc_lower_expressions_follows.proofs.Statements.{put_operands, tree-put, puts_runs}
use Rattle.cc_lower_expressions_follows.proofs.Agreement.{seen_agrees, reached_agrees}
use Rattle.cc_lower_expressions_follows.proofs.Apart.{Led-apart, led_apart}

module _ (w : Setting) (alike : Alike w) where
  abbrev cp : Context
  cp = context_p w

  abbrev cq : Context
  cq = context_q w

  -- ---- the value of an assignment to a place that is no register

  module _ (d : Designation) (l : PlaceLowering) (e : Meaning) (le : Lowering) (right : IsRightPlace w d l) (righte : IsRight w e le) (none : d.effects.register ≡ None)
      (m : Meaning) (same : m.effects.assigned ≡ also d.effects.assigned e.effects.assigned) (typed : m.ctype ≡ value_of l) (next : (later : Registers) → m.next later ≡ assigned_next cp d e later)
      (later : Registers) (k : ℕ) (above : w.base ≤ k) where
    abbrev pub x : Piece Place
    x = l.operands (also e.effects.assigned later) k

    abbrev pub n : ℕ
    n = k + length x.temps

    abbrev pub y : Piece (Unit {0})
    y = le.whole (value_of l) n later (n + 1)

    abbrev pub made : Piece Expr
    made = piece (x.temps ++ (value_of l ∷ (y.temps ++ []))) (x.stmts ++ (y.stmts ++ Do (Assign x.value (temp n)) ∷ [])) (temp n)

    module _ (declared : Declared w k made.temps) where
      place : IsPlace w d (also e.effects.assigned later) k x
      place = right.operands (also e.effects.assigned later) k above (declared_left w k x.temps (value_of l ∷ (y.temps ++ [])) declared)

      behind : Declared w n (value_of l ∷ (y.temps ++ []))
      behind = declared_right w k x.temps (value_of l ∷ (y.temps ++ [])) declared

      in_n : is_register w.to n ≡ true
      in_n = behind.0.register

      rest : Declared w (n + 1) y.temps
      rest = subst (λ j. Declared w j y.temps) one_more (declared_left w (suc n) y.temps [] behind.1)
        where
          one_more : suc n ≡ n + 1
          one_more = omega arith

      puts : stmt_tree w (Do (Assign x.value (temp n))) ≡ put_tree (put_operands w (designation cq x.value) (meaning cq (temp n))) (is_seen d.ctype)
      puts = tree-put w x.value (temp n) ∙ ap (λ (b : Bool). put_tree (put_operands w (designation cq x.value) (meaning cq (temp n))) b) (seen_agrees (designation cq x.value).ctype d.ctype place.ctype)

      leads : (o : Option Spot) (v : Value) (t : Regs) → Leads w x.value o t → t n ≡ Some v → Runs w (reached w.p d.ctype o, Some v) t (put_operands w (designation cq x.value) (meaning cq (temp n))) t
      leads o v t h f =
          subst (λ (c : Option Cell). Runs w (c, Some v) t (put_operands w (designation cq x.value) (meaning cq (temp n))) t)
          (reached_agrees w.q (designation cq x.value).ctype d.ctype place.ctype o ∙ same_reached w alike d.ctype o)
          (puts_runs w x.value (temp n) o (Some v) t (local_value_unassigning w alike n) h (temp_gives w alike n in_n (Some v) t f))

      pub assigned_operand : IsOperand w m later k made
      assigned_operand = record {
        assigned = local_value_unassigning w alike n;
        ctype = temp_agrees w alike n (value_of l) m.ctype behind.0 typed;
        sim = λ r s z.
            subst (λ (q : Registers). Sim w (After w q later k (length made.temps) (Gives w (temp n)) s) (m.next later) r (code_tree w made.stmts) s) (sym same)
            (subst (λ g. Sim w (After w (also d.effects.assigned e.effects.assigned) later k (length made.temps) (Gives w (temp n)) s) g r (code_tree w made.stmts) s) (sym (next later))
            (sim_assigned w (d.leads (also e.effects.assigned later)) (e.next later) (reached w.p d.ctype) (is_seen d.ctype) d.effects.assigned e.effects.assigned later k (length x.temps) (length made.temps) (n + 1)
            fits (Led-apart w d x.value) (Gives w (temp n)) above n refl (omega arith) x.stmts y.stmts (Do (Assign x.value (temp n))) (put_operands w (designation cq x.value) (meaning cq (temp n))) puts (λ o v t h f. leads o v t h.0 f) (λ o t h c f. h.1 c f)
            (temp_gives w alike n in_n) r s (led_apart w d (also e.effects.assigned later) k x (right.shared none (also e.effects.assigned later)) place r s z)
            (λ r' s' z'. righte.whole (value_of l) n later (n + 1) (omega (arith, above)) (omega arith) in_n rest r' s' z')));
      }
        where
          fits : suc (length x.temps) ≤ length made.temps
          fits = let e = length-append x.temps (value_of l ∷ (y.temps ++ [])) in omega (arith, e)
