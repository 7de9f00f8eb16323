-- By default; and commas, addresses, and what is pure as a whole.
use Rattle.std.proofs.Common.{◌≡◌, ◌≤◌, ℕ, suc, ◌+◌, Bool, true, false, ◌||◌, List, [], ◌∷◌, ◌++◌, length, Option, Some, None, refl, ap, sym, ◌∙◌, subst, arith}
use Rattle.std.proofs.Math.Path.{fun_ext}
use Rattle.cc_program.specs.declared.stmt.Stmt.{Stmt}
use Rattle.cc_program.specs.declared.expr.Expr.{Expr, AddrOf}
use Rattle.cc_program.specs.declared.expr.Place.{Place}
use Rattle.cc_program.specs.declared.value.Value.{Value}
use Rattle.cc_states.specs.CcSyntax.Effects.{Registers, no_one, also}
use Rattle.cc_states.specs.CcSyntax.Registers.{is_register}
use Rattle.cc_states.specs.CcEval.declared.spots.Spot.{Spot}
use Rattle.cc_states.specs.CcEval.Context.{Context}
use Rattle.cc_states.specs.CcEval.Eval.{Meaning, Designation, meaning, designation, address_of, sequence}
use Rattle.cc_states.specs.CcEval.Progress.{Get, known, bind, needs}
use Rattle.cc_lower_expressions.specs.Expressions.{Piece, piece, mapped, onto}
use Rattle.cc_lower_expressions_follows.specs.Trees.{Regs, Setting, context_p, context_q, Other, Sim, Done, Runs, Is}
use Rattle.cc_lower_expressions_follows.specs.Relation.{code_tree, Alike, Agree, Kept, Gives, Leads}
use Rattle.cc_lower_expressions_follows.specs.Claims.{After, Written, Worked, good, IsOperand, IsPlace}
use Rattle.cc_lower_expressions_follows.proofs.Combined.{sim_one, sim_then}
use Rattle.cc_lower_expressions_follows.proofs.Frames.{kept_none, kept_then, holds_in}
use Rattle.cc_lower_expressions_follows.proofs.Forks.{arm_set}
use Rattle.cc_lower_expressions_follows.proofs.Opened.{at-AddrOf}
use Rattle.cc_lower_expressions_follows.proofs.Pure.{PureExpr}
use Rattle.cc_lower_expressions_follows.proofs.TreeLaws.{bind-assoc, bind-known, runs_bind, sim_left, sim_weaker}
use Rattle.cc_lower_expressions_follows.proofs.Whole.{wrote_temp, wrote_kept}
use Rattle.cc_lower_expressions_follows.specs.Agreement.{TypesAgree, PlacesAgree}
use Rattle.cc_lower_expressions_follows.proofs.Agreement.{equal_types}

-- a bad value of the first is dropped
needs_after : {A : Type 0} (v : Option Value) (g : Get A) → needs v (λ x. g) ≡ bind (needs v known) (λ x. g)
needs_after None g = refl
needs_after (Some x) g = refl

module _ (w : Setting) (alike : Alike w) where
  abbrev cp : Context
  cp = context_p w

  abbrev cq : Context
  cq = context_q w

  -- ---- what is pure as a whole stays as it is

  pub operand_itself : (m : Meaning) (e : Expr) (later : Registers) (k : ℕ) → PureExpr w m (meaning cq e) later → IsOperand w m later k (piece [] [] e)
  operand_itself m e later k h = record {
    assigned = h.none_q;
    ctype = equal_types h.ctype;
    sim = λ r s y.
        let x = h.runs r in
        subst (λ g. Sim w (After w m.effects.assigned later k 0 (Gives w e) s) g r (code_tree w []) s) (bind-known (m.next later))
        (sim_left w (After w m.effects.assigned later k 0 (Gives w e) s) known x.left
        (Done x.answer tt refl refl (record { agree = y; kept = kept_none w m.effects.assigned k s; value = λ t z. x.right t (λ i l f. y.same i l ∙ z.regs i l f) })));
  }

  -- ---- the address of a place

  pub address_operand : (d : Designation) (m : Meaning) (later : Registers) (k : ℕ) (x : Piece Place) → m.effects.assigned ≡ d.effects.assigned → m.next later ≡ bind (d.leads later) (λ s. known (address_of s)) →
      ((a : Place) → PlacesAgree (designation cq a).ctype d.ctype → TypesAgree (meaning cq (AddrOf a)).ctype m.ctype) → IsPlace w d later k x → IsOperand w m later k (mapped AddrOf x)
  address_operand d m later k x same next typed h = record {
    assigned = ap (λ (m : Meaning). m.effects.assigned) (at-AddrOf cq x.value) ∙ h.assigned;
    ctype = typed x.value h.ctype;
    sim = λ r s y.
        subst (λ (q : Registers). Sim w (After w q later k (length x.temps) (Gives w (AddrOf x.value)) s) (m.next later) r (code_tree w x.stmts) s) (sym same)
        (subst (λ g. Sim w (After w d.effects.assigned later k (length x.temps) (Gives w (AddrOf x.value)) s) g r (code_tree w x.stmts) s) (sym next)
        (sim_one w (d.leads later) address_of d.effects.assigned later k (length x.temps) (Leads w x.value) (Gives w (AddrOf x.value)) gives x.stmts r s (h.sim r s y)));
  }
    where
      gives : (o : Option Spot) (t : Regs) → Leads w x.value o t → Gives w (AddrOf x.value) (address_of o) t
      gives o t l = subst (λ (m : Meaning). Runs w (address_of o) t (m.next no_one) t) (sym (at-AddrOf cq x.value)) (runs_bind (Other w) (λ s. known (address_of s)) l (Is refl))

  -- ---- by default: an operand is the whole right side, or goes to a temporary that nobody reads

  pub whole_default : (m : Meaning) (later : Registers) (k n : ℕ) (x : Piece Expr) → is_register w.to n ≡ true → IsOperand w m later k x → (r s : Regs) → Agree w r s →
      Sim w (Written w m.effects.assigned k n s) (good (m.next later)) r (code_tree w (x.stmts ++ Rattle.cc_lower_expressions.specs.Expressions.set n x.value ∷ [])) s
  whole_default m later k n x in_n h r s y = arm_set w alike x m.effects.assigned later k n (m.next later) x.value in_n r s (h.sim r s y)

  -- what writes a new temporary has done its work
  pub written_worked : (assigned : Registers) (k n : ℕ) (s : Regs) (g : Get Value) (r : Regs) (h : Get (Unit {0})) → w.base ≤ k → n ≡ k →
      Sim w (Written w assigned (suc n) n s) g r h s → Sim w (Worked w assigned k s) g r h s
  written_worked assigned k n s g r h above e d =
      sim_weaker w (Written w assigned (suc n) n s) (Worked w assigned k s)
      (λ x u r' s' y. record {
        agree = wrote_temp w assigned (suc n) n x s r' s' (omega (arith, above, e)) y;
        kept = subst (λ j. Kept w assigned j s s') e (wrote_kept w assigned (suc n) n x s r' s' (omega (arith, above, e)) (omega arith) y);
      }) d

  -- ---- the left operand of a comma is worked, and then the right one

  module _ (a b : Meaning) (later : Registers) (k n m : ℕ) (above : w.base ≤ k) (xs ys : List Stmt)
      (first : (r s : Regs) → Agree w r s → Sim w (Worked w a.effects.assigned k s) (good (a.next (also b.effects.assigned later))) r (code_tree w xs) s) where
    sequence-form : sequence a b later ≡ bind (good (a.next (also b.effects.assigned later))) (λ x. b.next later)
    sequence-form =
        ap (bind (a.next (also b.effects.assigned later))) (fun_ext (λ v. needs_after v (b.next later))) ∙
        sym (bind-assoc (a.next (also b.effects.assigned later)) (λ v. needs v known) (λ x. b.next later))

    pub sequence_operand : (e : Expr) → ((r s : Regs) → Agree w r s → Sim w (After w b.effects.assigned later (k + n) m (Gives w e) s) (b.next later) r (code_tree w ys) s) → (r s : Regs) → Agree w r s →
        Sim w (After w (also a.effects.assigned b.effects.assigned) later k (n + m) (Gives w e) s) (sequence a b later) r (code_tree w (xs ++ ys)) s
    sequence_operand e second r s y =
        let Q = After w (also a.effects.assigned b.effects.assigned) later k (n + m) (Gives w e) s in
        subst (λ g. Sim w Q g r (code_tree w (xs ++ ys)) s) (sym sequence-form)
        (sim_then w (Worked w a.effects.assigned k s) Q (λ x. b.next later) xs ys (good (a.next (also b.effects.assigned later))) r s (first r s y)
        (λ x r' s' z. sim_weaker w (After w b.effects.assigned later (k + n) m (Gives w e) s') Q
        (λ v u r2 s2 q. record {
          agree = q.agree;
          kept = kept_then w a.effects.assigned b.effects.assigned k (k + n) s s' s2 (omega arith) z.kept q.kept;
          value = holds_in w later (k + n) (k + n + m) k (k + (n + m)) (Gives w e v) s2 (omega arith) (omega arith) q.value;
        }) (second r' s' z.agree)))

    -- as an expression statement
    pub sequence_effect : ((r s : Regs) → Agree w r s → Sim w (Worked w b.effects.assigned (k + n) s) (good (b.next later)) r (code_tree w ys) s) → (r s : Regs) → Agree w r s →
        Sim w (Worked w (also a.effects.assigned b.effects.assigned) k s) (good (sequence a b later)) r (code_tree w (xs ++ ys)) s
    sequence_effect second r s y =
        let Q = Worked w (also a.effects.assigned b.effects.assigned) k s in
        subst (λ g. Sim w Q g r (code_tree w (xs ++ ys)) s) (sym (ap good sequence-form ∙ bind-assoc (good (a.next (also b.effects.assigned later))) (λ x. b.next later) (λ v. needs v known)))
        (sim_then w (Worked w a.effects.assigned k s) Q (λ x. good (b.next later)) xs ys (good (a.next (also b.effects.assigned later))) r s (first r s y)
        (λ x r' s' z. sim_weaker w (Worked w b.effects.assigned (k + n) s') Q
        (λ v u r2 s2 q. record { agree = q.agree; kept = kept_then w a.effects.assigned b.effects.assigned k (k + n) s s' s2 (omega arith) z.kept q.kept }) (second r' s' z.agree)))

    -- as a whole right side
    pub sequence_whole : (j : ℕ) → ((r s : Regs) → Agree w r s → Sim w (Written w b.effects.assigned (k + n) j s) (good (b.next later)) r (code_tree w ys) s) → (r s : Regs) → Agree w r s →
        Sim w (Written w (also a.effects.assigned b.effects.assigned) k j s) (good (sequence a b later)) r (code_tree w (xs ++ ys)) s
    sequence_whole j second r s y =
        let Q = Written w (also a.effects.assigned b.effects.assigned) k j s in
        subst (λ g. Sim w Q g r (code_tree w (xs ++ ys)) s) (sym (ap good sequence-form ∙ bind-assoc (good (a.next (also b.effects.assigned later))) (λ x. b.next later) (λ v. needs v known)))
        (sim_then w (Worked w a.effects.assigned k s) Q (λ x. good (b.next later)) xs ys (good (a.next (also b.effects.assigned later))) r s (first r s y)
        (λ x r' s' z. sim_weaker w (Written w b.effects.assigned (k + n) j s') Q
        (λ v u r2 s2 q. record {
          here = q.here;
          same = q.same;
          regs = λ i l f g. let p = either_false (a.effects.assigned i) (b.effects.assigned i) g in z.kept.regs i l p.0 ∙ q.regs i l f p.1;
          temps = λ i l c f. z.kept.temps i l c ∙ q.temps i l (omega arith) f;
        }) (second r' s' z.agree)))
      where
        either_false : (x y : Bool) → (x || y) ≡ false → (x ≡ false) × (y ≡ false)
        either_false true y g = absurd (cc)
        either_false false y g = (refl, g)
