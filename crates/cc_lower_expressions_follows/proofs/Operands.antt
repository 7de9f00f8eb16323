-- Operands, and what is made of them.
use Rattle.std.proofs.Common.{◌≡◌, ℕ, suc, ◌+◌, [], ◌∷◌, ◌++◌, length, Option, refl, ap, sym, ◌∙◌, subst, arith}
use Rattle.std.proofs.Math.Path.{fun_ext}
use Rattle.std.proofs.lemmas.List.{length-append}
use Rattle.cc_program.specs.declared.expr.Expr.{Expr}
use Rattle.cc_program.specs.declared.value.Value.{Value}
use Rattle.cc_states.specs.CcSyntax.Effects.{Registers, no_one, also}
use Rattle.cc_states.specs.CcEval.Context.{Context}
use Rattle.cc_states.specs.CcEval.Eval.{Meaning, meaning, from_one as from_one_value, from_two as from_two_values}
use Rattle.cc_states.specs.CcEval.Progress.{Get, known, bind}
use Rattle.cc_lower_expressions.specs.Expressions.{Temps, Lowers, done, from_one, from_two}
use Rattle.cc_lower_expressions_follows.specs.Trees.{Regs, Setting, context_p, context_q, Sim, Done}
use Rattle.cc_lower_expressions_follows.specs.Relation.{code_tree, Declared, Gives}
use Rattle.cc_lower_expressions_follows.specs.Claims.{After, Operands}
use Rattle.cc_lower_expressions_follows.proofs.Frames.{kept_none}
use Rattle.cc_lower_expressions_follows.proofs.TreeLaws.{bind-assoc}
use Rattle.cc_lower_expressions_follows.proofs.Combined.{sim_one, sim_two}
use Rattle.cc_lower_expressions_follows.specs.Agreement.{TypesAgree}

pub from_two-form : {A : Type 0} (f : Option Value → Option Value → A) (a b : Meaning) (later : Registers) →
    from_two_values f a b later ≡ bind (a.next (also b.effects.assigned later)) (λ v. bind (b.next later) (λ u. known (f v u)))
from_two-form f a b later =
    bind-assoc (a.next (also b.effects.assigned later)) (λ v. bind (b.next later) (λ u. known (v, u))) (λ p. known (f p.0 p.1)) ∙
    ap (bind (a.next (also b.effects.assigned later))) (fun_ext (λ v. bind-assoc (b.next later) (λ u. known (v, u)) (λ p. known (f p.0 p.1))))

module _ (w : Setting) where
  pub declared_left : (k : ℕ) (xs ys : Temps) → Declared w k (xs ++ ys) → Declared w k xs
  declared_left k [] ys h = tt
  declared_left k (x ∷ xs) ys h = (h.0, declared_left (suc k) xs ys h.1)

  pub declared_right : (k : ℕ) (xs ys : Temps) → Declared w k (xs ++ ys) → Declared w (k + length xs) ys
  declared_right k [] ys h = subst (λ n. Declared w n ys) (omega arith) h
  declared_right k (x ∷ xs) ys h = subst (λ n. Declared w n ys) (omega arith) (declared_right (suc k) xs ys h.1)

  pub sim_count : {A : Type 0} (a later : Registers) (k n n' : ℕ) (G : A → Regs → Type 0) (s0 : Regs) (g : Get A) (r : Regs) (h : Get (Unit {0})) (s : Regs) → n ≡ n' →
      Sim w (After w a later k n G s0) g r h s → Sim w (After w a later k n' G s0) g r h s
  sim_count a later k n n' G s0 g r h s e d = subst (λ n. Sim w (After w a later k n G s0) g r h s) e d

  abbrev cp : Context
  cp = context_p w

  abbrev cq : Context
  cq = context_q w

  abbrev pub Unassigning : Expr → Type 0
  Unassigning e = (meaning cq e).effects.assigned ≡ no_one

  -- no step, no code
  module _ (m : Meaning) (e : Expr) (v : Option Value) (none : m.effects.assigned ≡ no_one) (next : (later : Registers) → m.next later ≡ known v)
      (pure : Unassigning e) (typed : TypesAgree (meaning cq e).ctype m.ctype) (gives : (t : Regs) → Gives w e v t) where
    pub operand_plain : Operands w m (λ later. done e)
    operand_plain later k above declared = record {
      assigned = pure;
      ctype = typed;
      sim = λ r s y. Done v tt (next later) refl (record { agree = y; kept = kept_none w m.effects.assigned k s; value = λ t h. gives t });
    }

  -- one operand
  module _ (f : Option Value → Option Value) (fe : Expr → Expr) (a m : Meaning) (same : m.effects.assigned ≡ a.effects.assigned) (next : (later : Registers) → m.next later ≡ from_one_value f a later)
      (makes : (e : Expr) → Unassigning e → TypesAgree (meaning cq e).ctype a.ctype → ((v : Option Value) (t : Regs) → Gives w e v t → Gives w (fe e) (f v) t) × Unassigning (fe e) × TypesAgree (meaning cq (fe e)).ctype m.ctype)
      (op : Lowers Expr) where
    pub operand_one : Operands w a op → Operands w m (from_one fe op)
    operand_one h later k above declared =
        let x = h later k above declared in
        let e = (op later k).value in
        let made = makes e x.assigned x.ctype in
        record {
          assigned = made.1;
          ctype = made.2;
          sim = λ r s y.
              subst (λ (z : Registers × Get (Option Value)). Sim w (After w z.0 later k (length (op later k).temps) (Gives w (fe e)) s) z.1 r (code_tree w (op later k).stmts) s) (ap (λ (q : Registers). (q, m.next later)) (sym same))
              (subst (λ g. Sim w (After w a.effects.assigned later k (length (op later k).temps) (Gives w (fe e)) s) g r (code_tree w (op later k).stmts) s) (sym (next later))
              (sim_one w (a.next later) f a.effects.assigned later k (length (op later k).temps) (Gives w e) (Gives w (fe e)) (λ v t g. made.0 v t g) (op later k).stmts r s (x.sim r s y)));
        }

  -- two operands
  module _ (f : Option Value → Option Value → Option Value) (fe : Expr → Expr → Expr) (a b m : Meaning) (same : m.effects.assigned ≡ also a.effects.assigned b.effects.assigned)
      (next : (later : Registers) → m.next later ≡ from_two_values f a b later)
      (makes : (e d : Expr) → Unassigning e → Unassigning d → TypesAgree (meaning cq e).ctype a.ctype → TypesAgree (meaning cq d).ctype b.ctype →
      ((v u : Option Value) (t : Regs) → Gives w e v t → Gives w d u t → Gives w (fe e d) (f v u) t) × Unassigning (fe e d) × TypesAgree (meaning cq (fe e d)).ctype m.ctype)
      (opa opb : Lowers Expr) where
    pub operand_two : Operands w a opa → Operands w b opb → Operands w m (from_two fe b.effects.assigned opa opb)
    operand_two ha hb later k above declared =
        let first = opa (also b.effects.assigned later) k in
        let j = k + length first.temps in
        let second = opb later j in
        let x = ha (also b.effects.assigned later) k above (declared_left k first.temps second.temps declared) in
        let y = hb later j (omega arith) (declared_right k first.temps second.temps declared) in
        let made = makes first.value second.value x.assigned y.assigned x.ctype y.ctype in
        record {
          assigned = made.1;
          ctype = made.2;
          sim = λ r s z.
              subst (λ (q : Registers). Sim w (After w q later k (length (first.temps ++ second.temps)) (Gives w (fe first.value second.value)) s) (m.next later) r (code_tree w (first.stmts ++ second.stmts)) s) (sym same)
              (subst (λ g. Sim w (After w (also a.effects.assigned b.effects.assigned) later k (length (first.temps ++ second.temps)) (Gives w (fe first.value second.value)) s) g r (code_tree w (first.stmts ++ second.stmts)) s)
              (sym (next later ∙ from_two-form f a b later))
              (sim_count (also a.effects.assigned b.effects.assigned) later k (length first.temps + length second.temps) (length (first.temps ++ second.temps)) (Gives w (fe first.value second.value)) s
              (bind (a.next (also b.effects.assigned later)) (λ v. bind (b.next later) (λ u. known (f v u)))) r (code_tree w (first.stmts ++ second.stmts)) s (sym (length-append first.temps second.temps))
              (sim_two w (a.next (also b.effects.assigned later)) (b.next later) f a.effects.assigned b.effects.assigned later k (length first.temps) (length second.temps)
              (Gives w first.value) (Gives w second.value) (Gives w (fe first.value second.value)) above (λ v u t g h. made.0 v u t g h)
              first.stmts second.stmts r s (x.sim r s z) (λ r' s' z'. y.sim r' s' z'))));
        }
