-- The whole right side of an assignment to a register, and the value of an assignment.
use Rattle.std.proofs.Common.{◌≡◌, ◌<◌, ◌≤◌, ◌==◌, ℕ, ◌+◌, List, [], ◌∷◌, ◌++◌, Option, Some, true, false, refl, subst, ap, sym, ◌∙◌, arith}
use Rattle.std.proofs.lemmas.Bool.Decides.{nat_tests}
use Rattle.cc_program.specs.declared.value.Value.{Value}
use Rattle.cc_states.specs.CcEval.Progress.{Get, known, bind, needs}
use Rattle.cc_lower_expressions_follows.specs.Trees.{Regs, with_reg, Setting, Stuck, Sim, Done, Runs}
use Rattle.cc_states.specs.CcSyntax.Registers.{is_register}
use Rattle.cc_states.specs.CcSyntax.Effects.{Registers}
use Rattle.cc_lower_expressions_follows.specs.Relation.{Agree, Kept, Post, Wrote}
use Rattle.cc_program.specs.declared.stmt.Stmt.{Stmt}
use Rattle.cc_lower_expressions_follows.specs.Relation.{stmt_tree}
use Rattle.cc_lower_expressions_follows.proofs.Frames.{holds_now}
use Rattle.cc_lower_expressions_follows.proofs.Rules.{set_tree, sim_set}
use Rattle.cc_lower_expressions_follows.proofs.Combined.{code, sim_then}
use Rattle.cc_lower_expressions_follows.specs.Claims.{good, After, Written}

pub reg_here : (s : Regs) (n : ℕ) (x : Value) → with_reg s n x n ≡ Some x
reg_here s n x = rw (itself n) refl
  where
    itself : (n : ℕ) → (n == n) ≡ true
    itself n = grind (arith, nat_tests)

pub reg_other : (s : Regs) (n i : ℕ) (x : Value) → (n == i) ≡ false → with_reg s n x i ≡ s i
reg_other s n i x e = rw e refl

pub below_other : (n i : ℕ) → i < n → (n == i) ≡ false
below_other n i h = grind (arith, nat_tests)

module _ (w : Setting) where
  abbrev tree : Stmt → Get (Unit {0})
  tree = stmt_tree w

  -- of a temporary
  pub wrote_temp : (assigned : Registers) (k n : ℕ) (x : Value) (s r' s' : Regs) → w.base ≤ n → Wrote w assigned k n x s r' s' → Agree w r' s'
  wrote_temp assigned k n x s r' s' h y = record { same = λ i l. y.same i l (below_other n i (omega arith)) }

  pub wrote_kept : (assigned : Registers) (k n : ℕ) (x : Value) (s r' s' : Regs) → w.base ≤ n → n ≤ k → Wrote w assigned k n x s r' s' → Kept w assigned n s s'
  wrote_kept assigned k n x s r' s' h le y = record {
    regs = λ i l e. y.regs i l (below_other n i (omega arith)) e;
    temps = λ i l b. y.temps i l (omega arith) (below_other n i b);
  }

  module _ (g : Get (Option Value)) (assigned later : Registers) (k m n : ℕ) (e : Get (Option Value)) (xs : List Stmt) (one : Stmt) (sets : tree one ≡ set_tree w e n) (register : is_register w.to n ≡ true) where
    abbrev Evaluates : Option Value → Regs → Type 0
    Evaluates v t = Runs w v t e t

    set_post : (s : Regs) (v : Option Value) (r' s' : Regs) (x : Value) → v ≡ Some x → Post w assigned later k m (Evaluates v) s r' s' → Wrote w assigned k n x s r' (with_reg s' n x)
    set_post s v r' s' x eq y = record {
      here = reg_here s' n x;
      same = λ i l f. y.agree.same i l ∙ sym (reg_other s' n i x f);
      regs = λ i l f a. y.kept.regs i l a ∙ sym (reg_other s' n i x f);
      temps = λ i l b f. y.kept.temps i l b ∙ sym (reg_other s' n i x f);
    }

    last : (u : Regs → Regs → Type 0) → code w (one ∷ []) ≡ bind (set_tree w e n) known
    last u = ap (λ h. bind h known) sets

    set_last : (s : Regs) (v : Option Value) (r' s' : Regs) → Post w assigned later k m (Evaluates v) s r' s' → Sim w (Written w assigned k n s) (needs v known) r' (code w (one ∷ [])) s'
    set_last s v r' s' y =
        subst (λ h. Sim w (Written w assigned k n s) (needs v known) r' h s') (sym (ap (λ h. bind h (λ u. known tt)) sets))
        (sim_set w (Written w assigned k n s) (known tt) e n v (needs v known) r' s' register (holds_now w later k (k + m) (Evaluates v) s' y.value)
        (λ f. Stuck [] (ap (λ (v : Option Value). needs v known []) f))
        (λ x f. subst (λ v. Sim w (Written w assigned k n s) (needs v known) r' (known tt) (with_reg s' n x)) (sym f) (Done x tt refl refl (set_post s v r' s' x f y))))

    -- by default: the operand, and then the write
    pub whole_set : (r s : Regs) → Sim w (After w assigned later k m Evaluates s) g r (code w xs) s → Sim w (Written w assigned k n s) (good g) r (code w (xs ++ one ∷ [])) s
    whole_set r s d = sim_then w (After w assigned later k m Evaluates s) (Written w assigned k n s) (λ v. needs v known) xs (one ∷ []) g r s d (λ v r' s' y. set_last s v r' s' y)
