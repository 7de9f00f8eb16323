-- Assignments to registers of p.
use Rattle.std.proofs.Common.{◌≡◌, ◌<◌, ◌≤◌, ◌==◌, ℕ, suc, ◌+◌, Bool, true, false, ◌||◌, List, [], ◌∷◌, ◌++◌, Option, Some, refl, ap, sym, ◌∙◌, subst, arith}
use Rattle.std.proofs.lemmas.Bool.Decides.{nat_tests}
use Rattle.cc_program.specs.declared.stmt.Stmt.{Stmt}
use Rattle.cc_program.specs.declared.expr.Place.{Local}
use Rattle.cc_program.specs.declared.value.Value.{Value}
use Rattle.cc_states.specs.CcSyntax.Effects.{Registers, no_one, also, only}
use Rattle.cc_states.specs.CcSyntax.Registers.{is_register}
use Rattle.cc_states.specs.CcSyntax.Values.{ValueType, PlaceType}
use Rattle.cc_states.specs.CcEval.declared.action.Action.TheVariants.{Write}
use Rattle.cc_states.specs.CcEval.declared.mark.Mark.TheVariants.{Did}
use Rattle.cc_states.specs.CcEval.declared.spots.Spot.{Spot}
use Rattle.cc_states.specs.CcEval.Context.{Context, is_seen, reached}
use Rattle.cc_states.specs.CcEval.Eval.{Meaning, Designation, meaning, designation, assigned as assigned_next}
use Rattle.cc_states.specs.CcEval.Progress.{Get, known, ask, bind, needs}
use Rattle.cc_states.specs.Typed.{HasType, cell_type}
use Rattle.cc_lower_expressions.specs.Expressions.{temp, set}
use Rattle.cc_lower_expressions_follows.specs.Trees.{Regs, with_reg, Setting, context_p, context_q, register_cell, Sim, Done, Left, Writes}
use Rattle.cc_lower_expressions_follows.specs.Relation.{code_tree, Alike, Agree, Post, Wrote, Ran, Gives}
use Rattle.cc_lower_expressions_follows.specs.Claims.{After, Written, Worked, good}
use Rattle.cc_lower_expressions_follows.proofs.Answered.{AllAnswers, sim_with, And}
use Rattle.cc_lower_expressions_follows.proofs.Assigns.{assigned, assigned-form, store}
use Rattle.cc_lower_expressions_follows.proofs.Combined.{sim_then}
use Rattle.cc_lower_expressions_follows.proofs.Rules.{sim_set}
use Rattle.cc_lower_expressions_follows.proofs.Loads.{temp_gives}
use Rattle.cc_lower_expressions_follows.proofs.Statements.{tree-set}
use Rattle.cc_lower_expressions_follows.proofs.TreeLaws.{bind-assoc, bind-known, sim_bind}
use Rattle.cc_lower_expressions_follows.proofs.Values.{its_spot, local_leads}
use Rattle.cc_lower_expressions_follows.proofs.Whole.{wrote_temp, wrote_kept, reg_here, reg_other}

module _ (w : Setting) (alike : Alike w) where
  abbrev cp : Context
  cp = context_p w

  abbrev cq : Context
  cq = context_q w

  -- a value that the register i may hold
  abbrev pub Fits : ℕ → Value → Type 0
  Fits i x = (t : ValueType) × (cell_type w.p (register_cell w i) ≡ Some t) × HasType w.p w.openings t x

  module _ (i : ℕ) (below : i < w.base) (register : is_register w.from i ≡ true) (e : Meaning) (later : Registers) where
    abbrev d : Designation
    d = designation cp (Local i)

    in_q : is_register w.to i ≡ true
    in_q = alike.registers i below ∙ register

    abbrev pub written : Value → Get (Option Value)
    written x = ask (Write (register_cell w i) false x) (λ m. Some x)

    -- what an assignment asks for
    pub assigns : assigned_next cp d e later ≡ bind (good (e.next later)) written
    assigns =
        ap (λ (g : Get (Option Spot)). assigned g (e.next later) (reached w.p d.ctype) (is_seen d.ctype)) (local_leads cp i (also e.effects.assigned later)) ∙
        assigned-form (known (its_spot cp i)) (e.next later) (reached w.p d.ctype) (is_seen d.ctype) ∙
        (let u = alike.unseen i in_q in
        let f : d.ctype ≡ Some u.0 = sym (alike.places i below) ∙ u.1 in
        ap (λ (t : Option PlaceType). bind (good (e.next later)) (λ x. store (reached w.p t (its_spot cp i)) (is_seen t) (Some x) (Some x))) f ∙
        ap (λ (b : Bool). bind (good (e.next later)) (λ x. store (Some (register_cell w i)) b (Some x) (Some x))) u.2)

    pub own_write : (r s : Regs) (x : Value) {A B : Type 0} (Q : A → B → Regs → Regs → Type 0) (f : Option Value → Get A) (h : Get B) → Sim w Q (f (Some x)) (with_reg r i x) h s → Sim w Q (bind (written x) f) r h s
    own_write r s x Q f h next = Left (with_reg r i x) (Write (register_cell w i) false x) Did refl (Writes i x refl register refl refl) (λ mark. next)

    -- both have the value
    module _ (r s : Regs) (x : Value) (others : (j : ℕ) → j < w.base → (i == j) ≡ false → r j ≡ s j) (here : s i ≡ Some x) where
      same_at : (j : ℕ) → j < w.base → (b : Bool) → (i == j) ≡ b → with_reg r i x j ≡ s j
      same_at j l true f = rw f (sym (subst (λ j. s j ≡ Some x) (equal f) here))
        where
          equal : (i == j) ≡ true → i ≡ j
          equal f = grind (arith, nat_tests)
      same_at j l false f = rw f (others j l f)

      pub agree_own : Agree w (with_reg r i x) s
      agree_own = record { same = λ j l. same_at j l (i == j) refl }

    -- ---- as an expression statement: the whole right side goes to the register

    module _ (k : ℕ) (above : w.base ≤ k) (ys : List Stmt) (all : AllAnswers w.p w.openings (Fits i) (good (e.next later)))
        (whole : (r s : Regs) → Agree w r s → Sim w (Written w e.effects.assigned k i s) (good (e.next later)) r (code_tree w ys) s) where
      first_false : (a b : Bool) → (a || b) ≡ false → (a ≡ false) × (b ≡ false)
      first_false true b f = absurd (cc)
      first_false false b f = (refl, f)

      worked : (s : Regs) (x : Value) (r' s' : Regs) → Wrote w e.effects.assigned k i x s r' s' → Fits i x → Ran w (also (only (Some i)) e.effects.assigned) k s (with_reg r' i x) s'
      worked s x r' s' y fits = record {
        agree = agree_own r' s' x y.same y.here;
        kept = record {
          regs = λ j l f. let g = first_false (i == j) (e.effects.assigned j) f in y.regs j l g.0 g.1;
          temps = λ j l b. y.temps j l b (differs j l);
        };
      }
        where
          differs : (j : ℕ) → w.base ≤ j → (i == j) ≡ false
          differs j l = grind (arith, nat_tests, below)

      pub assigned_alone : (r s : Regs) → Agree w r s → Sim w (Worked w (also (only (Some i)) e.effects.assigned) k s) (good (assigned_next cp d e later)) r (code_tree w ys) s
      assigned_alone r s z =
          subst (λ g. Sim w (Worked w (also (only (Some i)) e.effects.assigned) k s) g r (code_tree w ys) s) (sym (ap good assigns ∙ bind-assoc (good (e.next later)) written (λ v. needs v known)))
          (subst (λ h. Sim w (Worked w (also (only (Some i)) e.effects.assigned) k s) (bind (good (e.next later)) (λ x. bind (written x) (λ v. needs v known))) r h s) (bind-known (code_tree w ys))
          (sim_bind w (And w (Written w e.effects.assigned k i s) (Fits i)) (Worked w (also (only (Some i)) e.effects.assigned) k s) (λ x. bind (written x) (λ v. needs v known)) known
          (λ x u r' s' y. own_write r' s' x (Worked w (also (only (Some i)) e.effects.assigned) k s) (λ v. needs v known) (known u) (Done x u refl refl (worked s x r' s' y.0 y.1)))
          (sim_with w (Written w e.effects.assigned k i s) (Fits i) (whole r s z) all)))

    -- ---- as a value: a temporary holds it, and the register is set to that

    module _ (k n count : ℕ) (above : w.base ≤ k) (is_n : n ≡ k + 0) (fits_in : suc 0 ≤ count) (top : ℕ) (above_n : suc n ≤ top) (in_n : is_register w.to n ≡ true) (ys : List Stmt)
        (all : AllAnswers w.p w.openings (Fits i) (good (e.next later)))
        (whole : (r s : Regs) → Agree w r s → Sim w (Written w e.effects.assigned top n s) (good (e.next later)) r (code_tree w ys) s) where
      differs_n : (i == n) ≡ false
      differs_n = grind (arith, nat_tests, below, above, is_n)

      either_false : (a b : Bool) → (a || b) ≡ false → (a ≡ false) × (b ≡ false)
      either_false true b f = absurd (cc)
      either_false false b f = (refl, f)

      holds_both : (s : Regs) (x : Value) (r' s' : Regs) → Wrote w e.effects.assigned top n x s r' s' → Fits i x →
          Post w (also (only (Some i)) e.effects.assigned) later k count (Gives w (temp n) (Some x)) s (with_reg r' i x) (with_reg s' i x)
      holds_both s x r' s' y fits =
          let a = wrote_temp w e.effects.assigned top n x s r' s' (omega (arith, above, is_n)) y in
          let b = wrote_kept w e.effects.assigned top n x s r' s' (omega (arith, above, is_n)) (omega (arith, above_n)) y in
          record {
            agree = agree_own r' (with_reg s' i x) x (λ j l f. a.same j l ∙ sym (reg_other s' i j x f)) (reg_here s' i x);
            kept = record {
              regs = λ j l f. let g = either_false (i == j) (e.effects.assigned j) f in b.regs j l g.1 ∙ sym (reg_other s' i j x g.0);
              temps = λ j l m. b.temps j l (omega (arith, is_n, m)) ∙ sym (reg_other s' i j x (differs j l));
            };
            value = λ t h. temp_gives w alike n in_n (Some x) t (sym (h.temps n (omega (arith, is_n)) (omega (arith, is_n, fits_in))) ∙ reg_other s' i n x differs_n ∙ y.here);
          }
        where
          differs : (j : ℕ) → w.base ≤ j → (i == j) ≡ false
          differs j l = grind (arith, nat_tests, below)

      set_own : (s : Regs) (x : Value) (r' s' : Regs) → Wrote w e.effects.assigned top n x s r' s' → Fits i x →
          Sim w (After w (also (only (Some i)) e.effects.assigned) later k count (Gives w (temp n)) s) (written x) r' (code_tree w (set i (temp n) ∷ [])) s'
      set_own s x r' s' y fits =
          let Q = After w (also (only (Some i)) e.effects.assigned) later k count (Gives w (temp n)) s in
          let u = alike.unseen i in_q in
          subst (λ h. Sim w Q (written x) r' (bind h (λ v. known tt)) s') (sym (tree-set w i u.0 u.1 u.2 (temp n)))
          (sim_set w Q (known tt) ((meaning cq (temp n)).next no_one) i (Some x) (written x) r' s' in_q (temp_gives w alike n in_n (Some x) s' y.here)
          (λ f. absurd (cc))
          (λ z f. subst (λ g. Sim w Q g r' (known tt) (with_reg s' i z)) (bind-known (written x))
          (own_write r' (with_reg s' i z) x Q known (known tt) (subst (λ z. Sim w Q (known (Some x)) (with_reg r' i x) (known tt) (with_reg s' i z)) (same x z f)
          (Done (Some x) tt refl refl (holds_both s x r' s' y fits))))))
        where
          same : (x z : Value) → Some x ≡ Some z → x ≡ z
          same x z h = cc

      pub assigned_register : (r s : Regs) → Agree w r s →
          Sim w (After w (also (only (Some i)) e.effects.assigned) later k count (Gives w (temp n)) s) (assigned_next cp d e later) r (code_tree w (ys ++ set i (temp n) ∷ [])) s
      assigned_register r s z =
          subst (λ g. Sim w (After w (also (only (Some i)) e.effects.assigned) later k count (Gives w (temp n)) s) g r (code_tree w (ys ++ set i (temp n) ∷ [])) s) (sym assigns)
          (sim_then w (And w (Written w e.effects.assigned top n s) (Fits i)) (After w (also (only (Some i)) e.effects.assigned) later k count (Gives w (temp n)) s) written ys (set i (temp n) ∷ []) (good (e.next later)) r s
          (sim_with w (Written w e.effects.assigned top n s) (Fits i) (whole r s z) all)
          (λ x r' s' y. set_own s x r' s' y.0 y.1))
