-- Reads: of a register that stays, of one that is copied, and of what stands in a statement of its own.
use Rattle.std.proofs.Common.{◌≡◌, ◌<◌, ◌≤◌, ℕ, ◌+◌, List, [], ◌∷◌, ◌++◌, Option, Some, Bool, true, false, refl, subst, sym, ◌∙◌, arith}
use Rattle.cc_program.specs.declared.value.Value.{Value}
use Rattle.cc_program.specs.declared.value.Cell.{Cell}
use Rattle.cc_states.specs.CcEval.declared.action.Manner.{Manner}
use Rattle.cc_states.specs.CcEval.declared.action.Action.{Action}
use Rattle.cc_states.specs.CcEval.declared.mark.Mark.{Mark}
use Rattle.cc_states.specs.CcEval.Progress.{Get, known, ask, bind, needs, given}
use Rattle.cc_states.specs.CcEval.declared.action.Action.TheVariants.{Read}
use Rattle.cc_states.specs.CcEval.declared.mark.Mark.TheVariants.{Gave}
use Rattle.cc_lower_expressions_follows.specs.Trees.{IsShared, Regs, with_reg, register_cell, Setting, Refused, Sim, Done, Left, Runs, Own, Reads, CanGive}
use Rattle.cc_states.specs.CcSyntax.Registers.{is_register}
use Rattle.cc_states.specs.Answers.{IsMarkOf}
use Rattle.cc_states.specs.CcSyntax.Effects.{Registers, no_one}
use Rattle.cc_lower_expressions_follows.specs.Relation.{Agree, Kept, Post}
use Rattle.cc_program.specs.declared.stmt.Stmt.{Stmt}
use Rattle.cc_lower_expressions_follows.specs.Relation.{stmt_tree}
use Rattle.cc_lower_expressions_follows.proofs.TreeLaws.{bind-known}
use Rattle.cc_lower_expressions_follows.proofs.Frames.{kept_none, holds_now}
use Rattle.cc_lower_expressions_follows.proofs.Rules.{set_tree, take_tree, sim_set, sim_take}
use Rattle.cc_lower_expressions_follows.proofs.Combined.{code, sim_then}
use Rattle.cc_lower_expressions_follows.specs.Claims.{After}
use Rattle.cc_lower_expressions_follows.proofs.Whole.{reg_here, reg_other, below_other}

abbrev pub fetch : Option Cell → Manner → Get (Option Value)
fetch c manner = needs c (λ c. ask (Read c manner) given)

abbrev pub of_register : Bool → Manner
of_register soft = record { is_event = false; may_be_bad = soft }

module _ (w : Setting) where
  -- a temporary is set
  pub agree_temp : (r s : Regs) (n : ℕ) (x : Value) → w.base ≤ n → Agree w r s → Agree w r (with_reg s n x)
  agree_temp r s n x h y = record { same = λ i l. y.same i l ∙ sym (reg_other s n i x (below_other n i (omega arith))) }

  pub kept_temp : (a : Registers) (k n : ℕ) (s t : Regs) (x : Value) → w.base ≤ n → k ≤ n → Kept w a k s t → Kept w a k s (with_reg t n x)
  kept_temp a k n s t x h le y = record {
    regs = λ i l e. y.regs i l e ∙ sym (reg_other t n i x (below_other n i (omega arith)));
    temps = λ i l b. y.temps i l b ∙ sym (reg_other t n i x (below_other n i (omega arith)));
  }

  -- the read of a register
  pub own_read : (r : Regs) (i : ℕ) (soft : Bool) → is_register w.from i ≡ true → CanGive soft (r i) → Own w (Read (register_cell w i) (of_register soft)) r (Gave (r i)) r
  own_read r i soft e h = Reads i (of_register soft) refl e refl h refl refl

module _ (w : Setting) where
  abbrev tree : Stmt → Get (Unit {0})
  tree = stmt_tree w

  module _ (i : ℕ) (later : Registers) (k : ℕ) (Is : Option Value → Regs → Type 0) (below : i < w.base) (register : is_register w.from i ≡ true) where
    -- where no later operand assigns it
    pub sim_soft : (at_register : (v : Option Value) (t : Regs) → t i ≡ v → Is v t) → later i ≡ false → (r s : Regs) → Agree w r s →
        Sim w (After w no_one later k 0 Is s) (fetch (Some (register_cell w i)) (of_register true)) r (code w []) s
    sim_soft at_register free r s y =
        Left r (Read (register_cell w i) (of_register true)) (Gave (r i)) refl (own_read w r i true register tt)
        (λ x. Done (r i) tt refl refl (record { agree = y; kept = kept_none w no_one k s; value = λ t h. at_register (r i) t (sym (h.regs i below free) ∙ sym (y.same i below)) }))

    -- where one does
    module _ (one : Stmt) (e : Get (Option Value)) (sets : tree one ≡ set_tree w e k) (is_temp : is_register w.to k ≡ true) (above : w.base ≤ k)
        (at_register : (t : Regs) → Runs w (t i) t e t) (at_temp : (v : Option Value) (t : Regs) → t k ≡ v → Is v t) where
      abbrev Result : Regs → Option Value → Unit {0} → Regs → Regs → Type 0
      Result s = After w no_one later k 1 Is s

      abbrev the_read : Get (Option Value)
      the_read = fetch (Some (register_cell w i)) (of_register false)

      copied : (r s : Regs) → Agree w r s → (x : Value) → r i ≡ Some x → Sim w (Result s) the_read r (known tt) (with_reg s k x)
      copied r s y x f =
          Left r (Read (register_cell w i) (of_register false)) (Gave (r i)) refl (own_read w r i false register (subst (CanGive false) (sym f) tt))
          (λ mark. subst (λ v. Sim w (Result s) (known v) r (known tt) (with_reg s k x)) (sym f)
          (Done (Some x) tt refl refl (record {
            agree = agree_temp w r s k x above y;
            kept = kept_temp w no_one k k s s x above (omega arith) (kept_none w no_one k s);
            value = λ t h. at_temp (Some x) t (sym (h.temps k (omega arith) (omega arith)) ∙ reg_here s k x);
          })))

      pub sim_hard : (r s : Regs) → Agree w r s → Sim w (Result s) the_read r (code w (one ∷ [])) s
      sim_hard r s y =
          subst (λ h. Sim w (Result s) the_read r (bind h (λ u. known tt)) s) (sym sets)
          (sim_set w (Result s) (known tt) e k (s i) the_read r s is_temp (at_register s)
          (λ f. Refused (Read (register_cell w i) (of_register false)) refl (record { register = i; manner = of_register false; reads = refl; is_one = register; traps = refl; unwritten = y.same i below ∙ f }))
          (λ x f. copied r s y x (y.same i below ∙ f)))

  -- ---- what gives a value in a statement of its own: a read of a place that is no register, a call, an intrinsic

  module _ {O C : Type 0} (operands : Get O) (reach : O → Option C) (action : C → Action) (pa later : Registers) (k m : ℕ) (Led : O → Regs → Type 0) (Is : Option Value → Regs → Type 0) (above : w.base ≤ k)
      (n : ℕ) (is_n : n ≡ k + m) (is_temp : is_register w.to n ≡ true) (sure : (c : C) (m : Mark) → IsMarkOf w.p w.openings (action c) m → (x : Value) × (given m ≡ Some x))
      (xs : List Stmt) (one : Stmt) (ce : Get (Option C)) (takes : tree one ≡ take_tree w ce action n) (leads : (o : O) (t : Regs) → Led o t → Runs w (reach o) t ce t) (shares : (o : O) (t : Regs) → Led o t → (c : C) → reach o ≡ Some c → IsShared w (action c))
      (at_temp : (v : Option Value) (t : Regs) → t n ≡ v → Is v t) where
    abbrev Taken : Regs → Option Value → Unit {0} → Regs → Regs → Type 0
    Taken s = After w pa later k (m + 1) Is s

    abbrev step_of : O → Get (Option Value)
    step_of o = needs (reach o) (λ c. ask (action c) given)

    taken_post : (s : Regs) (o : O) (r1 s1 : Regs) (x : Value) → Post w pa later k m (Led o) s r1 s1 → Post w pa later k (m + 1) (Is (Some x)) s r1 (with_reg s1 n x)
    taken_post s o r1 s1 x y = record {
      agree = agree_temp w r1 s1 n x (omega (arith, is_n)) y.agree;
      kept = kept_temp w pa k n s s1 x (omega (arith, is_n)) (omega (arith, is_n)) y.kept;
      value = λ t h. at_temp (Some x) t (sym (h.temps n (omega (arith, is_n)) (omega (arith, is_n))) ∙ reg_here s1 n x);
    }

    step_taken : (s : Regs) (o : O) (r1 s1 : Regs) → Post w pa later k m (Led o) s r1 s1 → Sim w (Taken s) (step_of o) r1 (code w (one ∷ [])) s1
    step_taken s o r1 s1 y =
        subst (λ h. Sim w (Taken s) (step_of o) r1 (bind h (λ u. known tt)) s1) (sym takes)
        (subst (λ g. Sim w (Taken s) g r1 (bind (take_tree w ce action n) (λ u. known tt)) s1) (bind-known (step_of o))
        (sim_take w (Taken s) (known tt) action known n r1 s1 is_temp sure ce (reach o) (leads o s1 (holds_now w later k (k + m) (Led o) s1 y.value))
        (shares o s1 (holds_now w later k (k + m) (Led o) s1 y.value))
        (λ c mark x f h g. Done (Some x) tt refl refl (taken_post s o r1 s1 x y))))

    pub sim_taken : (r s : Regs) → Sim w (After w pa later k m Led s) operands r (code w xs) s → Sim w (Taken s) (bind operands step_of) r (code w (xs ++ one ∷ [])) s
    sim_taken r s d = sim_then w (After w pa later k m Led s) (Taken s) step_of xs (one ∷ []) operands r s d (λ o r1 s1 y. step_taken s o r1 s1 y)
