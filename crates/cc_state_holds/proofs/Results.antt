-- Results that are not written yet, and what registers hold.
use Rattle.std.proofs.Common.{arith, ◌≡◌, ℕ, Bool, true, false, List, Option, Some, None, refl, ap, sym, ◌∙◌, if◌then◌else◌}
use Rattle.std.specs.Prelude.{◌==◌}
use Rattle.std.proofs.lemmas.Bool.{eq-eqb}
use Rattle.cc_cells.specs.Cells.{scalar_in}
use Rattle.cc_state_reads.specs.CcEval.declared.mark.Mark.{Mark}
use Rattle.cc_state_reads.specs.CcEval.Progress.{Progress}
use Rattle.cc_program.specs.declared.expr.Expr.{Expr}
use Rattle.cc_program.specs.declared.program.Program.{Program}
use Rattle.cc_program.specs.declared.value.Value.{Value}
use Rattle.cc_proof_covers.specs.Pending.{has_result, written_next, pending, value_in}
use Rattle.cc_state_holds.specs.Parts.{good}
use Rattle.cc_flow_sound.specs.CcStates.States.{expression_of}
use Rattle.cc_steps.specs.State.{Active}
use Rattle.cc_steps.specs.Step.{progress_at, progress_of}

module _ (p : Program) (a : Active) where
  written_if : Bool → Option (ℕ × Value)
  written_if b = if b then written_next (progress_of p a (expression_of a)) else None

  pub no_result : (e : Option Expr) → e ≡ expression_of a → false ≡ has_result e → None ≡ pending p a
  unfolding written_if
  no_result e is fails = ap written_if (fails ∙ ap has_result is)

  pub some_result : (e : Option Expr) (ms : List Mark) (s : Progress (Option Value)) → e ≡ expression_of a → true ≡ has_result e → ms ≡ a.marks → s ≡ progress_at p a.number a.func ms e → written_next s ≡ pending p a
  unfolding written_if
  some_result e ms s is said marks stage =
      ap written_next (stage ∙ (ap (λ (ns : List Mark). progress_at p a.number a.func ns e) marks ∙ ap (progress_at p a.number a.func a.marks) is)) ∙ ap written_if (said ∙ ap has_result is)

-- ---- what a register holds

eq_of : (m n : ℕ) → (m == n) ≡ true → m ≡ n
eq_of m n h = grind arith

eq_false : (m n : ℕ) → (m ≡ n → ⊥) → (m == n) ≡ false
eq_false m n h = by (m == n) refl
  where
    by : (b : Bool) → (m == n) ≡ b → (m == n) ≡ false
    by true e = absurd (h (eq_of m n e))
    by false e = e

module _ (a : Active) (r : ℕ) (o : Option (ℕ × Value)) where
  pub value_none : (w : Option Value) → o ≡ None → w ≡ good (value_in None a r) → w ≡ good (value_in o a r)
  value_none w e h = h ∙ ap (λ (x : Option (ℕ × Value)). good (value_in x a r)) (sym e)

  pub value_own : (result : ℕ × Value) → o ≡ Some result → r ≡ result.0 → Some result.1 ≡ good (value_in o a r)
  value_own result e k =
      sym (ap (λ (x : Option (ℕ × Value)). good (value_in x a r)) e ∙ ap (λ (b : Bool). good (if b then Some (Some result.1) else scalar_in a.locals r 0)) (eq-eqb r result.0 k))

  pub value_other : (result : ℕ × Value) (w : Option Value) → o ≡ Some result → (r ≡ result.0 → ⊥) → w ≡ good (value_in None a r) → w ≡ good (value_in o a r)
  value_other result w e k h =
      h ∙ sym (ap (λ (x : Option (ℕ × Value)). good (value_in x a r)) e ∙ ap (λ (b : Bool). good (if b then Some (Some result.1) else scalar_in a.locals r 0)) (eq_false r result.0 k))
