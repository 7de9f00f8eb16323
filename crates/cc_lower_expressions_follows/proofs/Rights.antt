-- What gives a value in a statement of its own, a read, a call or an intrinsic: to a register that is given, or to nobody; and a
-- callee that goes to a temporary right before the call.
use Rattle.std.proofs.Common.{◌≡◌, ℕ, ◌+◌, List, [], ◌∷◌, ◌++◌, Option, Some, None, true, refl, subst, sym, ◌∙◌}
use Rattle.cc_program.specs.declared.stmt.Stmt.{Stmt}
use Rattle.cc_program.specs.declared.value.Value.{Value}
use Rattle.cc_states.specs.CcSyntax.Effects.{Registers}
use Rattle.cc_states.specs.CcSyntax.Registers.{is_register}
use Rattle.cc_states.specs.CcEval.declared.action.Action.{Action}
use Rattle.cc_states.specs.CcEval.declared.mark.Mark.{Mark}
use Rattle.cc_states.specs.CcEval.Progress.{Get, known, ask, bind, needs, given}
use Rattle.cc_states.specs.Answers.{IsMarkOf}
use Rattle.cc_lower_expressions_follows.specs.Trees.{IsShared, Regs, with_reg, Setting, after, Stuck, Sim, Done, Both, Fail, Runs}
use Rattle.cc_lower_expressions_follows.specs.Relation.{code_tree, stmt_tree, Post, Wrote, Ran}
use Rattle.cc_lower_expressions_follows.specs.Claims.{After, Written, Worked, good}
use Rattle.cc_lower_expressions_follows.proofs.Combined.{sim_then}
use Rattle.cc_lower_expressions_follows.proofs.Frames.{holds_now}
use Rattle.cc_lower_expressions_follows.proofs.Rules.{take_tree, sim_take}
use Rattle.cc_lower_expressions_follows.proofs.TreeLaws.{bind-assoc, sim_right}
use Rattle.cc_lower_expressions_follows.proofs.Whole.{reg_here, reg_other}

abbrev pub unit_of : Value → Get (Unit {0})
unit_of x = known tt

-- a call or an intrinsic alone
abbrev pub alone_tree : {C : Type 0} → Get (Option C) → (C → Action) → Get (Unit {0})
alone_tree e action = bind e (λ c. needs c (λ c. bind (ask (action c) given) (λ v. needs v unit_of)))

module _ (w : Setting) {O C : Type 0} (operands : Get O) (reach : O → Option C) (action : C → Action)
    (sure : (c : C) (m : Mark) → IsMarkOf w.p w.openings (action c) m → (x : Value) × (given m ≡ Some x)) where
  abbrev pub step_of : O → Get (Option Value)
  step_of o = needs (reach o) (λ c. ask (action c) given)

  abbrev keeps : Option Value → Get Value
  keeps v = needs v known

  module _ (pa later : Registers) (k m : ℕ) (Led : O → Regs → Type 0) (xs : List Stmt) (one : Stmt) (ce : Get (Option C)) (leads : (o : O) (t : Regs) → Led o t → Runs w (reach o) t ce t)
      (shares : (o : O) (t : Regs) → Led o t → (c : C) → reach o ≡ Some c → IsShared w (action c)) where
    -- ---- to a register of q

    module _ (n : ℕ) (in_n : is_register w.to n ≡ true) (takes : stmt_tree w one ≡ take_tree w ce action n) where
      whole_post : (s : Regs) (o : O) (r1 s1 : Regs) (x : Value) → Post w pa later k m (Led o) s r1 s1 → Wrote w pa k n x s r1 (with_reg s1 n x)
      whole_post s o r1 s1 x y = record {
        here = reg_here s1 n x;
        same = λ i l f. y.agree.same i l ∙ sym (reg_other s1 n i x f);
        regs = λ i l f a. y.kept.regs i l a ∙ sym (reg_other s1 n i x f);
        temps = λ i l b f. y.kept.temps i l b ∙ sym (reg_other s1 n i x f);
      }

      pub whole_taken : (r s : Regs) → Sim w (After w pa later k m Led s) operands r (code_tree w xs) s → Sim w (Written w pa k n s) (good (bind operands step_of)) r (code_tree w (xs ++ one ∷ [])) s
      whole_taken r s d =
          subst (λ g. Sim w (Written w pa k n s) g r (code_tree w (xs ++ one ∷ [])) s) (sym (bind-assoc operands step_of keeps))
          (sim_then w (After w pa later k m Led s) (Written w pa k n s) (λ o. bind (step_of o) keeps) xs (one ∷ []) operands r s d
          (λ o r1 s1 y.
          subst (λ h. Sim w (Written w pa k n s) (bind (step_of o) keeps) r1 (bind h (λ u. known tt)) s1) (sym takes)
          (sim_take w (Written w pa k n s) (known tt) action keeps n r1 s1 in_n sure ce (reach o) (leads o s1 (holds_now w later k (k + m) (Led o) s1 y.value))
          (shares o s1 (holds_now w later k (k + m) (Led o) s1 y.value))
          (λ c mark x f h g. Done x tt refl refl (whole_post s o r1 s1 x y)))))

    -- ---- to nobody

    module _ (does : stmt_tree w one ≡ alone_tree ce action) where
      rest_unit : Unit {0} → Get (Unit {0})
      rest_unit u = known u

      gone : (c : C) (s : Regs) (r1 s1 : Regs) (mark : Mark) (x : Value) → given mark ≡ Some x → Ran w pa k s r1 s1 →
          Sim w (Worked w pa k s) (after (bind (ask (action c) given) keeps) mark) r1 (after (bind (bind (ask (action c) given) (λ v. needs v unit_of)) known) mark) s1
      gone c s r1 s1 mark x e q = subst (λ (v : Option Value). Sim w (Worked w pa k s) (keeps v) r1 (bind (needs v unit_of) known) s1) (sym e) (Done x tt refl refl q)

      dropped : (s : Regs) (c : Option C) (r1 s1 : Regs) → ((c' : C) → c ≡ Some c' → IsShared w (action c')) → Ran w pa k s r1 s1 →
          Sim w (Worked w pa k s) (bind (needs c (λ c. ask (action c) given)) keeps) r1 (bind (needs c (λ c. bind (ask (action c) given) (λ v. needs v unit_of))) known) s1
      dropped s None r1 s1 shared q = Fail (Stuck [] refl) (Stuck [] refl)
      dropped s (Some c) r1 s1 shared q = Both (action c) (shared c refl) refl refl (λ mark h. let x = sure c mark h in gone c s r1 s1 mark x.0 x.1 q)

      pub alone_taken : (r s : Regs) → Sim w (After w pa later k m Led s) operands r (code_tree w xs) s → Sim w (Worked w pa k s) (good (bind operands step_of)) r (code_tree w (xs ++ one ∷ [])) s
      alone_taken r s d =
          subst (λ g. Sim w (Worked w pa k s) g r (code_tree w (xs ++ one ∷ [])) s) (sym (bind-assoc operands step_of keeps))
          (sim_then w (After w pa later k m Led s) (Worked w pa k s) (λ o. bind (step_of o) keeps) xs (one ∷ []) operands r s d
          (λ o r1 s1 y.
          subst (λ h. Sim w (Worked w pa k s) (bind (step_of o) keeps) r1 (bind h known) s1) (sym does)
          (subst (λ h. Sim w (Worked w pa k s) (bind (step_of o) keeps) r1 h s1) (sym (bind-assoc ce (λ c. needs c (λ c. bind (ask (action c) given) (λ v. needs v unit_of))) known))
          (sim_right w (Worked w pa k s) (λ c. bind (needs c (λ c. bind (ask (action c) given) (λ v. needs v unit_of))) known) (leads o s1 (holds_now w later k (k + m) (Led o) s1 y.value))
          (dropped s (reach o) r1 s1 (shares o s1 (holds_now w later k (k + m) (Led o) s1 y.value)) (record { agree = y.agree; kept = y.kept }))))))
