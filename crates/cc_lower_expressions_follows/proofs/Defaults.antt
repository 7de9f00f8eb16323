-- By default, from the operand: the whole right side, and an expression statement.
use Rattle.std.proofs.Common.{◌≡◌, ◌≤◌, ℕ, ◌+◌, Bool, true, false, [], ◌∷◌, length, Option, Some, refl, ap, sym, ◌∙◌, subst, arith, if◌then◌else◌}
use Rattle.cc_program.specs.declared.expr.Expr.{Expr, out-Expr, roll-Expr, roll-out-Expr}
use Rattle.cc_program.specs.declared.expr.Expr.TheOpen as one
use Rattle.cc_program.specs.declared.expr.Place.{Place}
use Rattle.cc_program.specs.declared.value.Value.{Value}
use Rattle.cc_program.specs.declared.value.Value.TheVariants.{Int, Place as Pointer}
use Rattle.cc_program.specs.declared.value.Address.TheVariants as address
use Rattle.cc_states.specs.CcSyntax.Effects.{Registers, no_one}
use Rattle.cc_states.specs.CcSyntax.Values.{ValueType}
use Rattle.cc_states.specs.CcEval.declared.action.Action.{Action}
use Rattle.cc_states.specs.CcEval.declared.mark.Mark.{Mark}
use Rattle.cc_states.specs.CcEval.Context.{Context}
use Rattle.cc_states.specs.CcEval.Eval.{Meaning, meaning}
use Rattle.cc_states.specs.CcEval.Progress.{Progress, Known, Waits, Get, known, needs}
use Rattle.cc_states.proofs.CcEval.Links.{level}
use Rattle.cc_lower_expressions.specs.Expressions.{Piece, piece, onto, done, into, Lowers, is_idle, whole_by, effect_by}
use Rattle.cc_lower_expressions_follows.specs.Trees.{Regs, Setting, context_q, RunsBy, Is, Steps, Sim, Done}
use Rattle.cc_lower_expressions_follows.specs.Relation.{code_tree, Alike, Declared, Agree, Post, Wrote, Ran, Gives}
use Rattle.cc_lower_expressions_follows.specs.Claims.{After, Written, Worked, good, IsOperand, Operands, Wholes, Effects}
use Rattle.cc_lower_expressions_follows.proofs.Combined.{sim_then}
use Rattle.cc_lower_expressions_follows.proofs.Frames.{holds_now}
use Rattle.cc_lower_expressions_follows.proofs.Operands.{declared_left, declared_right}
use Rattle.cc_lower_expressions_follows.proofs.Sequences.{whole_default}
use Rattle.cc_lower_expressions_follows.proofs.TreeLaws.{sim_weaker}
use Rattle.cc_lower_expressions_follows.proofs.Whole.{wrote_temp, below_other}

-- what is known at once is the answer
known_value : {A : Type 0} → A → Progress A → A
known_value d (Known a ms) = a
known_value d p = d

runs_known : {A : Type 0} (Step : Action → Regs → Mark → Regs → Type 0) (v a : A) (s' : Regs) {g : Get A} {s : Regs} → RunsBy Step v s' g s → g ≡ known a → v ≡ a
unfolding known_value
runs_known Step v a s' (Is e) f = ap (λ g. known_value a (g [])) (sym e ∙ f)
runs_known {A} Step v a s' (Steps t action m e q d) f = absurd (no_wait (sym (ap (λ (g : Get A). g []) f) ∙ e))
  where
    no_wait : Known a [] ≡ Waits action → ⊥
    no_wait k = absurd (cc)

module _ (w : Setting) (alike : Alike w) where
  abbrev cq : Context
  cq = context_q w

  good_at : (x : one.Expr-F Expr Place) (e : Expr) (v : Option Value) (t : Regs) → out-Expr e ≡ x → is_idle x ≡ true → Gives w e v t → (u : Value) × (v ≡ Some u)
  good_at (one.Const n i) e v t h k g = (Int n, runs_known _ v (Some (Int n)) t g (ap (λ (m : Meaning). m.next no_one) (ap (meaning cq) (sym (roll-out-Expr e) ∙ ap roll-Expr h) ∙ level cq (one.Const n i))))
  good_at (one.Null i) e v t h k g =
      (Pointer address.Null, runs_known _ v (Some (Pointer address.Null)) t g (ap (λ (m : Meaning). m.next no_one) (ap (meaning cq) (sym (roll-out-Expr e) ∙ ap roll-Expr h) ∙ level cq (one.Null i))))
  good_at (one.FuncAddr f) e v t h k g = absurd (cc)
  good_at (one.Load a) e v t h k g = absurd (cc)
  good_at (one.AddrOf a) e v t h k g = absurd (cc)
  good_at (one.Un o i a) e v t h k g = absurd (cc)
  good_at (one.Bin o i a b) e v t h k g = absurd (cc)
  good_at (one.Conv i a) e v t h k g = absurd (cc)
  good_at (one.Qualify c a) e v t h k g = absurd (cc)
  good_at (one.Move a b back) e v t h k g = absurd (cc)
  good_at (one.Gap a b) e v t h k g = absurd (cc)
  good_at (one.Compare o a b) e v t h k g = absurd (cc)
  good_at (one.Both a b) e v t h k g = absurd (cc)
  good_at (one.Either a b) e v t h k g = absurd (cc)
  good_at (one.Choose c a b) e v t h k g = absurd (cc)
  good_at (one.Assign a b) e v t h k g = absurd (cc)
  good_at (one.Change a o i b) e v t h k g = absurd (cc)
  good_at (one.After a down) e v t h k g = absurd (cc)
  good_at (one.Call f args) e v t h k g = absurd (cc)
  good_at (one.Intr i a) e v t h k g = absurd (cc)
  good_at (one.Seq a b) e v t h k g = absurd (cc)

  module _ (m : Meaning) (t : Option ValueType) (later : Registers) (k : ℕ) (above : w.base ≤ k) (x : Piece Expr) (h : Declared w k x.temps → IsOperand w m later k x) where
    abbrev n : ℕ
    n = k + length x.temps

    -- a new temporary was written
    written_ran : (s : Regs) (u : Value) (r' s' : Regs) → Wrote w m.effects.assigned k n u s r' s' → Ran w m.effects.assigned k s r' s'
    written_ran s u r' s' y = record {
      agree = wrote_temp w m.effects.assigned k n u s r' s' (omega (arith, above)) y;
      kept = record {
        regs = λ i l a. y.regs i l (below_other n i (omega (arith, above))) a;
        temps = λ i l b. y.temps i l b (below_other n i (omega arith));
      };
    }

    kept_value : (v : Option Value) (s : Regs) (r' s' : Regs) → Post w m.effects.assigned later k (length x.temps) (Gives w x.value v) s r' s' → is_idle (out-Expr x.value) ≡ true →
        Sim w (Worked w m.effects.assigned k s) (needs v known) r' (code_tree w []) s'
    kept_value v s r' s' y idle =
        let u = good_at (out-Expr x.value) x.value v s' refl idle (holds_now w later k (k + length x.temps) (Gives w x.value v) s' y.value) in
        subst (λ (v : Option Value). Sim w (Worked w m.effects.assigned k s) (needs v known) r' (code_tree w []) s') (sym u.1) (Done u.0 tt refl refl (record { agree = y.agree; kept = y.kept }))

    abbrev by_idle : Bool → Piece (Unit {0})
    by_idle b = onto x ((if b then done tt else (λ j. onto (into t x.value j) (piece [] [] tt))) n)

    pub effect_at : (b : Bool) → is_idle (out-Expr x.value) ≡ b → Declared w k (by_idle b).temps → (r s : Regs) → Agree w r s → Sim w (Worked w m.effects.assigned k s) (good (m.next later)) r (code_tree w (by_idle b).stmts) s
    effect_at true e declared r s y =
        let o = h (declared_left w k x.temps [] declared) in
        sim_then w (After w m.effects.assigned later k (length x.temps) (Gives w x.value) s) (Worked w m.effects.assigned k s) (λ v. needs v known) x.stmts [] (m.next later) r s (o.sim r s y)
        (λ v r' s' z. kept_value v s r' s' z e)
    effect_at false e declared r s y =
        let o = h (declared_left w k x.temps (t ∷ []) declared) in
        let last = (declared_right w k x.temps (t ∷ []) declared).0 in
        sim_weaker w (Written w m.effects.assigned k n s) (Worked w m.effects.assigned k s) (λ u v r' s' z. written_ran s u r' s' z)
        (whole_default w alike m later k n x last.register o r s y)

  module _ (m : Meaning) (op : Lowers Expr) (h : Operands w m op) where
    pub whole_works : Wholes w m (whole_by op)
    whole_works t n later k above l in_n declared r s y =
        let x = op later k in
        whole_default w alike m later k n x in_n (h later k above (declared_left w k x.temps [] declared)) r s y

    -- as an expression statement
    pub effect_works : (t : Option ValueType) → Effects w m (effect_by t op)
    effect_works t later k above = effect_at m t later k above (op later k) (λ declared. h later k above declared) (is_idle (out-Expr (op later k).value)) refl
