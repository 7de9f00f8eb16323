-- A `?:` without a value, pure or not: an `if` whose arms are the statements of its arms. Where it is pure a bad condition is chosen by, and
-- what it gives traps then, since the expression statement has no value; so both trap.
use Rattle.std.proofs.Common.{◌≡◌, ◌≤◌, ℕ, ◌+◌, List, [], ◌∷◌, ◌++◌, length, Option, Some, None, Bool, true, false, ◌||◌, refl, subst, ap, sym, ◌∙◌, arith, if◌then◌else◌}
use Rattle.std.proofs.Math.Path.{fun_ext}
use Rattle.cc_program.specs.declared.stmt.Stmt.{Stmt, If}
use Rattle.cc_program.specs.declared.value.Value.{Value}
use Rattle.cc_states.specs.CcSyntax.Effects.{Registers, also}
use Rattle.cc_states.specs.CcEval.Context.{Context}
use Rattle.cc_states.specs.CcEval.Eval.{Meaning, meaning, chosen_arm}
use Rattle.cc_states.specs.CcEval.declared.action.Action.TheVariants.{Choose}
use Rattle.cc_states.specs.CcEval.declared.mark.Mark.TheVariants.{Chose}
use Rattle.cc_states.specs.CcEval.Progress.{Traps, Get, known, ask, bind, needs, chosen}
use Rattle.cc_states.specs.CcValues.Values.{truth}
use Rattle.cc_states.specs.CcSyntax.Effects.{no_one}
use Rattle.cc_program.specs.declared.expr.Expr.{Expr}
use Rattle.cc_lower_expressions.specs.Expressions.{Piece}
use Rattle.cc_lower_expressions_follows.specs.Trees.{Regs, Setting, context_q, Stuck, Sim, Left, Right, Fail, Runs, Chooses}
use Rattle.cc_lower_expressions_follows.specs.Relation.{forked, code_tree, Alike, Agree, Post, Ran, Gives}
use Rattle.cc_lower_expressions_follows.specs.Claims.{After, Worked, good, IsOperand}
use Rattle.cc_lower_expressions_follows.proofs.Branches.{branch, outcome, arms, choice, outcome-form, sim_if}
use Rattle.cc_lower_expressions_follows.proofs.Combined.{sim_then}
use Rattle.cc_lower_expressions_follows.proofs.Frames.{holds_now, kept_then}
use Rattle.cc_lower_expressions_follows.proofs.Opened.{tree-If}
use Rattle.cc_lower_expressions_follows.proofs.TreeLaws.{bind-assoc, bind-known, sim_right, sim_weaker}

abbrev keeps : Option Value → Get Value
keeps v = needs v known

-- a bad value of an arm traps, in the arm or behind it
arm-form : (pure : Bool) (g : Get (Option Value)) → bind (bind g (outcome pure)) keeps ≡ good g
arm-form true g = ap (λ (h : Get (Option Value)). bind h keeps) (bind-known g)
arm-form false g = ap (λ (h : Get (Option Value)). bind h keeps) (outcome-form g) ∙ bind-assoc (good g) (λ x. known (Some x)) keeps ∙ bind-known (good g)

module _ (pure : Bool) (these those : Get (Option Value)) where
  abbrev both_arms : Option Bool → Get (Option Value)
  both_arms = arms (bind these (outcome pure)) (bind those (outcome pure))

  abbrev go : Option Bool → Get Value
  go o = bind (both_arms o) keeps

  choice-form : (mc : Get (Option Value)) → good (choice pure mc these those) ≡ bind mc (λ v. bind (branch pure v) go)
  choice-form mc = bind-assoc mc (λ v. bind (branch pure v) both_arms) keeps ∙ ap (bind mc) (fun_ext (λ v. bind-assoc (branch pure v) both_arms keeps))

-- ---- the rule of an `if`, where the condition may be bad

module _ (w : Setting) {A B : Type 0} (Q : A → B → Regs → Regs → Type 0) (rest : Get B) (go : Option Bool → Get A) (traps : go None [] ≡ Traps []) (these those : Get (Unit {0})) where
  abbrev after_if : Unit {0} → Get B
  after_if u = rest

  abbrev to_arm : Bool → Get (Unit {0})
  to_arm b = if b then these else those

  abbrev forks : Option Bool → Get (Unit {0})
  forks t = needs t (λ b. bind (ask (Choose (Some b)) (λ m. b)) to_arm)

  forks_at : (t : Option Bool) (r s : Regs) → ((b : Bool) → t ≡ Some b → Sim w Q (go (Some b)) r (bind (to_arm b) after_if) s) → Sim w Q (bind (ask (Choose t) chosen) go) r (bind (forks t) after_if) s
  forks_at None r s d = Left r (Choose None) (Chose None) refl (Chooses None refl refl refl) (λ x. Fail (Stuck [] traps) (Stuck [] refl))
  forks_at (Some b) r s d =
      Left r (Choose (Some b)) (Chose (Some b)) refl (Chooses (Some b) refl refl refl)
      (λ x. Right s (Choose (Some b)) (Chose (Some b)) refl (Chooses (Some b) refl refl refl) (d b refl))

  sim_chosen : (c : Get (Option Value)) (v : Option Value) (r s : Regs) → Runs w v s c s → ((b : Bool) → truth v ≡ Some b → Sim w Q (go (Some b)) r (bind (to_arm b) after_if) s) →
      Sim w Q (bind (branch true v) go) r (bind (forked c these those) after_if) s
  sim_chosen c v r s d k =
      subst (λ h. Sim w Q (bind (branch true v) go) r h s) (sym (bind-assoc c (λ v. forks (truth v)) after_if))
      (sim_right w Q (λ v. bind (forks (truth v)) after_if) d (forks_at (truth v) r s k))

  sim_either : (pure : Bool) (c : Get (Option Value)) (v : Option Value) (r s : Regs) → Runs w v s c s → ((b : Bool) → truth v ≡ Some b → Sim w Q (go (Some b)) r (bind (to_arm b) after_if) s) →
      Sim w Q (bind (branch pure v) go) r (bind (forked c these those) after_if) s
  sim_either true c v r s d k = sim_chosen c v r s d k
  sim_either false c v r s d k = sim_if w Q rest go these those c v r s d k

module _ (w : Setting) (alike : Alike w) where
  abbrev cq : Context
  cq = context_q w

  module _ (pure : Bool) (d a b m : Meaning) (later : Registers) (k : ℕ) (above : w.base ≤ k) (c : Piece Expr) (x y : Piece (Unit {0})) (topa topb : ℕ) (above_a : k ≤ topa) (above_b : k ≤ topb)
      (same : m.effects.assigned ≡ also d.effects.assigned (also a.effects.assigned b.effects.assigned)) (next : m.next later ≡ chosen_arm pure d a b later)
      (hd : IsOperand w d (also a.effects.assigned (also b.effects.assigned later)) k c)
      (ha : (r s : Regs) → Agree w r s → Sim w (Worked w a.effects.assigned topa s) (good (a.next (also b.effects.assigned later))) r (code_tree w x.stmts) s)
      (hb : (r s : Regs) → Agree w r s → Sim w (Worked w b.effects.assigned topb s) (good (b.next later)) r (code_tree w y.stmts) s) where
    abbrev Result : Regs → Value → Unit {0} → Regs → Regs → Type 0
    Result s = Worked w (also d.effects.assigned (also a.effects.assigned b.effects.assigned)) k s

    abbrev these : Get (Option Value)
    these = a.next (also b.effects.assigned later)

    abbrev those : Get (Option Value)
    those = b.next later

    abbrev Condition : Option Value → Regs → Regs → Regs → Type 0
    Condition v s r1 s1 = Post w d.effects.assigned (also a.effects.assigned (also b.effects.assigned later)) k (length c.temps) (Gives w c.value v) s r1 s1

    wider : (arm : Registers) → ((i : ℕ) → also a.effects.assigned b.effects.assigned i ≡ false → arm i ≡ false) → (top : ℕ) → k ≤ top → (v : Option Value) (s r1 s1 r2 s2 : Regs) → Condition v s r1 s1 → Ran w arm top s1 r2 s2 →
        Ran w (also d.effects.assigned (also a.effects.assigned b.effects.assigned)) k s r2 s2
    wider arm in_it top le v s r1 s1 r2 s2 y z = record {
      agree = z.agree;
      kept = kept_then w d.effects.assigned (also a.effects.assigned b.effects.assigned) k k s s1 s2 (omega arith) y.kept
          (record { regs = λ i l e. z.kept.regs i l (in_it i e); temps = λ i l f. z.kept.temps i l (omega (arith, f, le)) });
    }

    first_none : (x y : Bool) → (x || y) ≡ false → x ≡ false
    first_none false y e = refl
    first_none true y e = absurd (cc)

    second_none : (x y : Bool) → (x || y) ≡ false → y ≡ false
    second_none false y e = e
    second_none true y e = absurd (cc)

    in_arm : (arm : Registers) → ((i : ℕ) → also a.effects.assigned b.effects.assigned i ≡ false → arm i ≡ false) → (top : ℕ) → k ≤ top → (g : Get (Option Value)) (list : List Stmt) (v : Option Value) (s r1 s1 : Regs) → Condition v s r1 s1 →
        Sim w (Worked w arm top s1) (good g) r1 (code_tree w list) s1 → Sim w (Result s) (bind (bind g (outcome pure)) keeps) r1 (bind (code_tree w list) (λ u. known tt)) s1
    in_arm arm in_it top le g list v s r1 s1 y h =
        subst (λ z. Sim w (Result s) z r1 (bind (code_tree w list) (λ u. known tt)) s1) (sym (arm-form pure g))
        (subst (λ z. Sim w (Result s) (good g) r1 z s1) (sym (bind-known (code_tree w list)))
        (sim_weaker w (Worked w arm top s1) (Result s) (λ u v' r2 s2 z. wider arm in_it top le v s r1 s1 r2 s2 y z) h))

    to_arms : (v : Option Value) (s r1 s1 : Regs) → Condition v s r1 s1 → (z : Bool) → Sim w (Result s) (go pure these those (Some z)) r1 (bind (if z then code_tree w x.stmts else code_tree w y.stmts) (λ u. known tt)) s1
    to_arms v s r1 s1 h true = in_arm a.effects.assigned (λ i e. first_none (a.effects.assigned i) (b.effects.assigned i) e) topa above_a these x.stmts v s r1 s1 h (ha r1 s1 h.agree)
    to_arms v s r1 s1 h false = in_arm b.effects.assigned (λ i e. second_none (a.effects.assigned i) (b.effects.assigned i) e) topb above_b those y.stmts v s r1 s1 h (hb r1 s1 h.agree)

    pub void_choice : (r s : Regs) → Agree w r s → Sim w (Worked w m.effects.assigned k s) (good (m.next later)) r (code_tree w (c.stmts ++ If c.value x.stmts y.stmts ∷ [])) s
    void_choice r s i =
        subst (λ (q : Registers). Sim w (Worked w q k s) (good (m.next later)) r (code_tree w (c.stmts ++ If c.value x.stmts y.stmts ∷ [])) s) (sym same)
        (subst (λ g. Sim w (Result s) g r (code_tree w (c.stmts ++ If c.value x.stmts y.stmts ∷ [])) s) (sym (ap good next ∙ choice-form pure these those (d.next (also a.effects.assigned (also b.effects.assigned later)))))
        (sim_then w (After w d.effects.assigned (also a.effects.assigned (also b.effects.assigned later)) k (length c.temps) (Gives w c.value) s) (Result s) (λ v. bind (branch pure v) (go pure these those)) c.stmts (If c.value x.stmts y.stmts ∷ [])
        (d.next (also a.effects.assigned (also b.effects.assigned later))) r s (hd.sim r s i)
        (λ v r1 s1 h.
        subst (λ z. Sim w (Result s) (bind (branch pure v) (go pure these those)) r1 (bind z (λ u. known tt)) s1) (sym (tree-If w c.value x.stmts y.stmts))
        (sim_either w (Result s) (known tt) (go pure these those) refl (code_tree w x.stmts) (code_tree w y.stmts) pure ((meaning cq c.value).next no_one) v r1 s1
        (holds_now w (also a.effects.assigned (also b.effects.assigned later)) k (k + length c.temps) (Gives w c.value v) s1 h.value) (λ z f. to_arms v s r1 s1 h z)))))
