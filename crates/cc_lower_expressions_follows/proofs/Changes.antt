-- `place op= value`, `place++` and `place--` of a place that is no register: it is read to a temporary, and its new value is written.
-- Both programs read and write the same cell, where q leads to the place a second time.
use Rattle.std.proofs.Common.{◌≡◌, ◌≤◌, ℕ, ◌+◌, Bool, true, List, [], ◌∷◌, ◌++◌, Option, Some, None, refl, sym, ◌∙◌, subst, arith}
use Rattle.cc_program.specs.declared.stmt.Stmt.{Stmt}
use Rattle.cc_program.specs.declared.value.Cell.{Cell}
use Rattle.cc_program.specs.declared.value.Value.{Value}
use Rattle.cc_states.specs.CcSyntax.Effects.{Registers}
use Rattle.cc_states.specs.CcSyntax.Registers.{is_register}
use Rattle.cc_states.specs.CcEval.declared.action.Manner.{Manner}
use Rattle.cc_states.specs.CcEval.declared.action.Action.TheVariants.{Read}
use Rattle.cc_states.specs.CcEval.declared.mark.Mark.{Mark}
use Rattle.cc_states.specs.CcEval.Progress.{Get, known, ask, bind, needs, given}
use Rattle.cc_states.specs.Answers.{IsMarkOf}
use Rattle.cc_lower_expressions.specs.Expressions.{temp}
use Rattle.cc_lower_expressions_follows.specs.Trees.{IsSharedCell, Regs, with_reg, Setting, Stuck, Ends, Sim, Done, Runs}
use Rattle.cc_lower_expressions_follows.specs.Relation.{code_tree, stmt_tree, Alike, Agree, Post, Gives}
use Rattle.cc_lower_expressions_follows.specs.Claims.{After, Worked, good}
use Rattle.cc_lower_expressions_follows.proofs.Assigns.{store}
use Rattle.cc_lower_expressions_follows.proofs.Combined.{sim_then}
use Rattle.cc_lower_expressions_follows.proofs.Fetched.{agree_temp, kept_temp}
use Rattle.cc_lower_expressions_follows.proofs.Frames.{holds_now}
use Rattle.cc_lower_expressions_follows.proofs.Loads.{temp_gives}
use Rattle.cc_lower_expressions_follows.proofs.Rules.{set_tree, take_tree, put_tree, sim_set, sim_take, sim_put}
use Rattle.cc_lower_expressions_follows.proofs.TreeLaws.{bind-assoc, bind-known}
use Rattle.cc_lower_expressions_follows.proofs.Whole.{reg_here, reg_other, below_other}

module _ (w : Setting) (alike : Alike w) {O : Type 0} (operands : Get O) (reach : O → Option Cell) (manner : Manner) (sure : (c : Cell) (m : Mark) → IsMarkOf w.p w.openings (Read c manner) m → (x : Value) × (given m ≡ Some x))
    (is_event : Bool) (new answer : O → Option Value → Option Value) (pa later : Registers) (k m : ℕ) (above : w.base ≤ k) (Led : O → Regs → Type 0) (xs : List Stmt) (n : ℕ) (is_n : n ≡ k + m) (in_n : is_register w.to n ≡ true)
    (reads puts : Stmt) (ce : Get (Option Cell)) (takes : stmt_tree w reads ≡ take_tree w ce (λ c. Read c manner) n) (leads : (o : O) (t : Regs) → Led o t → Runs w (reach o) t ce t)
    (shares : (o : O) (t : Regs) → Led o t → (c : Cell) → reach o ≡ Some c → IsSharedCell w c)
    (Old : Value → Type 0) (typed : (o : O) (t : Regs) → Led o t → (c : Cell) → reach o ≡ Some c → (mark : Mark) → IsMarkOf w.p w.openings (Read c manner) mark → (x : Value) → given mark ≡ Some x → Old x)
    (pe : Get (Option Cell × Option Value)) (writes : stmt_tree w puts ≡ put_tree pe is_event) (runs : (o : O) (x : Value) (t : Regs) → Old x → Led o t → t n ≡ Some x → Runs w (reach o, new o (Some x)) t pe t) where
  abbrev changes : O → Option Value → Get (Option Value)
  changes o v = store (reach o) is_event (new o v) (answer o v)

  abbrev change_at : O → Get (Option Value)
  change_at o = bind (needs (reach o) (λ c. ask (Read c manner) given)) (changes o)

  abbrev pub change_tree : Get (Option Value)
  change_tree = bind operands change_at

  -- behind the read, at the new temporary
  abbrev IsRead : Regs → O → Value → Regs → Regs → Type 0
  IsRead s o x r1 s1 = Agree w r1 (with_reg s1 n x) × Post w pa later k m (Led o) s r1 s1

  led_still : (s : Regs) (o : O) (r1 s1 : Regs) (x : Value) → Post w pa later k m (Led o) s r1 s1 → Led o (with_reg s1 n x)
  led_still s o r1 s1 x y = y.value (with_reg s1 n x) (record {
    regs = λ i l e. sym (reg_other s1 n i x (below_other n i (omega (arith, is_n, above))));
    temps = λ i a b. sym (reg_other s1 n i x (below_other n i (omega (arith, is_n))));
  })

  module _ {A : Type 0} (Q : A → Unit {0} → Regs → Regs → Type 0) (f : Option Value → Get A) (s : Regs)
      (fin : (o : O) (x y : Value) (r1 s1 : Regs) → Post w pa later k m (Led o) s r1 s1 → new o (Some x) ≡ Some y → Sim w Q (f (answer o (Some x))) r1 (known tt) (with_reg s1 n x)) where
    put_rest : Get (Unit {0})
    put_rest = bind (put_tree pe is_event) (λ u. known tt)

    changed_at : (o : O) (r1 s1 : Regs) → Post w pa later k m (Led o) s r1 s1 → Sim w Q (bind (change_at o) f) r1 (code_tree w (reads ∷ puts ∷ [])) s1
    unfolding put_rest
    changed_at o r1 s1 y =
        subst (λ h. Sim w Q (bind (change_at o) f) r1 (bind h (λ u. bind (stmt_tree w puts) (λ u. known tt))) s1) (sym takes)
        (subst (λ h. Sim w Q (bind (change_at o) f) r1 (bind (take_tree w ce (λ c. Read c manner) n) (λ u. bind h (λ u. known tt))) s1) (sym writes)
        (subst (λ g. Sim w Q g r1 (bind (take_tree w ce (λ c. Read c manner) n) (λ u. put_rest)) s1) (sym (bind-assoc (needs (reach o) (λ c. ask (Read c manner) given)) (changes o) f))
        (sim_take w Q put_rest (λ c. Read c manner) (λ v. bind (changes o v) f) n r1 s1 in_n sure ce (reach o) (leads o s1 (holds_now w later k (k + m) (Led o) s1 y.value))
        (shares o s1 (holds_now w later k (k + m) (Led o) s1 y.value))
        (λ c' mark x e h g.
        sim_put w Q (known tt) is_event f (answer o (Some x)) r1 (with_reg s1 n x) pe (reach o) (new o (Some x))
        (runs o x (with_reg s1 n x) (typed o s1 (holds_now w later k (k + m) (Led o) s1 y.value) c' e mark h x g) (led_still s o r1 s1 x y) (reg_here s1 n x))
        (shares o s1 (holds_now w later k (k + m) (Led o) s1 y.value))
        (λ z g. fin o x z r1 s1 y g)))))

    pub sim_changes : (r : Regs) → Sim w (After w pa later k m Led s) operands r (code_tree w xs) s → Sim w Q (bind change_tree f) r (code_tree w (xs ++ reads ∷ puts ∷ [])) s
    sim_changes r d =
        subst (λ g. Sim w Q g r (code_tree w (xs ++ reads ∷ puts ∷ [])) s) (sym (bind-assoc operands change_at f))
        (sim_then w (After w pa later k m Led s) Q (λ o. bind (change_at o) f) xs (reads ∷ puts ∷ []) operands r s d (λ o r1 s1 y. changed_at o r1 s1 y))

  agree_read : (s : Regs) (o : O) (r1 s1 : Regs) (x : Value) → Post w pa later k m (Led o) s r1 s1 → Agree w r1 (with_reg s1 n x)
  agree_read s o r1 s1 x y = agree_temp w r1 s1 n x (omega (arith, is_n, above)) y.agree

  -- what was read is the value: `place++`
  module _ (old : (o : O) (v : Option Value) → answer o v ≡ v) where
    pub change_value : (r s : Regs) → Sim w (After w pa later k m Led s) operands r (code_tree w xs) s → Sim w (After w pa later k (m + 1) (Gives w (temp n)) s) change_tree r (code_tree w (xs ++ reads ∷ puts ∷ [])) s
    change_value r s d =
        let Q = After w pa later k (m + 1) (Gives w (temp n)) s in
        subst (λ g. Sim w Q g r (code_tree w (xs ++ reads ∷ puts ∷ [])) s) (bind-known change_tree)
        (sim_changes Q known s
        (λ o x y r1 s1 z e.
        Done (answer o (Some x)) tt refl refl (record {
          agree = agree_read s o r1 s1 x z;
          kept = kept_temp w pa k n s s1 x (omega (arith, is_n, above)) (omega (arith, is_n)) z.kept;
          value = λ t h. temp_gives w alike n in_n (answer o (Some x)) t (sym (h.temps n (omega (arith, is_n)) (omega (arith, is_n))) ∙ reg_here s1 n x ∙ sym (old o (Some x)));
        })) r d)

  -- nobody uses the value, where it is not bad: `place op= value`
  module _ (sound : (o : O) (x y : Value) → new o (Some x) ≡ Some y → (z : Value) × (answer o (Some x) ≡ Some z)) where
    pub change_alone : (r s : Regs) → Sim w (After w pa later k m Led s) operands r (code_tree w xs) s → Sim w (Worked w pa k s) (good change_tree) r (code_tree w (xs ++ reads ∷ puts ∷ [])) s
    change_alone r s d =
        sim_changes (Worked w pa k s) (λ v. needs v known) s
        (λ o x y r1 s1 z e.
        let g = sound o x y e in
        subst (λ (v : Option Value). Sim w (Worked w pa k s) (needs v known) r1 (known tt) (with_reg s1 n x)) (sym g.1)
        (Done g.0 tt refl refl (record { agree = agree_read s o r1 s1 x z; kept = kept_temp w pa k n s s1 x (omega (arith, is_n, above)) (omega (arith, is_n)) z.kept }))) r d

-- ---- as a value: what is written goes to a temporary of its own

module _ (w : Setting) (alike : Alike w) {O : Type 0} (operands : Get O) (reach : O → Option Cell) (manner : Manner) (sure : (c : Cell) (m : Mark) → IsMarkOf w.p w.openings (Read c manner) m → (x : Value) × (given m ≡ Some x))
    (is_event : Bool) (new : O → Option Value → Option Value) (pa later : Registers) (k m : ℕ) (above : w.base ≤ k) (Led : O → Regs → Type 0) (xs : List Stmt) (n j : ℕ) (is_n : n ≡ k + m) (is_j : j ≡ k + m + 1)
    (in_n : is_register w.to n ≡ true) (in_j : is_register w.to j ≡ true)
    (reads sets puts : Stmt) (ce : Get (Option Cell)) (takes : stmt_tree w reads ≡ take_tree w ce (λ c. Read c manner) n) (leads : (o : O) (t : Regs) → Led o t → Runs w (reach o) t ce t)
    (shares : (o : O) (t : Regs) → Led o t → (c : Cell) → reach o ≡ Some c → IsSharedCell w c)
    (Old : Value → Type 0) (typed : (o : O) (t : Regs) → Led o t → (c : Cell) → reach o ≡ Some c → (mark : Mark) → IsMarkOf w.p w.openings (Read c manner) mark → (x : Value) → given mark ≡ Some x → Old x)
    (ve : Get (Option Value)) (keeps : stmt_tree w sets ≡ set_tree w ve j) (news : (o : O) (x : Value) (t : Regs) → Old x → Led o t → t n ≡ Some x → Runs w (new o (Some x)) t ve t)
    (pe : Get (Option Cell × Option Value)) (writes : stmt_tree w puts ≡ put_tree pe is_event) (runs : (o : O) (y : Value) (t : Regs) → Led o t → t j ≡ Some y → Runs w (reach o, Some y) t pe t) where
  abbrev news_at : O → Option Value → Get (Option Value)
  news_at o v = store (reach o) is_event (new o v) (new o v)

  abbrev new_at : O → Get (Option Value)
  new_at o = bind (needs (reach o) (λ c. ask (Read c manner) given)) (news_at o)

  abbrev pub new_tree : Get (Option Value)
  new_tree = bind operands new_at

  still : (s : Regs) (o : O) (r1 s1 : Regs) (x : Value) → Post w pa later k m (Led o) s r1 s1 → Led o (with_reg s1 n x)
  still s o r1 s1 x y = y.value (with_reg s1 n x) (record {
    regs = λ i l e. sym (reg_other s1 n i x (below_other n i (omega (arith, is_n, above))));
    temps = λ i a b. sym (reg_other s1 n i x (below_other n i (omega (arith, is_n))));
  })

  still_both : (s : Regs) (o : O) (r1 s1 : Regs) (x z : Value) → Post w pa later k m (Led o) s r1 s1 → Led o (with_reg (with_reg s1 n x) j z)
  still_both s o r1 s1 x z y = y.value (with_reg (with_reg s1 n x) j z) (record {
    regs = λ i l e. sym (reg_other s1 n i x (below_other n i (omega (arith, is_n, above)))) ∙ sym (reg_other (with_reg s1 n x) j i z (below_other j i (omega (arith, is_j, above))));
    temps = λ i a b. sym (reg_other s1 n i x (below_other n i (omega (arith, is_n)))) ∙ sym (reg_other (with_reg s1 n x) j i z (below_other j i (omega (arith, is_j))));
  })

  Q : Regs → Option Value → Unit {0} → Regs → Regs → Type 0
  Q s = After w pa later k (m + 2) (Gives w (temp j)) s

  put_last : Get (Unit {0})
  put_last = bind (put_tree pe is_event) (λ u. known tt)

  set_last : Get (Unit {0})
  set_last = bind (set_tree w ve j) (λ u. put_last)

  bad : (c : Option Cell) (v : Option Value) (r : Regs) → v ≡ None → Ends w w.from (store c is_event v v) r
  bad None v r e = subst (λ v. Ends w w.from (store None is_event v v) r) (sym e) (Stuck [] refl)
  bad (Some c) v r e = subst (λ v. Ends w w.from (store (Some c) is_event v v) r) (sym e) (Stuck [] refl)

  done_post : (s : Regs) (o : O) (r1 s1 : Regs) (x z : Value) → Post w pa later k m (Led o) s r1 s1 → Post w pa later k (m + 2) (Gives w (temp j) (Some z)) s r1 (with_reg (with_reg s1 n x) j z)
  done_post s o r1 s1 x z y = record {
    agree = agree_temp w r1 (with_reg s1 n x) j z (omega (arith, is_j, above)) (agree_temp w r1 s1 n x (omega (arith, is_n, above)) y.agree);
    kept = kept_temp w pa k j s (with_reg s1 n x) z (omega (arith, is_j, above)) (omega (arith, is_j)) (kept_temp w pa k n s s1 x (omega (arith, is_n, above)) (omega (arith, is_n)) y.kept);
    value = λ t h. temp_gives w alike j in_j (Some z) t (sym (h.temps j (omega (arith, is_j)) (omega (arith, is_j))) ∙ reg_here (with_reg s1 n x) j z);
  }

  put_new : (s : Regs) (o : O) (r1 s1 : Regs) (x z : Value) → Post w pa later k m (Led o) s r1 s1 → new o (Some x) ≡ Some z → Sim w (Q s) (news_at o (Some x)) r1 put_last (with_reg (with_reg s1 n x) j z)
  unfolding Q put_last
  put_new s o r1 s1 x z y e =
      subst (λ v. Sim w (Q s) (store (reach o) is_event v v) r1 put_last (with_reg (with_reg s1 n x) j z)) (sym e)
      (subst (λ g. Sim w (Q s) g r1 put_last (with_reg (with_reg s1 n x) j z)) (bind-known (store (reach o) is_event (Some z) (Some z)))
      (sim_put w (Q s) (known tt) is_event known (Some z) r1 (with_reg (with_reg s1 n x) j z) pe (reach o) (Some z)
      (runs o z (with_reg (with_reg s1 n x) j z) (still_both s o r1 s1 x z y) (reg_here (with_reg s1 n x) j z))
      (shares o s1 (holds_now w later k (k + m) (Led o) s1 y.value)) (λ u g. Done (Some z) tt refl refl (done_post s o r1 s1 x z y))))

  new_from : (s : Regs) (o : O) (r1 s1 : Regs) → Post w pa later k m (Led o) s r1 s1 → Sim w (Q s) (new_at o) r1 (code_tree w (reads ∷ sets ∷ puts ∷ [])) s1
  unfolding put_last set_last
  new_from s o r1 s1 y =
      subst (λ h. Sim w (Q s) (new_at o) r1 (bind h (λ u. bind (stmt_tree w sets) (λ u. bind (stmt_tree w puts) (λ u. known tt)))) s1) (sym takes)
      (subst (λ h. Sim w (Q s) (new_at o) r1 (bind (take_tree w ce (λ c. Read c manner) n) (λ u. bind h (λ u. bind (stmt_tree w puts) (λ u. known tt)))) s1) (sym keeps)
      (subst (λ h. Sim w (Q s) (new_at o) r1 (bind (take_tree w ce (λ c. Read c manner) n) (λ u. bind (set_tree w ve j) (λ u. bind h (λ u. known tt)))) s1) (sym writes)
      (sim_take w (Q s) set_last (λ c. Read c manner) (news_at o) n r1 s1 in_n sure ce (reach o) (leads o s1 (holds_now w later k (k + m) (Led o) s1 y.value))
      (shares o s1 (holds_now w later k (k + m) (Led o) s1 y.value))
      (λ c' mark x e h i.
      sim_set w (Q s) put_last ve j (new o (Some x)) (news_at o (Some x)) r1 (with_reg s1 n x) in_j
      (news o x (with_reg s1 n x) (typed o s1 (holds_now w later k (k + m) (Led o) s1 y.value) c' e mark h x i) (still s o r1 s1 x y) (reg_here s1 n x))
      (λ g. bad (reach o) (new o (Some x)) r1 g) (λ z g. put_new s o r1 s1 x z y g)))))

  pub sim_new : (r s : Regs) → Sim w (After w pa later k m Led s) operands r (code_tree w xs) s → Sim w (After w pa later k (m + 2) (Gives w (temp j)) s) new_tree r (code_tree w (xs ++ reads ∷ sets ∷ puts ∷ [])) s
  unfolding Q
  sim_new r s d = sim_then w (After w pa later k m Led s) (Q s) new_at xs (reads ∷ sets ∷ puts ∷ []) operands r s d (λ o r1 s1 y. new_from s o r1 s1 y)
