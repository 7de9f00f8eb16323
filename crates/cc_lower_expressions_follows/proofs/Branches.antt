-- An `&&`, `||` or `?:` that is not pure: an `if`, in whose arms a temporary is set.
use Rattle.std.proofs.Common.{◌≡◌, ◌≤◌, ℕ, suc, ◌+◌, List, [], ◌∷◌, ◌++◌, Option, Some, None, Bool, true, false, ◌||◌, refl, subst, ap, sym, ◌∙◌, arith, if◌then◌else◌}
use Rattle.std.proofs.Math.Path.{fun_ext}
use Rattle.cc_program.specs.declared.value.Value.{Value}
use Rattle.cc_states.specs.CcEval.Progress.{Get, known, ask, bind, needs, chosen}
use Rattle.cc_states.specs.CcEval.declared.action.Action.TheVariants.{Choose}
use Rattle.cc_states.specs.CcEval.declared.mark.Mark.TheVariants.{Chose}
use Rattle.cc_lower_expressions_follows.specs.Trees.{Regs, Setting, Stuck, Sim, Done, Left, Right, Fail, Runs, Chooses}
use Rattle.cc_states.specs.CcSyntax.Effects.{Registers, also}
use Rattle.cc_lower_expressions_follows.specs.Relation.{forked, Agree, Kept, Post, Wrote}
use Rattle.cc_states.specs.CcValues.Values.{truth}
use Rattle.cc_program.specs.declared.stmt.Stmt.{Stmt}
use Rattle.cc_lower_expressions_follows.specs.Relation.{stmt_tree}
use Rattle.cc_lower_expressions_follows.proofs.TreeLaws.{bind-assoc, sim_bind, sim_right}
use Rattle.cc_lower_expressions_follows.proofs.Frames.{kept_then, holds_now}
use Rattle.cc_lower_expressions_follows.proofs.Combined.{code, sim_then}
use Rattle.cc_lower_expressions_follows.specs.Claims.{good, After, Written}
use Rattle.cc_lower_expressions_follows.proofs.Whole.{wrote_temp, wrote_kept}

abbrev pub branch : Bool → Option Value → Get (Option Bool)
branch true v = ask (Choose (truth v)) chosen
branch false v = needs (truth v) (λ b. ask (Choose (Some b)) chosen)

abbrev pub outcome : Bool → Option Value → Get (Option Value)
outcome true v = known v
outcome false v = needs v (λ w. known (Some w))

abbrev pub arms : Get (Option Value) → Get (Option Value) → Option Bool → Get (Option Value)
arms these those None = known None
arms these those (Some true) = these
arms these those (Some false) = those

abbrev pub choice : Bool → Get (Option Value) → Get (Option Value) → Get (Option Value) → Get (Option Value)
choice pure condition these those =
    bind condition (λ v. bind (branch pure v) (arms (bind these (outcome pure)) (bind those (outcome pure))))

needs_good : (v : Option Value) → needs v (λ x. known (Some x)) ≡ bind (needs v known) (λ x. known (Some x))
needs_good None = refl
needs_good (Some x) = refl

pub outcome-form : (g : Get (Option Value)) → bind g (outcome false) ≡ bind (good g) (λ x. known (Some x))
outcome-form g = ap (bind g) (fun_ext needs_good) ∙ sym (bind-assoc g (λ v. needs v known) (λ x. known (Some x)))

-- ---- the rule of an `if`

module _ (w : Setting) {A B : Type 0} (Q : A → B → Regs → Regs → Type 0) (rest : Get B) (go : Option Bool → Get A) (these those : Get (Unit {0})) where
  abbrev after_if : Unit {0} → Get B
  after_if u = rest

  abbrev to_arm : Bool → Get (Unit {0})
  to_arm b = if b then these else those

  abbrev forks : Option Bool → Get (Unit {0})
  forks t = needs t (λ b. bind (ask (Choose (Some b)) (λ m. b)) to_arm)

  forks_at : (t : Option Bool) (r s : Regs) → ((b : Bool) → t ≡ Some b → Sim w Q (go (Some b)) r (bind (to_arm b) after_if) s) →
      Sim w Q (bind (needs t (λ b. ask (Choose (Some b)) chosen)) go) r (bind (forks t) after_if) s
  forks_at None r s d = Fail (Stuck [] refl) (Stuck [] refl)
  forks_at (Some b) r s d =
      Left r (Choose (Some b)) (Chose (Some b)) refl (Chooses (Some b) refl refl refl)
      (λ x. Right s (Choose (Some b)) (Chose (Some b)) refl (Chooses (Some b) refl refl refl) (d b refl))

  -- both take the branch step, and go to the same arm
  pub sim_if : (c : Get (Option Value)) (v : Option Value) (r s : Regs) → Runs w v s c s → ((b : Bool) → truth v ≡ Some b → Sim w Q (go (Some b)) r (bind (to_arm b) after_if) s) →
      Sim w Q (bind (branch false v) go) r (bind (forked c these those) after_if) s
  sim_if c v r s d k =
      subst (λ h. Sim w Q (bind (branch false v) go) r h s) (sym (bind-assoc c (λ v. forks (truth v)) after_if))
      (sim_right w Q (λ v. bind (forks (truth v)) after_if) d (forks_at (truth v) r s k))

module _ (w : Setting) where
  abbrev tree : Stmt → Get (Unit {0})
  tree = stmt_tree w

  module _ (c these those : Get (Option Value)) (ca aa ab later : Registers) (k m count topa topb : ℕ) (fits : suc m ≤ count) (Is-c : Option Value → Regs → Type 0) (Is : Option Value → Regs → Type 0) (above : w.base ≤ k) (n : ℕ) (is_n : n ≡ k + m) (above_a : suc n ≤ topa) (above_b : suc n ≤ topb)
      (xs ys zs : List Stmt) (one : Stmt) (ce : Get (Option Value)) (splits : tree one ≡ forked ce (code w ys) (code w zs))
      (evaluates : (v : Option Value) (t : Regs) → Is-c v t → Runs w v t ce t) (at_temp : (x : Value) (t : Regs) → t n ≡ Some x → Is (Some x) t) where
    abbrev Result : Regs → Option Value → Unit {0} → Regs → Regs → Type 0
    Result s = After w (also ca (also aa ab)) later k count Is s

    kept_in : (a b : Registers) (s t : Regs) (top : ℕ) → ((i : ℕ) → a i ≡ true → b i ≡ true) → Kept w a top s t → Kept w b top s t
    kept_in a b s t top h x = record { regs = λ i l e. x.regs i l (not_it (a i) (b i) (h i) e); temps = x.temps }
      where
        not_it : (x y : Bool) → (x ≡ true → y ≡ true) → y ≡ false → x ≡ false
        not_it true y h e = let f = h refl in cc
        not_it false y h e = refl

    left_in : (i : ℕ) → aa i ≡ true → also aa ab i ≡ true
    left_in i e = rw e refl

    right_in : (i : ℕ) → ab i ≡ true → also aa ab i ≡ true
    right_in i e = either_true (aa i) (ab i) e
      where
        either_true : (x y : Bool) → y ≡ true → (x || y) ≡ true
        either_true true y e = refl
        either_true false y e = e

    arm_post : (arm : Registers) (in_it : (i : ℕ) → arm i ≡ true → also aa ab i ≡ true) (top : ℕ) (le : suc n ≤ top) (s : Regs) (v : Option Value) (r1 s1 : Regs) (x : Value) (r2 s2 : Regs) →
        Post w ca (also aa (also ab later)) k m (Is-c v) s r1 s1 → Wrote w arm top n x s1 r2 s2 → Post w (also ca (also aa ab)) later k count (Is (Some x)) s r2 s2
    arm_post arm in_it top le s v r1 s1 x r2 s2 y z = record {
      agree = wrote_temp w arm top n x s1 r2 s2 (omega (arith, is_n)) z;
      kept = kept_then w ca (also aa ab) k n s s1 s2 (omega (arith, is_n)) y.kept
          (kept_in arm (also aa ab) s1 s2 n in_it (wrote_kept w arm top n x s1 r2 s2 (omega (arith, is_n)) (omega (arith, le)) z));
      value = λ t h. at_temp x t (sym (h.temps n (omega (arith, is_n)) (omega (arith, is_n, fits))) ∙ z.here);
    }

    module _ (arm : Registers) (in_it : (i : ℕ) → arm i ≡ true → also aa ab i ≡ true) (top : ℕ) (le : suc n ≤ top) (g : Get (Option Value)) (list : List Stmt) where
      in_arm : (s : Regs) (v : Option Value) (r1 s1 : Regs) → Post w ca (also aa (also ab later)) k m (Is-c v) s r1 s1 → Sim w (Written w arm top n s1) (good g) r1 (code w list) s1 →
          Sim w (Result s) (bind g (outcome false)) r1 (bind (code w list) (λ u. known tt)) s1
      in_arm s v r1 s1 y d =
          subst (λ x. Sim w (Result s) x r1 (bind (code w list) (λ u. known tt)) s1) (sym (outcome-form g))
          (sim_bind w (Written w arm top n s1) (Result s) (λ x. known (Some x)) (λ u. known tt)
          (λ x u r2 s2 z. Done (Some x) tt refl refl (arm_post arm in_it top le s v r1 s1 x r2 s2 y z)) d)

    -- what the arms do, from the branch step on
    module _ (da : (r' s' : Regs) → Agree w r' s' → Sim w (Written w aa topa n s') (good these) r' (code w ys) s')
        (db : (r' s' : Regs) → Agree w r' s' → Sim w (Written w ab topb n s') (good those) r' (code w zs) s') where
      to_arms : (s : Regs) (v : Option Value) (r1 s1 : Regs) → Post w ca (also aa (also ab later)) k m (Is-c v) s r1 s1 → (b : Bool) →
          Sim w (Result s) (arms (bind these (outcome false)) (bind those (outcome false)) (Some b)) r1 (bind (if b then code w ys else code w zs) (λ u. known tt)) s1
      to_arms s v r1 s1 y true = in_arm aa left_in topa above_a these ys s v r1 s1 y (da r1 s1 y.agree)
      to_arms s v r1 s1 y false = in_arm ab right_in topb above_b those zs s v r1 s1 y (db r1 s1 y.agree)

      pub sim_choice : (r s : Regs) → Sim w (After w ca (also aa (also ab later)) k m Is-c s) c r (code w xs) s →
          Sim w (Result s) (choice false c these those) r (code w (xs ++ one ∷ [])) s
      sim_choice r s dc =
          sim_then w (After w ca (also aa (also ab later)) k m Is-c s) (Result s) (λ v. bind (branch false v) (arms (bind these (outcome false)) (bind those (outcome false)))) xs (one ∷ []) c r s dc
          (λ v r1 s1 y.
          subst (λ h. Sim w (Result s) (bind (branch false v) (arms (bind these (outcome false)) (bind those (outcome false)))) r1 (bind h (λ u. known tt)) s1) (sym splits)
          (sim_if w (Result s) (known tt) (arms (bind these (outcome false)) (bind those (outcome false))) (code w ys) (code w zs) ce v r1 s1
          (evaluates v s1 (holds_now w (also aa (also ab later)) k (k + m) (Is-c v) s1 y.value)) (λ b f. to_arms s v r1 s1 y b)))
