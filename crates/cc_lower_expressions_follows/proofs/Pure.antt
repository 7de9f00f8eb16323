-- A pure expression is worked quietly, in p and in q, and has the same value as long as the registers that it reads stay.
use Rattle.std.proofs.Common.{◌≡◌, ◌<◌, ℕ, Bool, true, false, ◌&&◌, Option, Some, None, refl, ap, sym, ◌∙◌, subst}
use Rattle.cc_program.specs.declared.value.Value.{Value}
use Rattle.cc_states.specs.CcSyntax.Effects.{Registers, no_one, also}
use Rattle.cc_states.specs.CcEval.declared.action.Action.{Action}
use Rattle.cc_states.specs.CcEval.declared.action.Action.TheVariants.{Choose}
use Rattle.cc_states.specs.CcEval.declared.mark.Mark.{Mark}
use Rattle.cc_states.specs.CcEval.declared.mark.Mark.TheVariants.{Chose}
use Rattle.cc_states.specs.CcEval.Eval.{Meaning, Designation, from_one, from_two, both_values, choice, branch, outcome, arms}
use Rattle.cc_states.specs.CcEval.Progress.{Get, known, bind}
use Rattle.cc_states.specs.CcValues.Values.{truth}
use Rattle.cc_lower_expressions_follows.specs.Trees.{Regs, Setting, Own, Other, RunsBy, RunsLeft, Runs, Is, Steps, Chooses}
use Rattle.cc_lower_expressions_follows.proofs.TreeLaws.{runs_bind}

-- a choice between quiet trees, of a pure expression
module _ (Step : Action → Regs → Mark → Regs → Type 0) (chooses : (b : Option Bool) (r : Regs) → Step (Choose b) r (Chose b) r) where
  abbrev pub picked : Option Bool → Option Value → Option Value → Option Value
  picked None x y = None
  picked (Some true) x y = x
  picked (Some false) x y = y

  runs_arms : (these those : Get (Option Value)) (b : Option Bool) (x y : Option Value) (r : Regs) → RunsBy Step x r these r → RunsBy Step y r those r →
      RunsBy Step (picked b x y) r (arms (bind these known) (bind those known) b) r
  runs_arms these those None x y r d e = Is refl
  runs_arms these those (Some true) x y r d e = runs_bind Step known d (Is refl)
  runs_arms these those (Some false) x y r d e = runs_bind Step known e (Is refl)

  pub runs_choice : (c these those : Get (Option Value)) (v x y : Option Value) (r : Regs) → RunsBy Step v r c r → RunsBy Step x r these r → RunsBy Step y r those r →
      RunsBy Step (picked (truth v) x y) r (choice true c these those) r
  runs_choice c these those v x y r k d e =
      runs_bind Step (λ v. bind (branch true v) (arms (bind these (outcome true)) (bind those (outcome true)))) k
      (Steps r (Choose (truth v)) (Chose (truth v)) refl (chooses (truth v) r) (runs_arms these those (truth v) x y r d e))

-- ---- two trees that run quietly to one value

module _ (w : Setting) where
  -- registers that are the same but for those that are assigned later
  abbrev pub Outside : Registers → Regs → Regs → Type 0
  Outside later r t = (i : ℕ) → i < w.base → later i ≡ false → r i ≡ t i

  pub record Same {A : Type 0} (later : Registers) (np nq : Get A) (r : Regs) : Type 0 where
    pub answer : A
    pub left : RunsLeft w answer r np r
    pub right : (t : Regs) → Outside later r t → Runs w answer t nq t

  abbrev pub Quiet : {A : Type 0} → Registers → Get A → Get A → Type 0
  Quiet later np nq = (r : Regs) → Same later np nq r

  pub quiet_known : {A : Type 0} (later : Registers) (v : A) → Quiet later (known v) (known v)
  quiet_known later v r = record { answer = v; left = Is refl; right = λ t o. Is refl }

  pub quiet_then : {A B : Type 0} (later : Registers) (gp gq : Get A) (f k : A → Get B) → Quiet later gp gq → ((a : A) → Quiet later (f a) (k a)) → Quiet later (bind gp f) (bind gq k)
  quiet_then later gp gq f k x y r =
      let a = x r in
      let b = y a.answer r in
      record { answer = b.answer; left = runs_bind (Own w) f a.left b.left; right = λ t o. runs_bind (Other w) k (a.right t o) (b.right t o) }

  own_chooses : (b : Option Bool) (r : Regs) → Own w (Choose b) r (Chose b) r
  own_chooses b r = Chooses b refl refl refl

  other_chooses : (b : Option Bool) (r : Regs) → Other w (Choose b) r (Chose b) r
  other_chooses b r = Chooses b refl refl refl

  pub quiet_choice : (later : Registers) (c d a b x y : Get (Option Value)) → Quiet later c d → Quiet later a b → Quiet later x y → Quiet later (choice true c a x) (choice true d b y)
  quiet_choice later c d a b x y hc ha hx r =
      let k = hc r in
      let u = ha r in
      let z = hx r in
      record {
        answer = picked (Own w) own_chooses (truth k.answer) u.answer z.answer;
        left = runs_choice (Own w) own_chooses c a x k.answer u.answer z.answer r k.left u.left z.left;
        right = λ t o. runs_choice (Other w) other_chooses d b y k.answer u.answer z.answer t (k.right t o) (u.right t o) (z.right t o);
      }

  pub record PureExpr (a b : Meaning) (later : Registers) : Type 0 where
    pub none_p : a.effects.assigned ≡ no_one
    pub none_q : b.effects.assigned ≡ no_one
    pub pure_q : b.effects.pure no_one ≡ true
    pub ctype : b.ctype ≡ a.ctype
    pub runs : Quiet later (a.next later) (b.next no_one)

  pub record PurePlace (a b : Designation) (later : Registers) : Type 0 where
    pub none_p : a.effects.assigned ≡ no_one
    pub none_q : b.effects.assigned ≡ no_one
    pub pure_q : b.effects.pure no_one ≡ true
    pub register : b.effects.register ≡ a.effects.register
    pub ctype : b.ctype ≡ a.ctype
    pub runs : Quiet later (a.leads later) (b.leads no_one)

  -- in front of an operand that assigns nothing
  pub before : {A : Type 0} (later : Registers) (np nq : Registers → Get A) (a b : Registers) → a ≡ no_one → b ≡ no_one → Quiet later (np later) (nq no_one) → Quiet later (np (also a later)) (nq (also b no_one))
  before later np nq a b e f h = subst (λ (x : Registers). Quiet later (np (also x later)) (nq (also b no_one))) (sym e) (subst (λ (x : Registers). Quiet later (np later) (nq (also x no_one))) (sym f) h)

  pub quiet_one : {A : Type 0} (f k : Option Value → A) (a b : Meaning) (later : Registers) → f ≡ k → PureExpr a b later → Quiet later (from_one f a later) (from_one k b no_one)
  quiet_one {A = A} f k a b later e h =
      quiet_then later (a.next later) (b.next no_one) (λ v. known (f v)) (λ v. known (k v)) h.runs
      (λ v. subst (λ (k : Option Value → A). Quiet later (known (f v)) (known (k v))) e (quiet_known later (f v)))

  pub quiet_pair : (a b c d : Meaning) (later : Registers) → PureExpr a b later → PureExpr c d later → Quiet later (both_values a c later) (both_values b d no_one)
  quiet_pair a b c d later h k =
      quiet_then later (a.next (also c.effects.assigned later)) (b.next (also d.effects.assigned no_one)) (λ v. bind (c.next later) (λ u. known (v, u))) (λ v. bind (d.next no_one) (λ u. known (v, u)))
      (before later a.next b.next c.effects.assigned d.effects.assigned k.none_p k.none_q h.runs)
      (λ v. quiet_then later (c.next later) (d.next no_one) (λ u. known (v, u)) (λ u. known (v, u)) k.runs (λ u. quiet_known later (v, u)))

  pub quiet_two : {A : Type 0} (f k : Option Value → Option Value → A) (a b c d : Meaning) (later : Registers) → f ≡ k → PureExpr a b later → PureExpr c d later → Quiet later (from_two f a c later) (from_two k b d no_one)
  quiet_two {A = A} f k a b c d later e h x =
      quiet_then later (both_values a c later) (both_values b d no_one) (λ p. known (f p.0 p.1)) (λ p. known (k p.0 p.1)) (quiet_pair a b c d later h x)
      (λ p. subst (λ (k : Option Value → Option Value → A). Quiet later (known (f p.0 p.1)) (known (k p.0 p.1))) e (quiet_known later (f p.0 p.1)))

  pub none_of : (a b : Registers) → a ≡ no_one → b ≡ no_one → also a b ≡ no_one
  none_of a b e f = ap (λ (x : Registers). also x b) e ∙ f

  pub both_pure : (a b : Bool) → a ≡ true → b ≡ true → (a && b) ≡ true
  both_pure a b e f = rw (e, f) refl
