-- `register++` and `register--`: what the register held goes to a temporary, and it is set to the new value.
use Rattle.std.proofs.Common.{◌≡◌, ◌<◌, ◌≤◌, ◌==◌, ℕ, pos, Bool, true, false, not, [], ◌∷◌, Option, Some, None, refl, ap, sym, ◌∙◌, subst, arith}
use Rattle.std.proofs.lemmas.Bool.Decides.{nat_tests}
use Rattle.cc_program.specs.CcNum.declared.int_type.IntType.{IntType}
use Rattle.cc_program.specs.declared.expr.Expr.{Expr, Load}
use Rattle.cc_program.specs.declared.expr.Place.{Local}
use Rattle.cc_program.specs.declared.value.Value.{Value}
use Rattle.cc_program.specs.declared.value.Value.TheVariants.{Int}
use Rattle.cc_states.specs.CcSyntax.Effects.{Registers, no_one, only}
use Rattle.cc_states.specs.CcSyntax.Registers.{is_register}
use Rattle.cc_states.specs.CcSyntax.Values.{ValueType, NoValue, Integer, ToObject, ToFunction, PlaceType}
use Rattle.cc_states.specs.CcEval.declared.action.Action.TheVariants.{Read, Write}
use Rattle.cc_states.specs.CcEval.declared.mark.Mark.TheVariants.{Gave, Did}
use Rattle.cc_states.specs.CcEval.declared.spots.Spot.{Spot}
use Rattle.cc_states.specs.CcEval.Context.{Context, is_seen, reached}
use Rattle.cc_states.specs.CcEval.Eval.{Meaning, Designation, meaning, designation, fetched, value_type, changed as changed_values, stepped_by_one, stepped_with, sum_or_difference, one_more_type}
use Rattle.cc_states.specs.CcEval.Progress.{Get, known, bind, needs}
use Rattle.cc_lower_expressions.specs.Expressions.{temp, set}
use Rattle.cc_states.specs.Answers.{IsMarkOf}
use Rattle.cc_lower_expressions_follows.specs.Trees.{Regs, with_reg, CanGive, Setting, context_p, context_q, register_cell, Stuck, Refused, Ends, Writes, Sim, Done, Left, Runs}
use Rattle.cc_lower_expressions_follows.specs.Relation.{code_tree, stmt_tree, Alike, Agree, Post, Ran, Gives}
use Rattle.cc_lower_expressions_follows.specs.Claims.{After, Worked, good}
use Rattle.cc_lower_expressions_follows.proofs.Assigns.{store}
use Rattle.cc_lower_expressions_follows.proofs.Fetched.{fetch, of_register, own_read}
use Rattle.cc_lower_expressions_follows.proofs.Loads.{temp_gives}
use Rattle.cc_lower_expressions_follows.proofs.Opened.{at-Load}
use Rattle.cc_lower_expressions_follows.proofs.Owned.{Fits, agree_own}
use Rattle.cc_lower_expressions_follows.proofs.Rules.{set_tree, sim_set}
use Rattle.cc_lower_expressions_follows.proofs.Statements.{tree-set}
use Rattle.cc_lower_expressions_follows.proofs.TreeLaws.{bind-assoc, bind-known}
use Rattle.cc_lower_expressions_follows.proofs.Values.{its_spot, local_leads, local_next, gives_local}
use Rattle.cc_lower_expressions_follows.proofs.Whole.{reg_here, reg_other, below_other}

module _ (w : Setting) (alike : Alike w) (i : ℕ) (below : i < w.base) (register : is_register w.from i ≡ true) (down : Bool) (later : Registers) where
  abbrev cp : Context
  cp = context_p w

  abbrev cq : Context
  cq = context_q w

  abbrev d : Designation
  d = designation cp (Local i)

  in_q : is_register w.to i ≡ true
  in_q = alike.registers i below ∙ register

  abbrev new : Option Value → Option Value
  new u = changed_values w.p.target (sum_or_difference down) (one_more_type w.p.target (value_type cp d)) (value_type cp d) u (Some (Int (pos 1)))

  abbrev old_read : Get (Option Value)
  old_read = fetch (Some (register_cell w i)) (of_register (not (later i)))

  abbrev steps : Option Value → Get (Option Value)
  steps u = store (Some (register_cell w i)) false (new u) u

  read_there : fetched cp d later (its_spot cp i) ≡ old_read
  read_there =
      let u = alike.unseen i in_q in
      sym (ap (λ (g : Get (Option Spot)). bind g (fetched cp d later)) (local_leads cp i later)) ∙
      sym (ap (λ (m : Meaning). m.next later) (at-Load cp (Local i))) ∙
      local_next cp i register u.0 (sym (alike.places i below) ∙ u.1) u.2 later

  asked : stepped_by_one cp d down later ≡ bind old_read steps
  asked =
      let u = alike.unseen i in_q in
      let f : d.ctype ≡ Some u.0 = sym (alike.places i below) ∙ u.1 in
      ap (λ (g : Get (Option Spot)). bind g (stepped_with cp d down later)) (local_leads cp i later) ∙
      ap (λ (g : Get (Option Value)). bind g (λ u. store (reached w.p d.ctype (its_spot cp i)) (is_seen d.ctype) (new u) u)) read_there ∙
      ap (λ (t : Option PlaceType). bind old_read (λ u. store (reached w.p t (its_spot cp i)) (is_seen t) (new u) u)) f ∙
      ap (λ (b : Bool). bind old_read (λ u. store (Some (register_cell w i)) b (new u) u)) u.2

  pub new_none : new None ≡ None
  new_none = by_type (value_type cp d) (one_more_type w.p.target (value_type cp d))
    where
      by_type : (ty : Option ValueType) (t : IntType) → changed_values w.p.target (sum_or_difference down) t ty None (Some (Int (pos 1))) ≡ None
      by_type None t = refl
      by_type (Some NoValue) t = refl
      by_type (Some (Integer s)) t = refl
      by_type (Some (ToObject constant volatile to)) t = refl
      by_type (Some (ToFunction sig)) t = refl

  -- what is read is of the register's type
  read_fits : (b : Bool) (o : Option Value) (x : Value) → o ≡ Some x → IsMarkOf w.p w.openings (Read (register_cell w i) (of_register b)) (Gave o) → Fits w alike i x
  read_fits b o x e mark = subst (λ (o : Option Value). IsMarkOf w.p w.openings (Read (register_cell w i) (of_register b)) (Gave o)) e mark

  module _ (n : ℕ) (above : w.base ≤ n) (in_n : is_register w.to n ≡ true) (v : Expr) (gives : (x : Value) (t : Regs) → Fits w alike i x → t n ≡ Some x → Gives w v (new (Some x)) t)
      (keeps_type : (x z : Value) → Fits w alike i x → new (Some x) ≡ Some z → Fits w alike i z) where
    module _ {A : Type 0} (Q : A → Unit {0} → Regs → Regs → Type 0) (f : Option Value → Get A) (r s : Regs) (y : Agree w r s)
        (fin : (x z : Value) → Agree w (with_reg r i z) (with_reg (with_reg s n x) i z) → Sim w Q (f (Some x)) (with_reg r i z) (known tt) (with_reg (with_reg s n x) i z)) where
      differs : (j : ℕ) → j < w.base → (n == j) ≡ false
      differs j l = below_other n j (omega (arith, l, above))

      agree_both : (x z : Value) → Agree w (with_reg r i z) (with_reg (with_reg s n x) i z)
      agree_both x z =
          agree_own w alike i below register (meaning cp v) later r (with_reg (with_reg s n x) i z) z (λ j l g. y.same j l ∙ sym (reg_other s n j x (differs j l)) ∙ sym (reg_other (with_reg s n x) i j z g)) (reg_here (with_reg s n x) i z)

      set_last : Get (Unit {0})
      set_last = bind (set_tree w ((meaning cq v).next no_one) i) (λ u. known tt)

      -- the write of both
      last : (x : Value) → Fits w alike i x → Sim w Q (bind (steps (Some x)) f) r set_last (with_reg s n x)
      unfolding set_last
      last x e =
          sim_set w Q (known tt) ((meaning cq v).next no_one) i (new (Some x)) (bind (steps (Some x)) f) r (with_reg s n x) in_q (gives x (with_reg s n x) e (reg_here s n x))
          (λ g. subst (λ (u : Option Value). Ends w w.from (bind (store (Some (register_cell w i)) false u (Some x)) f) r) (sym g) (Stuck [] refl))
          (λ z g. subst (λ (u : Option Value). Sim w Q (bind (store (Some (register_cell w i)) false u (Some x)) f) r (known tt) (with_reg (with_reg s n x) i z)) (sym g)
          (Left (with_reg r i z) (Write (register_cell w i) false z) Did refl (Writes i z refl register refl refl) (λ mark. fin x z (agree_both x z))))

      ve : Get (Option Value)
      ve = (meaning cq (Load (Local i))).next no_one

      held : Runs w (s i) s ve s
      unfolding ve
      held = let u = alike.unseen i in_q in gives_local w i u.0 s in_q u.1 u.2

      some_same : {u z : Value} → Some u ≡ Some z → u ≡ z
      some_same h = cc

      can : (b : Bool) (x : Value) → CanGive b (Some x)
      can true x = tt
      can false x = tt

      reading : Bool → Get A
      reading b = bind (fetch (Some (register_cell w i)) (of_register b)) (λ u. bind (steps u) f)

      -- the read of both
      first : (b : Bool) (o : Option Value) → r i ≡ o → Sim w Q (reading b) r (bind (set_tree w ve n) (λ u. set_last)) s
      unfolding reading
      first b (Some x) e =
          Left r (Read (register_cell w i) (of_register b)) (Gave (r i)) refl (own_read w r i b register (subst (CanGive b) (sym e) (can b x)))
          (λ mark. subst (λ (u : Option Value). Sim w Q (bind (steps u) f) r (bind (set_tree w ve n) (λ u. set_last)) s) (sym e)
          (sim_set w Q set_last ve n (s i) (bind (steps (Some x)) f) r s in_n held (λ g. absurd (no_value (sym e ∙ y.same i below ∙ g)))
          (λ z g. subst (λ (x' : Value). Sim w Q (bind (steps (Some x)) f) r set_last (with_reg s n x')) (some_same (sym e ∙ y.same i below ∙ g)) (last x (read_fits b (r i) x e mark)))))
        where
          no_value : Some x ≡ None → ⊥
          no_value h = absurd (cc)
      first true None e =
          Left r (Read (register_cell w i) (of_register true)) (Gave (r i)) refl (own_read w r i true register tt)
          (λ mark. sim_set w Q set_last ve n (s i) (bind (steps (r i)) f) r s in_n held
          (λ g. subst (λ (u : Option Value). Ends w w.from (bind (steps u) f) r) (sym e)
          (subst (λ (u : Option Value). Ends w w.from (bind (store (Some (register_cell w i)) false u None) f) r) (sym new_none) (Stuck [] refl)))
          (λ z g. absurd (no_value z (sym e ∙ y.same i below ∙ g))))
        where
          no_value : (z : Value) → None ≡ Some z → ⊥
          no_value z h = absurd (cc)
      first false None e =
          sim_set w Q set_last ve n (s i) (reading false) r s in_n held
          (λ g. Refused (Read (register_cell w i) (of_register false)) refl (record { register = i; manner = of_register false; reads = refl; is_one = register; traps = refl; unwritten = e }))
          (λ z g. absurd (no_value z (sym e ∙ y.same i below ∙ g)))
        where
          no_value : (z : Value) → None ≡ Some z → ⊥
          no_value z h = absurd (cc)

      pub sim_step : Sim w Q (bind (stepped_by_one cp d down later) f) r (code_tree w (set n (Load (Local i)) ∷ set i v ∷ [])) s
      unfolding set_last ve reading
      sim_step =
          let u = alike.unseen n in_n in
          let z = alike.unseen i in_q in
          subst (λ g. Sim w Q g r (code_tree w (set n (Load (Local i)) ∷ set i v ∷ [])) s) (sym (ap (λ g. bind g f) asked ∙ bind-assoc old_read steps f))
          (subst (λ h. Sim w Q (reading (not (later i))) r (bind h (λ u. bind (stmt_tree w (set i v)) (λ u. known tt))) s) (sym (tree-set w n u.0 u.1 u.2 (Load (Local i))))
          (subst (λ h. Sim w Q (reading (not (later i))) r (bind (set_tree w ve n) (λ u. bind h (λ u. known tt))) s) (sym (tree-set w i z.0 z.1 z.2 v)) (first (not (later i)) (r i) refl)))

    -- as a value
    module _ (k : ℕ) (is_k : n ≡ k) where
      value_post : (r s : Regs) (x z : Value) → Agree w r s → Agree w (with_reg r i z) (with_reg (with_reg s n x) i z) → Post w (only (Some i)) later k 1 (Gives w (temp n) (Some x)) s (with_reg r i z) (with_reg (with_reg s n x) i z)
      value_post r s x z y a = record {
        agree = a;
        kept = record {
          regs = λ j l f. sym (reg_other s n j x (below_other n j (omega (arith, l, above)))) ∙ sym (reg_other (with_reg s n x) i j z f);
          temps = λ j l b. sym (reg_other s n j x (below_other n j (omega (arith, b, is_k)))) ∙ sym (reg_other (with_reg s n x) i j z (differs_from j l));
        };
        value = λ t h. temp_gives w alike n in_n (Some x) t (sym (h.temps n (omega (arith, is_k)) (omega (arith, is_k))) ∙ reg_other (with_reg s n x) i n z (differs_from n above) ∙ reg_here s n x);
      }
        where
          differs_from : (j : ℕ) → w.base ≤ j → (i == j) ≡ false
          differs_from j l = grind (arith, nat_tests, below)

      pub step_own_value : (r s : Regs) → Agree w r s → Sim w (After w (only (Some i)) later k 1 (Gives w (temp n)) s) (stepped_by_one cp d down later) r (code_tree w (set n (Load (Local i)) ∷ set i v ∷ [])) s
      step_own_value r s y =
          let Q = After w (only (Some i)) later k 1 (Gives w (temp n)) s in
          subst (λ g. Sim w Q g r (code_tree w (set n (Load (Local i)) ∷ set i v ∷ [])) s) (bind-known (stepped_by_one cp d down later))
          (sim_step Q known r s y (λ x z a. Done (Some x) tt refl refl (value_post r s x z y a)))

      -- alone, where a later operand assigns the register
      pub step_own_alone : (r s : Regs) → Agree w r s → Sim w (Worked w (only (Some i)) k s) (good (stepped_by_one cp d down later)) r (code_tree w (set n (Load (Local i)) ∷ set i v ∷ [])) s
      step_own_alone r s y =
          sim_step (Worked w (only (Some i)) k s) (λ u. needs u known) r s y
          (λ x z a. Done x tt refl refl (let p = value_post r s x z y a in record { agree = p.agree; kept = p.kept }))

  -- alone, where none does: the register is read where it stands
  module _ (k : ℕ) (free : later i ≡ false) (v : Expr) (gives : (x : Value) (t : Regs) → Fits w alike i x → t i ≡ Some x → Gives w v (new (Some x)) t) (gives_none : (t : Regs) → t i ≡ None → Gives w v None t)
      (keeps_type : (x z : Value) → Fits w alike i x → new (Some x) ≡ Some z → Fits w alike i z) (above : w.base ≤ k) where
    here_post : (r s : Regs) (x z : Value) → Agree w r s → Ran w (only (Some i)) k s (with_reg r i z) (with_reg s i z)
    here_post r s x z y = record {
      agree = agree_own w alike i below register (meaning cp v) later r (with_reg s i z) z (λ j l g. y.same j l ∙ sym (reg_other s i j z g)) (reg_here s i z);
      kept = record { regs = λ j l f. sym (reg_other s i j z f); temps = λ j l b. sym (reg_other s i j z (differs_from j l)) };
    }
      where
        differs_from : (j : ℕ) → w.base ≤ j → (i == j) ≡ false
        differs_from j l = grind (arith, nat_tests, below)

    abbrev ends : Option Value → Get Value
    ends u = needs u known

    at_value : (r s : Regs) → Agree w r s → IsMarkOf w.p w.openings (Read (register_cell w i) (of_register true)) (Gave (r i)) → (o : Option Value) → r i ≡ o → Sim w (Worked w (only (Some i)) k s) (bind (steps (r i)) ends) r (bind (set_tree w ((meaning cq v).next no_one) i) (λ u. known tt)) s
    at_value r s y mark None e =
        sim_set w (Worked w (only (Some i)) k s) (known tt) ((meaning cq v).next no_one) i None (bind (steps (r i)) ends) r s in_q (gives_none s (sym (y.same i below) ∙ e))
        (λ g. subst (λ (u : Option Value). Ends w w.from (bind (steps u) ends) r) (sym e)
        (subst (λ (u : Option Value). Ends w w.from (bind (store (Some (register_cell w i)) false u None) ends) r) (sym new_none) (Stuck [] refl)))
        (λ z g. absurd (no_value z g))
      where
        no_value : (z : Value) → None ≡ Some z → ⊥
        no_value z h = absurd (cc)
    at_value r s y mark (Some x) e =
        subst (λ (u : Option Value). Sim w (Worked w (only (Some i)) k s) (bind (steps u) ends) r (bind (set_tree w ((meaning cq v).next no_one) i) (λ u. known tt)) s) (sym e)
        (sim_set w (Worked w (only (Some i)) k s) (known tt) ((meaning cq v).next no_one) i (new (Some x)) (bind (steps (Some x)) ends) r s in_q (gives x s (read_fits true (r i) x e mark) (sym (y.same i below) ∙ e))
        (λ g. subst (λ (u : Option Value). Ends w w.from (bind (store (Some (register_cell w i)) false u (Some x)) ends) r) (sym g) (Stuck [] refl))
        (λ z g. subst (λ (u : Option Value). Sim w (Worked w (only (Some i)) k s) (bind (store (Some (register_cell w i)) false u (Some x)) ends) r (known tt) (with_reg s i z)) (sym g)
        (Left (with_reg r i z) (Write (register_cell w i) false z) Did refl (Writes i z refl register refl refl)
        (λ wrote. Done x tt refl refl (here_post r s x z y)))))

    pub step_own_here : (r s : Regs) → Agree w r s → Sim w (Worked w (only (Some i)) k s) (good (stepped_by_one cp d down later)) r (code_tree w (set i v ∷ [])) s
    step_own_here r s y =
        let z = alike.unseen i in_q in
        subst (λ g. Sim w (Worked w (only (Some i)) k s) g r (code_tree w (set i v ∷ [])) s)
        (sym (ap good asked ∙ bind-assoc old_read steps ends ∙ ap (λ (b : Bool). bind (fetch (Some (register_cell w i)) (of_register (not b))) (λ u. bind (steps u) ends)) free))
        (subst (λ h. Sim w (Worked w (only (Some i)) k s) (bind (fetch (Some (register_cell w i)) (of_register true)) (λ u. bind (steps u) ends)) r (bind h (λ u. known tt)) s) (sym (tree-set w i z.0 z.1 z.2 v))
        (Left r (Read (register_cell w i) (of_register true)) (Gave (r i)) refl (own_read w r i true register tt) (λ mark. at_value r s y mark (r i) refl)))
