-- What is given to the scalars of an object accesses each device without a name that an initialiser declares (C99 6.7.8).
use Rattle.std.proofs.Common.{◌≡◌, ◌+◌, ◌≤◌, ℕ, Bool, true, false, not, List, [], ◌∷◌, ◌++◌, length, Option, Some, None, Ok, Err, refl, sym, ◌∙◌, subst, arith, length-append}
use Rattle.std.specs.Prelude.{option_to_list}
use Rattle.std.specs.List.{list_any}
use Rattle.std.proofs.lemmas.Bool.{or_left, or_right}
use Rattle.cc_accessed_operands.specs.Accessed.{accesses, of_place, place_access}
use Rattle.cc_accessed_operands.proofs.Accesses.{or_kept, no}
use Rattle.cc_accessed_operands.proofs.Assignments.{assigned_keeps, assignment_keeps}
use Rattle.cc_accessed_operands.proofs.Verdicts.{ok_is, must_ok, then_ok}
use Rattle.cc_accessed_terms.specs.Accounted.{Accounts, DeclaresNone}
use Rattle.cc_accessed_terms.proofs.Accounts.{accounts_itself, accounts_more, accounts_through}
use Rattle.cc_accessed_terms.proofs.Founds.{then_found}
use Rattle.cc_accessed_terms.proofs.Terms.{value_accounts}
use Rattle.cc_type.specs.CcInitial.Addresses.{leaf_of}
use Rattle.cc_type.specs.CcInitialisers.Initialisers.{Step, Give, Character, Zero, Visit, Break}
use Rattle.cc_program.specs.CcNum.declared.int_type.IntType.TheVariants as int
use Rattle.cc_program.specs.CcNum.declared.target.Target.{Target}
use Rattle.cc_type.specs.CcObjects.Values.{objects_in, no_leaf, no_expr, leaf_given, expr_given, assignments}
use Rattle.cc_type.specs.CcOperands.Assignments.{assigned}
use Rattle.cc_type.specs.CcOperands.Operands.{Operand, integer, character_value}
use Rattle.cc_type.specs.CcOperands.Verdicts.{Judged, judge_then}
use Rattle.cc_type.specs.CcOperands.declared.rule.Rule.TheVariants as rule
use Rattle.cc_program.proofs.Each.{Each}
use Rattle.cc_program.specs.declared.expr.Expr.{Expr, Assign}
use Rattle.cc_program.specs.declared.expr.Place.{Place}
use Rattle.cc_program.specs.declared.program.Roles.{Roles}
use Rattle.cc_program.specs.declared.value.Leaf.{Leaf}
use Rattle.cc_type.specs.CcScopes.State.{State, structures_of}
use Rattle.cc_type.specs.CcScopes.Verdicts.{whole}
use Rattle.cc_sound_declarations.specs.Scalars.{step_gives, steps_give, IsUnbroken, AreUnbroken}
use Rattle.cc_type.specs.CcSyntax.Values.{ValueType}
use Rattle.cc_type.specs.CcTerms.InTurn.{in_turn}
use Rattle.cc_type.specs.CcTerms.Terms.{here}
use Rattle.cc_type.specs.CcTypedBodies.Plans.{as_given, step_found, step_done, steps_done}
use Rattle.cc_type.specs.CcTypedTerms.Values.{value_found}
use Rattle.cc_accessed_bodies.proofs.Founds.{ends, any_front, any_behind}
use Rattle.cc_accessed_bodies.proofs.Leaves.{leaf_none}
use Rattle.cc_accessed_bodies.proofs.Taken.{IsTaken, AreTaken}

module _ (target : Target) (roles : Roles) where
  -- `reads` says what something that is given accesses, which keeps what the expression accesses that gives it
  module _ (X : Type 0) (given : Bool → ValueType → Operand → State → Judged X) (zero_of : Bool → ValueType → Judged X) (reads : X → ℕ → Bool)
      (keeps : (constant : Bool) (t : ValueType) (x : Operand) (s : State) (y : X) → given constant t x s ≡ Ok y → (i : ℕ) → accesses i x.value ≡ true → reads y i ≡ true) where
    abbrev all_read : List X → ℕ → Bool
    all_read xs i = list_any (λ x. reads x i) xs

    -- a step that is done
    record IsDone (step : Step) (s : State) (r : Option X × State) : Type 0 where
      unbroken : IsUnbroken step
      count : length (option_to_list r.0) ≡ length (step_gives step)
      accounts : IsTaken step → Accounts (all_read (option_to_list r.0)) s r.1

    given_ends : (P : Option X × State → Type 0) (at : ℕ) (s : State) (judged : Judged X) (r : Option X × State) → as_given (whole at s judged) ≡ Ok r → ((y : X) → judged ≡ Ok y → P (Some y, s)) → P r
    given_ends P at s (Ok y) r h f = ends P (Some y) s r h (f y refl)
    given_ends P at s (Err broken) r h f = absurd (cc)

    step_is_done : (step : Step) (s : State) (r : Option X × State) → step_found target roles X given zero_of step s ≡ Ok r → IsDone step s r
    step_is_done (Give constant t e) s r h =
        let x = then_found (value_found (here target roles e) s) (λ x s. as_given (whole e.at s (given constant t x s))) r h in
        given_ends (IsDone (Give constant t e) s) e.at x.0.1 (given constant t x.0.0 x.0.1) r x.2 (λ y k. record {
          unbroken = tt;
          count = refl;
          accounts = λ u. accounts_more (λ i. accesses i x.0.0.value) (all_read (y ∷ [])) s x.0.1 (λ i a. or_left (reads y i) false (keeps constant t x.0.0 x.0.1 y k i a)) (value_accounts target roles e s x.0 x.1);
        })
    step_is_done (Character at constant t byte) s r h =
        given_ends (IsDone (Character at constant t byte) s) at s (given constant t (integer (character_value target byte) int.Int) s) r h
        (λ y k. record { unbroken = tt; count = refl; accounts = λ u. accounts_itself (all_read (y ∷ [])) s s refl })
    step_is_done (Zero at constant t) s r h =
        given_ends (IsDone (Zero at constant t) s) at s (zero_of constant t) r h (λ y k. record { unbroken = tt; count = refl; accounts = λ u. accounts_itself (all_read (y ∷ [])) s s refl })
    step_is_done (Visit e) s r h =
        let x = then_found (value_found (here target roles e) s) (λ x s. Ok (None, s)) r h in
        ends (IsDone (Visit e) s) None x.0.1 r x.2 (record { unbroken = tt; count = refl; accounts = λ u. absurd u })
    step_is_done (Break at broken) s r h = absurd (cc)

    -- all steps, behind what was given before
    record AreDone (steps : List Step) (before : List X) (s : State) (r : List X × State) : Type 0 where
      unbroken : AreUnbroken steps
      count : length r.0 ≡ length before + length (steps_give steps)
      kept : (i : ℕ) → all_read before i ≡ true → all_read r.0 i ≡ true
      accounts : Each IsTaken steps → Accounts (all_read r.0) s r.1

    abbrev turn : List Step → List X → State → Type 0
    turn steps before s = (r : List X × State) → in_turn (step_done target roles X given zero_of) steps before s ≡ Ok r → AreDone steps before s r

    steps_are_done : (steps : List Step) (before : List X) (s : State) → turn steps before s
    steps_are_done [] before s r h =
        ends (AreDone [] before s) before s r h (record { unbroken = tt; count = omega arith; kept = λ i k. k; accounts = λ u. accounts_itself (all_read before) s s refl })
    steps_are_done (step ∷ steps) before s r h =
        let a = then_found (step_done target roles X given zero_of step before s) (in_turn (step_done target roles X given zero_of) steps) r h in
        let b = then_found (step_found target roles X given zero_of step s) (λ x s. Ok (before ++ option_to_list x, s)) a.0 a.1 in
        let new = option_to_list b.0.0 in
        let rest : AreDone steps (before ++ new) b.0.1 r = ends (λ (z : List X × State). in_turn (step_done target roles X given zero_of) steps z.0 z.1 ≡ Ok r → AreDone steps (before ++ new) b.0.1 r) (before ++ new) b.0.1 a.0 b.2
        (steps_are_done steps (before ++ new) b.0.1 r) a.2 in
        let first = step_is_done step s b.0 b.1 in
        let c = length-append before new in
        let d = length-append (step_gives step) (steps_give steps) in
        let e = first.count in
        let f = rest.count in
        record {
          unbroken = (first.unbroken, rest.unbroken);
          count = omega (arith, c, d, e, f);
          kept = λ i k. rest.kept i (any_front (λ x. reads x i) before new k);
          accounts = λ u. accounts_through (all_read new) (all_read r.0) (all_read r.0) s b.0.1 r.1 (λ i k. rest.kept i (any_behind (λ x. reads x i) before new k)) (λ i k. k) (first.accounts u.0) (rest.accounts u.1);
        }

    pub steps_account : (steps : List Step) → AreTaken steps → (s : State) (r : List X × State) → steps_done target roles X given zero_of steps s ≡ Ok r → Accounts (all_read r.0) s r.1
    steps_account steps taken s r h = let d = steps_are_done steps [] s r h in d.accounts (taken d.unbroken)

    pub steps_unbroken : (steps : List Step) (s : State) (r : List X × State) → steps_done target roles X given zero_of steps s ≡ Ok r → AreUnbroken steps
    steps_unbroken steps s r h = (steps_are_done steps [] s r h).unbroken

    pub steps_count : (steps : List Step) (s : State) (r : List X × State) → steps_done target roles X given zero_of steps s ≡ Ok r → length r.0 ≡ length (steps_give steps)
    steps_count steps s r h = let c = (steps_are_done steps [] s r h).count in omega (arith, c)

  -- ---- first values of static objects

  leaf_keeps : (constant : Bool) (t : ValueType) (x : Operand) (s : State) (y : Leaf) → leaf_given target constant t x s ≡ Ok y → (i : ℕ) → accesses i x.value ≡ true → false ≡ true
  leaf_keeps constant t x s y h i a =
      let z = then_ok (assigned target t x) (λ z. leaf_of (structures_of s) (objects_in s) z) y h in
      sym (leaf_none i (structures_of s) (objects_in s) z.0 y z.2) ∙ assigned_keeps target t x z.0 z.1 i a

  none_read : (xs : List Leaf) → list_any (λ (x : Leaf). false) xs ≡ true → false ≡ true
  none_read [] h = h
  none_read (x ∷ xs) h = none_read xs h

  pub leaves_declare : (steps : List Step) → AreTaken steps → (s : State) (r : List Leaf × State) → steps_done target roles Leaf (leaf_given target) no_leaf steps s ≡ Ok r → DeclaresNone s r.1
  leaves_declare steps taken s r h =
      accounts_more (λ i. list_any (λ (x : Leaf). false) r.0) (λ i. false) s r.1 (λ i k. none_read r.0 k) (steps_account Leaf (leaf_given target) no_leaf (λ y i. false) leaf_keeps steps taken s r h)

  -- ---- what automatic objects are assigned

  expr_keeps : (constant : Bool) (t : ValueType) (x : Operand) (s : State) (e : Expr) → expr_given target constant t x s ≡ Ok e → (i : ℕ) → accesses i x.value ≡ true → accesses i e ≡ true
  expr_keeps constant t x s e h i a =
      let z = then_ok (assigned target t x) (λ z. Ok z.value) e (must_ok (not constant) rule.NotModifiable (judge_then (assigned target t x) (λ z. Ok z.value)) e h).1 in
      subst (λ (y : Expr). accesses i y ≡ true) (ok_is z.2) (assigned_keeps target t x z.0 z.1 i a)

  abbrev all_access : List Expr → ℕ → Bool
  all_access es i = list_any (accesses i) es

  pub exprs_account : (steps : List Step) → AreTaken steps → (s : State) (r : List Expr × State) → steps_done target roles Expr (expr_given target) no_expr steps s ≡ Ok r → Accounts (λ i. list_any (accesses i) r.0) s r.1
  exprs_account steps taken s r h = steps_account Expr (expr_given target) no_expr (λ e i. accesses i e) expr_keeps steps taken s r h

  pub exprs_unbroken : (steps : List Step) (s : State) (r : List Expr × State) → steps_done target roles Expr (expr_given target) no_expr steps s ≡ Ok r → AreUnbroken steps
  exprs_unbroken steps s r h = steps_unbroken Expr (expr_given target) no_expr (λ e i. accesses i e) expr_keeps steps s r h

  pub exprs_count : (steps : List Step) (s : State) (r : List Expr × State) → steps_done target roles Expr (expr_given target) no_expr steps s ≡ Ok r → length r.0 ≡ length (steps_give steps)
  exprs_count steps s r h = steps_count Expr (expr_given target) no_expr (λ e i. accesses i e) expr_keeps steps s r h

-- each value is assigned, where there are places enough
pub assignments_keep : (i : ℕ) (places : List Place) (es : List Expr) → length es ≤ length places → list_any (accesses i) es ≡ true → list_any (accesses i) (assignments places es) ≡ true
assignments_keep i places [] l h = no h
assignments_keep i [] (e ∷ es) l h = absurd (omega arith)
assignments_keep i (a ∷ places) (e ∷ es) l h =
    let m : length es ≤ length places = omega arith in
    or_kept (accesses i e) (list_any (accesses i) es) (accesses i (Assign a e)) (list_any (accesses i) (assignments places es)) (λ k. assignment_keeps a e i (or_right (of_place (place_access i a)) (accesses i e) k)) (assignments_keep i places es m) h
