-- What is given to an object by its initialiser accesses each device without a name that this declares, and the object has a scalar for all of it (C99 6.7.8).
use Rattle.std.proofs.Common.{◌≡◌, ◌≤◌, ℕ, Bool, true, false, List, [], length, None, Ok, ap, sym, subst, arith}
use Rattle.std.specs.List.{list_any}
use Rattle.cc_accessed_operands.specs.Accessed.{accesses}
use Rattle.cc_accessed_terms.specs.Accounted.{Accounts, DeclaresNone}
use Rattle.cc_accessed_terms.proofs.Accounts.{accounts_itself, accounts_behind}
use Rattle.cc_accessed_terms.proofs.Founds.{then_found, whole_found}
use Rattle.cc_type.specs.CcInitialisers.Initialisers.{here as given_here, initialised}
use Rattle.cc_type.specs.CcInitialisers.Scalars.{scalars_from}
use Rattle.cc_program.specs.CcNum.declared.target.Target.{Target}
use Rattle.cc_type.specs.CcObjects.Types.{contents_in, given_incomplete, completed_type}
use Rattle.cc_type.specs.CcObjects.Values.{leaf_given, no_leaf, expr_given, no_expr}
use Rattle.cc_type.specs.CcOperands.Operands.{Operand}
use Rattle.cc_type.specs.CcOperands.Qualified.{without_const}
use Rattle.cc_type.specs.CcOperands.Verdicts.{Judged}
use Rattle.cc_program.specs.declared.expr.Expr.{Expr}
use Rattle.cc_program.specs.declared.expr.Place.{Place, Local, Static}
use Rattle.cc_program.specs.declared.program.Roles.{Roles}
use Rattle.cc_program.specs.declared.types.CType.{CType}
use Rattle.cc_program.specs.declared.value.Leaf.{Leaf}
use Rattle.cc_type.specs.CcScopes.State.{State, KnownStructure, with_unfinished}
use Rattle.cc_type.specs.CcScopes.Verdicts.{whole, and_then}
use Rattle.cc_sound_declarations.specs.Ranges.{given_in_range}
use Rattle.cc_sound_declarations.specs.Scalars.{OneScalar}
use Rattle.cc_sound_declarations.proofs.Initialised.{steps_extend}
use Rattle.cc_sound_declarations.proofs.Lists.{initialised_fits}
use Rattle.cc_sound_declarations.proofs.Ordered.{initialised_gives}
use Rattle.cc_sound_terms.specs.Growing.{StructuresKept}
use Rattle.cc_type.specs.CcSyntax.Values.{ValueType}
use Rattle.cc_type.specs.CcSyntax.Views.{View}
use Rattle.cc_tree.specs.declared.at.At.{At}
use Rattle.cc_tree.specs.declared.unit.Given.{Given}
use Rattle.cc_type.specs.CcTypedBodies.Objects.{initial_values, leaves_found, exprs_found}
use Rattle.cc_type.specs.CcTypedBodies.Plans.{steps_done}
use Rattle.cc_accessed_bodies.proofs.Founds.{ends}
use Rattle.cc_accessed_bodies.proofs.States.{incomplete_names}
use Rattle.cc_accessed_bodies.proofs.Steps.{leaves_declare, exprs_account, exprs_unbroken, exprs_count}
use Rattle.cc_accessed_bodies.proofs.Taken.{initialised_taken}
use Rattle.cc_accessed_bodies.proofs.Widths.{scalars_width, places_width, contents_less}

module _ (target : Target) (roles : Roles) where
  -- the steps are done where the object is incomplete, and its type is judged behind them
  initial_ends : (X : Type 0) (given : Bool → ValueType → Operand → State → Judged X) (zero_of : Bool → ValueType → Judged X) (P : List X × State → Type 0) (at : ℕ) (a : Place) (t u own : CType) (g : At Given) (s : State) (r : List X × State) →
      initial_values target roles X given zero_of at a t u own g s ≡ Ok r →
      ((y : List X × State) → steps_done target roles X given zero_of (initialised (contents_in own s) (given_here g)) (given_incomplete t a s) ≡ Ok y → P (y.0, with_unfinished None y.1)) → P r
  initial_ends X given zero_of P at a t u own g s r h f =
      let y = then_found (steps_done target roles X given zero_of (initialised (contents_in own s) (given_here g)) (given_incomplete t a s))
      (λ xs s. and_then (whole at s (completed_type target t u s)) (λ u s. Ok (xs, with_unfinished None s))) r h in
      let z = then_found (whole at y.0.1 (completed_type target t u y.0.1)) (λ u s. Ok (y.0.0, with_unfinished None s)) r y.2 in
      let e = whole_found at y.0.1 (completed_type target t u y.0.1) z.0 z.1 in
      ends P y.0.0 (with_unfinished None z.0.1) r z.2 (subst (λ (v : State). P (y.0.0, with_unfinished None v)) (sym e.1) (f y.0 y.1))

  pub leaves_declare_none : (at n : ℕ) (t u : CType) (g : At Given) (s : State) (r : List Leaf × State) → leaves_found target roles at n t u g s ≡ Ok r → DeclaresNone s r.1
  leaves_declare_none at n t u g s r h =
      let start = given_incomplete t (Static n) s in
      initial_ends Leaf (leaf_given target) no_leaf (λ (z : List Leaf × State). DeclaresNone s z.1) at (Static n) t u u g s r h (λ y k.
      accounts_behind (λ i. false) s start y.1 (accounts_itself (λ i. false) s start (incomplete_names t (Static n) s).0)
      (leaves_declare target roles (initialised (contents_in u s) (given_here g)) (initialised_taken (contents_in u s) g) start y k))

  -- what an automatic object is given, for which there are places enough
  pub record AreGiven (n : ℕ) (own : CType) (s : State) (r : List Expr × State) : Type 0 where
    pub accounts : Accounts (λ i. list_any (accesses i) r.0) s r.1
    pub fits : length r.0 ≤ length (scalars_from target (contents_in own r.1) 0 (Local n))

  abbrev any_view : View
  any_view = record { target = target; structures = []; extents = λ i. None; statics = λ i. None; devices = λ i. None; functions = λ i. None }

  pub values_given : (at n : ℕ) (t u : CType) (g : At Given) → given_in_range g.node ≡ true → (s : State) (r : List Expr × State) → exprs_found target roles at n t u g s ≡ Ok r → AreGiven n (without_const u) s r
  values_given at n t u g f s r h =
      let own = without_const u in
      let c = contents_in own s in
      let steps = initialised c (given_here g) in
      let start = given_incomplete t (Local n) s in
      let same = incomplete_names t (Local n) s in
      initial_ends Expr (expr_given target) no_expr (AreGiven n own s) at (Local n) t u own g s r h (λ y k.
      let grown = steps_extend any_view roles Expr (expr_given target) no_expr steps (initialised_fits g f c) start y k in
      let kept = subst (λ (xs : List KnownStructure). StructuresKept xs y.1.structures) same.1 grown.grows.structures in
      let count = exprs_count target roles steps start y k in
      let gives = ap (λ (xs : List OneScalar). length xs) (initialised_gives c g (exprs_unbroken target roles steps start y k)) in
      let some = scalars_width c in
      let less = contents_less s y.1 kept own false in
      let all = places_width target (contents_in own y.1) 0 (Local n) in
      record {
        accounts = accounts_behind (λ i. list_any (accesses i) y.0) s start y.1 (accounts_itself (λ i. false) s start same.0) (exprs_account target roles steps (initialised_taken c g) start y k);
        fits = omega (arith, count, gives, some, less, all);
      })
