-- What the scalars of an automatic object are given, and the assignments of that, are folded (C99 6.7.8).
use Rattle.std.proofs.Common.{◌≡◌, ℕ, zero, suc, pos, Bool, true, not, List, [], ◌∷◌, ◌++◌, Option, Some, None, Ok, subst}
use Rattle.std.specs.Prelude.{option_to_list}
use Rattle.cc_typed_bodies.specs.CcInitialisers.Contents.{Contents, Scalar, Elements, NoMember, Members}
use Rattle.cc_typed_bodies.specs.CcInitialisers.Initialisers.{Step, Give, Character, Zero, Visit, Break}
use Rattle.cc_typed_bodies.specs.CcInitialisers.Scalars.{decimal, index_at, elements_from, scalars_from}
use Rattle.cc_program.specs.CcNum.declared.int_type.IntType.TheVariants as int
use Rattle.cc_program.specs.CcNum.declared.target.Target.{Target}
use Rattle.cc_typed_bodies.specs.CcObjects.Values.{zero_expr, no_expr, expr_given, assignments}
use Rattle.cc_typed_bodies.specs.CcOperands.Assignments.{assigned}
use Rattle.cc_typed_bodies.specs.CcOperands.Operands.{Operand, integer, character_value, number_type}
use Rattle.cc_typed_bodies.specs.CcOperands.Verdicts.{Judged, judge_then}
use Rattle.cc_typed_bodies.specs.CcOperands.declared.rule.Rule.TheVariants as rule
use Rattle.cc_program.proofs.Each.{Each}
use Rattle.cc_program.specs.declared.expr.Expr.{Expr}
use Rattle.cc_program.specs.declared.expr.Place.{Place, Element, Member}
use Rattle.cc_program.specs.declared.program.Roles.{Roles}
use Rattle.cc_typed_bodies.specs.CcScopes.State.{State}
use Rattle.cc_typed_bodies.specs.CcScopes.Verdicts.{whole}
use Rattle.cc_eval.specs.CcSyntax.Folding.{is_folded_place}
use Rattle.cc_eval.specs.CcSyntax.Values.{ValueType, NoValue, Integer, ToObject, ToFunction}
use Rattle.cc_typed_bodies.specs.CcTerms.Terms.{here}
use Rattle.cc_tree.specs.declared.at.At.{At}
use Rattle.cc_tree.specs.declared.tree.Tree.{Tree}
use Rattle.cc_typed_bodies.specs.Plans.{as_given, step_found, step_done, steps_done}
use Rattle.cc_typed_bodies.specs.CcTypedTerms.Values.{value_found}
use Rattle.cc_folded_operands.specs.Folded.{IsFoldedOperand}
use Rattle.cc_folded_operands.proofs.Assignments.{assigned_folded, assignment_folded}
use Rattle.cc_folded_operands.proofs.Conversions.{null_folded}
use Rattle.cc_folded_operands.proofs.Opened.{constant_operand, element_folded, member_folded}
use Rattle.cc_folded_operands.proofs.Verdicts.{ok_is, must_ok, then_ok}
use Rattle.cc_folded_terms.proofs.Founds.{answer_is, then_found, whole_found, each_append, in_turn_found}
use Rattle.cc_folded_terms.proofs.TreeInduction.{tree_folds}
use Rattle.cc_folded_terms.proofs.Trees.{value_folds}
use Rattle.cc_folded_bodies.proofs.Statements.{Folded}

module _ (target : Target) where
  abbrev IsFoldedPlace : Place → Type 0
  IsFoldedPlace a = is_folded_place target a ≡ true

  -- ---- the places of scalars

  index_folded : (i : ℕ) → Folded target (index_at target i)
  index_folded i = (constant_operand target (pos i) (number_type target i decimal)).folded

  elements_folded : (of : Place → List Place) → ((a : Place) → IsFoldedPlace a → Each IsFoldedPlace (of a)) → (i n : ℕ) (a : Place) → IsFoldedPlace a → Each IsFoldedPlace (elements_from target i n of a)
  elements_folded of f i zero a h = tt
  elements_folded of f i (suc n) a h =
      each_append IsFoldedPlace (of (Element a (index_at target i))) (elements_from target (suc i) n of a)
      (f (Element a (index_at target i)) (element_folded target a (index_at target i) h (index_folded i))) (elements_folded of f (suc i) n a h)

  pub scalars_folded : (c : Contents) (m : ℕ) (a : Place) → IsFoldedPlace a → Each IsFoldedPlace (scalars_from target c m a)
  scalars_folded (Scalar constant t) m a h = (h, tt)
  scalars_folded (Elements n of) m a h = elements_folded (scalars_from target of 0) (λ b k. scalars_folded of 0 b k) 0 n a h
  scalars_folded NoMember m a h = tt
  scalars_folded (Members first rest) m a h =
      each_append IsFoldedPlace (scalars_from target first 0 (Member a m)) (scalars_from target rest (suc m) a) (scalars_folded first 0 (Member a m) (member_folded target a m h)) (scalars_folded rest (suc m) a h)

  pub assignments_folded : (places : List Place) (es : List Expr) → Each IsFoldedPlace places → Each (Folded target) es → Each (Folded target) (assignments places es)
  assignments_folded (a ∷ places) (e ∷ es) h k = (assignment_folded target a e h.0 k.0, assignments_folded places es h.1 k.1)
  assignments_folded [] es h k = tt
  assignments_folded (a ∷ places) [] h k = tt

  -- ---- what a scalar is given

  zero_folded : (t : ValueType) → Folded target (zero_expr t)
  zero_folded (Integer t) = (constant_operand target (pos 0) t).folded
  zero_folded NoValue = null_folded target NoValue
  zero_folded (ToObject c v t) = null_folded target (ToObject c v t)
  zero_folded (ToFunction sig) = null_folded target (ToFunction sig)

  none_given : (constant : Bool) (t : ValueType) (e : Expr) → no_expr constant t ≡ Ok e → Folded target e
  none_given constant t e h = subst (Folded target) (ok_is (must_ok (not constant) rule.NotModifiable (Ok (zero_expr t)) e h).1) (zero_folded t)

  given_folded : (constant : Bool) (t : ValueType) (x : Operand) (s : State) (e : Expr) → IsFoldedOperand target x → expr_given target constant t x s ≡ Ok e → Folded target e
  given_folded constant t x s e d h =
      let y = then_ok (assigned target t x) (λ y. Ok y.value) e (must_ok (not constant) rule.NotModifiable (judge_then (assigned target t x) (λ y. Ok y.value)) e h).1 in
      subst (Folded target) (ok_is y.2) (assigned_folded target t x y.0 d y.1)

  abbrev IsGiven : Option Expr → Type 0
  IsGiven o = Each (Folded target) (option_to_list o)

  as_given_folded : (at : ℕ) (s : State) (judged : Judged Expr) (r : Option Expr × State) → ((e : Expr) → judged ≡ Ok e → Folded target e) → as_given (whole at s judged) ≡ Ok r → IsGiven r.0
  as_given_folded at s judged r f h =
      let x = then_found (whole at s judged) (λ x s. Ok (Some x, s)) r h in
      subst IsGiven (answer_is (Some x.0.0) x.0.1 r x.2) (f x.0.0 (whole_found at s judged x.0 x.1), tt)

  module _ (roles : Roles) where
    value_here : (e : At Tree) (s : State) (r : Operand × State) → value_found (here target roles e) s ≡ Ok r → IsFoldedOperand target r.0
    value_here e s r h = value_folds target (here target roles e) (tree_folds target roles e.node) s r h

    step_folded : (step : Step) (s : State) (r : Option Expr × State) → step_found target roles Expr (expr_given target) no_expr step s ≡ Ok r → IsGiven r.0
    step_folded (Give constant t e) s r h =
        let x = then_found (value_found (here target roles e) s) (λ x s. as_given (whole e.at s (expr_given target constant t x s))) r h in
        as_given_folded e.at x.0.1 (expr_given target constant t x.0.0 x.0.1) r (λ y k. given_folded constant t x.0.0 x.0.1 y (value_here e s x.0 x.1) k) x.2
    step_folded (Character at constant t byte) s r h =
        as_given_folded at s (expr_given target constant t (integer (character_value target byte) int.Int) s) r
        (λ y k. given_folded constant t (integer (character_value target byte) int.Int) s y (constant_operand target (character_value target byte) int.Int) k) h
    step_folded (Zero at constant t) s r h = as_given_folded at s (no_expr constant t) r (λ y k. none_given constant t y k) h
    step_folded (Visit e) s r h =
        let x = then_found (value_found (here target roles e) s) (λ x s. Ok (None, s)) r h in subst IsGiven (answer_is None x.0.1 r x.2) tt
    step_folded (Break at broken) s r h = absurd (cc)

    step_next : (step : Step) → Unit {0} → (before : List Expr) (s : State) (r : List Expr × State) → Each (Folded target) before → step_done target roles Expr (expr_given target) no_expr step before s ≡ Ok r → Each (Folded target) r.0
    step_next step u before s r k h =
        let x = then_found (step_found target roles Expr (expr_given target) no_expr step s) (λ x s. Ok (before ++ option_to_list x, s)) r h in
        subst (Each (Folded target)) (answer_is (before ++ option_to_list x.0.0) x.0.1 r x.2) (each_append (Folded target) before (option_to_list x.0.0) k (step_folded step s x.0 x.1))

    any_step : (steps : List Step) → Each (λ (x : Step). Unit {0}) steps
    any_step [] = tt
    any_step (x ∷ xs) = (tt, any_step xs)

    pub steps_folded : (steps : List Step) (s : State) (r : List Expr × State) → steps_done target roles Expr (expr_given target) no_expr steps s ≡ Ok r → Each (Folded target) r.0
    steps_folded steps s r h = in_turn_found (step_done target roles Expr (expr_given target) no_expr) (λ (x : Step). Unit {0}) (Each (Folded target)) step_next steps (any_step steps) [] s r tt h
