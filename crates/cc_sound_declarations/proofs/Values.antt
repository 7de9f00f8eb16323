-- Each step of an initialiser gives a scalar what may be assigned to it.
use Rattle.std.proofs.Common.{◌≡◌, ℕ, pos, Bool, true, false, not, List, [], ◌∷◌, ◌++◌, Option, Some, None, Ok, refl, ap, sym, ◌∙◌, subst, append_assoc}
use Rattle.std.specs.Prelude.{option_to_list}
use Rattle.cc_sound_declarations.specs.Scalars.{OneScalar, scalars_of, step_gives, steps_give, IsUnbroken, AreUnbroken}
use Rattle.cc_sound_declarations.proofs.Ordered.{initialised_gives}
use Rattle.cc_sound_declarations.specs.Values.{MayStand, IsGiven, AreGiven}
use Rattle.cc_typed_bodies.specs.CcInitialisers.Contents.{Contents}
use Rattle.cc_typed_bodies.specs.CcInitialisers.Initialisers.{Step, Give, Character, Zero, Visit, Break, here as given_here, initialised}
use Rattle.cc_program.specs.CcNum.declared.int_type.IntType.TheVariants as int
use Rattle.cc_typed_bodies.specs.CcObjects.Values.{zero_expr, no_expr, expr_given}
use Rattle.cc_typed_bodies.specs.CcOperands.Assignments.{assigned}
use Rattle.cc_typed_bodies.specs.CcOperands.Operands.{Operand, integer, character_value}
use Rattle.cc_typed_bodies.specs.CcOperands.Verdicts.{Judged, judge_then}
use Rattle.cc_typed_bodies.specs.CcOperands.declared.rule.Rule.TheVariants as rule
use Rattle.cc_operand_types.specs.Typed.{IsTypedOperand, IsAssigned, stands}
use Rattle.cc_operand_types.proofs.Agreement.{assigned_from}
use Rattle.cc_operand_types.proofs.Constants.{truth_fits}
use Rattle.cc_operand_types.proofs.Literals.{character_fits}
use Rattle.cc_operand_types.proofs.Nulls.{null_typed}
use Rattle.cc_operand_types.proofs.Operands.{ok_is, must_ok, as_constant, integer_as}
use Rattle.cc_operand_types.proofs.Stores.{assigned_typed}
use Rattle.cc_typed_bodies.specs.CcTypedTerms.Values.{value_found}
use Rattle.cc_program.proofs.Each.{Each}
use Rattle.cc_program.specs.declared.expr.Expr.{Expr}
use Rattle.cc_program.specs.declared.program.Roles.{Roles}
use Rattle.cc_typed_bodies.specs.CcScopes.State.{State}
use Rattle.cc_typed_bodies.specs.CcScopes.Verdicts.{Found, whole}
use Rattle.cc_sound_declarations.specs.Ranges.{given_in_range}
use Rattle.cc_sound_declarations.proofs.Initialised.{StepFits}
use Rattle.cc_sound_declarations.proofs.Lists.{initialised_fits}
use Rattle.cc_sound_terms.specs.Behind.{Extends}
use Rattle.cc_sound_terms.specs.Growing.{IsConstant}
use Rattle.cc_sound_terms.specs.Typing.{Knows}
use Rattle.cc_sound_terms.proofs.Behind.{adds_itself, adds_through}
use Rattle.cc_sound_terms.proofs.Cycle.{tree_holds}
use Rattle.cc_sound_terms.proofs.Founds.{answer_is, then_found, whole_found, then_judged}
use Rattle.cc_sound_terms.proofs.Known.{knows_first, knows_second}
use Rattle.cc_sound_terms.proofs.Trees.{value_holds}
use Rattle.cc_typed_bodies.specs.CcSyntax.Types.{Named}
use Rattle.cc_typed_bodies.specs.CcSyntax.Values.{ValueType, NoValue, Integer, ToObject, ToFunction, is_scalar}
use Rattle.cc_typed_bodies.proofs.CcSyntax.AlikeLemmas.{alike_itself, implies_itself, assignable_object, function_itself}
use Rattle.cc_typed_bodies.proofs.CcSyntax.SameLemmas.{int_itself}
use Rattle.cc_typed_bodies.specs.CcSyntax.Views.{View}
use Rattle.cc_typed_bodies.specs.CcTerms.InTurn.{in_turn}
use Rattle.cc_typed_bodies.specs.CcTerms.Terms.{here}
use Rattle.cc_tree.specs.declared.at.At.{At}
use Rattle.cc_tree.specs.declared.unit.Given.{Given}
use Rattle.cc_typed_bodies.specs.Plans.{as_given, step_found, step_done, steps_done}

append_nothing : {A : Type 0} (xs : List A) → xs ++ [] ≡ xs
append_nothing [] = refl
append_nothing (x ∷ xs) = ap (λ ys. x ∷ ys) (append_nothing xs)

each_first : {A : Type 0} (P : A → Type 0) (xs ys : List A) → Each P (xs ++ ys) → Each P xs
each_first P [] ys h = tt
each_first P (x ∷ xs) ys h = (h.0, each_first P xs ys h.1)

each_second : {A : Type 0} (P : A → Type 0) (xs ys : List A) → Each P (xs ++ ys) → Each P ys
each_second P [] ys h = h
each_second P (x ∷ xs) ys h = each_second P xs ys h.1

not_const : (b : Bool) → not b ≡ true → b ≡ false
not_const false h = refl
not_const true h = absurd (cc)

module _ (v : View) (roles : Roles) (locals : List Named) where
  abbrev All : List OneScalar → List Expr → Type 0
  All ss es = AreGiven v locals ss es

  both_given : (ss ts : List OneScalar) (es fs : List Expr) → All ss es → All ts fs → All (ss ++ ts) (es ++ fs)
  both_given [] ts [] fs h k = k
  both_given (s ∷ ss) ts (e ∷ es) fs h k = (h.0, both_given ss ts es fs h.1 k)
  both_given [] ts (e ∷ es) fs h k = elim h [ ]
  both_given (s ∷ ss) ts [] fs h k = elim h [ ]

  -- ---- one scalar

  abbrev judged_ok : Expr → Judged Expr
  judged_ok e = Ok e

  expr_is : (a e : Expr) → judged_ok a ≡ judged_ok e → a ≡ e
  expr_is a e h = ok_is h

  given_is : (constant : Bool) (t : ValueType) (x : Operand) (e : Expr) (s : State) → expr_given v.target constant t x s ≡ Ok e → IsTypedOperand v locals x → stands v t ≡ true → IsGiven v locals (constant, t) e
  given_is constant t x e s h hx st =
      let m = must_ok (not constant) rule.NotModifiable (judge_then (assigned v.target t x) (λ y. Ok y.value)) e h in
      let a = then_judged (assigned v.target t x) (λ y. Ok y.value) e m.1 in
      (not_const constant m.0, subst (IsAssigned v locals t) (expr_is a.0.value e a.2) (assigned_typed v locals t x a.0 st hx a.1))

  zero_assigned : (t : ValueType) → is_scalar t ≡ true → stands v t ≡ true → IsAssigned v locals t (zero_expr t)
  zero_assigned NoValue k h = absurd (cc)
  zero_assigned (Integer i) k h = record {
    own = Integer i;
    typed = integer_as v locals (integer (pos 0) i) i (as_constant v locals (pos 0) i (truth_fits i v.target false)) refl;
    assignable = int_itself i;
  }
  zero_assigned (ToObject c w t) k h =
      let n = null_typed v locals (ToObject c w t) refl h in
      record { own = n.own; typed = n.typed; assignable = assigned_from (ToObject c w t) n.own (ToObject c w t) n.agrees (assignable_object c w t c w t (alike_itself t) (implies_itself c) (implies_itself w)) }
  zero_assigned (ToFunction sig) k h =
      let n = null_typed v locals (ToFunction sig) refl h in
      record { own = n.own; typed = n.typed; assignable = assigned_from (ToFunction sig) n.own (ToFunction sig) n.agrees (function_itself sig) }

  zero_is : (constant : Bool) (t : ValueType) (e : Expr) → no_expr constant t ≡ Ok e → is_scalar t ≡ true → stands v t ≡ true → IsGiven v locals (constant, t) e
  zero_is constant t e h k st =
      let m = must_ok (not constant) rule.NotModifiable (Ok (zero_expr t)) e h in
      (not_const constant m.0, subst (IsAssigned v locals t) (expr_is (zero_expr t) e m.1) (zero_assigned t k st))

  -- ---- a step

  record StepIs (step : Step) (s : State) (r : Option Expr × State) : Type 0 where
    grown : Extends v s r.1
    unbroken : IsUnbroken step
    holds : Knows v locals s r.1 → Each (MayStand v) (step_gives step) → All (step_gives step) (option_to_list r.0)

  -- what a scalar is given, once that is judged
  record IsFound (judged : Judged Expr) (s : State) (r : Option Expr × State) : Type 0 where
    expr : Expr
    is : judged ≡ Ok expr
    what : r.0 ≡ Some expr
    state : r.1 ≡ s

  found_is : (at : ℕ) (judged : Judged Expr) (s : State) (r : Option Expr × State) → as_given (whole at s judged) ≡ Ok r → IsFound judged s r
  found_is at judged s r h =
      let a = then_found (whole at s judged) (λ x s. Ok (Some x, s)) r h in
      let b = whole_found at s judged a.0 a.1 in
      let c = answer_is (Some a.0.0) a.0.1 r a.2 in
      record { expr = a.0.0; is = b.0; what = c.0; state = c.1 ∙ b.1 }

  one_given : (s : OneScalar) (o : Option Expr) (e : Expr) → o ≡ Some e → IsGiven v locals s e → All (s ∷ []) (option_to_list o)
  one_given s o e h k = subst (λ (p : Option Expr). All (s ∷ []) (option_to_list p)) (sym h) (k, tt)

  abbrev found_by : Step → State → Found (Option Expr)
  found_by step s = step_found v.target roles Expr (expr_given v.target) no_expr step s

  step_is : (step : Step) → StepFits step → (s : State) (r : Option Expr × State) → found_by step s ≡ Ok r → StepIs step s r
  step_is (Give constant t e) f s r h =
      let a = then_found (value_found (here v.target roles e) s) (λ x s. as_given (whole e.at s (expr_given v.target constant t x s))) r h in
      let o = value_holds v locals (here v.target roles e) (tree_holds v locals roles e.node f) s a.0 a.1 in
      let b = found_is e.at (expr_given v.target constant t a.0.0 a.0.1) a.0.1 r a.2 in
      record {
        grown = subst (λ (z : State). Extends v s z) (sym b.state) o.grows;
        unbroken = tt;
        holds = λ k m. one_given (constant, t) r.0 b.expr b.what (given_is constant t a.0.0 b.expr a.0.1 b.is (o.holds (subst (λ (z : State). Knows v locals s z) b.state k)) m.0.1);
      }
  step_is (Character at constant t byte) f s r h =
      let x = integer (character_value v.target byte) int.Int in
      let b = found_is at (expr_given v.target constant t x s) s r h in
      record {
        grown = subst (λ (z : State). Extends v s z) (sym b.state) (adds_itself v (IsConstant v.target) s);
        unbroken = tt;
        holds = λ k m. one_given (constant, t) r.0 b.expr b.what (given_is constant t x b.expr s b.is (as_constant v locals (character_value v.target byte) int.Int (character_fits v.target byte)) m.0.1);
      }
  step_is (Zero at constant t) f s r h =
      let b = found_is at (no_expr constant t) s r h in
      record {
        grown = subst (λ (z : State). Extends v s z) (sym b.state) (adds_itself v (IsConstant v.target) s);
        unbroken = tt;
        holds = λ k m. one_given (constant, t) r.0 b.expr b.what (zero_is constant t b.expr b.is m.0.0 m.0.1);
      }
  step_is (Visit e) f s r h =
      let a = then_found (value_found (here v.target roles e) s) (λ x s. Ok (None, s)) r h in
      let o = value_holds v locals (here v.target roles e) (tree_holds v locals roles e.node f) s a.0 a.1 in
      let c = answer_is None a.0.1 r a.2 in
      record {
        grown = subst (λ (z : State). Extends v s z) (sym c.1) o.grows;
        unbroken = tt;
        holds = λ k m. subst (λ (p : Option Expr). All [] (option_to_list p)) (sym c.0) tt;
      }
  step_is (Break at broken) f s r h = absurd (cc)

  -- ---- all steps

  record StepsAre (steps : List Step) (before : List OneScalar) (given : List Expr) (s : State) (r : List Expr × State) : Type 0 where
    grown : Extends v s r.1
    unbroken : AreUnbroken steps
    holds : Knows v locals s r.1 → Each (MayStand v) (steps_give steps) → All before given → All (before ++ steps_give steps) r.0

  steps_are : (steps : List Step) → Each StepFits steps → (before : List OneScalar) (given : List Expr) (s : State) (r : List Expr × State) → in_turn (step_done v.target roles Expr (expr_given v.target) no_expr) steps given s ≡ Ok r →
      StepsAre steps before given s r
  steps_are [] f before given s r h =
      let e = answer_is given s r h in
      record {
        grown = subst (λ (z : State). Extends v s z) (sym e.1) (adds_itself v (IsConstant v.target) s);
        unbroken = tt;
        holds = λ k m g. subst (λ (es : List Expr). All (before ++ []) es) (sym e.0) (subst (λ (ss : List OneScalar). All ss given) (sym (append_nothing before)) g);
      }
  steps_are (step ∷ steps) f before given s r h =
      let a = then_found (step_done v.target roles Expr (expr_given v.target) no_expr step given s) (in_turn (step_done v.target roles Expr (expr_given v.target) no_expr) steps) r h in
      let b = then_found (found_by step s) (λ x s. Ok (given ++ option_to_list x, s)) a.0 a.1 in
      let c = answer_is (given ++ option_to_list b.0.0) b.0.1 a.0 b.2 in
      let o = step_is step f.0 s b.0 b.1 in
      let first = subst (λ (z : State). Extends v s z) (sym c.1) o.grown in
      let rest = steps_are steps f.1 (before ++ step_gives step) a.0.0 a.0.1 r a.2 in
      record {
        grown = adds_through v (IsConstant v.target) s a.0.1 r.1 first rest.grown;
        unbroken = (o.unbroken, rest.unbroken);
        holds = λ k m g.
            let here = subst (λ (z : State). Knows v locals s z) c.1 (knows_first v locals s a.0.1 r.1 first rest.grown k) in
            let one = both_given before (step_gives step) given (option_to_list b.0.0) g (o.holds here (each_first (MayStand v) (step_gives step) (steps_give steps) m)) in
            subst (λ (ss : List OneScalar). All ss r.0) (append_assoc before (step_gives step) (steps_give steps))
            (rest.holds (knows_second v locals s a.0.1 r.1 first rest.grown k) (each_second (MayStand v) (step_gives step) (steps_give steps) m) (subst (All (before ++ step_gives step)) (sym c.0) one));
      }

  pub record ValuesAre (c : Contents) (s : State) (r : List Expr × State) : Type 0 where
    pub grown : Extends v s r.1
    pub holds : Knows v locals s r.1 → Each (MayStand v) (scalars_of c) → All (scalars_of c) r.0

  pub values_are : (c : Contents) (g : At Given) → given_in_range g.node ≡ true → (s : State) (r : List Expr × State) → steps_done v.target roles Expr (expr_given v.target) no_expr (initialised c (given_here g)) s ≡ Ok r → ValuesAre c s r
  values_are c g f s r h =
      let o = steps_are (initialised c (given_here g)) (initialised_fits g f c) [] [] s r h in
      let e = initialised_gives c g o.unbroken in
      record {
        grown = o.grown;
        holds = λ k m. subst (λ (ss : List OneScalar). All ss r.0) e (o.holds k (subst (Each (MayStand v)) (sym e) m) tt);
      }
