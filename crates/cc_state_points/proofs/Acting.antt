-- The operands of a statement in normal form are pure, with values of scalar types, and what gets a value as a register is one.
use Rattle.std.proofs.Common.{◌≡◌, ℕ, zero, suc, Bool, true, false, true≢false, not, ◌&&◌, ◌||◌, List, [], ◌∷◌, map, get_or, Option, Some, None, refl, ap, sym, ◌∙◌, subst, slice_get}
use Rattle.std.specs.Prelude.{is_some, option_and_then, if◌then◌else◌}
use Rattle.std.specs.List.{All, list_all, flat_map}
use Rattle.std.proofs.lemmas.Option.{same_Some, none-some, slice_get-get_or}
use Rattle.cc_rules_flows.proofs.CcFlowSound.Opened.{NormalAt}
use Rattle.cc_rules_flows.specs.CcFlowSound.Statements.{statement_at}
use Rattle.cc_program.specs.CcNum.declared.int_type.IntType.{IntType}
use Rattle.cc_program.specs.CcNum.declared.int_type.IntType.TheVariants as int
use Rattle.cc_program.specs.declared.expr.Expr.{Expr, out-Expr, map-Expr}
use Rattle.cc_program.specs.declared.expr.Expr.TheOpen as one
use Rattle.cc_program.specs.declared.expr.Intr.{Intr}
use Rattle.cc_program.specs.declared.expr.Intr.TheVariants as intr
use Rattle.cc_program.specs.declared.expr.Place.{Place, out-Place}
use Rattle.cc_program.specs.declared.func.Func.{Func}
use Rattle.cc_program.specs.declared.program.Program.{Program}
use Rattle.cc_program.specs.declared.stmt.Case.{Case}
use Rattle.cc_program.specs.declared.stmt.Stmt.{Stmt, out-Stmt}
use Rattle.cc_program.specs.declared.stmt.Stmt.TheOpen as is
use Rattle.cc_program.specs.declared.types.CType.{CType}
use Rattle.cc_program.specs.declared.types.Sig.{Sig, out-Sig}
use Rattle.cc_rules_flows.specs.Acts.{acts, does, assigns, gets, loads, intrinsic, act_of}
use Rattle.cc_state.proofs.Numbered.{register_numbered}
use Rattle.cc_state_points.proofs.Sound.{its_normal, its_sound, sound_level}
use Rattle.cc_state_points.specs.Operands.{IsRegister, MayGet, IsCall, AreOperands}
use Rattle.cc_rules_flows.proofs.CcStateValues.Parts.{effects_at, place_effects_at, typed_as, pure_of, pure_place_of, by_place}
use Rattle.cc_rules_flows.proofs.CcStateValues.Rules.{one_there, two_there, when_there, assigned_scalar}
use Rattle.cc_rules_flows.specs.CcStateValues.Typed.{IsPure}
use Rattle.cc_rules_flows.proofs.CcStates.SoundLemmas.{labelled, parts}
use Rattle.cc_rules_flows.proofs.CcSyntax.Prefixes.{both_true}
use Rattle.cc_rules_flows.specs.CcSyntax.Effects.{Effects, PlaceEffects, no_one, is_soft, effect_step, effects_of, place_effects_of}
use Rattle.cc_rules_flows.specs.CcSyntax.Expressions.{of_one, of_two}
use Rattle.cc_rules_flows.specs.CcSyntax.Folding.{is_folded, is_folded_place}
use Rattle.cc_rules_flows.specs.CcSyntax.Forms.{form_at, form_of}
use Rattle.cc_rules_flows.specs.CcSyntax.Normal.{IsNormal, is_operand, is_optional_operand, is_register_place, is_other_place, is_callee, is_call, is_place_read, is_expression_statement}
use Rattle.cc_rules_flows.specs.CcSyntax.Operators.{is_of, assignment_type, call_type, intrinsic_type}
use Rattle.cc_rules_flows.specs.CcSyntax.Pairs.{all_pairs}
use Rattle.cc_rules_flows.specs.CcSyntax.Programs.{type_of, place_type, is_sound_stmt, sound_step}
use Rattle.cc_rules_flows.specs.CcSyntax.Registers.{is_register}
use Rattle.cc_rules_flows.specs.CcSyntax.Statements.{SoundWhere, Labelled, is_condition, labels_fit, are_apart, has_label}
use Rattle.cc_rules_flows.specs.CcSyntax.Values.{ValueType, NoValue, Integer, ToObject, ToFunction, PlaceType, is_scalar, scalar_value, result_value, read_from, written_to, is_assignable, is_assignable_some, are_assignable}

-- ---- lists of two that fit

pairs_at : {A B : Type 0} (fits : A → B → Bool) (xs : List A) (ys : List B) → all_pairs fits xs ys ≡ true → (i : ℕ) (y : B) → slice_get ys i ≡ Some y → (x : A) × (slice_get xs i ≡ Some x) × (fits x y ≡ true)
pairs_at fits [] [] h i y e = absurd (none-some y e)
pairs_at fits [] (z ∷ ys) h i y e = absurd (true≢false (sym h))
pairs_at fits (x ∷ xs) [] h i y e = absurd (none-some y e)
pairs_at fits (x ∷ xs) (z ∷ ys) h zero y e = (x, refl, subst (λ w. fits x w ≡ true) (same_Some z y e) (both_true (fits x z) (all_pairs fits xs ys) h).0)
pairs_at fits (x ∷ xs) (z ∷ ys) h (suc i) y e = pairs_at fits xs ys (both_true (fits x z) (all_pairs fits xs ys) h).1 i y e

mapped_at : {A B : Type 0} (g : A → B) (xs : List A) (i : ℕ) (x : A) → slice_get xs i ≡ Some x → slice_get (map g xs) i ≡ Some (g x)
mapped_at g [] i x e = absurd (none-some x e)
mapped_at g (y ∷ xs) zero x e = ap Some (ap g (same_Some y x e))
mapped_at g (y ∷ xs) (suc i) x e = mapped_at g xs i x e

each_at : {A : Type 0} (test : A → Bool) (xs : List A) → list_all test xs ≡ true → (i : ℕ) (x : A) → slice_get xs i ≡ Some x → test x ≡ true
each_at test [] h i x e = absurd (none-some x e)
each_at test (y ∷ xs) h zero x e = ap test (sym (same_Some y x e)) ∙ (both_true (test y) (list_all test xs) h).0
each_at test (y ∷ xs) h (suc i) x e = each_at test xs (both_true (test y) (list_all test xs) h).1 i x e

-- ---- options and tests

some_there : {A : Type 0} (o : Option A) → is_some o ≡ true → (x : A) × (o ≡ Some x)
some_there None h = absurd (true≢false (sym h))
some_there (Some x) h = (x, refl)

none_there : {A : Type 0} (o : Option A) → not (is_some o) ≡ true → o ≡ None
none_there None h = refl
none_there (Some x) h = absurd (true≢false (sym h))

-- the first of three tests of which the others fail
first_alone : (b : Bool) → (b || (false || false)) ≡ true → b ≡ true
first_alone true h = refl
first_alone false h = h

middle_left : (a b : Bool) → a ≡ false → (a || (b || false)) ≡ true → b ≡ true
middle_left true b e h = absurd (true≢false e)
middle_left false true e h = refl
middle_left false false e h = h

last_left : (a c : Bool) → a ≡ false → (a || (false || c)) ≡ true → c ≡ true
last_left true c e h = absurd (true≢false e)
last_left false c e h = h

first_fails : (a b : Bool) → a ≡ false → (a && b) ≡ false
first_fails true b e = absurd (true≢false e)
first_fails false b e = refl

scalar_condition : (t : Option ValueType) → is_condition t ≡ true → (u : ValueType) × (t ≡ Some u) × (is_scalar u ≡ true)
scalar_condition None h = absurd (true≢false (sym h))
scalar_condition (Some u) h = (u, refl, h)

assigned_some : (to from : Option ValueType) → is_assignable_some to from ≡ true → (u : ValueType) × (from ≡ Some u) × (is_scalar u ≡ true)
assigned_some None from h = absurd (true≢false (sym h))
assigned_some (Some to) None h = absurd (true≢false (sym h))
assigned_some (Some to) (Some u) h = (u, refl, assigned_scalar to u h)

is_of_scalar : (t : IntType) (u : ValueType) → is_of t u ≡ true → is_scalar u ≡ true
is_of_scalar t NoValue h = absurd (true≢false (sym h))
is_of_scalar t (Integer s) h = refl
is_of_scalar t (ToObject constant volatile to) h = absurd (true≢false (sym h))
is_of_scalar t (ToFunction sig) h = absurd (true≢false (sym h))

restored_scalar : (o : Option ValueType) (u : ValueType) → intrinsic_type intr.Restore (Some o) ≡ Some u → (t : ValueType) × (o ≡ Some t) × (is_scalar t ≡ true)
restored_scalar None u h = absurd (none-some u h)
restored_scalar (Some t) u h = (t, refl, is_of_scalar int.UChar t (when_there (is_of int.UChar t) NoValue u h).0)

module _ (p : Program) (f : Func) where
  abbrev typed : Expr → Option ValueType
  typed e = type_of p f.locals e

  abbrev HasScalar : Expr → Type 0
  HasScalar e = (u : ValueType) × (typed e ≡ Some u) × (is_scalar u ≡ true)

  -- ---- operands

  operand_pure : (e : Expr) → is_operand p.target f e ≡ true → (effects_of f e).pure no_one ≡ true
  operand_pure e h = (both_true ((effects_of f e).pure no_one) (is_folded p.target e) h).0

  of_operand : (e : Expr) → is_operand p.target f e ≡ true → HasScalar e → IsPure p f e
  of_operand e h s = pure_of p f e s.0 (operand_pure e h) s.1 s.2

  -- what is impure is no operand
  impure : (e : Expr) → (effects_of f e).pure no_one ≡ false → is_operand p.target f e ≡ false
  impure e h = first_fails ((effects_of f e).pure no_one) (is_folded p.target e) h

  pure_at : (e : Expr) (x : one.Expr-F Expr Place) → out-Expr e ≡ x → (effects_of f e).pure no_one ≡ (effect_step (map-Expr Expr Place Effects PlaceEffects (effects_of f) (place_effects_of f) x)).pure no_one
  pure_at e x h = ap (λ (z : Effects). z.pure no_one) (effects_at f e x h)

  -- the place of a register is one
  register_there : (a : Place) (r : ℕ) → (place_effects_of f a).register ≡ Some r → IsRegister p f r
  register_there a r h =
      let w = by_place p f a r (out-Place a) refl h (sym (ap (λ (z : PlaceEffects). z.register) (place_effects_at f a (out-Place a) refl)) ∙ h) in
      let same : w.local ≡ r = same_Some w.local r (sym w.known ∙ h) in
      let number = register_numbered f r (subst (λ q. is_register f q ≡ true) same w.register) in
      ap is_some number.1

  other_pure : (a : Place) → is_other_place p.target f a ≡ true → (place_effects_of f a).pure no_one ≡ true
  other_pure a h =
      let w = both_true (not (is_register_place p.target f a)) ((place_effects_of f a).pure no_one && is_folded_place p.target a) h in
      (both_true ((place_effects_of f a).pure no_one) (is_folded_place p.target a) w.1).0

  -- ---- calls

  callee_pure : (g : Expr) (x : one.Expr-F Expr Place) → out-Expr g ≡ x → is_callee p.target f (form_at x) ≡ true → (effects_of f g).pure no_one ≡ true
  callee_pure g (one.FuncAddr n) i h = pure_at g (one.FuncAddr n) i
  callee_pure g (one.Load a) i h = let r = some_there (place_effects_of f a).register h in pure_at g (one.Load a) i ∙ ap (λ (z : Option ℕ). is_soft z no_one) r.1
  callee_pure g (one.Const z t) i h = absurd (true≢false (sym h))
  callee_pure g (one.Null t) i h = absurd (true≢false (sym h))
  callee_pure g (one.AddrOf a) i h = absurd (true≢false (sym h))
  callee_pure g (one.Un z t a) i h = absurd (true≢false (sym h))
  callee_pure g (one.Bin z t a b) i h = absurd (true≢false (sym h))
  callee_pure g (one.Conv t a) i h = absurd (true≢false (sym h))
  callee_pure g (one.Qualify t a) i h = absurd (true≢false (sym h))
  callee_pure g (one.Move a b back) i h = absurd (true≢false (sym h))
  callee_pure g (one.Gap a b) i h = absurd (true≢false (sym h))
  callee_pure g (one.Compare z a b) i h = absurd (true≢false (sym h))
  callee_pure g (one.Both a b) i h = absurd (true≢false (sym h))
  callee_pure g (one.Either a b) i h = absurd (true≢false (sym h))
  callee_pure g (one.Choose z a b) i h = absurd (true≢false (sym h))
  callee_pure g (one.Assign a e) i h = absurd (true≢false (sym h))
  callee_pure g (one.Change a z t e) i h = absurd (true≢false (sym h))
  callee_pure g (one.After a down) i h = absurd (true≢false (sym h))
  callee_pure g (one.Call w args) i h = absurd (true≢false (sym h))
  callee_pure g (one.Intr w a) i h = absurd (true≢false (sym h))
  callee_pure g (one.Seq a b) i h = absurd (true≢false (sym h))

  argument : (args : List Expr) (params : List CType) → list_all (is_operand p.target f) args ≡ true → are_assignable params (map typed args) ≡ true → (i : ℕ) (e : Expr) → slice_get args i ≡ Some e → IsPure p f e
  argument args params h k i e there =
      let fits = pairs_at (λ t v. is_assignable_some (scalar_value t) v) params (map typed args) k i (typed e) (mapped_at typed args i e there) in
      of_operand e (each_at (is_operand p.target f) args h i e there) (assigned_some (scalar_value fits.0) (typed e) fits.2)

  arguments : (args : List Expr) (params : List CType) → list_all (is_operand p.target f) args ≡ true → are_assignable params (map typed args) ≡ true → All (IsPure p f) args
  arguments args params h k i d l = argument args params h k i (get_or args i d) (slice_get-get_or args i d l)

  call_by : (g : Expr) (args : List Expr) (u : ValueType) (sig : Sig) → is_call p.target f (form_at (one.Call g args)) ≡ true → typed g ≡ Some (ToFunction sig) → (b : Bool) → are_assignable (out-Sig sig).params (map typed args) ≡ b →
      (if b then result_value (out-Sig sig).result else None) ≡ Some u → IsCall p f g args
  call_by g args u sig h e true k t =
      let w = both_true (is_callee p.target f (form_of g)) (list_all (is_operand p.target f) args) h in
      record {
        sig = sig;
        callee = pure_of p f g (ToFunction sig) (callee_pure g (out-Expr g) refl w.0) e refl;
        is_function = e;
        arguments = arguments args (out-Sig sig).params w.1 k;
        fit = k;
      }
  call_by g args u sig h e false k t = absurd (none-some u t)

  call_of_type : (g : Expr) (args : List Expr) (u : ValueType) → is_call p.target f (form_at (one.Call g args)) ≡ true → (o : Option ValueType) → typed g ≡ o → of_one o (λ t. call_type t (map typed args)) ≡ Some u → IsCall p f g args
  call_of_type g args u h None e t = absurd (none-some u t)
  call_of_type g args u h (Some NoValue) e t = absurd (none-some u t)
  call_of_type g args u h (Some (Integer i)) e t = absurd (none-some u t)
  call_of_type g args u h (Some (ToObject constant volatile to)) e t = absurd (none-some u t)
  call_of_type g args u h (Some (ToFunction sig)) e t = call_by g args u sig h e (are_assignable (out-Sig sig).params (map typed args)) refl t

  is_called : (e g : Expr) (args : List Expr) → out-Expr e ≡ one.Call g args → is_call p.target f (form_at (one.Call g args)) ≡ true → (u : ValueType) → typed e ≡ Some u → IsCall p f g args
  is_called e g args i h u t = call_of_type g args u h (typed g) refl (typed_as p f e (one.Call g args) u i t)

  -- ---- intrinsics

  intrinsics : (result : Option ℕ) → MayGet p f result → (e : Expr) (i : Intr) (a : Option Expr) → out-Expr e ≡ one.Intr i a → is_optional_operand p.target f a ≡ true → (u : ValueType) → typed e ≡ Some u → AreOperands p f (intrinsic result i a)
  intrinsics result may e intr.Off a h k u t = tt
  intrinsics result may e intr.On a h k u t = tt
  intrinsics result may e intr.Save a h k u t = may
  intrinsics result may e intr.Restore None h k u t = tt
  intrinsics result may e intr.Restore (Some x) h k u t = of_operand x k (restored_scalar (typed x) u (typed_as p f e (one.Intr intr.Restore (Some x)) u h t))

  -- ---- what a register gets

  abbrev MayBeGiven : Expr → one.Expr-F Expr Place → Type 0
  MayBeGiven e x = (is_operand p.target f e || (is_place_read p.target f (form_at x) || is_call p.target f (form_at x))) ≡ true

  module _ (r : ℕ) (is_one : IsRegister p f r) (e : Expr) (scalar : HasScalar e) where
    set_by : is_operand p.target f e ≡ true → IsRegister p f r × IsPure p f e
    set_by h = (is_one, of_operand e h scalar)

    loaded : (a : Place) → out-Expr e ≡ one.Load a → MayBeGiven e (one.Load a) → (o : Option ℕ) → (place_effects_of f a).register ≡ o → AreOperands p f (loads r e a o)
    loaded a i h (Some own) is = (is_one, pure_of p f e scalar.0 (pure_at e (one.Load a) i ∙ ap (λ (z : Option ℕ). is_soft z no_one) is) scalar.1 scalar.2)
    loaded a i h None is =
        let no_operand = impure e (pure_at e (one.Load a) i ∙ ap (λ (z : Option ℕ). is_soft z no_one) is) in
        let other = middle_left (is_operand p.target f e) (is_other_place p.target f a) no_operand h in
        let type = one_there (place_type p f.locals a) read_from scalar.0 (typed_as p f e (one.Load a) scalar.0 i scalar.1) in
        (is_one, pure_place_of p f a type.0 (other_pure a other) type.1, (scalar.0, ap (λ (z : Option PlaceType). option_and_then read_from z) type.1 ∙ type.2))

    given : (x : one.Expr-F Expr Place) → out-Expr e ≡ x → MayBeGiven e x → AreOperands p f (gets f r e x)
    given (one.Load a) i h = loaded a i h (place_effects_of f a).register refl
    given (one.Call g args) i h = (is_one, is_called e g args i (last_left (is_operand p.target f e) (is_call p.target f (form_at (one.Call g args))) (impure e (pure_at e (one.Call g args) i)) h) scalar.0 scalar.1)
    given (one.Intr w a) i h =
        intrinsics (Some r) is_one e w a i (last_left (is_operand p.target f e) (is_call p.target f (form_at (one.Intr w a))) (impure e (pure_at e (one.Intr w a) i)) h) scalar.0 scalar.1
    given (one.FuncAddr g) i h = set_by (first_alone (is_operand p.target f e) h)
    given (one.Const z t) i h = set_by (first_alone (is_operand p.target f e) h)
    given (one.Null t) i h = set_by (first_alone (is_operand p.target f e) h)
    given (one.AddrOf a) i h = set_by (first_alone (is_operand p.target f e) h)
    given (one.Un z t a) i h = set_by (first_alone (is_operand p.target f e) h)
    given (one.Bin z t a b) i h = set_by (first_alone (is_operand p.target f e) h)
    given (one.Conv t a) i h = set_by (first_alone (is_operand p.target f e) h)
    given (one.Qualify t a) i h = set_by (first_alone (is_operand p.target f e) h)
    given (one.Move a b back) i h = set_by (first_alone (is_operand p.target f e) h)
    given (one.Gap a b) i h = set_by (first_alone (is_operand p.target f e) h)
    given (one.Compare z a b) i h = set_by (first_alone (is_operand p.target f e) h)
    given (one.Both a b) i h = set_by (first_alone (is_operand p.target f e) h)
    given (one.Either a b) i h = set_by (first_alone (is_operand p.target f e) h)
    given (one.Choose z a b) i h = set_by (first_alone (is_operand p.target f e) h)
    given (one.Assign a x) i h = set_by (first_alone (is_operand p.target f e) h)
    given (one.Change a z t x) i h = set_by (first_alone (is_operand p.target f e) h)
    given (one.After a down) i h = set_by (first_alone (is_operand p.target f e) h)
    given (one.Seq a b) i h = set_by (first_alone (is_operand p.target f e) h)

  -- ---- assignments

  pub record IsAssigned (a : Place) (e : Expr) : Type 0 where
    pub place : PlaceType
    pub is_place : place_type p f.locals a ≡ Some place
    pub scalar : HasScalar e

  assigned_by : (place : PlaceType) (to : Option ValueType) (o : Option ValueType) (t : ValueType) → of_two to o assignment_type ≡ Some t → (u : ValueType) × (o ≡ Some u) × (is_scalar u ≡ true)
  assigned_by place to o t h =
      let w = two_there to o assignment_type t h in
      (w.1, w.3, assigned_scalar w.0 w.1 (when_there (is_assignable w.0 w.1) w.0 t w.4).0)

  place_by : (x : Option PlaceType) (y : Option ValueType) (t : ValueType) → of_two (of_one x written_to) y assignment_type ≡ Some t → (a : PlaceType) × (x ≡ Some a)
  place_by None y t h = absurd (none-some t h)
  place_by (Some a) y t h = (a, refl)

  is_assigned : (e x : Expr) (a : Place) → out-Expr e ≡ one.Assign a x → (t : ValueType) → typed e ≡ Some t → IsAssigned a x
  is_assigned e x a i t h =
      let k = typed_as p f e (one.Assign a x) t i h in
      let w = place_by (place_type p f.locals a) (typed x) t k in
      record { place = w.0; is_place = w.1; scalar = assigned_by w.0 (of_one (place_type p f.locals a) written_to) (typed x) t k }

  assigning : (a : Place) (x : Expr) → IsAssigned a x → (o : Option ℕ) → (place_effects_of f a).register ≡ o →
      (if is_some o then is_operand p.target f x || (is_place_read p.target f (form_of x) || is_call p.target f (form_of x)) else is_other_place p.target f a && is_operand p.target f x) ≡ true → AreOperands p f (assigns f o a x)
  assigning a x w (Some r) is h = given r (register_there a r is) x w.scalar (out-Expr x) refl h
  assigning a x w None is h =
      let k = both_true (is_other_place p.target f a) (is_operand p.target f x) h in
      (pure_place_of p f a w.place (other_pure a k.0) w.is_place, of_operand x k.1 w.scalar)

  -- ---- full expressions

  doing : (e : Expr) (x : one.Expr-F Expr Place) → out-Expr e ≡ x → is_expression_statement p.target f (form_at x) ≡ true → (t : ValueType) → typed e ≡ Some t → AreOperands p f (does f x)
  doing e (one.Assign a x) i h t k = assigning a x (is_assigned e x a i t k) (place_effects_of f a).register refl h
  doing e (one.Call g args) i h t k = (tt, is_called e g args i h t k)
  doing e (one.Intr w a) i h t k = intrinsics None tt e w a i h t k
  doing e (one.FuncAddr g) i h t k = tt
  doing e (one.Load a) i h t k = tt
  doing e (one.Const z u) i h t k = tt
  doing e (one.Null u) i h t k = tt
  doing e (one.AddrOf a) i h t k = tt
  doing e (one.Un z u a) i h t k = tt
  doing e (one.Bin z u a b) i h t k = tt
  doing e (one.Conv u a) i h t k = tt
  doing e (one.Qualify u a) i h t k = tt
  doing e (one.Move a b back) i h t k = tt
  doing e (one.Gap a b) i h t k = tt
  doing e (one.Compare z a b) i h t k = tt
  doing e (one.Both a b) i h t k = tt
  doing e (one.Either a b) i h t k = tt
  doing e (one.Choose z a b) i h t k = tt
  doing e (one.Change a z u x) i h t k = tt
  doing e (one.After a down) i h t k = tt
  doing e (one.Seq a b) i h t k = tt

  -- ---- statements

  switched : (labels : List (Option _)) (o : Option ValueType) → labels_fit p.target labels o ≡ true → (i : IntType) × (o ≡ Some (Integer i))
  switched labels None h = absurd (true≢false (sym h))
  switched labels (Some NoValue) h = absurd (true≢false (sym h))
  switched labels (Some (Integer i)) h = (i, refl)
  switched labels (Some (ToObject constant volatile to)) h = absurd (true≢false (sym h))
  switched labels (Some (ToFunction sig)) h = absurd (true≢false (sym h))

  acting : (x : is.Stmt-F Stmt Case) → NormalAt p.target f x → (b c : Bool) → sound_step p f (parts p f x) b c ≡ true → AreOperands p f (acts f x)
  acting (is.Do e) n b c h = let t = some_there (typed e) h in doing e (out-Expr e) refl n t.0 t.1
  acting (is.If e these those) n b c h =
      let lists = list_all (λ (g : SoundWhere). g b c) (map (is_sound_stmt p f) these) && list_all (λ (g : SoundWhere). g b c) (map (is_sound_stmt p f) those) in
      of_operand e (both_true (is_operand p.target f e) _ n).0 (scalar_condition (typed e) (both_true (is_condition (typed e)) lists h).0)
  acting (is.While e body) n b c h = tt
  acting (is.DoWhile body e) n b c h = tt
  acting (is.For first test again body) n b c h = tt
  acting (is.Switch e cases) n b c h =
      let list = map (labelled p f) cases in
      let labels = flat_map (λ (k : Labelled). k.labels) list in
      let rest = are_apart labels && (list_all (λ (k : Labelled). has_label k.labels) list && list_all (λ (k : Labelled). k.body true c) list) in
      let t = switched labels (typed e) (both_true (labels_fit p.target labels (typed e)) rest h).0 in
      (of_operand e (both_true (is_operand p.target f e) _ n).0 (Integer t.0, t.1, refl), t)
  acting is.Break n b c h = tt
  acting is.Continue n b c h = tt
  acting (is.Return None) n b c h = tt
  acting (is.Return (Some e)) n b c h = of_operand e n (assigned_some (scalar_value (out-Sig f.sig).result) (typed e) h)
  acting is.Empty n b c h = tt
  acting (is.Block body) n b c h = tt

-- of the statement to which a path leads in a function
pub operands_at : (p : Program) → IsNormal p → (id : ℕ) (f : Func) → slice_get p.funcs id ≡ Some f → (path : List ℕ) (s : Stmt) → statement_at f.body path ≡ Some s → AreOperands p f (act_of f s)
operands_at p normal id f function path s stands =
    let w = its_sound p normal id f function path s stands in
    acting p f (out-Stmt s) (its_normal p normal id f function path s stands) w.0 w.1 (sound_level p normal id f function path s stands)
