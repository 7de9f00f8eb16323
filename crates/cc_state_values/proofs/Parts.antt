-- The parts of pure expressions and places: what is pure in them, and their types.
use Rattle.std.proofs.Common.{◌≡◌, ℕ, Bool, true, false, ◌&&◌, Option, Some, None, refl, ap, sym, ◌∙◌}
use Rattle.std.specs.Prelude.{if◌then◌else◌, option_map, slice_get}
use Rattle.std.proofs.lemmas.Option.{same_Some}
use Rattle.cc_program.specs.declared.expr.Expr.{Expr, out-Expr, roll-Expr, roll-out-Expr, map-Expr, fold-roll-Expr}
use Rattle.cc_program.specs.declared.expr.Expr.TheOpen as one
use Rattle.cc_program.specs.declared.expr.Place.{Place, out-Place, roll-Place, roll-out-Place, map-Place, fold-roll-Place}
use Rattle.cc_program.specs.declared.func.Func.{Func}
use Rattle.cc_program.specs.declared.program.Program.{Program}
use Rattle.cc_program.specs.declared.types.CType.{CType}
use Rattle.cc_state_operators.specs.CcSyntax.Effects.{Effects, PlaceEffects, no_one, is_soft, effect_step, place_effect_step, effects_of, place_effects_of}
use Rattle.cc_state_operators.specs.CcSyntax.Expressions as typing
use Rattle.cc_state_operators.specs.CcSyntax.Expressions.{of_one, of_two}
use Rattle.cc_state_operators.specs.CcSyntax.Operators.{unary_type, binary_type, conversion_type, moved_type, gap_type, comparison_type, logical_type, choice_type, subscript_type}
use Rattle.cc_state_operators.specs.CcSyntax.Programs.{expr_step, place_step, type_of, place_type, pointer_type, qualified_type}
use Rattle.cc_state_operators.specs.CcSyntax.Registers.{is_register}
use Rattle.cc_state_operators.specs.CcSyntax.Values.{ValueType, PlaceType, is_scalar, is_assignable, read_from, address_of, pointed_to, member_of, object_place}
use Rattle.cc_state_operators.proofs.CcSyntax.Prefixes.{both_true}
use Rattle.cc_state_operators.specs.declared.operators.OneOperand.{OneOperand}
use Rattle.cc_state_operators.specs.declared.operators.OneOperand.TheVariants as kind_one
use Rattle.cc_state_operators.specs.declared.operators.TwoOperands.{TwoOperands}
use Rattle.cc_state_operators.specs.declared.operators.TwoOperands.TheVariants as kind_two
use Rattle.cc_state_values.specs.Layers.{of_one as one_layer, of_two as two_layer}
use Rattle.cc_state_values.specs.Typed.{IsPure, IsPurePlace}
use Rattle.cc_state_values.proofs.Rules.{one_there, two_there, pointer_scalar, points_first, points_second, object_pointer, pointed_pointer, some_integer, integer_scalar, when_there, are_integers, second_scalar, is_one_integer, AreArms, are_arms, arms_scalar, subscript_there, assigned_scalar, assigned_there}

module _ (f : Func) where
  pub effects_at : (e : Expr) (x : one.Expr-F Expr Place) → out-Expr e ≡ x → effects_of f e ≡ effect_step (map-Expr Expr Place Effects PlaceEffects (effects_of f) (place_effects_of f) x)
  unfolding effects_of place_effects_of
  effects_at e x h = ap (effects_of f) (sym (roll-out-Expr e) ∙ ap roll-Expr h) ∙ fold-roll-Expr Effects PlaceEffects effect_step (place_effect_step f) x

  pub place_effects_at : (a : Place) (x : one.Place-F Expr Place) → out-Place a ≡ x → place_effects_of f a ≡ place_effect_step f (map-Place Expr Place Effects PlaceEffects (effects_of f) (place_effects_of f) x)
  unfolding effects_of place_effects_of
  place_effects_at a x h = ap (place_effects_of f) (sym (roll-out-Place a) ∙ ap roll-Place h) ∙ fold-roll-Place Effects PlaceEffects effect_step (place_effect_step f) x

module _ (p : Program) (f : Func) where
  pub type_at : (e : Expr) (x : one.Expr-F Expr Place) → out-Expr e ≡ x →
      type_of p f.locals e ≡ expr_step p f.locals (map-Expr Expr Place (Option ValueType) (Option PlaceType) (type_of p f.locals) (place_type p f.locals) x)
  unfolding typing.type_of typing.place_type
  type_at e x h = ap (type_of p f.locals) (sym (roll-out-Expr e) ∙ ap roll-Expr h) ∙ fold-roll-Expr (Option ValueType) (Option PlaceType) (expr_step p f.locals) (place_step p f.locals) x

  pub place_type_at : (a : Place) (x : one.Place-F Expr Place) → out-Place a ≡ x →
      place_type p f.locals a ≡ place_step p f.locals (map-Place Expr Place (Option ValueType) (Option PlaceType) (type_of p f.locals) (place_type p f.locals) x)
  unfolding typing.type_of typing.place_type
  place_type_at a x h = ap (place_type p f.locals) (sym (roll-out-Place a) ∙ ap roll-Place h) ∙ fold-roll-Place (Option ValueType) (Option PlaceType) (expr_step p f.locals) (place_step p f.locals) x

  pub pure_as : (e : Expr) (x : one.Expr-F Expr Place) → out-Expr e ≡ x → IsPure p f e → (effect_step (map-Expr Expr Place Effects PlaceEffects (effects_of f) (place_effects_of f) x)).pure no_one ≡ true
  pure_as e x h k = sym (ap (λ (z : Effects). z.pure no_one) (effects_at f e x h)) ∙ k.pure

  pub typed_as : (e : Expr) (x : one.Expr-F Expr Place) (t : ValueType) → out-Expr e ≡ x → type_of p f.locals e ≡ Some t →
      expr_step p f.locals (map-Expr Expr Place (Option ValueType) (Option PlaceType) (type_of p f.locals) (place_type p f.locals) x) ≡ Some t
  typed_as e x t h k = sym (type_at e x h) ∙ k

  pub place_pure_as : (a : Place) (x : one.Place-F Expr Place) → out-Place a ≡ x → IsPurePlace p f a →
      (place_effect_step f (map-Place Expr Place Effects PlaceEffects (effects_of f) (place_effects_of f) x)).pure no_one ≡ true
  place_pure_as a x h k = sym (ap (λ (z : PlaceEffects). z.pure no_one) (place_effects_at f a x h)) ∙ k.pure

  pub place_typed_as : (a : Place) (x : one.Place-F Expr Place) (t : PlaceType) → out-Place a ≡ x → place_type p f.locals a ≡ Some t →
      place_step p f.locals (map-Place Expr Place (Option ValueType) (Option PlaceType) (type_of p f.locals) (place_type p f.locals) x) ≡ Some t
  place_typed_as a x t h k = sym (place_type_at a x h) ∙ k

  abbrev Pure : Expr → Bool
  Pure e = (effects_of f e).pure no_one

  abbrev PurePlace : Place → Bool
  PurePlace a = (place_effects_of f a).pure no_one

  pub pure_of : (e : Expr) (t : ValueType) → (effects_of f e).pure no_one ≡ true → type_of p f.locals e ≡ Some t → is_scalar t ≡ true → IsPure p f e
  pure_of e t h k s = record { pure = h; typed = (t, k, s) }

  pub pure_place_of : (a : Place) (t : PlaceType) → (place_effects_of f a).pure no_one ≡ true → place_type p f.locals a ≡ Some t → IsPurePlace p f a
  pure_place_of a t h k = record { pure = h; typed = (t, k) }

  -- ---- one operand

  abbrev pub one_rule : OneOperand → ValueType → Option ValueType
  one_rule (kind_one.Operator o t) a = unary_type p.target o t a
  one_rule (kind_one.Conversion t) a = conversion_type t a

  pub one_type : (kind : OneOperand) (e a : Expr) (t : ValueType) → out-Expr e ≡ one_layer kind a → type_of p f.locals e ≡ Some t → of_one (type_of p f.locals a) (one_rule kind) ≡ Some t
  one_type (kind_one.Operator o s) e a t h k = typed_as e (one.Un o s a) t h k
  one_type (kind_one.Conversion s) e a t h k = typed_as e (one.Conv s a) t h k

  one_pure : (kind : OneOperand) (e a : Expr) → out-Expr e ≡ one_layer kind a → IsPure p f e → Pure a ≡ true
  one_pure (kind_one.Operator o s) e a h k = pure_as e (one.Un o s a) h k
  one_pure (kind_one.Conversion s) e a h k = pure_as e (one.Conv s a) h k

  one_scalar : (kind : OneOperand) (a t : ValueType) → one_rule kind a ≡ Some t → is_scalar a ≡ true
  one_scalar (kind_one.Operator o s) a t h = integer_scalar a s (is_one_integer p.target o s a t h).first
  one_scalar (kind_one.Conversion s) a t h = let i = some_integer a (when_there _ _ t h).0 in integer_scalar a i.0 i.1

  pub one_part : (kind : OneOperand) (e a : Expr) → out-Expr e ≡ one_layer kind a → IsPure p f e → IsPure p f a
  one_part kind e a h k =
      let (t, typed, s) = k.typed in
      let w = one_there (type_of p f.locals a) (one_rule kind) t (one_type kind e a t h typed) in
      pure_of a w.0 (one_pure kind e a h k) w.1 (one_scalar kind w.0 t w.2)

  -- ---- two operands

  abbrev pub two_rule : TwoOperands → ValueType → ValueType → Option ValueType
  two_rule (kind_two.Operator o t) a b = binary_type p.target o t a b
  two_rule (kind_two.Movement back) a b = moved_type p.structures a b
  two_rule kind_two.Difference a b = gap_type p.structures p.target a b
  two_rule (kind_two.Comparison o) a b = comparison_type o a b
  two_rule kind_two.Both a b = logical_type a b
  two_rule kind_two.Either a b = logical_type a b

  pub two_type : (kind : TwoOperands) (e a b : Expr) (t : ValueType) → out-Expr e ≡ two_layer kind a b → type_of p f.locals e ≡ Some t →
      of_two (type_of p f.locals a) (type_of p f.locals b) (two_rule kind) ≡ Some t
  two_type (kind_two.Operator o s) e a b t h k = typed_as e (one.Bin o s a b) t h k
  two_type (kind_two.Movement back) e a b t h k = typed_as e (one.Move a b back) t h k
  two_type kind_two.Difference e a b t h k = typed_as e (one.Gap a b) t h k
  two_type (kind_two.Comparison o) e a b t h k = typed_as e (one.Compare o a b) t h k
  two_type kind_two.Both e a b t h k = typed_as e (one.Both a b) t h k
  two_type kind_two.Either e a b t h k = typed_as e (one.Either a b) t h k

  two_pure : (kind : TwoOperands) (e a b : Expr) → out-Expr e ≡ two_layer kind a b → IsPure p f e → Pure a && Pure b ≡ true
  two_pure (kind_two.Operator o s) e a b h k = pure_as e (one.Bin o s a b) h k
  two_pure (kind_two.Movement back) e a b h k = pure_as e (one.Move a b back) h k
  two_pure kind_two.Difference e a b h k = pure_as e (one.Gap a b) h k
  two_pure (kind_two.Comparison o) e a b h k = pure_as e (one.Compare o a b) h k
  two_pure kind_two.Both e a b h k = pure_as e (one.Both a b) h k
  two_pure kind_two.Either e a b h k = pure_as e (one.Either a b) h k

  two_scalar : (kind : TwoOperands) (a b t : ValueType) → two_rule kind a b ≡ Some t → (is_scalar a ≡ true) × (is_scalar b ≡ true)
  two_scalar (kind_two.Operator o s) a b t h =
      let w = are_integers p.target o s a b t h in
      (integer_scalar a s w.first, second_scalar _ s b w.second)
  two_scalar (kind_two.Movement back) a b t h =
      let w = both_true _ _ (when_there _ _ t h).0 in
      let i = some_integer b w.1 in
      (pointer_scalar a (object_pointer p.structures a w.0), integer_scalar b i.0 i.1)
  two_scalar kind_two.Difference a b t h =
      let w = both_true _ _ (when_there _ _ t h).0 in
      (pointer_scalar a (points_first a b w.0), pointer_scalar b (points_second a b w.0))
  two_scalar (kind_two.Comparison o) a b t h =
      let w = both_true _ _ (when_there _ _ t h).0 in
      (pointer_scalar a (points_first a b w.1), pointer_scalar b (points_second a b w.1))
  two_scalar kind_two.Both a b t h = both_true _ _ (when_there _ _ t h).0
  two_scalar kind_two.Either a b t h = both_true _ _ (when_there _ _ t h).0

  pub two_parts : (kind : TwoOperands) (e a b : Expr) → out-Expr e ≡ two_layer kind a b → IsPure p f e → IsPure p f a × IsPure p f b
  two_parts kind e a b h k =
      let (t, typed, s) = k.typed in
      let w = two_there (type_of p f.locals a) (type_of p f.locals b) (two_rule kind) t (two_type kind e a b t h typed) in
      let l = both_true (Pure a) (Pure b) (two_pure kind e a b h k) in
      let m = two_scalar kind w.0 w.1 t w.4 in
      (pure_of a w.0 l.0 w.2 m.0, pure_of b w.1 l.1 w.3 m.1)

  -- ---- a choice

  pub record IsChoiceType (c a b : Expr) (t : ValueType) : Type 0 where
    pub condition : ValueType
    pub first : ValueType
    pub second : ValueType
    pub is_condition : type_of p f.locals c ≡ Some condition
    pub is_first : type_of p f.locals a ≡ Some first
    pub is_second : type_of p f.locals b ≡ Some second
    pub tested : is_scalar condition ≡ true
    pub arms : AreArms first second t

  pub choice_parts_type : (e c a b : Expr) (t : ValueType) → out-Expr e ≡ one.Choose c a b → type_of p f.locals e ≡ Some t → is_scalar t ≡ true → IsChoiceType c a b t
  choice_parts_type e c a b t h k s =
      let w = one_there (type_of p f.locals c) (λ u. of_two (type_of p f.locals a) (type_of p f.locals b) (choice_type p.target u)) t (typed_as e (one.Choose c a b) t h k) in
      let v = two_there (type_of p f.locals a) (type_of p f.locals b) (choice_type p.target w.0) t w.2 in
      let m = are_arms p.target w.0 v.0 v.1 t v.4 s in
      record { condition = w.0; first = v.0; second = v.1; is_condition = w.1; is_first = v.2; is_second = v.3; tested = m.0; arms = m.1 }

  pub choice_parts : (e c a b : Expr) → out-Expr e ≡ one.Choose c a b → IsPure p f e → IsPure p f c × IsPure p f a × IsPure p f b
  choice_parts e c a b h k =
      let (t, typed, s) = k.typed in
      let w = choice_parts_type e c a b t h typed s in
      let l = both_true (Pure c) (Pure a && Pure b) (pure_as e (one.Choose c a b) h k) in
      let m = both_true (Pure a) (Pure b) l.1 in
      let n = arms_scalar w.first w.second t w.arms in
      (pure_of c w.condition l.0 w.is_condition w.tested, pure_of a w.first m.0 w.is_first n.0, pure_of b w.second m.1 w.is_second n.1)

  -- ---- others

  pub qualified_part : (e a : Expr) (to : CType) → out-Expr e ≡ one.Qualify to a → IsPure p f e → IsPure p f a
  qualified_part e a to h k =
      let (t, typed, s) = k.typed in
      let w = one_there (type_of p f.locals a) (qualified_type p to) t (typed_as e (one.Qualify to a) t h typed) in
      pure_of a w.0 (pure_as e (one.Qualify to a) h k) w.1 (qualified_scalar to w.0 t w.2)
    where
      qualified_scalar : (to : CType) (a t : ValueType) → qualified_type p to a ≡ Some t → is_scalar a ≡ true
      qualified_scalar to a t h = assigned_scalar t a (assigned_there (pointer_type p to) a t h)

  pub qualified_assigned : (e a : Expr) (to : CType) (t : ValueType) → out-Expr e ≡ one.Qualify to a → type_of p f.locals e ≡ Some t →
      (u : ValueType) × (type_of p f.locals a ≡ Some u) × (is_assignable t u ≡ true)
  qualified_assigned e a to t h k =
      let w = one_there (type_of p f.locals a) (qualified_type p to) t (typed_as e (one.Qualify to a) t h k) in
      (w.0, w.1, assigned_there (pointer_type p to) w.0 t w.2)

  pub addressed_part : (e : Expr) (a : Place) → out-Expr e ≡ one.AddrOf a → IsPure p f e → IsPurePlace p f a
  addressed_part e a h k =
      let (t, typed, s) = k.typed in
      let w = one_there (place_type p f.locals a) address_of t (typed_as e (one.AddrOf a) t h typed) in
      pure_place_of a w.0 (pure_as e (one.AddrOf a) h k) w.1

  -- ---- places

  pub element_type : (a b : Place) (i : Expr) (t : PlaceType) → out-Place a ≡ one.Element b i → place_type p f.locals a ≡ Some t →
      of_two (place_type p f.locals b) (type_of p f.locals i) subscript_type ≡ Some t
  element_type a b i t h k = place_typed_as a (one.Element b i) t h k

  pub element_parts : (a b : Place) (i : Expr) → out-Place a ≡ one.Element b i → IsPurePlace p f a → IsPurePlace p f b × IsPure p f i
  element_parts a b i h k =
      let (t, typed) = k.typed in
      let w = two_there (place_type p f.locals b) (type_of p f.locals i) subscript_type t (element_type a b i t h typed) in
      let l = both_true (PurePlace b) (Pure i) (place_pure_as a (one.Element b i) h k) in
      let m = subscript_there w.0 w.1 t w.4 in
      (pure_place_of b w.0 l.0 w.2, pure_of i w.1 l.1 w.3 (integer_scalar w.1 m.0 m.1))

  pub member_part : (a b : Place) (m : ℕ) → out-Place a ≡ one.Member b m → IsPurePlace p f a → IsPurePlace p f b
  member_part a b m h k =
      let (t, typed) = k.typed in
      let w = one_there (place_type p f.locals b) (member_of p.structures m) t (place_typed_as a (one.Member b m) t h typed) in
      pure_place_of b w.0 (place_pure_as a (one.Member b m) h k) w.1

  pub target_type : (a : Place) (e : Expr) (t : PlaceType) → out-Place a ≡ one.Deref e → place_type p f.locals a ≡ Some t → of_one (type_of p f.locals e) pointed_to ≡ Some t
  target_type a e t h k = place_typed_as a (one.Deref e) t h k

  pub target_part : (a : Place) (e : Expr) → out-Place a ≡ one.Deref e → IsPurePlace p f a → IsPure p f e
  target_part a e h k =
      let (t, typed) = k.typed in
      let w = one_there (type_of p f.locals e) pointed_to t (target_type a e t h typed) in
      pure_of e w.0 (place_pure_as a (one.Deref e) h k) w.1 (pointer_scalar w.0 (pointed_pointer w.0 t w.2))

  -- ---- registers

  soft : (r : Option ℕ) → is_soft r no_one ≡ true → (n : ℕ) × (r ≡ Some n)
  soft None h = absurd (cc)
  soft (Some n) h = (n, refl)

  pub record IsRegister (a : Place) : Type 0 where
    pub local : ℕ
    pub is_local : out-Place a ≡ one.Local local
    pub register : is_register f local ≡ true
    pub known : (place_effects_of f a).register ≡ Some local

  local_register : (r n : ℕ) (b : Bool) → (if b then Some r else None) ≡ Some n → (b ≡ true) × (r ≡ n)
  local_register r n true h = (refl, same_Some r n h)
  local_register r n false h = absurd (cc)

  pub by_place : (a : Place) (n : ℕ) (x : one.Place-F Expr Place) → out-Place a ≡ x → (place_effects_of f a).register ≡ Some n →
      (place_effect_step f (map-Place Expr Place Effects PlaceEffects (effects_of f) (place_effects_of f) x)).register ≡ Some n → IsRegister a
  by_place a n (one.Local r) h known k = let w = local_register r n (is_register f r) k in record { local = r; is_local = h; register = w.0; known = known ∙ ap Some (sym w.1) }
  by_place a n (one.Static i) h known k = absurd (cc)
  by_place a n (one.Device i) h known k = absurd (cc)
  by_place a n (one.Element b i) h known k = absurd (cc)
  by_place a n (one.Member b m) h known k = absurd (cc)
  by_place a n (one.Deref e) h known k = absurd (cc)

  pub register_part : (e : Expr) (a : Place) → out-Expr e ≡ one.Load a → IsPure p f e → IsRegister a
  register_part e a h k =
      let w = soft (place_effects_of f a).register (pure_as e (one.Load a) h k) in
      by_place a w.0 (out-Place a) refl w.1 (sym (ap (λ (z : PlaceEffects). z.register) (place_effects_at f a (out-Place a) refl)) ∙ w.1)

  pub register_type : (e : Expr) (a : Place) (r : ℕ) (t : ValueType) → out-Expr e ≡ one.Load a → out-Place a ≡ one.Local r → type_of p f.locals e ≡ Some t →
      of_one (option_map (λ l. object_place l.1) (slice_get f.locals r)) read_from ≡ Some t
  register_type e a r t h l k = ap (λ z. of_one z read_from) (sym (place_type_at a (one.Local r) l)) ∙ typed_as e (one.Load a) t h k
