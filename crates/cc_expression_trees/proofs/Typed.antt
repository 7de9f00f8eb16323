-- What it says of the parts of an expression and of a place that it has a type and no effect.
use Rattle.std.proofs.Common.{◌≡◌, ℕ, Bool, true, ◌&&◌, List, Option, Some, None, option_map, refl, sym, subst, slice_get}
use Rattle.std.specs.Option.{is_some}
use Rattle.cc_lex.proofs.Booleans.{and-true}
use Rattle.cc_program.specs.declared.expr.Expr.{Expr, roll-Expr, map-Expr, fold-roll-Expr}
use Rattle.cc_program.specs.declared.expr.Expr.TheOpen as one
use Rattle.cc_program.specs.declared.expr.Place.{Place, out-Place, roll-Place, roll-out-Place, map-Place, fold-roll-Place}
use Rattle.cc_program.specs.declared.func.Func.{Func}
use Rattle.cc_program.specs.declared.program.Program.{Program}
use Rattle.cc_program.specs.declared.types.CType.{CType}
use Rattle.cc_program.specs.declared.types.Shape.{Shape, out-Shape}
use Rattle.cc_program.specs.declared.types.Shape.TheOpen as shape
use Rattle.cc_program.specs.declared.types.Sig.{Sig}
use Rattle.cc_program.specs.declared.types.Structure.{Structure}
use Rattle.cc_bodies.specs.Names.{member_name, member_shape, member_at, local_name}
use Rattle.cc_typed.specs.CcSyntax.Effects.{Effects, PlaceEffects, no_one, is_soft, effect_step, place_effect_step, effects_of, place_effects_of}
use Rattle.cc_typed.specs.CcSyntax.Expressions.{of_one, of_two}
use Rattle.cc_typed.specs.CcSyntax.Expressions as typing
use Rattle.cc_typed.specs.CcSyntax.Programs.{expr_step, place_step, type_of, place_type, null_type, pointer_type}
use Rattle.cc_typed.specs.CcSyntax.Operators.{constant_type, function_type, when_assignable, choice_type, subscript_type}
use Rattle.cc_typed.specs.CcSyntax.Types.{Named}
use Rattle.cc_typed.specs.CcSyntax.Values.{ValueType, PlaceType, DevicePlace, ObjectPlace, FunctionPlace, member_of, member_in, member_at as member_place, member_shape as member_type}

-- ---- options

one-some : {A B : Type 0} (a : Option A) (g : A → Option B) → is_some (of_one a g) ≡ true → is_some a ≡ true
one-some None g h = absurd (cc)
one-some (Some a) g h = refl

two-some : {A B C : Type 0} (a : Option A) (b : Option B) (g : A → B → Option C) → is_some (of_two a b g) ≡ true → (is_some a ≡ true) × (is_some b ≡ true)
two-some None b g h = absurd (cc)
two-some (Some a) None g h = absurd (cc)
two-some (Some a) (Some b) g h = (refl, refl)

three-some : {A B C D : Type 0} (c : Option A) (a : Option B) (b : Option C) (g : A → B → C → Option D) → is_some (of_one c (λ c. of_two a b (g c))) ≡ true → (is_some c ≡ true) × ((is_some a ≡ true) × (is_some b ≡ true))
three-some None a b g h = absurd (cc)
three-some (Some c) a b g h = (refl, two-some a b (g c) h)

qualified-some : (to o : Option ValueType) → is_some (of_one o (when_assignable to)) ≡ true → (is_some to ≡ true) × (is_some o ≡ true)
qualified-some to None h = absurd (cc)
qualified-some None (Some v) h = absurd (cc)
qualified-some (Some t) (Some v) h = (refl, refl)

mapped-some : {A B : Type 0} (g : A → B) (o : Option A) → is_some (option_map g o) ≡ true → is_some o ≡ true
mapped-some g None h = absurd (cc)
mapped-some g (Some x) h = refl

pub held : {A : Type 0} (o : Option A) → is_some o ≡ true → (x : A) × (o ≡ Some x)
held None h = absurd (cc)
held (Some x) h = (x, refl)

-- ---- members

member-name-at : (c v : Bool) (m : Option Named) → is_some (member_place c v m) ≡ true → is_some (local_name m) ≡ true
member-name-at c v None h = absurd (cc)
member-name-at c v (Some m) h = refl

member-name-in : (c v : Bool) (m : ℕ) (s : Option Structure) → is_some (member_in c v m s) ≡ true → is_some (member_at m s) ≡ true
member-name-in c v m None h = absurd (cc)
member-name-in c v m (Some s) h = member-name-at c v (slice_get s.members m) h

member-name-shape : (structures : List Structure) (c v : Bool) (m : ℕ) (x : shape.Shape-F Shape CType Sig) → is_some (member_type structures c v m x) ≡ true → is_some (member_shape structures m x) ≡ true
member-name-shape structures c v m (shape.Struct s) h = member-name-in c v m (slice_get structures s) h
member-name-shape structures c v m shape.Void h = absurd (cc)
member-name-shape structures c v m (shape.Int t) h = absurd (cc)
member-name-shape structures c v m (shape.Pointer to) h = absurd (cc)
member-name-shape structures c v m (shape.Array of n) h = absurd (cc)
member-name-shape structures c v m (shape.Func s) h = absurd (cc)

member-named : (structures : List Structure) (m : ℕ) (o : Option PlaceType) → is_some (of_one o (member_of structures m)) ≡ true → is_some (member_name structures m o) ≡ true
member-named structures m None h = absurd (cc)
member-named structures m (Some (DevicePlace constant t)) h = absurd (cc)
member-named structures m (Some (ObjectPlace constant volatile t)) h = member-name-shape structures constant volatile m (out-Shape t.shape) h
member-named structures m (Some (FunctionPlace sig)) h = absurd (cc)

-- ---- levels

module _ (p : Program) (f : Func) where
  pub type-roll : (x : one.Expr-F Expr Place) → type_of p f.locals (roll-Expr x) ≡ expr_step p f.locals (map-Expr Expr Place (Option ValueType) (Option PlaceType) (type_of p f.locals) (place_type p f.locals) x)
  unfolding typing.type_of typing.place_type
  type-roll x = fold-roll-Expr (Option ValueType) (Option PlaceType) (expr_step p f.locals) (place_step p f.locals) x

  pub place-type-roll : (x : one.Place-F Expr Place) → place_type p f.locals (roll-Place x) ≡ place_step p f.locals (map-Place Expr Place (Option ValueType) (Option PlaceType) (type_of p f.locals) (place_type p f.locals) x)
  unfolding typing.type_of typing.place_type
  place-type-roll x = fold-roll-Place (Option ValueType) (Option PlaceType) (expr_step p f.locals) (place_step p f.locals) x

  effects-roll : (x : one.Expr-F Expr Place) → effects_of f (roll-Expr x) ≡ effect_step (map-Expr Expr Place Effects PlaceEffects (effects_of f) (place_effects_of f) x)
  unfolding effects_of place_effects_of
  effects-roll x = fold-roll-Expr Effects PlaceEffects effect_step (place_effect_step f) x

  place-effects-roll : (x : one.Place-F Expr Place) → place_effects_of f (roll-Place x) ≡ place_effect_step f (map-Place Expr Place Effects PlaceEffects (effects_of f) (place_effects_of f) x)
  unfolding effects_of place_effects_of
  place-effects-roll x = fold-roll-Place Effects PlaceEffects effect_step (place_effect_step f) x

  -- an expression with a type and no effect, and a place with such operands
  pub record IsOperand (e : Expr) : Type 0 where
    pub typed : is_some (type_of p f.locals e) ≡ true
    pub pure : (effects_of f e).pure no_one ≡ true

  pub record IsOperandPlace (a : Place) : Type 0 where
    pub typed : is_some (place_type p f.locals a) ≡ true
    pub pure : (place_effects_of f a).pure no_one ≡ true

  -- a register has no operands
  soft-level : (x : one.Place-F Expr Place) → is_soft (place_effect_step f (map-Place Expr Place Effects PlaceEffects (effects_of f) (place_effects_of f) x)).register no_one ≡ true →
      (place_effect_step f (map-Place Expr Place Effects PlaceEffects (effects_of f) (place_effects_of f) x)).pure no_one ≡ true
  soft-level (one.Local r) h = refl
  soft-level (one.Static i) h = refl
  soft-level (one.Device d) h = refl
  soft-level (one.Element a i) h = absurd (cc)
  soft-level (one.Member a m) h = absurd (cc)
  soft-level (one.Deref e) h = absurd (cc)

  abbrev SoftPure : PlaceEffects → Type 0
  SoftPure a = is_soft a.register no_one ≡ true → a.pure no_one ≡ true

  pub soft-place : (a : Place) → is_soft (place_effects_of f a).register no_one ≡ true → (place_effects_of f a).pure no_one ≡ true
  soft-place a = subst (λ b. SoftPure (place_effects_of f b)) (roll-out-Place a) (subst SoftPure (sym (place-effects-roll (out-Place a))) (soft-level (out-Place a)))

  -- ---- parts

  abbrev pub OperandParts : one.Expr-F Expr Place → Type 0
  OperandParts (one.Const n t) = is_some (constant_type p.target n t) ≡ true
  OperandParts (one.Null t) = is_some (null_type p t) ≡ true
  OperandParts (one.FuncAddr i) = is_some (function_type (slice_get p.funcs i)) ≡ true
  OperandParts (one.Load a) = IsOperandPlace a
  OperandParts (one.AddrOf a) = IsOperandPlace a
  OperandParts (one.Un o t a) = IsOperand a
  OperandParts (one.Bin o t a b) = IsOperand a × IsOperand b
  OperandParts (one.Conv t a) = IsOperand a
  OperandParts (one.Qualify t a) = (is_some (pointer_type p t) ≡ true) × IsOperand a
  OperandParts (one.Move a b back) = IsOperand a × IsOperand b
  OperandParts (one.Gap a b) = IsOperand a × IsOperand b
  OperandParts (one.Compare o a b) = IsOperand a × IsOperand b
  OperandParts (one.Both a b) = IsOperand a × IsOperand b
  OperandParts (one.Either a b) = IsOperand a × IsOperand b
  OperandParts (one.Choose c a b) = IsOperand c × (IsOperand a × IsOperand b)
  OperandParts (one.Assign a e) = ⊥
  OperandParts (one.Change a o t e) = ⊥
  OperandParts (one.After a down) = ⊥
  OperandParts (one.Call g args) = ⊥
  OperandParts (one.Intr i a) = ⊥
  OperandParts (one.Seq a b) = ⊥

  abbrev pub OperandPlaceParts : one.Place-F Expr Place → Type 0
  OperandPlaceParts (one.Local r) = is_some (slice_get f.locals r) ≡ true
  OperandPlaceParts (one.Static i) = is_some (slice_get p.objects i) ≡ true
  OperandPlaceParts (one.Device d) = is_some (slice_get p.devices d) ≡ true
  OperandPlaceParts (one.Element a i) = IsOperandPlace a × IsOperand i
  OperandPlaceParts (one.Member a m) = IsOperandPlace a × (is_some (member_name p.structures m (place_type p f.locals a)) ≡ true)
  OperandPlaceParts (one.Deref e) = IsOperand e

  two-parts : (a b : Expr) (pure : Bool) → (is_some (type_of p f.locals a) ≡ true) × (is_some (type_of p f.locals b) ≡ true) → ((effects_of f a).pure no_one && (effects_of f b).pure no_one) ≡ true → IsOperand a × IsOperand b
  two-parts a b pure t e =
      let q = and-true ((effects_of f a).pure no_one) ((effects_of f b).pure no_one) e in
      (record { typed = t.0; pure = q.0 }, record { typed = t.1; pure = q.1 })

  parts-level : (x : one.Expr-F Expr Place) → is_some (expr_step p f.locals (map-Expr Expr Place (Option ValueType) (Option PlaceType) (type_of p f.locals) (place_type p f.locals) x)) ≡ true →
      (effect_step (map-Expr Expr Place Effects PlaceEffects (effects_of f) (place_effects_of f) x)).pure no_one ≡ true → OperandParts x
  parts-level (one.Const n t) h e = h
  parts-level (one.Null t) h e = h
  parts-level (one.FuncAddr i) h e = h
  parts-level (one.Load a) h e = record { typed = one-some (place_type p f.locals a) _ h; pure = soft-place a e }
  parts-level (one.AddrOf a) h e = record { typed = one-some (place_type p f.locals a) _ h; pure = e }
  parts-level (one.Un o t a) h e = record { typed = one-some (type_of p f.locals a) _ h; pure = e }
  parts-level (one.Bin o t a b) h e = two-parts a b true (two-some (type_of p f.locals a) (type_of p f.locals b) _ h) e
  parts-level (one.Conv t a) h e = record { typed = one-some (type_of p f.locals a) _ h; pure = e }
  parts-level (one.Qualify t a) h e = let q = qualified-some (pointer_type p t) (type_of p f.locals a) h in (q.0, record { typed = q.1; pure = e })
  parts-level (one.Move a b back) h e = two-parts a b true (two-some (type_of p f.locals a) (type_of p f.locals b) _ h) e
  parts-level (one.Gap a b) h e = two-parts a b true (two-some (type_of p f.locals a) (type_of p f.locals b) _ h) e
  parts-level (one.Compare o a b) h e = two-parts a b true (two-some (type_of p f.locals a) (type_of p f.locals b) _ h) e
  parts-level (one.Both a b) h e = two-parts a b true (two-some (type_of p f.locals a) (type_of p f.locals b) _ h) e
  parts-level (one.Either a b) h e = two-parts a b true (two-some (type_of p f.locals a) (type_of p f.locals b) _ h) e
  parts-level (one.Choose c a b) h e =
      let q = three-some (type_of p f.locals c) (type_of p f.locals a) (type_of p f.locals b) (choice_type p.target) h in
      let r = and-true ((effects_of f c).pure no_one) ((effects_of f a).pure no_one && (effects_of f b).pure no_one) e in
      (record { typed = q.0; pure = r.0 }, two-parts a b true q.1 r.1)
  parts-level (one.Assign a e) h k = absurd (cc)
  parts-level (one.Change a o t e) h k = absurd (cc)
  parts-level (one.After a down) h k = absurd (cc)
  parts-level (one.Call g args) h k = absurd (cc)
  parts-level (one.Intr i a) h k = absurd (cc)
  parts-level (one.Seq a b) h k = absurd (cc)

  pub parts-of : (x : one.Expr-F Expr Place) → IsOperand (roll-Expr x) → OperandParts x
  parts-of x h = parts-level x (subst (λ t. is_some t ≡ true) (type-roll x) h.typed) (subst (λ e. e.pure no_one ≡ true) (effects-roll x) h.pure)

  place-parts-level : (x : one.Place-F Expr Place) → is_some (place_step p f.locals (map-Place Expr Place (Option ValueType) (Option PlaceType) (type_of p f.locals) (place_type p f.locals) x)) ≡ true →
      (place_effect_step f (map-Place Expr Place Effects PlaceEffects (effects_of f) (place_effects_of f) x)).pure no_one ≡ true → OperandPlaceParts x
  place-parts-level (one.Local r) h e = mapped-some _ (slice_get f.locals r) h
  place-parts-level (one.Static i) h e = mapped-some _ (slice_get p.objects i) h
  place-parts-level (one.Device d) h e = mapped-some _ (slice_get p.devices d) h
  place-parts-level (one.Element a i) h e =
      let q = two-some (place_type p f.locals a) (type_of p f.locals i) subscript_type h in
      let r = and-true ((place_effects_of f a).pure no_one) ((effects_of f i).pure no_one) e in
      (record { typed = q.0; pure = r.0 }, record { typed = q.1; pure = r.1 })
  place-parts-level (one.Member a m) h e = (record { typed = one-some (place_type p f.locals a) _ h; pure = e }, member-named p.structures m (place_type p f.locals a) h)
  place-parts-level (one.Deref e) h k = record { typed = one-some (type_of p f.locals e) _ h; pure = k }

  pub place-parts-of : (x : one.Place-F Expr Place) → IsOperandPlace (roll-Place x) → OperandPlaceParts x
  place-parts-of x h = place-parts-level x (subst (λ t. is_some t ≡ true) (place-type-roll x) h.typed) (subst (λ e. e.pure no_one ≡ true) (place-effects-roll x) h.pure)
