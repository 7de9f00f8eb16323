-- What it says of the parts of a choice, of a cast of a pointer, of a null, of an address and of places that they are operands
-- of a program in normal form.
use Rattle.std.proofs.Common.{◌≡◌, ℕ, Bool, true, false, not, ◌&&◌, ◌||◌, Option, Some, None, refl, ap, sym, ◌∙◌}
use Rattle.std.specs.Prelude.{if◌then◌else◌}
use Rattle.cc_program.specs.CcNum.declared.int_type.IntType.{IntType}
use Rattle.cc_program.specs.declared.expr.Expr.{Expr, out-Expr, map-Expr}
use Rattle.cc_program.specs.declared.expr.Expr.TheOpen as one
use Rattle.cc_program.specs.declared.expr.Place.{Place, out-Place, map-Place}
use Rattle.cc_program.specs.declared.func.Func.{Func}
use Rattle.cc_program.specs.declared.program.Program.{Program}
use Rattle.cc_program.specs.declared.types.CType.{CType}
use Rattle.cc_program.specs.declared.types.Shape.{Shape, out-Shape}
use Rattle.cc_program.specs.declared.types.Shape.TheOpen as shape
use Rattle.cc_program.specs.declared.types.Sig.{Sig}
use Rattle.cc_terms.specs.CcSyntax.Effects.{Effects, PlaceEffects, no_one, effect_step, place_effect_step, effects_of, place_effects_of}
use Rattle.cc_terms.specs.CcSyntax.Expressions.{of_two}
use Rattle.cc_terms.specs.CcSyntax.Programs.{expr_step, place_step, type_of, place_type, kind_in, pointer_type, null_type, qualified_type}
use Rattle.cc_terms.specs.CcSyntax.Folding.{NoConstant, Folding, has_value, chosen_constant, place_folding_step, folding_of, is_folded_place, constant_of, is_folded}
use Rattle.cc_terms.specs.CcSyntax.Kinds.{is_plain_scalar}
use Rattle.cc_terms.specs.CcSyntax.Operators.{is_integer, is_unqualified, pointer_in, void_pointer_in, first_of, when_assignable, common_type, choice_type, subscript_type}
use Rattle.cc_terms.specs.CcSyntax.SameTypes.{is_void_shape}
use Rattle.cc_terms.specs.CcSyntax.Values.{ValueType, NoValue, Integer, ToObject, ToFunction, PlaceType, is_scalar, is_void, pointer_to, is_assignable, address_of, pointed_to, element_of, member_of}
use Rattle.cc_terms.proofs.CcSyntax.Prefixes.{both_true}
use Rattle.cc_shown_expressions.proofs.ChoiceRules.{Common, Integers, Pointers, common-is, pointer-scalar}
use Rattle.cc_shown_expressions.proofs.Levels.{one-is, two-is, when-is, type-at, place-at, effects-at, place-effects-at, constant-at, folded-at, folded_in, place-folding-at, operation-is}
use Rattle.cc_shown_expressions.specs.Normal.{HasOperand, HasPlace}
use Rattle.cc_shown_expressions.proofs.Rules.{integer-is}

not-true : (b : Bool) → not b ≡ true → b ≡ false
not-true false h = refl
not-true true h = absurd (cc)

void-shape : (x : shape.Shape-F Shape CType Sig) → is_void_shape x ≡ true → x ≡ shape.Void
void-shape shape.Void h = refl
void-shape (shape.Int t) h = absurd (cc)
void-shape (shape.Pointer to) h = absurd (cc)
void-shape (shape.Array of n) h = absurd (cc)
void-shape (shape.Struct i) h = absurd (cc)
void-shape (shape.Func s) h = absurd (cc)

no-flags : (c v : Bool) → not (c || v) ≡ true → (c ≡ false) × (v ≡ false)
no-flags false false h = (refl, refl)
no-flags true v h = absurd (cc)
no-flags false true h = absurd (cc)

module _ (p : Program) where
  -- the type of a null: a pointer to void, or one that may stand in the program
  pub data NullIs (t : CType) (v : ValueType) : Type 0 where
    ToVoid : (to : CType) → out-Shape t.shape ≡ shape.Pointer to → t.constant ≡ false → t.volatile ≡ false → out-Shape to.shape ≡ shape.Void → to.constant ≡ false → to.volatile ≡ false → v ≡ pointer_to to → NullIs t v
    ToOther : (to : CType) → out-Shape t.shape ≡ shape.Pointer to → is_plain_scalar (kind_in p t) ≡ true → v ≡ pointer_to to → NullIs t v

  pub record PointerIs (t : CType) (v : ValueType) : Type 0 where
    pub to : CType
    pub pointer : out-Shape t.shape ≡ shape.Pointer to
    pub plain : is_plain_scalar (kind_in p t) ≡ true
    pub type : v ≡ pointer_to to

  pointer-by : (t : CType) (x : shape.Shape-F Shape CType Sig) (v : ValueType) → out-Shape t.shape ≡ x → pointer_in (is_plain_scalar (kind_in p t)) x ≡ Some v → PointerIs t v
  pointer-by t (shape.Pointer to) v e h = let w = when-is (is_plain_scalar (kind_in p t)) (pointer_to to) v h in record { to = to; pointer = e; plain = w.0; type = w.1 }
  pointer-by t shape.Void v e h = absurd (cc)
  pointer-by t (shape.Int i) v e h = absurd (cc)
  pointer-by t (shape.Array of n) v e h = absurd (cc)
  pointer-by t (shape.Struct i) v e h = absurd (cc)
  pointer-by t (shape.Func s) v e h = absurd (cc)

  pub pointer-is : (t : CType) (v : ValueType) → pointer_type p t ≡ Some v → PointerIs t v
  pointer-is t v h = pointer-by t (out-Shape t.shape) v refl h

  other-null : (t : CType) (v : ValueType) → PointerIs t v → NullIs t v
  other-null t v q = ToOther q.to q.pointer q.plain q.type

  void-by : (t to : CType) (v : ValueType) (b : Bool) → out-Shape t.shape ≡ shape.Pointer to → (is_unqualified t && (is_void to && is_unqualified to)) ≡ b → first_of (if b then Some (pointer_to to) else None) (pointer_type p t) ≡ Some v → NullIs t v
  void-by t to v true e g h =
      let k = both_true (is_unqualified t) (is_void to && is_unqualified to) g in
      let l = both_true (is_void to) (is_unqualified to) k.1 in
      let m = no-flags t.constant t.volatile k.0 in
      let q = no-flags to.constant to.volatile l.1 in
      let same : v ≡ pointer_to to = cc in
      ToVoid to e m.0 m.1 (void-shape (out-Shape to.shape) l.0) q.0 q.1 same
  void-by t to v false e g h = other-null t v (pointer-is t v h)

  null-by : (t : CType) (x : shape.Shape-F Shape CType Sig) (v : ValueType) → out-Shape t.shape ≡ x → first_of (void_pointer_in (is_unqualified t) x) (pointer_type p t) ≡ Some v → NullIs t v
  null-by t (shape.Pointer to) v e h = void-by t to v (is_unqualified t && (is_void to && is_unqualified to)) e refl h
  null-by t shape.Void v e h = other-null t v (pointer-is t v h)
  null-by t (shape.Int i) v e h = other-null t v (pointer-is t v h)
  null-by t (shape.Array of n) v e h = other-null t v (pointer-is t v h)
  null-by t (shape.Struct i) v e h = other-null t v (pointer-is t v h)
  null-by t (shape.Func s) v e h = other-null t v (pointer-is t v h)

  pub null-is : (t : CType) (v : ValueType) → null_type p t ≡ Some v → NullIs t v
  null-is t v h = null-by t (out-Shape t.shape) v refl h

  pub assignable-is : (to : Option ValueType) (a v : ValueType) → when_assignable to a ≡ Some v → (to ≡ Some v) × (is_assignable v a ≡ true)
  assignable-is None a v h = absurd (cc)
  assignable-is (Some t) a v h =
      let w = when-is (is_assignable t a) t v h in
      (ap (λ (u : ValueType). Some u) (sym w.1), ap (λ (u : ValueType). is_assignable u a) w.1 ∙ w.0)

module _ (p : Program) (f : Func) where
  pure-at : (e : Expr) (v : ValueType) (x : one.Expr-F Expr Place) → out-Expr e ≡ x → HasOperand p f e v → (effect_step (map-Expr Expr Place Effects PlaceEffects (effects_of f) (place_effects_of f) x)).pure no_one ≡ true
  pure-at e v x h k = sym (ap (λ (g : Effects). g.pure no_one) (effects-at p f e x h)) ∙ k.pure

  folds-at : (e : Expr) (v : ValueType) (x : one.Expr-F Expr Place) → out-Expr e ≡ x → HasOperand p f e v → (folded_in p.target x).is_folded ≡ true
  folds-at e v x h k = sym (folded-at p.target e x h) ∙ k.folded

  typed-at : (e : Expr) (v : ValueType) (x : one.Expr-F Expr Place) → out-Expr e ≡ x → HasOperand p f e v → expr_step p f.locals (map-Expr Expr Place (Option ValueType) (Option PlaceType) (type_of p f.locals) (place_type p f.locals) x) ≡ Some v
  typed-at e v x h k = sym (type-at p f e x h) ∙ k.typed

  -- ---- `c ? a : b`

  pub record ChoiceParts (c a b e : Expr) (v : ValueType) : Type 0 where
    pub test : ValueType
    pub first : ValueType
    pub second : ValueType
    pub condition : HasOperand p f c test
    pub left : HasOperand p f a first
    pub right : HasOperand p f b second
    pub common : Common p.target first second
    pub type : v ≡ common_type p.target first second
    pub constant : constant_of p.target e ≡ chosen_constant (constant_of p.target c) (constant_of p.target a) (constant_of p.target b)
    pub valueless : has_value (chosen_constant (constant_of p.target c) (constant_of p.target a) (constant_of p.target b)) ≡ false

  arms-scalar : (u w : ValueType) → Common p.target u w → (is_scalar u ≡ true) × (is_scalar w ≡ true)
  arms-scalar u w (Integers t e g h i) = (ap is_scalar e, ap is_scalar g)
  arms-scalar u w (Pointers h k l m q) = (pointer-scalar u h, pointer-scalar w k)

  pub choice-parts : (c a b e : Expr) (v : ValueType) → out-Expr e ≡ one.Choose c a b → HasOperand p f e v → ChoiceParts c a b e v
  choice-parts c a b e v h k =
      let r = one-is (type_of p f.locals c) (λ c. of_two (type_of p f.locals a) (type_of p f.locals b) (choice_type p.target c)) v (typed-at e v (one.Choose c a b) h k) in
      let s = two-is (type_of p f.locals a) (type_of p f.locals b) (choice_type p.target r.0) v r.2 in
      let w = when-is (is_scalar r.0) (common_type p.target s.0 s.1) v s.4 in
      let m = common-is p.target s.0 s.1 (sym (ap is_scalar w.1) ∙ k.scalar) in
      let n = arms-scalar s.0 s.1 m in
      let g = operation-is p.target (chosen_constant (constant_of p.target c) (constant_of p.target a) (constant_of p.target b)) (is_folded p.target c && (is_folded p.target a && is_folded p.target b)) (folds-at e v (one.Choose c a b) h k) in
      let x = both_true (is_folded p.target c) (is_folded p.target a && is_folded p.target b) g.0 in
      let y = both_true (is_folded p.target a) (is_folded p.target b) x.1 in
      let q = both_true ((effects_of f c).pure no_one) ((effects_of f a).pure no_one && (effects_of f b).pure no_one) (pure-at e v (one.Choose c a b) h k) in
      let z = both_true ((effects_of f a).pure no_one) ((effects_of f b).pure no_one) q.1 in
      record {
        test = r.0;
        first = s.0;
        second = s.1;
        condition = record { typed = r.1; scalar = w.0; pure = q.0; folded = x.0 };
        left = record { typed = s.2; scalar = n.0; pure = z.0; folded = y.0 };
        right = record { typed = s.3; scalar = n.1; pure = z.1; folded = y.1 };
        common = m;
        type = w.1;
        constant = constant-at p.target e (one.Choose c a b) h;
        valueless = g.1;
      }

  -- ---- a cast of a pointer

  assigned-scalar : (to v : ValueType) → is_assignable to v ≡ true → is_scalar v ≡ true
  assigned-scalar NoValue v h = absurd (cc)
  assigned-scalar (Integer t) NoValue h = absurd (cc)
  assigned-scalar (Integer t) (Integer s) h = refl
  assigned-scalar (Integer t) (ToObject c v u) h = absurd (cc)
  assigned-scalar (Integer t) (ToFunction s) h = absurd (cc)
  assigned-scalar (ToObject c v u) NoValue h = absurd (cc)
  assigned-scalar (ToObject c v u) (Integer s) h = absurd (cc)
  assigned-scalar (ToObject c v u) (ToObject d w t) h = refl
  assigned-scalar (ToObject c v u) (ToFunction s) h = absurd (cc)
  assigned-scalar (ToFunction s) NoValue h = absurd (cc)
  assigned-scalar (ToFunction s) (Integer t) h = absurd (cc)
  assigned-scalar (ToFunction s) (ToObject c v u) h = absurd (cc)
  assigned-scalar (ToFunction s) (ToFunction t) h = refl

  pub record QualifiedParts (t : CType) (a e : Expr) (v : ValueType) : Type 0 where
    pub own : ValueType
    pub part : HasOperand p f a own
    pub pointer : PointerIs p t v
    pub assignable : is_assignable v own ≡ true
    pub constant : constant_of p.target e ≡ NoConstant

  pub qualified-parts : (t : CType) (a e : Expr) (v : ValueType) → out-Expr e ≡ one.Qualify t a → HasOperand p f e v → QualifiedParts t a e v
  qualified-parts t a e v h k =
      let r = one-is (type_of p f.locals a) (qualified_type p t) v (typed-at e v (one.Qualify t a) h k) in
      let w = assignable-is p (pointer_type p t) r.0 v r.2 in
      record {
        own = r.0;
        part = record { typed = r.1; scalar = assigned-scalar v r.0 w.1; pure = pure-at e v (one.Qualify t a) h k; folded = folds-at e v (one.Qualify t a) h k };
        pointer = pointer-is p t v w.0;
        assignable = w.1;
        constant = constant-at p.target e (one.Qualify t a) h;
      }

  -- ---- addresses, and places

  pub record AddressParts (a : Place) (e : Expr) (v : ValueType) : Type 0 where
    pub own : PlaceType
    pub part : HasPlace p f a own
    pub address : address_of own ≡ Some v
    pub constant : constant_of p.target e ≡ NoConstant

  pub address-parts : (a : Place) (e : Expr) (v : ValueType) → out-Expr e ≡ one.AddrOf a → HasOperand p f e v → AddressParts a e v
  address-parts a e v h k =
      let r = one-is (place_type p f.locals a) address_of v (typed-at e v (one.AddrOf a) h k) in
      record {
        own = r.0;
        part = record { typed = r.1; pure = pure-at e v (one.AddrOf a) h k; folded = folds-at e v (one.AddrOf a) h k };
        address = r.2;
        constant = constant-at p.target e (one.AddrOf a) h;
      }

  place-pure-at : (a : Place) (t : PlaceType) (x : one.Place-F Expr Place) → out-Place a ≡ x → HasPlace p f a t → (place_effect_step f (map-Place Expr Place Effects PlaceEffects (effects_of f) (place_effects_of f) x)).pure no_one ≡ true
  place-pure-at a t x h k = sym (ap (λ (g : PlaceEffects). g.pure no_one) (place-effects-at p f a x h)) ∙ k.pure

  place-folds-at : (a : Place) (t : PlaceType) (x : one.Place-F Expr Place) → out-Place a ≡ x → HasPlace p f a t → place_folding_step p.target (map-Place Expr Place Folding Bool (folding_of p.target) (is_folded_place p.target) x) ≡ true
  place-folds-at a t x h k = sym (place-folding-at p.target a x h) ∙ k.folded

  place-typed-at : (a : Place) (t : PlaceType) (x : one.Place-F Expr Place) → out-Place a ≡ x → HasPlace p f a t → place_step p f.locals (map-Place Expr Place (Option ValueType) (Option PlaceType) (type_of p f.locals) (place_type p f.locals) x) ≡ Some t
  place-typed-at a t x h k = sym (place-at p f a x h) ∙ k.typed

  pub record ElementParts (b : Place) (e : Expr) (t : PlaceType) : Type 0 where
    pub own : PlaceType
    pub index : IntType
    pub array : HasPlace p f b own
    pub subscript : HasOperand p f e (Integer index)
    pub element : element_of own ≡ Some t

  index-is : (i : Bool) (o : Option PlaceType) (t : PlaceType) → (if i then o else None) ≡ Some t → (i ≡ true) × (o ≡ Some t)
  index-is true o t h = (refl, h)
  index-is false o t h = absurd (cc)

  pub element-parts : (a b : Place) (e : Expr) (t : PlaceType) → out-Place a ≡ one.Element b e → HasPlace p f a t → ElementParts b e t
  element-parts a b e t h k =
      let r = two-is (place_type p f.locals b) (type_of p f.locals e) subscript_type t (place-typed-at a t (one.Element b e) h k) in
      let i = index-is (is_integer r.1) (element_of r.0) t r.4 in
      let j = integer-is r.1 i.0 in
      let q = both_true ((place_effects_of f b).pure no_one) ((effects_of f e).pure no_one) (place-pure-at a t (one.Element b e) h k) in
      let z = both_true (is_folded_place p.target b) (is_folded p.target e) (place-folds-at a t (one.Element b e) h k) in
      record {
        own = r.0;
        index = j.0;
        array = record { typed = r.2; pure = q.0; folded = z.0 };
        subscript = record { typed = r.3 ∙ ap (λ (u : ValueType). Some u) j.1; scalar = refl; pure = q.1; folded = z.1 };
        element = i.1;
      }

  pub record MemberParts (b : Place) (m : ℕ) (t : PlaceType) : Type 0 where
    pub own : PlaceType
    pub whole : HasPlace p f b own
    pub member : member_of p.structures m own ≡ Some t

  pub member-parts : (a b : Place) (m : ℕ) (t : PlaceType) → out-Place a ≡ one.Member b m → HasPlace p f a t → MemberParts b m t
  member-parts a b m t h k =
      let r = one-is (place_type p f.locals b) (member_of p.structures m) t (place-typed-at a t (one.Member b m) h k) in
      record { own = r.0; whole = record { typed = r.1; pure = place-pure-at a t (one.Member b m) h k; folded = place-folds-at a t (one.Member b m) h k }; member = r.2 }

  pub record PointedParts (e : Expr) (t : PlaceType) : Type 0 where
    pub own : ValueType
    pub pointer : HasOperand p f e own
    pub pointed : pointed_to own ≡ Some t

  pointed-scalar : (v : ValueType) (t : PlaceType) → pointed_to v ≡ Some t → is_scalar v ≡ true
  pointed-scalar NoValue t h = absurd (cc)
  pointed-scalar (Integer i) t h = absurd (cc)
  pointed-scalar (ToObject c v u) t h = refl
  pointed-scalar (ToFunction s) t h = refl

  pub pointed-parts : (a : Place) (e : Expr) (t : PlaceType) → out-Place a ≡ one.Deref e → HasPlace p f a t → PointedParts e t
  pointed-parts a e t h k =
      let r = one-is (type_of p f.locals e) pointed_to t (place-typed-at a t (one.Deref e) h k) in
      record { own = r.0; pointer = record { typed = r.1; scalar = pointed-scalar r.0 t r.2; pure = place-pure-at a t (one.Deref e) h k; folded = place-folds-at a t (one.Deref e) h k }; pointed = r.2 }
