-- Trees that show places of a program, what is read there and their addresses are typed to them.
use Rattle.std.proofs.Common.{◌≡◌, ℕ, Bool, true, false, not, Option, Some, None, Ok, refl, ap, sym, ◌∙◌, subst, slice_get}
use Rattle.std.specs.Prelude.{is_some, option_map}
use Rattle.cc_bodies.specs.Names.{member_name}
use Rattle.cc_terms.specs.CcDesignators.Designators.{IsPlace, IsFunction, loaded, value_at}
use Rattle.cc_terms.specs.CcDesignators.Postfix.{element, element_by, address_at, indirection, pointed_at}
use Rattle.cc_terms.specs.CcLex.declared.token.Mark.TheVariants as m
use Rattle.cc_program.specs.CcNum.declared.int_type.IntType.{IntType}
use Rattle.cc_terms.specs.CcOperands.Operands.{Operand, operand}
use Rattle.cc_terms.specs.CcOperands.Verdicts.{must}
use Rattle.cc_terms.specs.CcOperands.declared.rule.Rule.TheVariants as rule
use Rattle.cc_shown_expressions.proofs.Rules.{with-scalar}
use Rattle.cc_terms.specs.CcTypedTerms.Devices.{cast_constant}
use Rattle.cc_program.specs.declared.expr.Expr.{Expr, FuncAddr, Load, AddrOf, out-Expr}
use Rattle.cc_program.specs.declared.expr.Expr.TheOpen as one
use Rattle.cc_program.specs.declared.expr.Place.{Place, Local, Static, Element, Member, Deref, out-Place, map-Place}
use Rattle.cc_program.specs.declared.func.Func.{Func}
use Rattle.cc_program.specs.declared.object.Device.{Device}
use Rattle.cc_program.specs.declared.object.Object.{Object}
use Rattle.cc_program.specs.declared.program.Program.{Program}
use Rattle.cc_program.specs.declared.types.CType.{CType}
use Rattle.cc_program.specs.declared.types.Shape.{Shape, out-Shape}
use Rattle.cc_program.specs.declared.types.Shape.TheOpen as shape
use Rattle.cc_program.specs.declared.types.Sig.{Sig}
use Rattle.cc_terms.specs.CcScopes.State.{State}
use Rattle.cc_terms.specs.CcScopes.Verdicts.{whole}
use Rattle.cc_terms.specs.CcSyntax.Effects.{Effects, PlaceEffects, no_one, is_soft, place_effect_step, effects_of, place_effects_of}
use Rattle.cc_terms.specs.CcSyntax.Programs.{place_type}
use Rattle.cc_terms.specs.CcSyntax.Operators.{is_integer, is_handler, function_type}
use Rattle.cc_terms.specs.CcSyntax.Types.{Named}
use Rattle.cc_terms.specs.CcSyntax.Values.{ValueType, Integer, ToFunction, PlaceType, DevicePlace, ObjectPlace, FunctionPlace, is_scalar, scalar_shape, object_place, pointer_to, read_from, address_of, pointed_to, element_shape, element_of, member_of}
use Rattle.cc_terms.specs.Terms.{tree_of}
use Rattle.cc_tree.specs.declared.at.At.{At}
use Rattle.cc_tree.specs.declared.tree.Tree as tree
use Rattle.cc_tree.specs.declared.tree.Tree.{Tree}
use Rattle.cc_tree.specs.Tokens.{Name}
use Rattle.cc_shown_expressions.specs.Fits.{FitsPlace, FitsValue, is_device_place}
use Rattle.cc_shown_expressions.specs.KnownNames.{KnowsNames, TypesStand}
use Rattle.cc_shown_expressions.specs.Normal.{HasOperand, HasPlace}
use Rattle.cc_shown_expressions.specs.OperationNumbers.{Numbers, expr_numbered, place_numbered}
use Rattle.cc_shown_expressions.specs.Typed.{operand_of, IsPlacedAs, IsShown}
use Rattle.cc_shown_expressions.proofs.Fits.{object-place-fits, read-fits, address-fits, deref-fits, element-fits, member-fits}
use Rattle.cc_shown_expressions.proofs.Levels.{one-is, when-is, type-at, place-at, effects-at, place-effects-at, constant-at, folded-at, expr-at, place-numbered-at}
use Rattle.cc_shown_expressions.proofs.Members.{dot-is}
use Rattle.cc_shown_expressions.proofs.Operands.{plain-operand}
use Rattle.cc_shown_expressions.proofs.PlaceParts.{address-parts, element-parts, member-parts, pointed-parts}
use Rattle.cc_shown_expressions.proofs.Trees.{name-tree, read-tree, address-tree, element-tree, member-tree, pointed-tree}
use Rattle.cc_shown_expressions.specs.Numbers.{type_numbered, sig_numbered, value_numbered, place_type_numbered}
use Rattle.cc_shown_expressions.proofs.Kept.{object-numbered, read-at, address-at, element-at, pointed-at as pointed-numbered, scalar-stays}

-- ---- the rules

value-level : (a : Place) (c v : Bool) (x : shape.Shape-F Shape CType Sig) (w : ValueType) → scalar_shape x ≡ Some w → loaded a c v x ≡ Ok (operand (Load a) w)
value-level a c v (shape.Int t) w h = let e : Integer t ≡ w = cc in ap (λ (u : ValueType). Ok (operand (Load a) u)) e
value-level a c v (shape.Pointer to) w h = let e : pointer_to to ≡ w = cc in ap (λ (u : ValueType). Ok (operand (Load a) u)) e
value-level a c v shape.Void w h = absurd (cc)
value-level a c v (shape.Array of n) w h = absurd (cc)
value-level a c v (shape.Struct i) w h = absurd (cc)
value-level a c v (shape.Func s) w h = absurd (cc)

value-read : (a : Place) (t : PlaceType) (w : ValueType) → read_from t ≡ Some w → value_at a t ≡ Ok (operand (Load a) w)
value-read a (DevicePlace c t) w h = let e : Integer t ≡ w = cc in ap (λ (u : ValueType). Ok (operand (Load a) u)) e
value-read a (ObjectPlace c v t) w h = value-level a c v (out-Shape t.shape) w h
value-read a (FunctionPlace s) w h = absurd (cc)

element-of-integer : (a : Place) (t b : PlaceType) (x : Operand) (i : IntType) → x.type ≡ Integer i → element_of t ≡ Some b → element a t x ≡ Ok (IsPlace (Element a x.value) b)
element-of-integer a t b x i e h =
    with-scalar x _ (ap is_scalar e) ∙ ap (λ (v : ValueType). must (is_integer v) rule.Subscript (element_by a x.value (element_of t))) e ∙ ap (element_by a x.value) h

pointed-place : (x : Operand) (b : PlaceType) → is_scalar x.type ≡ true → pointed_to x.type ≡ Some b → indirection x ≡ Ok (IsPlace (Deref x.value) b)
pointed-place x b h e = with-scalar x _ h ∙ ap (pointed_at x) e

-- ---- devices are no operands of a program in normal form

pub no-device-element : (a b : PlaceType) → element_of a ≡ Some b → (is_device_place a ≡ false) × (is_device_place b ≡ false)
no-device-element (DevicePlace c t) b h = absurd (cc)
no-device-element (ObjectPlace c v t) b h = (refl, by (out-Shape t.shape) b h) where
  by : (x : shape.Shape-F Shape CType Sig) (b : PlaceType) → element_shape c v x ≡ Some b → is_device_place b ≡ false
  by (shape.Array of n) b h = let e : ObjectPlace c v of ≡ b = cc in ap is_device_place (sym e)
  by shape.Void b h = absurd (cc)
  by (shape.Int i) b h = absurd (cc)
  by (shape.Pointer to) b h = absurd (cc)
  by (shape.Struct i) b h = absurd (cc)
  by (shape.Func s) b h = absurd (cc)
no-device-element (FunctionPlace s) b h = absurd (cc)

no-device-member : (p : Program) (m : ℕ) (a b : PlaceType) → member_of p.structures m a ≡ Some b → is_device_place a ≡ false
no-device-member p m (DevicePlace c t) b h = absurd (cc)
no-device-member p m (ObjectPlace c v t) b h = refl
no-device-member p m (FunctionPlace s) b h = absurd (cc)

no-device-address : (a : PlaceType) (v : ValueType) → address_of a ≡ Some v → is_device_place a ≡ false
no-device-address (DevicePlace c t) v h = absurd (cc)
no-device-address (ObjectPlace c w t) v h = refl
no-device-address (FunctionPlace s) v h = refl

module _ (p : Program) (f : Func) (n : Numbers) (s : State) (names : KnowsNames p f n s) (stand : TypesStand p f) where
  abbrev value_of : Expr → ValueType → Operand
  value_of e v = operand_of p n e v

  abbrev place : PlaceType → PlaceType
  place t = place_type_numbered n.structure t

  abbrev Part : At Tree → Expr → Type 0
  Part x a = (u : ValueType) → HasOperand p f a u → IsShown p n s x.node x.at a u

  -- typed to a place, whose type a program has
  pub record IsPlaceShown (x : Tree) (at : ℕ) (a : Place) (t : PlaceType) : Type 0 where
    pub placed : IsPlacedAs p n s x at a t
    pub fits : FitsPlace p t

  abbrev pub PlacePart : At Tree → Place → Type 0
  PlacePart x a = (t : PlaceType) → HasPlace p f a t → is_device_place t ≡ false → IsPlaceShown x.node x.at a t

  -- ---- functions

  pub function-shown : (e : Expr) (i : ℕ) (g : Func) (v : ValueType) (at : ℕ) → out-Expr e ≡ one.FuncAddr i → slice_get p.funcs i ≡ Some g → HasOperand p f e v → IsShown p n s (tree.Named g.name) at e v
  function-shown e i g v at h there k =
      let w = when-is (not (is_handler g)) (ToFunction g.sig) v (sym (type-at p f e (one.FuncAddr i) h ∙ ap function_type there) ∙ k.typed) in
      let constant = constant-at p.target e (one.FuncAddr i) h in
      record {
        typed = record {
          found = IsFunction (n.func i) (sig_numbered n.structure g.sig);
          is = name-tree p n s g.name at ∙ ap (whole at s) (names.funcs i g there at);
          value = λ j. ap (λ (y : Operand). Ok (y, s)) (ap (λ (u : ValueType). operand (FuncAddr (n.func i)) (value_numbered n.structure u)) (sym w.1) ∙ plain-operand p n e (FuncAddr (n.func i)) v constant (expr-at n e (one.FuncAddr i) h));
          address = λ j. refl;
          intrinsic = refl;
        };
        fits = subst (FitsValue p) (sym w.1) tt;
        number = λ j. constant;
      }

  -- ---- what is read

  record ReadParts (a : Place) (e : Expr) (v : ValueType) : Type 0 where
    pub own : PlaceType
    pub part : HasPlace p f a own
    pub read : read_from own ≡ Some v
    pub plain : is_device_place own ≡ false

  object-type : (o : Option Named) (t : PlaceType) → option_map (λ (l : Named). object_place l.1) o ≡ Some t → is_device_place t ≡ false
  object-type None t h = absurd (cc)
  object-type (Some l) t h = let e : object_place l.1 ≡ t = cc in ap is_device_place (sym e)

  -- a place that may be read in an operand is a register
  register-by : (a : Place) (x : one.Place-F Expr Place) → out-Place a ≡ x → is_soft (place_effect_step f (map-Place Expr Place Effects PlaceEffects (effects_of f) (place_effects_of f) x)).register no_one ≡ true → (t : PlaceType) → place_type p f.locals a ≡ Some t →
      ((place_effects_of f a).pure no_one ≡ true) × (is_device_place t ≡ false)
  register-by a (one.Local r) e h t k = (ap (λ (g : PlaceEffects). g.pure no_one) (place-effects-at p f a (one.Local r) e), object-type (slice_get f.locals r) t (sym (place-at p f a (one.Local r) e) ∙ k))
  register-by a (one.Static i) e h t k = absurd (cc)
  register-by a (one.Device i) e h t k = absurd (cc)
  register-by a (one.Element b i) e h t k = absurd (cc)
  register-by a (one.Member b i) e h t k = absurd (cc)
  register-by a (one.Deref b) e h t k = absurd (cc)

  read-parts : (a : Place) (e : Expr) (v : ValueType) → out-Expr e ≡ one.Load a → HasOperand p f e v → ReadParts a e v
  read-parts a e v h k =
      let r = one-is (place_type p f.locals a) read_from v (sym (type-at p f e (one.Load a) h) ∙ k.typed) in
      let soft : is_soft (place_effects_of f a).register no_one ≡ true = sym (ap (λ (g : Effects). g.pure no_one) (effects-at p f e (one.Load a) h)) ∙ k.pure in
      let q = register-by a (out-Place a) refl (sym (ap (λ (g : PlaceEffects). is_soft g.register no_one) (place-effects-at p f a (out-Place a) refl)) ∙ soft) r.0 r.1 in
      record { own = r.0; part = record { typed = r.1; pure = q.0; folded = sym (folded-at p.target e (one.Load a) h) ∙ k.folded }; read = r.2; plain = q.1 }

  pub read-shown : (a : Place) (e : Expr) (v : ValueType) (x : Tree) (at : ℕ) → out-Expr e ≡ one.Load a → HasOperand p f e v → ((t : PlaceType) → HasPlace p f a t → is_device_place t ≡ false → IsPlaceShown x at a t) → IsShown p n s x at e v
  read-shown a e v x at h k part =
      let q = read-parts a e v h k in
      let r = part q.own q.part q.plain in
      let constant = constant-at p.target e (one.Load a) h in
      record {
        typed = read-tree p n s x at a q.own e v r.placed
            (value-read (place_numbered n a) (place q.own) (value_numbered n.structure v) (read-at n.structure q.own v q.read)
            ∙ ap (λ (y : Operand). Ok y) (plain-operand p n e (Load (place_numbered n a)) v constant (expr-at n e (one.Load a) h)));
        fits = read-fits p q.own v r.fits q.read;
        number = λ j. constant;
      }

  pub address-shown : (a : Place) (e : Expr) (v : ValueType) (x : At Tree) (at : ℕ) → out-Expr e ≡ one.AddrOf a → HasOperand p f e v → PlacePart x a → IsShown p n s (tree.Prefix m.Amp x) at e v
  address-shown a e v x at h k part =
      let q = address-parts p f a e v h k in
      let r = part q.own q.part (no-device-address q.own v q.address) in
      record {
        typed = address-tree p n s x at a q.own e v r.placed
            (ap (address_at (place_numbered n a)) (address-at n.structure q.own v q.address)
            ∙ ap (λ (y : Operand). Ok y) (plain-operand p n e (AddrOf (place_numbered n a)) v q.constant (expr-at n e (one.AddrOf a) h)));
        fits = address-fits p q.own v r.fits q.address;
        number = λ j. q.constant;
      }

  -- ---- places

  placed-as : (x : Tree) (at : ℕ) (a b : Place) (t u : PlaceType) → tree_of p.target p.roles x at s ≡ Ok (IsPlace b u, s) → place_numbered n a ≡ b → u ≡ place t → IsPlacedAs p n s x at a t
  placed-as x at a b t u h e k = h ∙ ap (λ (y : Place). Ok (IsPlace y u, s)) (sym e) ∙ ap (λ (y : PlaceType). Ok (IsPlace (place_numbered n a) y, s)) k

  pub local-shown : (a : Place) (r : ℕ) (l : Named) (at : ℕ) → out-Place a ≡ one.Local r → slice_get f.locals r ≡ Some l → PlacePart (record { at = at; node = tree.Named l.0 }) a
  local-shown a r l at h there t k plain =
      let same : Some (object_place l.1) ≡ Some t = sym (place-at p f a (one.Local r) h ∙ ap (option_map (λ (l : Named). object_place l.1)) there) ∙ k.typed in
      let e : object_place l.1 ≡ t = cc in
      record {
        placed = placed-as (tree.Named l.0) at a (Local r) t (object_place (type_numbered n.structure l.1)) (name-tree p n s l.0 at ∙ ap (whole at s) (names.locals r l there at)) (place-numbered-at n a (one.Local r) h) (object-numbered n.structure l.1 ∙ ap place e);
        fits = subst (FitsPlace p) e (object-place-fits p l.1 (stand.locals r l there));
      }

  pub static-shown : (a : Place) (i : ℕ) (o : Object) (at : ℕ) → out-Place a ≡ one.Static i → slice_get p.objects i ≡ Some o → PlacePart (record { at = at; node = tree.Named o.name }) a
  static-shown a i o at h there t k plain =
      let same : Some (object_place o.ctype) ≡ Some t = sym (place-at p f a (one.Static i) h ∙ ap (option_map (λ (o : Object). object_place o.ctype)) there) ∙ k.typed in
      let e : object_place o.ctype ≡ t = cc in
      record {
        placed = placed-as (tree.Named o.name) at a (Static (n.object i)) t (object_place (type_numbered n.structure o.ctype)) (name-tree p n s o.name at ∙ ap (whole at s) (names.objects i o there at)) (place-numbered-at n a (one.Static i) h) (object-numbered n.structure o.ctype ∙ ap place e);
        fits = subst (FitsPlace p) e (object-place-fits p o.ctype (stand.objects i o there));
      }

  pub no-device : (a : Place) (i : ℕ) (d : Device) (t : PlaceType) → out-Place a ≡ one.Device i → slice_get p.devices i ≡ Some d → HasPlace p f a t → is_device_place t ≡ false → ⊥
  no-device a i d t h there k plain =
      let same : Some (DevicePlace d.constant d.int) ≡ Some t = sym (place-at p f a (one.Device i) h ∙ ap (option_map (λ (d : Device). DevicePlace d.constant d.int)) there) ∙ k.typed in
      let e : DevicePlace d.constant d.int ≡ t = cc in
      let g : true ≡ false = ap is_device_place e ∙ plain in
      cc

  pub element-shown : (a b : Place) (e : Expr) (x y : At Tree) (at : ℕ) → out-Place a ≡ one.Element b e → PlacePart x b → Part y e → PlacePart (record { at = at; node = tree.Subscript x y }) a
  element-shown a b e x y at h array index t k plain =
      let q = element-parts p f a b e t h k in
      let d = no-device-element q.own t q.element in
      let r = array q.own q.array d.0 in
      let i = Integer q.index in
      let o = element-at n.structure q.own t q.element in
      record {
        placed = element-tree p n s x y at b q.own e i (IsPlace (Element (place_numbered n b) (expr_numbered n e)) (place t)) r.placed (ap is_some o) (index i q.subscript).typed
            (element-of-integer (place_numbered n b) (place q.own) (place t) (value_of e i) q.index refl o)
            ∙ ap (λ (z : Place). Ok (IsPlace z (place t), s)) (sym (place-numbered-at n a (one.Element b e) h));
        fits = element-fits p q.own t r.fits q.element;
      }

  pub member-shown : (a b : Place) (i : ℕ) (name : Name) (x : At Tree) (at : ℕ) → out-Place a ≡ one.Member b i → member_name p.structures i (place_type p f.locals b) ≡ Some name → PlacePart x b → PlacePart (record { at = at; node = tree.Member x name }) a
  member-shown a b i name x at h named whole t k plain =
      let q = member-parts p f a b i t h k in
      let r = whole q.own q.whole (no-device-member p i q.own t q.member) in
      record {
        placed = member-tree p n s x name at b q.own (IsPlace (Member (place_numbered n b) i) (place t)) r.placed
            (dot-is p f n.structure s names.structures stand (place_numbered n b) i q.own t name q.member (ap (member_name p.structures i) (sym q.whole.typed) ∙ named))
            ∙ ap (λ (z : Place). Ok (IsPlace z (place t), s)) (sym (place-numbered-at n a (one.Member b i) h));
        fits = member-fits p f stand i q.own t q.member;
      }

  -- what a pointer is under `*`: no integer constant that is cast
  pub record IsPointerShown (x : Tree) (at : ℕ) (e : Expr) (v : ValueType) : Type 0 where
    pub shown : IsShown p n s x at e v
    pub address : cast_constant shown.typed.found ≡ None

  pub pointed-shown : (a : Place) (e : Expr) (x : At Tree) (at : ℕ) → out-Place a ≡ one.Deref e → ((v : ValueType) → HasOperand p f e v → IsPointerShown x.node x.at e v) → PlacePart (record { at = at; node = tree.Prefix m.Star x }) a
  pointed-shown a e x at h pointer t k plain =
      let q = pointed-parts p f a e t h k in
      let r = pointer q.own q.pointer in
      record {
        placed = pointed-tree p n s x at e q.own r.shown.typed r.address (IsPlace (Deref (expr_numbered n e)) (place t))
            (pointed-place (value_of e q.own) (place t) (scalar-stays n.structure q.own q.pointer.scalar) (pointed-numbered n.structure q.own t q.pointed))
            ∙ ap (λ (z : Place). Ok (IsPlace z (place t), s)) (sym (place-numbered-at n a (one.Deref e) h));
        fits = deref-fits p q.own t r.shown.fits q.pointed;
      }
