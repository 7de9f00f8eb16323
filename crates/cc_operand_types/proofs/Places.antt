-- Values of places, subscripts, members, addresses and what pointers point to are typed.
use Rattle.std.proofs.Common.{◌≡◌, ℕ, Bool, true, false, ◌&&◌, List, Option, Some, None, Ok, Err, refl, ap, sym, ◌∙◌, subst}
use Rattle.std.specs.Prelude.{pos, if◌then◌else◌}
use Rattle.std.proofs.lemmas.Option.{same_Some}
use Rattle.cc_program.specs.CcNum.declared.int_type.IntType.TheVariants as int
use Rattle.cc_program.specs.declared.expr.Expr.{Expr, Const, Load, AddrOf, FuncAddr, Move}
use Rattle.cc_program.specs.declared.expr.Place.{Place, Element, Member, Deref}
use Rattle.cc_program.specs.declared.types.CType.{CType}
use Rattle.cc_program.specs.declared.types.Shape.{Shape, out-Shape}
use Rattle.cc_program.specs.declared.types.Shape.TheOpen as shape
use Rattle.cc_program.specs.declared.types.Sig.{Sig}
use Rattle.cc_operands.specs.Operands.{Operand, structure_at, is_nothing}
use Rattle.cc_operands.specs.Verdicts.{Judged}
use Rattle.cc_operands.specs.declared.rule.Rule.{Rule}
use Rattle.cc_operands.specs.declared.rule.Rule.TheVariants as rule
use Rattle.cc_designators.specs.Designators.{TypedExpr, IsPlace, IsValue, IsFunction, IsIntrinsic, IsAddress, first_element, loaded, value_at}
use Rattle.cc_designators.specs.Postfix.{element_by, pointed_by, subscripted, element, position_of, member_by, member_at, dot, arrow_to, arrow, address_at, address, pointed_at, indirection}
use Rattle.cc_operands.specs.CcSyntax.Operators.{when, is_integer, points_to_object}
use Rattle.cc_operands.specs.CcSyntax.Types.{Named}
use Rattle.cc_operands.specs.CcSyntax.Values.{ValueType, NoValue, Integer, ToObject, ToFunction, PlaceType, DevicePlace, ObjectPlace, FunctionPlace, pointer_to, scalar_shape, address_of, pointed_to, element_shape, element_of, member_of}
use Rattle.cc_operands.proofs.CcSyntax.Prefixes.{both_true}
use Rattle.cc_operand_types.specs.Typed.{SamePlace, MembersStand, HasType, IsTypedPlace, IsTypedOperand, Structure, IsTypedExpr}
use Rattle.cc_operand_types.proofs.Agreement.{integral_agrees, member_agrees, read_agrees, address_agrees, pointed_agrees, element_agrees}
use Rattle.cc_operand_types.proofs.Constants.{truth_fits}
use Rattle.cc_operand_types.proofs.Nulls.{points_something}
use Rattle.cc_operand_types.proofs.Operands.{ok_is, must_ok, value_ok, value_of, exact, as_operand, integer_operand}
use Rattle.cc_operand_types.proofs.Pointers.{integer_there, object_there, move_typed}
use Rattle.cc_operand_types.proofs.Rolls.{type-Const, type-Load, type-AddrOf, place-Element, place-Member, place-Deref}
use Rattle.cc_operand_types.proofs.Standing.{pointer_stands, pointed_stands, address_stands, elements_stand, members_stand}
use Rattle.cc_operands.specs.CcSyntax.Views.{View}
use Rattle.cc_operands.specs.CcSyntax.Expressions.{type_of}

address_there : (t : PlaceType) (r : ValueType) → address_of t ≡ Some r → is_nothing r ≡ false
address_there (DevicePlace c i) r h = absurd (cc)
address_there (ObjectPlace c v t) r h = ap is_nothing (sym (same_Some (ToObject c v t) r h))
address_there (FunctionPlace s) r h = ap is_nothing (sym (same_Some (ToFunction s) r h))

pointed_there : (t : ValueType) (r : PlaceType) → pointed_to t ≡ Some r → is_nothing t ≡ false
pointed_there NoValue r h = absurd (cc)
pointed_there (Integer i) r h = absurd (cc)
pointed_there (ToObject c v t) r h = refl
pointed_there (ToFunction s) r h = refl

abbrev broken : (A : Type 0) → Rule → Judged A
broken A rule = Err rule

err_not : (A : Type 0) (rule : Rule) (r : A) → broken A rule ≡ Ok r → ⊥
err_not A rule r h = absurd (cc)

module _ (p : View) (locals : List Named) where
  abbrev Typed : Operand → Type 0
  Typed x = IsTypedOperand p locals x

  abbrev Designates : TypedExpr → Type 0
  Designates a = IsTypedExpr p locals a

  -- ---- addresses

  address_has : (a : Place) (t : PlaceType) (r : ValueType) → IsTypedPlace p locals a t → address_of t ≡ Some r → HasType p locals (AddrOf a) r
  address_has a t r ha e =
      let g = address_agrees ha.own t r ha.agrees e in
      record { own = g.0; typed = type-AddrOf p locals a ha.own (Some g.0) ha.typed g.1; agrees = g.2; standing = address_stands p t r ha.standing e }

  address_by : (a : Place) (t : PlaceType) (o : Option ValueType) (r : Operand) → IsTypedPlace p locals a t → address_of t ≡ o → address_at a o ≡ Ok r → Typed r
  address_by a t None r ha e h = absurd (cc)
  address_by a t (Some u) r ha e h = subst Typed (ok_is h) (as_operand p locals (AddrOf a) u (address_there t u e) (address_has a t u ha e))

  pub address_typed : (a : TypedExpr) (r : Operand) → Designates a → address a ≡ Ok r → Typed r
  address_typed (IsPlace a t) r ha h = address_by a t (address_of t) r ha refl h
  address_typed (IsFunction f sig) r ha h = subst Typed (ok_is h) (as_operand p locals (FuncAddr f) (ToFunction sig) refl ha)
  address_typed (IsValue x) r ha h = absurd (err_not Operand rule.AddressOf r (value_ok x (Err rule.AddressOf) r h).1)
  address_typed (IsIntrinsic i at) r ha h = absurd (cc)
  address_typed (IsAddress n t at) r ha h = absurd (cc)

  -- ---- elements and members

  element_typed : (a : Place) (i : Expr) (t r : PlaceType) (u : ValueType) → IsTypedPlace p locals a t → type_of p locals i ≡ Some u → is_integer u ≡ true → element_of t ≡ Some r → IsTypedPlace p locals (Element a i) r
  element_typed a i t r u ha hi n e =
      let g = element_agrees ha.own t r ha.agrees e in
      record {
        own = g.0;
        typed = place-Element p locals a i ha.own u (Some g.0) ha.typed hi (ap (λ (b : Bool). if b then element_of ha.own else None) n ∙ g.1);
        agrees = g.2;
        standing = elements_stand p t r ha.standing e;
      }

  element_from : (a : Place) (i : Expr) (t : PlaceType) (u : ValueType) (o : Option PlaceType) (r : TypedExpr) → IsTypedPlace p locals a t → type_of p locals i ≡ Some u → is_integer u ≡ true → element_of t ≡ o → element_by a i o ≡ Ok r → Designates r
  element_from a i t u None r ha hi n e h = absurd (cc)
  element_from a i t u (Some s) r ha hi n e h = subst Designates (ok_is h) (element_typed a i t s u ha hi n e)

  pub element_of_typed : (a : Place) (t : PlaceType) (i : Operand) (r : TypedExpr) → IsTypedPlace p locals a t → Typed i → element a t i ≡ Ok r → Designates r
  element_of_typed a t i r ha hi h =
      let m = must_ok (is_integer i.type) rule.Subscript (element_by a i.value (element_of t)) r (value_ok i _ r h).1 in
      let v = value_of p locals i hi (integer_there i.type m.0) in
      element_from a i.value t v.own (element_of t) r ha v.typed (integral_agrees v.own i.type v.agrees ∙ m.0) refl m.1

  -- ---- what a pointer points to

  deref_typed : (e : Expr) (t : ValueType) (r : PlaceType) → HasType p locals e t → pointed_to t ≡ Some r → IsTypedPlace p locals (Deref e) r
  deref_typed e t r he k =
      let g = pointed_agrees he.own t r he.agrees k in
      record { own = g.0; typed = place-Deref p locals e he.own (Some g.0) he.typed g.1; agrees = g.2; standing = pointed_stands p t r he.standing k }

  pointed_from : (e : Expr) (t : ValueType) (o : Option PlaceType) (r : TypedExpr) → HasType p locals e t → pointed_to t ≡ o → pointed_by e o ≡ Ok r → Designates r
  pointed_from e t None r he k h = absurd (cc)
  pointed_from e t (Some u) r he k h = subst Designates (ok_is h) (deref_typed e t u he k)

  pub subscripted_typed : (x i : Operand) (r : TypedExpr) → Typed x → Typed i → subscripted p.structures x i ≡ Ok r → Designates r
  subscripted_typed x i r hx hi h =
      let m = must_ok (is_integer i.type && points_to_object p.structures x.type) rule.Subscript (pointed_by (Move x.value i.value false) (pointed_to x.type)) r (value_ok i _ r (value_ok x _ r h).1).1 in
      let b = both_true (is_integer i.type) (points_to_object p.structures x.type) m.0 in
      pointed_from (Move x.value i.value false) x.type (pointed_to x.type) r
      (move_typed p locals false x i (value_of p locals x hx (object_there p.structures x.type b.1)) (value_of p locals i hi (integer_there i.type b.0)) b.1 b.0) refl m.1

  indirect_by : (x : Operand) (o : Option PlaceType) (r : TypedExpr) → Typed x → pointed_to x.type ≡ o → pointed_at x o ≡ Ok r → Designates r
  indirect_by x None r hx e h = absurd (cc)
  indirect_by x (Some t) r hx e h = subst Designates (ok_is h) (deref_typed x.value x.type t (value_of p locals x hx (pointed_there x.type t e)) e)

  pub indirection_typed : (x : Operand) (r : TypedExpr) → Typed x → indirection x ≡ Ok r → Designates r
  indirection_typed x r hx h = indirect_by x (pointed_to x.type) r hx refl (value_ok x _ r h).1

  -- ---- values

  first_typed : (a : Place) (c v : Bool) (t of : CType) (n : ℕ) → out-Shape t.shape ≡ shape.Array of n → IsTypedPlace p locals a (ObjectPlace c v t) → Typed (first_element a c v of)
  first_typed a c v t of n e ha =
      let i : Expr = Const (pos 0) int.Int in
      let k : type_of p locals i ≡ Some (Integer int.Int) = type-Const p locals (pos 0) int.Int ∙ ap (λ (b : Bool). when b (Integer int.Int)) (truth_fits int.Int p.target false) in
      let d = element_typed a i (ObjectPlace c v t) (ObjectPlace c v of) (Integer int.Int) ha k refl (ap (element_shape c v) e) in
      as_operand p locals (AddrOf (Element a i)) (ToObject c v of) refl (address_has (Element a i) (ObjectPlace c v of) (ToObject c v of) d refl)

  loaded_typed : (a : Place) (c v : Bool) (t : CType) (x : shape.Shape-F Shape CType Sig) (r : Operand) → out-Shape t.shape ≡ x → IsTypedPlace p locals a (ObjectPlace c v t) → loaded a c v x ≡ Ok r → Typed r
  loaded_typed a c v t (shape.Int i) r e ha h =
      subst Typed (ok_is h) (integer_operand p locals (Load a) i (type-Load p locals a ha.own (Some (Integer i)) ha.typed (read_agrees ha.own (ObjectPlace c v t) ha.agrees ∙ ap scalar_shape e)))
  loaded_typed a c v t (shape.Pointer to) r e ha h =
      subst Typed (ok_is h) (as_operand p locals (Load a) (pointer_to to) (points_something to)
      (exact p locals (Load a) (pointer_to to) (type-Load p locals a ha.own (Some (pointer_to to)) ha.typed (read_agrees ha.own (ObjectPlace c v t) ha.agrees ∙ ap scalar_shape e)) (pointer_stands p false t to e ha.standing)))
  loaded_typed a c v t (shape.Array of n) r e ha h = subst Typed (ok_is h) (first_typed a c v t of n e ha)
  loaded_typed a c v t (shape.Struct i) r e ha h = subst Typed (ok_is h) (Structure (structure_at a) a (ObjectPlace c v t) refl ha)
  loaded_typed a c v t shape.Void r e ha h = absurd (cc)
  loaded_typed a c v t (shape.Func s) r e ha h = absurd (cc)

  pub value_typed : (a : Place) (t : PlaceType) (r : Operand) → IsTypedPlace p locals a t → value_at a t ≡ Ok r → Typed r
  value_typed a (DevicePlace c i) r ha h =
      subst Typed (ok_is h) (integer_operand p locals (Load a) i (type-Load p locals a ha.own (Some (Integer i)) ha.typed (read_agrees ha.own (DevicePlace c i) ha.agrees)))
  value_typed a (ObjectPlace c v t) r ha h = loaded_typed a c v t (out-Shape t.shape) r refl ha h
  value_typed a (FunctionPlace s) r ha h = subst Typed (ok_is h) (as_operand p locals (AddrOf a) (ToFunction s) refl (address_has a (FunctionPlace s) (ToFunction s) ha refl))

  -- ---- members

  module _ (members : MembersStand p) where
    member_typed : (a : Place) (m : ℕ) (t r : PlaceType) → IsTypedPlace p locals a t → member_of p.structures m t ≡ Some r → IsTypedPlace p locals (Member a m) r
    member_typed a m t r ha e = record {
      own = r;
      typed = place-Member p locals a m ha.own (Some r) ha.typed (member_agrees p.structures m ha.own t ha.agrees ∙ e);
      agrees = SamePlace r;
      standing = members_stand p members m t r e;
    }

    member_from : (broken : Rule) (a : Place) (m : ℕ) (t : PlaceType) (o : Option PlaceType) (r : TypedExpr) → IsTypedPlace p locals a t → member_of p.structures m t ≡ o → member_by broken a m o ≡ Ok r → Designates r
    member_from broken a m t None r ha e h = absurd (cc)
    member_from broken a m t (Some s) r ha e h = subst Designates (ok_is h) (member_typed a m t s ha e)

    member_with : (broken : Rule) (a : Place) (t : PlaceType) (o : Option ℕ) (r : TypedExpr) → IsTypedPlace p locals a t → member_at p.structures broken a t o ≡ Ok r → Designates r
    member_with broken a t None r ha h = absurd (cc)
    member_with broken a t (Some m) r ha h = member_from broken a m t (member_of p.structures m t) r ha refl h

    pub dot_typed : (name : List ℕ) (a : TypedExpr) (r : TypedExpr) → Designates a → dot p.structures name a ≡ Ok r → Designates r
    dot_typed name (IsPlace a t) r ha h = member_with rule.Member a t (position_of p.structures name t) r ha h
    dot_typed name (IsValue x) r ha h = absurd (err_not TypedExpr rule.Member r (value_ok x (Err rule.Member) r h).1)
    dot_typed name (IsFunction f s) r ha h = absurd (cc)
    dot_typed name (IsIntrinsic i at) r ha h = absurd (cc)
    dot_typed name (IsAddress n t at) r ha h = absurd (cc)

    arrow_by : (name : List ℕ) (x : Operand) (o : Option PlaceType) (r : TypedExpr) → Typed x → pointed_to x.type ≡ o → arrow_to p.structures name x o ≡ Ok r → Designates r
    arrow_by name x None r hx e h = absurd (cc)
    arrow_by name x (Some t) r hx e h = member_with rule.Arrow (Deref x.value) t (position_of p.structures name t) r (deref_typed x.value x.type t (value_of p locals x hx (pointed_there x.type t e)) e) h

    pub arrow_typed : (name : List ℕ) (x : Operand) (r : TypedExpr) → Typed x → arrow p.structures name x ≡ Ok r → Designates r
    arrow_typed name x r hx h = arrow_by name x (pointed_to x.type) r hx refl (value_ok x _ r h).1
