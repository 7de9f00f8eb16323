-- Places, the values that they have, their elements, members and addresses access what their parts do.
use Rattle.std.proofs.Common.{◌≡◌, ◌∙◌, ◌||◌, ◌&&◌, ℕ, pos, Bool, true, false, List, Option, Some, None, Ok, Err, ap, sym, subst}
use Rattle.std.proofs.lemmas.Bool.{or_left, or_right}
use Rattle.cc_accessed_operands.specs.Accessed.{PlaceAccess, of_place, accesses, place_access}
use Rattle.cc_accessed_operands.specs.Kept.{designated_accesses, IsKnownPlace, KeepsDesignated, KeepsOperand}
use Rattle.cc_accessed_operands.proofs.Accesses.{no, or_kept, or_either}
use Rattle.cc_accessed_operands.proofs.Parts.{accesses_is, place_access_is, structure_known, operand_keeps, fewer}
use Rattle.cc_accessed_operands.proofs.Verdicts.{ok_is, must_ok, value_ok}
use Rattle.cc_designators.specs.Designators.{TypedExpr, IsPlace, IsValue, IsFunction, IsIntrinsic, IsAddress, first_element, loaded, value_at}
use Rattle.cc_designators.specs.Postfix.{element_by, pointed_by, subscripted, element, position_of, member_by, member_at, member_in, dot, arrow_to, arrow, address_at, address, pointed_at, indirection}
use Rattle.cc_program.specs.CcNum.declared.int_type.IntType.TheVariants as int
use Rattle.cc_operands.specs.Operands.{Operand, operand, with_value, structure_at}
use Rattle.cc_operands.specs.Verdicts.{must}
use Rattle.cc_operands.specs.declared.rule.Rule.{Rule}
use Rattle.cc_operands.specs.declared.rule.Rule.TheVariants as rule
use Rattle.cc_program.specs.declared.expr.Expr.{Expr, Const, FuncAddr, Load, AddrOf, Move}
use Rattle.cc_program.specs.declared.expr.Expr.TheOpen as one
use Rattle.cc_program.specs.declared.expr.Expr.TheVariants.{rolls-Load, rolls-AddrOf, rolls-Move}
use Rattle.cc_program.specs.declared.expr.Place.{Place, Element, Member, Deref}
use Rattle.cc_program.specs.declared.expr.Place.TheVariants.{rolls-Element, rolls-Member, rolls-Deref}
use Rattle.cc_program.specs.declared.types.CType.{CType}
use Rattle.cc_program.specs.declared.types.Shape.{Shape, out-Shape}
use Rattle.cc_program.specs.declared.types.Shape.TheOpen as shape
use Rattle.cc_program.specs.declared.types.Sig.{Sig}
use Rattle.cc_program.specs.declared.types.Structure.{Structure}
use Rattle.cc_operands.specs.CcSyntax.Operators.{is_integer, points_to_object}
use Rattle.cc_operands.specs.CcSyntax.Values.{ValueType, Integer, ToObject, ToFunction, PlaceType, DevicePlace, ObjectPlace, FunctionPlace, pointer_to, pointed_to, element_of, member_of, address_of}

abbrev accesses_place : Place → ℕ → Bool
accesses_place a d = of_place (place_access d a)

abbrev KeepsPlace : Place → Operand → Type 0
KeepsPlace a r = KeepsOperand r (accesses_place a)

-- a place that is no device
abbrev IsNoDevice : Place → Type 0
IsNoDevice a = (d : ℕ) → (place_access d a).is_device ≡ true → ⊥

-- in which an expression accesses what it does
inside_of : (a : Place) → IsNoDevice a → (d : ℕ) → of_place (place_access d a) ≡ true → (place_access d a).inside ≡ true
inside_of a h d k = or_either (place_access d a).is_device (place_access d a).inside (λ z. absurd (h d z)) (λ z. z) k

element_no_device : (a : Place) (i : Expr) → IsNoDevice (Element a i)
element_no_device a i d h = no (sym (ap (λ (z : PlaceAccess). z.is_device) (place_access_is d (Element a i) (one.Element a i) (rolls-Element a i))) ∙ h)

member_no_device : (a : Place) (m : ℕ) → IsNoDevice (Member a m)
member_no_device a m d h = no (sym (ap (λ (z : PlaceAccess). z.is_device) (place_access_is d (Member a m) (one.Member a m) (rolls-Member a m))) ∙ h)

pointed_no_device : (e : Expr) → IsNoDevice (Deref e)
pointed_no_device e d h = no (sym (ap (λ (z : PlaceAccess). z.is_device) (place_access_is d (Deref e) (one.Deref e) (rolls-Deref e))) ∙ h)

-- ---- the value of a place

load_keeps : (a : Place) (t : ValueType) → KeepsPlace a (operand (Load a) t)
load_keeps a t = operand_keeps (Load a) t (accesses_place a) (λ d h. accesses_is d (Load a) (one.Load a) (rolls-Load a) ∙ h)

address_of_keeps : (a : Place) (t : ValueType) → IsNoDevice a → KeepsPlace a (operand (AddrOf a) t)
address_of_keeps a t h = operand_keeps (AddrOf a) t (accesses_place a) (λ d k. accesses_is d (AddrOf a) (one.AddrOf a) (rolls-AddrOf a) ∙ inside_of a h d k)

structure_keeps : (a : Place) → KeepsPlace a (structure_at a)
structure_keeps a = record { known = structure_known a; kept = (load_keeps a (Integer int.Int)).kept }

-- what an element's place and position access
element_accesses : (a : Place) (i : Expr) → IsNoDevice a → (d : ℕ) → (of_place (place_access d a) || accesses d i) ≡ true → (place_access d (Element a i)).inside ≡ true
element_accesses a i h d k =
    ap (λ (z : PlaceAccess). z.inside) (place_access_is d (Element a i) (one.Element a i) (rolls-Element a i))
    ∙ or_kept (of_place (place_access d a)) (accesses d i) (place_access d a).inside (accesses d i) (inside_of a h d) (λ z. z) k

first_keeps : (a : Place) (c v : Bool) (of : CType) → IsNoDevice a → KeepsPlace a (first_element a c v of)
first_keeps a c v of h =
    let i = Const (pos 0) int.Int in
    operand_keeps (AddrOf (Element a i)) (ToObject c v of) (accesses_place a)
    (λ d k. accesses_is d (AddrOf (Element a i)) (one.AddrOf (Element a i)) (rolls-AddrOf (Element a i)) ∙ element_accesses a i h d (or_left (of_place (place_access d a)) (accesses d i) k))

loaded_keeps : (a : Place) (c v : Bool) (s : shape.Shape-F Shape CType Sig) (r : Operand) → IsNoDevice a → loaded a c v s ≡ Ok r → KeepsPlace a r
loaded_keeps a c v (shape.Int t) r h e = subst (KeepsPlace a) (ok_is e) (load_keeps a (Integer t))
loaded_keeps a c v (shape.Pointer to) r h e = subst (KeepsPlace a) (ok_is e) (load_keeps a (pointer_to to))
loaded_keeps a c v (shape.Array of n) r h e = subst (KeepsPlace a) (ok_is e) (first_keeps a c v of h)
loaded_keeps a c v (shape.Struct i) r h e = subst (KeepsPlace a) (ok_is e) (structure_keeps a)
loaded_keeps a c v shape.Void r h e = absurd (cc)
loaded_keeps a c v (shape.Func sig) r h e = absurd (cc)

pub value_keeps : (a : Place) (t : PlaceType) (r : Operand) → IsKnownPlace (IsPlace a t) → value_at a t ≡ Ok r → KeepsOperand r (λ d. of_place (place_access d a))
value_keeps a (DevicePlace c t) r h e = subst (KeepsPlace a) (ok_is e) (load_keeps a (Integer t))
value_keeps a (ObjectPlace c v t) r h e = loaded_keeps a c v (out-Shape t.shape) r h e
value_keeps a (FunctionPlace sig) r h e = subst (KeepsPlace a) (ok_is e) (address_of_keeps a (ToFunction sig) h)

-- ---- `a[i]`

-- a place that is no device, and accesses what is inside of it
place_keeps : (a : Place) (t : PlaceType) (accessed : ℕ → Bool) → IsNoDevice a → ((d : ℕ) → accessed d ≡ true → (place_access d a).inside ≡ true) → KeepsDesignated (IsPlace a t) accessed
place_keeps a t accessed h k = record { known = λ d z. absurd (h d z); kept = λ d z. or_right (place_access d a).is_device (place_access d a).inside (k d z) }

element_by_keeps : (a : Place) (i : Expr) (t : Option PlaceType) (r : TypedExpr) → IsNoDevice a → element_by a i t ≡ Ok r → KeepsDesignated r (λ d. of_place (place_access d a) || accesses d i)
element_by_keeps a i None r h e = absurd (cc)
element_by_keeps a i (Some t) r h e =
    subst (λ z. KeepsDesignated z (λ d. of_place (place_access d a) || accesses d i)) (ok_is e) (place_keeps (Element a i) t (λ d. of_place (place_access d a) || accesses d i) (element_no_device a i) (element_accesses a i h))

-- a device has no elements
element_at_keeps : (a : Place) (i : Expr) (t : PlaceType) (r : TypedExpr) → IsKnownPlace (IsPlace a t) → element_by a i (element_of t) ≡ Ok r → KeepsDesignated r (λ d. of_place (place_access d a) || accesses d i)
element_at_keeps a i (DevicePlace c t) r h e = absurd (cc)
element_at_keeps a i (ObjectPlace c v t) r h e = element_by_keeps a i (element_of (ObjectPlace c v t)) r h e
element_at_keeps a i (FunctionPlace sig) r h e = absurd (cc)

pub element_keeps : (a : Place) (t : PlaceType) (i : Operand) (r : TypedExpr) → IsKnownPlace (IsPlace a t) → element a t i ≡ Ok r → KeepsDesignated r (λ d. of_place (place_access d a) || accesses d i.value)
element_keeps a t i r h e =
    element_at_keeps a i.value t r h (must_ok (is_integer i.type) rule.Subscript (element_by a i.value (element_of t)) r (value_ok i (must (is_integer i.type) rule.Subscript (element_by a i.value (element_of t))) r e)).1

-- what a pointer points to
deref_keeps : (e : Expr) (t : PlaceType) (accessed : ℕ → Bool) → ((d : ℕ) → accessed d ≡ true → accesses d e ≡ true) → KeepsDesignated (IsPlace (Deref e) t) accessed
deref_keeps e t accessed h = place_keeps (Deref e) t accessed (pointed_no_device e) (λ d k. ap (λ (z : PlaceAccess). z.inside) (place_access_is d (Deref e) (one.Deref e) (rolls-Deref e)) ∙ h d k)

pointed_by_keeps : (e : Expr) (t : Option PlaceType) (r : TypedExpr) (accessed : ℕ → Bool) → ((d : ℕ) → accessed d ≡ true → accesses d e ≡ true) → pointed_by e t ≡ Ok r → KeepsDesignated r accessed
pointed_by_keeps i None r accessed h e = absurd (cc)
pointed_by_keeps i (Some t) r accessed h e = subst (λ z. KeepsDesignated z accessed) (ok_is e) (deref_keeps i t accessed h)

pub subscript_keeps : (structures : List Structure) (x i : Operand) (r : TypedExpr) → subscripted structures x i ≡ Ok r → KeepsDesignated r (λ d. accesses d x.value || accesses d i.value)
subscript_keeps structures x i r e =
    let moved = Move x.value i.value false in
    let last = pointed_by moved (pointed_to x.type) in
    let test = must (is_integer i.type && points_to_object structures x.type) rule.Subscript last in
    pointed_by_keeps moved (pointed_to x.type) r (λ d. accesses d x.value || accesses d i.value)
    (λ d k. accesses_is d moved (one.Move x.value i.value false) (rolls-Move x.value i.value false) ∙ k)
    (must_ok (is_integer i.type && points_to_object structures x.type) rule.Subscript last r (value_ok i test r (value_ok x (with_value i test) r e))).1

-- ---- `a.m` and `p->m`

member_by_keeps : (broken : Rule) (a : Place) (m : ℕ) (t : Option PlaceType) (r : TypedExpr) → IsNoDevice a → member_by broken a m t ≡ Ok r → KeepsDesignated r (accesses_place a)
member_by_keeps broken a m None r h e = absurd (cc)
member_by_keeps broken a m (Some t) r h e =
    subst (λ z. KeepsDesignated z (accesses_place a)) (ok_is e)
    (place_keeps (Member a m) t (accesses_place a) (member_no_device a m) (λ d k. ap (λ (z : PlaceAccess). z.inside) (place_access_is d (Member a m) (one.Member a m) (rolls-Member a m)) ∙ inside_of a h d k))

member_at_keeps : (structures : List Structure) (broken : Rule) (a : Place) (t : PlaceType) (o : Option ℕ) (r : TypedExpr) → IsNoDevice a → member_at structures broken a t o ≡ Ok r → KeepsDesignated r (accesses_place a)
member_at_keeps structures broken a t None r h e = absurd (cc)
member_at_keeps structures broken a t (Some m) r h e = member_by_keeps broken a m (member_of structures m t) r h e

member_in_keeps : (structures : List Structure) (broken : Rule) (x : List ℕ) (a : Place) (t : PlaceType) (r : TypedExpr) → IsNoDevice a → member_in structures broken x a t ≡ Ok r → KeepsDesignated r (accesses_place a)
member_in_keeps structures broken x a t r h e = member_at_keeps structures broken a t (position_of structures x t) r h e

-- a device has no members
dot_of_keeps : (structures : List Structure) (x : List ℕ) (a : Place) (t : PlaceType) (r : TypedExpr) → IsKnownPlace (IsPlace a t) → member_in structures rule.Member x a t ≡ Ok r → KeepsDesignated r (accesses_place a)
dot_of_keeps structures x a (DevicePlace c t) r h e = absurd (cc)
dot_of_keeps structures x a (ObjectPlace c v t) r h e = member_in_keeps structures rule.Member x a (ObjectPlace c v t) r h e
dot_of_keeps structures x a (FunctionPlace sig) r h e = absurd (cc)

no_member : (y : Operand) (r : TypedExpr) (accessed : ℕ → Bool) → with_value y (Err rule.Member) ≡ Ok r → KeepsDesignated r accessed
no_member y r accessed e = let n = value_ok y (Err rule.Member) r e in absurd (cc)

pub dot_keeps : (structures : List Structure) (x : List ℕ) (a r : TypedExpr) → IsKnownPlace a → dot structures x a ≡ Ok r → KeepsDesignated r (λ d. designated_accesses d a)
dot_keeps structures x (IsPlace a t) r h e = dot_of_keeps structures x a t r h e
dot_keeps structures x (IsValue y) r h e = no_member y r (λ d. designated_accesses d (IsValue y)) e
dot_keeps structures x (IsFunction f sig) r h e = absurd (cc)
dot_keeps structures x (IsIntrinsic i at) r h e = absurd (cc)
dot_keeps structures x (IsAddress n t at) r h e = absurd (cc)

arrow_to_keeps : (structures : List Structure) (x : List ℕ) (p : Operand) (t : Option PlaceType) (r : TypedExpr) → arrow_to structures x p t ≡ Ok r → KeepsDesignated r (λ d. accesses d p.value)
arrow_to_keeps structures x p None r e = absurd (cc)
arrow_to_keeps structures x p (Some t) r e =
    fewer r (accesses_place (Deref p.value)) (λ d. accesses d p.value) (deref_keeps p.value t (λ d. accesses d p.value) (λ d k. k)).kept
    (member_in_keeps structures rule.Arrow x (Deref p.value) t r (pointed_no_device p.value) e)

pub arrow_keeps : (structures : List Structure) (x : List ℕ) (p : Operand) (r : TypedExpr) → arrow structures x p ≡ Ok r → KeepsDesignated r (λ d. accesses d p.value)
arrow_keeps structures x p r e = arrow_to_keeps structures x p (pointed_to p.type) r (value_ok p (arrow_to structures x p (pointed_to p.type)) r e)

-- ---- `&a` and `*p`

address_at_keeps : (a : Place) (t : Option ValueType) (r : Operand) → IsNoDevice a → address_at a t ≡ Ok r → KeepsPlace a r
address_at_keeps a None r h e = absurd (cc)
address_at_keeps a (Some t) r h e = subst (KeepsPlace a) (ok_is e) (address_of_keeps a t h)

address_place_keeps : (a : Place) (t : PlaceType) (r : Operand) → IsKnownPlace (IsPlace a t) → address_at a (address_of t) ≡ Ok r → KeepsPlace a r
address_place_keeps a (DevicePlace c t) r h e = absurd (cc)
address_place_keeps a (ObjectPlace c v t) r h e = address_at_keeps a (address_of (ObjectPlace c v t)) r h e
address_place_keeps a (FunctionPlace sig) r h e = address_at_keeps a (address_of (FunctionPlace sig)) r h e

no_address : (y r : Operand) (accessed : ℕ → Bool) → with_value y (Err rule.AddressOf) ≡ Ok r → KeepsOperand r accessed
no_address y r accessed e = let n = value_ok y (Err rule.AddressOf) r e in absurd (cc)

pub address_keeps : (a : TypedExpr) (r : Operand) → IsKnownPlace a → address a ≡ Ok r → KeepsOperand r (λ d. designated_accesses d a)
address_keeps (IsPlace a t) r h e = address_place_keeps a t r h e
address_keeps (IsFunction f sig) r h e = subst (λ z. KeepsOperand z (λ d. false)) (ok_is e) (operand_keeps (FuncAddr f) (ToFunction sig) (λ d. false) (λ d k. no k))
address_keeps (IsValue x) r h e = no_address x r (λ d. designated_accesses d (IsValue x)) e
address_keeps (IsIntrinsic i at) r h e = absurd (cc)
address_keeps (IsAddress n t at) r h e = absurd (cc)

pointed_at_keeps : (p : Operand) (t : Option PlaceType) (r : TypedExpr) → pointed_at p t ≡ Ok r → KeepsDesignated r (λ d. accesses d p.value)
pointed_at_keeps p None r e = absurd (cc)
pointed_at_keeps p (Some t) r e = subst (λ z. KeepsDesignated z (λ d. accesses d p.value)) (ok_is e) (deref_keeps p.value t (λ d. accesses d p.value) (λ d k. k))

pub indirection_keeps : (p : Operand) (r : TypedExpr) → indirection p ≡ Ok r → KeepsDesignated r (λ d. accesses d p.value)
indirection_keeps p r e = pointed_at_keeps p (pointed_to p.type) r (value_ok p (pointed_at p (pointed_to p.type)) r e)
