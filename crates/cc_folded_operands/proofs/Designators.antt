-- Places, the values that they have, their elements and members, addresses, casts and calls are folded, where their parts are.
use Rattle.std.proofs.Common.{◌≡◌, ℕ, pos, Bool, true, false, ◌&&◌, List, [], ◌∷◌, map, Option, Some, None, Ok, Err, refl, ap, subst}
use Rattle.std.specs.List.{list_all}
use Rattle.std.specs.Prelude.{if◌then◌else◌}
use Rattle.cc_program.specs.CcNum.declared.int_type.IntType.{IntType}
use Rattle.cc_program.specs.CcNum.declared.int_type.IntType.TheVariants as int
use Rattle.cc_program.specs.CcNum.Integers.{is_value_of}
use Rattle.cc_program.specs.CcNum.declared.target.Target.{Target}
use Rattle.cc_designators.specs.Calls.{intrinsic_signature, first_or_none, result_of, passed_to, passed, called_with, called_by, called, intrinsic}
use Rattle.cc_designators.specs.Casts.{void_pointer_cast, constant_cast, pointer_cast, integer_cast, cast_by, cast_of, size_value}
use Rattle.cc_designators.specs.Designators.{TypedExpr, IsPlace, IsValue, IsFunction, IsIntrinsic, IsAddress, first_element, loaded, value_at, pointed_in, null}
use Rattle.cc_designators.specs.Postfix.{element_by, pointed_by, subscripted, element, position_of, member_by, member_at, member_in, dot, arrow_to, arrow, address_at, address, pointed_at, indirection}
use Rattle.cc_operands.specs.Operands.{Operand, operand, integer, constancy, as_nothing, size_type, is_null_constant, with_value, structure_at}
use Rattle.cc_operands.specs.Qualified.{unqualified}
use Rattle.cc_operands.specs.Verdicts.{must, judge_then}
use Rattle.cc_operands.specs.declared.rule.Rule.{Rule}
use Rattle.cc_operands.specs.declared.rule.Rule.TheVariants as rule
use Rattle.cc_program.proofs.Each.{Each}
use Rattle.cc_program.specs.declared.expr.Expr.{Expr, Const, Null, FuncAddr, Load, AddrOf, Qualify, Move, Call, Intr}
use Rattle.cc_program.specs.declared.expr.Expr.TheOpen as one
use Rattle.cc_program.specs.declared.expr.Expr.TheVariants.{rolls-Call, rolls-Intr}
use Rattle.cc_program.specs.declared.expr.Intr.{Intr as Intrinsic}
use Rattle.cc_program.specs.declared.expr.Place.{Place, Element, Deref}
use Rattle.cc_program.specs.declared.types.CType.{CType}
use Rattle.cc_program.specs.declared.types.Shape.{Shape, out-Shape}
use Rattle.cc_program.specs.declared.types.Shape.TheOpen as shape
use Rattle.cc_program.specs.declared.types.Sig.{Sig, out-Sig}
use Rattle.cc_program.specs.declared.types.Structure.{Structure}
use Rattle.cc_operands.specs.CcSyntax.Folding.{Constant, NoConstant, Value, Traps, Folding, variable, folding_of, is_folded, is_folded_place}
use Rattle.cc_operands.specs.CcSyntax.Operators.{is_integer, points_to_object}
use Rattle.cc_operands.specs.CcSyntax.Values.{ValueType, NoValue, Integer, ToObject, ToFunction, PlaceType, DevicePlace, ObjectPlace, FunctionPlace, pointer_to, is_void, is_assignable, pointed_to, element_of, member_of, address_of, scalar_value, result_value}
use Rattle.cc_folded_operands.specs.Folded.{IsFoldedExpr}
use Rattle.cc_folded_operands.proofs.Assignments.{assigned_folded}
use Rattle.cc_folded_operands.proofs.Conversions.{qualify_variable, cast_folded}
use Rattle.cc_folded_operands.proofs.Opened.{Folded, IsVariable, variable_at, variable_operand, constant_operand, null_variable, function_variable, load_variable, address_variable, element_folded, member_folded, pointed_folded}
use Rattle.cc_folded_operands.proofs.Operators.{move_folded}
use Rattle.cc_folded_operands.proofs.Verdicts.{ok_is, must_ok, value_ok, structure_ok, then_ok, both as two}

module _ (target : Target) where
  abbrev Good : Operand → Type 0
  Good x = Folded target x

  abbrev IsFoldedPlace : Place → Type 0
  IsFoldedPlace a = is_folded_place target a ≡ true

  abbrev Designates : TypedExpr → Type 0
  Designates a = IsFoldedExpr target a

  -- ---- the value of a place

  pub null_folded : (t : CType) → Good (null t)
  null_folded t = variable_operand target (Null t) (pointed_in (out-Shape t.shape)) (null_variable target t)

  pub function_folded : (f : ℕ) (t : ValueType) → Good (operand (FuncAddr f) t)
  function_folded f t = variable_operand target (FuncAddr f) t (function_variable target f)

  load_folded : (a : Place) (t : ValueType) → IsFoldedPlace a → Good (operand (Load a) t)
  load_folded a t h = variable_operand target (Load a) t (load_variable target a h)

  structure_folded : (a : Place) → IsFoldedPlace a → Good (structure_at a)
  structure_folded a h = let v = load_folded a NoValue h in record { folded = v.folded; constant = v.constant; no_pointer = v.no_pointer }

  first_folded : (a : Place) (c v : Bool) (of : CType) → IsFoldedPlace a → Good (first_element a c v of)
  first_folded a c v of h =
      variable_operand target (AddrOf (Element a (Const (pos 0) int.Int))) (ToObject c v of)
      (address_variable target (Element a (Const (pos 0) int.Int)) (element_folded target a (Const (pos 0) int.Int) h (constant_operand target (pos 0) int.Int).folded))

  loaded_folded : (a : Place) (c v : Bool) (s : shape.Shape-F Shape CType Sig) (r : Operand) → IsFoldedPlace a → loaded a c v s ≡ Ok r → Good r
  loaded_folded a c v (shape.Int t) r h e = subst Good (ok_is e) (load_folded a (Integer t) h)
  loaded_folded a c v (shape.Pointer to) r h e = subst Good (ok_is e) (load_folded a (pointer_to to) h)
  loaded_folded a c v (shape.Array of n) r h e = subst Good (ok_is e) (first_folded a c v of h)
  loaded_folded a c v (shape.Struct i) r h e = subst Good (ok_is e) (structure_folded a h)
  loaded_folded a c v shape.Void r h e = absurd (cc)
  loaded_folded a c v (shape.Func sig) r h e = absurd (cc)

  pub value_folded : (a : Place) (t : PlaceType) (r : Operand) → IsFoldedPlace a → value_at a t ≡ Ok r → Good r
  value_folded a (DevicePlace c t) r h e = subst Good (ok_is e) (load_folded a (Integer t) h)
  value_folded a (ObjectPlace c v t) r h e = loaded_folded a c v (out-Shape t.shape) r h e
  value_folded a (FunctionPlace sig) r h e = subst Good (ok_is e) (variable_operand target (AddrOf a) (ToFunction sig) (address_variable target a h))

  -- ---- `a[i]`

  element_by_folded : (a : Place) (i : Expr) (t : Option PlaceType) (r : TypedExpr) → IsFoldedPlace a → is_folded target i ≡ true → element_by a i t ≡ Ok r → Designates r
  element_by_folded a i None r h k e = absurd (cc)
  element_by_folded a i (Some t) r h k e = subst Designates (ok_is e) (element_folded target a i h k)

  pub element_of_folded : (a : Place) (t : PlaceType) (i : Operand) (r : TypedExpr) → IsFoldedPlace a → Good i → element a t i ≡ Ok r → Designates r
  element_of_folded a t i r h k e =
      element_by_folded a i.value (element_of t) r h k.folded (must_ok (is_integer i.type) rule.Subscript (element_by a i.value (element_of t)) r (value_ok i (must (is_integer i.type) rule.Subscript (element_by a i.value (element_of t))) r e)).1

  pointed_by_folded : (i : Expr) (t : Option PlaceType) (r : TypedExpr) → is_folded target i ≡ true → pointed_by i t ≡ Ok r → Designates r
  pointed_by_folded i None r k e = absurd (cc)
  pointed_by_folded i (Some t) r k e = subst Designates (ok_is e) (pointed_folded target i k)

  pub subscripted_folded : (structures : List Structure) (x i : Operand) (r : TypedExpr) → Good x → Good i → subscripted structures x i ≡ Ok r → Designates r
  subscripted_folded structures x i r h k e =
      let last = pointed_by (Move x.value i.value false) (pointed_to x.type) in
      let test = must (is_integer i.type && points_to_object structures x.type) rule.Subscript last in
      pointed_by_folded (Move x.value i.value false) (pointed_to x.type) r (move_folded target x i false x.type h k).folded
      (must_ok (is_integer i.type && points_to_object structures x.type) rule.Subscript last r (value_ok i test r (value_ok x (with_value i test) r e))).1

  -- ---- `a.m` and `p->m`

  member_by_folded : (broken : Rule) (a : Place) (m : ℕ) (t : Option PlaceType) (r : TypedExpr) → IsFoldedPlace a → member_by broken a m t ≡ Ok r → Designates r
  member_by_folded broken a m None r h e = absurd (cc)
  member_by_folded broken a m (Some t) r h e = subst Designates (ok_is e) (member_folded target a m h)

  member_at_folded : (structures : List Structure) (broken : Rule) (a : Place) (t : PlaceType) (o : Option ℕ) (r : TypedExpr) → IsFoldedPlace a → member_at structures broken a t o ≡ Ok r → Designates r
  member_at_folded structures broken a t None r h e = absurd (cc)
  member_at_folded structures broken a t (Some m) r h e = member_by_folded broken a m (member_of structures m t) r h e

  member_in_folded : (structures : List Structure) (broken : Rule) (x : List ℕ) (a : Place) (t : PlaceType) (r : TypedExpr) → IsFoldedPlace a → member_in structures broken x a t ≡ Ok r → Designates r
  member_in_folded structures broken x a t r h e = member_at_folded structures broken a t (position_of structures x t) r h e

  no_member : (y : Operand) (r : TypedExpr) → with_value y (Err rule.Member) ≡ Ok r → Designates r
  no_member y r e = let n = value_ok y (Err rule.Member) r e in absurd (cc)

  pub dot_folded : (structures : List Structure) (x : List ℕ) (a : TypedExpr) (r : TypedExpr) → Designates a → dot structures x a ≡ Ok r → Designates r
  dot_folded structures x (IsPlace a t) r h e = member_in_folded structures rule.Member x a t r h e
  dot_folded structures x (IsValue y) r h e = no_member y r e
  dot_folded structures x (IsFunction f sig) r h e = absurd (cc)
  dot_folded structures x (IsIntrinsic i at) r h e = absurd (cc)
  dot_folded structures x (IsAddress n t at) r h e = absurd (cc)

  arrow_to_folded : (structures : List Structure) (x : List ℕ) (p : Operand) (t : Option PlaceType) (r : TypedExpr) → Good p → arrow_to structures x p t ≡ Ok r → Designates r
  arrow_to_folded structures x p None r h e = absurd (cc)
  arrow_to_folded structures x p (Some t) r h e = member_in_folded structures rule.Arrow x (Deref p.value) t r (pointed_folded target p.value h.folded) e

  pub arrow_folded : (structures : List Structure) (x : List ℕ) (p : Operand) (r : TypedExpr) → Good p → arrow structures x p ≡ Ok r → Designates r
  arrow_folded structures x p r h e = arrow_to_folded structures x p (pointed_to p.type) r h (value_ok p (arrow_to structures x p (pointed_to p.type)) r e)

  -- ---- `&a` and `*p`

  address_at_folded : (a : Place) (t : Option ValueType) (r : Operand) → IsFoldedPlace a → address_at a t ≡ Ok r → Good r
  address_at_folded a None r h e = absurd (cc)
  address_at_folded a (Some t) r h e = subst Good (ok_is e) (variable_operand target (AddrOf a) t (address_variable target a h))

  no_address : (y r : Operand) → with_value y (Err rule.AddressOf) ≡ Ok r → Good r
  no_address y r e = let n = value_ok y (Err rule.AddressOf) r e in absurd (cc)

  pub address_folded : (a : TypedExpr) (r : Operand) → Designates a → address a ≡ Ok r → Good r
  address_folded (IsPlace a t) r h e = address_at_folded a (address_of t) r h e
  address_folded (IsFunction f sig) r h e = subst Good (ok_is e) (function_folded f (ToFunction sig))
  address_folded (IsValue x) r h e = no_address x r e
  address_folded (IsIntrinsic i at) r h e = absurd (cc)
  address_folded (IsAddress n t at) r h e = absurd (cc)

  pointed_at_folded : (p : Operand) (t : Option PlaceType) (r : TypedExpr) → Good p → pointed_at p t ≡ Ok r → Designates r
  pointed_at_folded p None r h e = absurd (cc)
  pointed_at_folded p (Some t) r h e = subst Designates (ok_is e) (pointed_folded target p.value h.folded)

  pub indirection_folded : (p : Operand) (r : TypedExpr) → Good p → indirection p ≡ Ok r → Designates r
  indirection_folded p r h e = pointed_at_folded p (pointed_to p.type) r h (value_ok p (pointed_at p (pointed_to p.type)) r e)

  -- ---- casts and sizes

  nothing_folded : (x : Operand) → Good x → Good (as_nothing x)
  nothing_folded x h = record { folded = h.folded; constant = h.constant; no_pointer = λ p. absurd (cc) }

  constant_cast_folded : (at : ℕ) (t : CType) (c : Constant) (r : TypedExpr) → constant_cast at t c ≡ Ok r → Designates r
  constant_cast_folded at t NoConstant r e = absurd (cc)
  constant_cast_folded at t (Value n) r e = subst Designates (ok_is e) tt
  constant_cast_folded at t Traps r e = absurd (cc)

  qualified_by : (t to : CType) (x : Operand) (b : Bool) (r : TypedExpr) → Good x →
      (if b then Ok (IsValue (null t)) else must (is_assignable (pointer_to to) x.type) rule.Cast (Ok (IsValue (operand (Qualify t x.value) (pointer_to to))))) ≡ Ok r → Designates r
  qualified_by t to x true r h e = subst Designates (ok_is e) (null_folded t)
  qualified_by t to x false r h e =
      subst Designates (ok_is (must_ok (is_assignable (pointer_to to) x.type) rule.Cast (Ok (IsValue (operand (Qualify t x.value) (pointer_to to)))) r e).1)
      (variable_operand target (Qualify t x.value) (pointer_to to) (qualify_variable target t x.value h.folded))

  pointer_cast_folded : (at : ℕ) (t to : CType) (x : Operand) (v : ValueType) (r : TypedExpr) → Good x → pointer_cast at t to x v ≡ Ok r → Designates r
  pointer_cast_folded at t to x (Integer s) r h e = constant_cast_folded at t (constancy x) r e
  pointer_cast_folded at t to x NoValue r h e = qualified_by t to x (is_null_constant x) r h e
  pointer_cast_folded at t to x (ToObject c v u) r h e = qualified_by t to x (is_null_constant x) r h e
  pointer_cast_folded at t to x (ToFunction s) r h e = qualified_by t to x (is_null_constant x) r h e

  to_pointer : (at : ℕ) (t to : CType) (x : Operand) (b : Bool) (r : TypedExpr) → Good x → (if b then void_pointer_cast t x else pointer_cast at t to x x.type) ≡ Ok r → Designates r
  to_pointer at t to x true r h e = subst Designates (ok_is (must_ok (is_null_constant x) rule.PointerToVoid (Ok (IsValue (null t))) r e).1) (null_folded t)
  to_pointer at t to x false r h e = pointer_cast_folded at t to x x.type r h e

  integer_cast_folded : (i : IntType) (x : Operand) (v : ValueType) (r : TypedExpr) → Good x → integer_cast target i x v ≡ Ok r → Designates r
  integer_cast_folded i x (Integer s) r h e = subst Designates (ok_is e) (cast_folded target i x h)
  integer_cast_folded i x NoValue r h e = absurd (cc)
  integer_cast_folded i x (ToObject c v u) r h e = absurd (cc)
  integer_cast_folded i x (ToFunction s) r h e = absurd (cc)

  cast_by_folded : (at : ℕ) (t : CType) (x : Operand) (s : shape.Shape-F Shape CType Sig) (r : TypedExpr) → Good x → cast_by target at t x s ≡ Ok r → Designates r
  cast_by_folded at t x shape.Void r h e = subst Designates (ok_is (structure_ok x (Ok (IsValue (as_nothing x))) r e)) (nothing_folded x h)
  cast_by_folded at t x (shape.Int i) r h e = integer_cast_folded i x x.type r h (value_ok x (integer_cast target i x x.type) r e)
  cast_by_folded at t x (shape.Pointer to) r h e = to_pointer at t to x (is_void to) r h (value_ok x (if is_void to then void_pointer_cast t x else pointer_cast at t to x x.type) r e)
  cast_by_folded at t x (shape.Array of n) r h e = absurd (cc)
  cast_by_folded at t x (shape.Struct i) r h e = absurd (cc)
  cast_by_folded at t x (shape.Func sig) r h e = absurd (cc)

  pub cast_of_folded : (at : ℕ) (t : CType) (x : Operand) (r : TypedExpr) → Good x → cast_of target at t x ≡ Ok r → Designates r
  cast_of_folded at t x r h e = cast_by_folded at (unqualified t) x (out-Shape t.shape) r h e

  pub size_folded : (n : ℕ) (r : Operand) → size_value target n ≡ Ok r → Good r
  size_folded n r e =
      subst Good (ok_is (must_ok (is_value_of (size_type target) target (pos n)) rule.SizeOf (Ok (integer (pos n) (size_type target))) r e).1) (constant_operand target (pos n) (size_type target))

  -- ---- calls

  abbrev AreFoldedExprs : List Expr → Type 0
  AreFoldedExprs es = Each (λ e. is_folded target e ≡ true) es

  all_folded : (es : List Expr) → AreFoldedExprs es → list_all (λ (a : Folding). a.is_folded) (map (folding_of target) es) ≡ true
  all_folded [] h = refl
  all_folded (e ∷ es) h = two (is_folded target e) (list_all (λ (a : Folding). a.is_folded) (map (folding_of target) es)) h.0 (all_folded es h.1)

  passed_to_folded : (t : CType) (x : Operand) (o : Option ValueType) (r : Operand) → Good x → passed_to target t x o ≡ Ok r → is_folded target r.value ≡ true
  passed_to_folded t x None r h e = absurd (cc)
  passed_to_folded t x (Some to) r h e = assigned_folded target to x r h e

  passed_folded : (ts : List CType) (xs : List Operand) (es : List Expr) → Each Good xs → passed target ts xs ≡ Ok es → AreFoldedExprs es
  passed_folded [] [] es h e = subst AreFoldedExprs (ok_is e) tt
  passed_folded (t ∷ ts) (x ∷ xs) es h e =
      let y = then_ok (passed_to target t x (scalar_value t)) (λ y. judge_then (passed target ts xs) (λ ys. Ok (y.value ∷ ys))) es e in
      let ys = then_ok (passed target ts xs) (λ ys. Ok (y.0.value ∷ ys)) es y.2 in
      subst AreFoldedExprs (ok_is ys.2) (passed_to_folded t x (scalar_value t) y.0 h.0 y.1, passed_folded ts xs ys.0 h.1 ys.1)
  passed_folded [] (x ∷ xs) es h e = absurd (cc)
  passed_folded (t ∷ ts) [] es h e = absurd (cc)

  result_folded : (call : Expr) (o : Option ValueType) (r : Operand) → IsVariable target call → result_of call o ≡ Ok r → Good r
  result_folded call None r h e = absurd (cc)
  result_folded call (Some t) r h e = subst Good (ok_is e) (variable_operand target call t h)

  with_folded : (call : List Expr → Expr) (sig : Sig) (xs : List Operand) (r : Operand) → Each Good xs → ((es : List Expr) → AreFoldedExprs es → IsVariable target (call es)) → called_with target call sig xs ≡ Ok r → Good r
  with_folded call sig xs r h f e =
      let es = then_ok (passed target (out-Sig sig).params xs) (λ args. result_of (call args) (result_value (out-Sig sig).result)) r e in
      result_folded (call es.0) (result_value (out-Sig sig).result) r (f es.0 (passed_folded (out-Sig sig).params xs es.0 h es.1)) es.2

  call_variable : (f : Expr) (es : List Expr) → is_folded target f ≡ true → AreFoldedExprs es → IsVariable target (Call f es)
  call_variable f es h k =
      variable_at target (Call f es) (one.Call f es) (rolls-Call f es) refl (ap variable (two (is_folded target f) (list_all (λ (a : Folding). a.is_folded) (map (folding_of target) es)) h (all_folded es k)))

  called_by_folded : (f : Expr) (t : ValueType) (xs : List Operand) (r : Operand) → is_folded target f ≡ true → Each Good xs → called_by target f t xs ≡ Ok r → Good r
  called_by_folded f (ToFunction sig) xs r h k e = with_folded (Call f) sig xs r k (λ es a. call_variable f es h a) e
  called_by_folded f NoValue xs r h k e = absurd (cc)
  called_by_folded f (Integer t) xs r h k e = absurd (cc)
  called_by_folded f (ToObject c v t) xs r h k e = absurd (cc)

  pub called_folded : (f : Operand) (xs : List Operand) (r : Operand) → Good f → Each Good xs → called target f xs ≡ Ok r → Good r
  called_folded f xs r h k e = called_by_folded f.value f.type xs r h.folded k (value_ok f (called_by target f.value f.type xs) r e)

  intrinsic_variable : (i : Intrinsic) (es : List Expr) → AreFoldedExprs es → IsVariable target (Intr i (first_or_none es))
  intrinsic_variable i [] h = variable_at target (Intr i None) (one.Intr i None) (rolls-Intr i None) refl refl
  intrinsic_variable i (e ∷ es) h = variable_at target (Intr i (Some e)) (one.Intr i (Some e)) (rolls-Intr i (Some e)) refl (ap variable h.0)

  pub intrinsic_folded : (i : Intrinsic) (xs : List Operand) (r : Operand) → Each Good xs → intrinsic target i xs ≡ Ok r → Good r
  intrinsic_folded i xs r h e = with_folded (λ args. Intr i (first_or_none args)) (intrinsic_signature i) xs r h (λ es a. intrinsic_variable i es a) e
