-- Assignments are typed.
use Rattle.std.proofs.Common.{◌≡◌, Bool, true, false, not, ◌&&◌, ◌||◌, List, Option, Some, None, Ok, Err, refl, ap, sym, ◌∙◌, subst}
use Rattle.std.specs.Prelude.{pos, if◌then◌else◌}
use Rattle.std.proofs.lemmas.Option.{same_Some}
use Rattle.cc_operands.specs.CcLex.declared.token.Mark.{Mark}
use Rattle.cc_operands.specs.CcLex.declared.token.Mark.TheVariants as m
use Rattle.cc_program.specs.CcNum.declared.int_type.IntType.{IntType}
use Rattle.cc_program.specs.CcNum.declared.int_type.IntType.TheVariants as int
use Rattle.cc_program.specs.CcNum.declared.op.BinOp.{BinOp}
use Rattle.cc_program.specs.CcNum.declared.op.BinOp.TheVariants as op
use Rattle.cc_program.specs.CcNum.declared.target.Target.{Target}
use Rattle.cc_program.specs.CcNum.Promotions.{promoted, usual_of}
use Rattle.cc_program.specs.CcNum.Results.{is_shift}
use Rattle.cc_program.specs.declared.expr.Expr.{Expr, Assign, Change, After}
use Rattle.cc_program.specs.declared.expr.Place.{Place}
use Rattle.cc_program.specs.declared.types.CType.{CType}
use Rattle.cc_program.specs.declared.types.Shape.{Shape, out-Shape}
use Rattle.cc_program.specs.declared.types.Shape.TheOpen as shape
use Rattle.cc_program.specs.declared.types.Sig.{Sig}
use Rattle.cc_operands.specs.Arithmetic.{working_type, second_type, truth}
use Rattle.cc_operands.specs.Assignments.{assigned_pointer, changed_pointer, truth_of_pointer, assigned_integer, assigned_by, assigned, stored, stored_at, changed_integer, changed_by, changed_to, stepped_at}
use Rattle.cc_operands.specs.Operands.{Operand, operand, converted_to, is_nothing, is_pointer, is_null_constant, null_of, against_null}
use Rattle.cc_operands.specs.Operators.{assigns_by}
use Rattle.cc_operands.specs.Verdicts.{Judged, must, judge_then}
use Rattle.cc_operands.specs.declared.rule.Rule.TheVariants as rule
use Rattle.cc_designators.specs.Assignments.{assign_to, change_of, assign_by, assign_of, one, stepped_before, stepped_after}
use Rattle.cc_designators.specs.Designators.{TypedExpr, IsPlace, IsValue, IsFunction, IsIntrinsic, IsAddress}
use Rattle.cc_operands.specs.CcSyntax.Operators.{is_comparison, is_additive, is_integer, is_promoted, changes_by, points_to_object}
use Rattle.cc_operands.specs.CcSyntax.SameTypes.{same_int}
use Rattle.cc_operands.specs.CcSyntax.Types.{Named, is_complete}
use Rattle.cc_operands.specs.CcSyntax.Values.{ValueType, NoValue, Integer, ToObject, ToFunction, PlaceType, DevicePlace, ObjectPlace, FunctionPlace, is_assignable, scalar_shape, scalar_value, pointer_to, written_to}
use Rattle.cc_operand_types.specs.Typed.{stands, HasType, IsTypedPlace, IsTypedOperand, IsTypedExpr, IsAssigned}
use Rattle.cc_operands.proofs.CcSyntax.AlikeLemmas.{alike_itself, implies_itself, assignable_object, function_itself}
use Rattle.cc_operand_types.proofs.Agreement.{assigned_from, written_agrees}
use Rattle.cc_operand_types.proofs.Constants.{truth_fits}
use Rattle.cc_operand_types.proofs.Integers.{when_one, when_two, when_three, promoted_is}
use Rattle.cc_operand_types.proofs.Nulls.{null_typed, points_something}
use Rattle.cc_operand_types.proofs.Operands.{ok_is, must_ok, value_ok, structure_ok, value_of, integer_as, exact, as_operand, as_constant, IsInteger, cast_typed, converted_typed, value_integer}
use Rattle.cc_operand_types.proofs.Pointers.{against_typed}
use Rattle.cc_operand_types.proofs.Rolls.{type-Assign, type-Change, type-After}
use Rattle.cc_operands.proofs.CcSyntax.SameLemmas.{int_same, int_itself, and_true}
use Rattle.cc_operand_types.proofs.Standing.{written_stands}
use Rattle.cc_operand_types.proofs.Usual.{usual_again}
use Rattle.cc_operands.specs.CcSyntax.Views.{View}
use Rattle.cc_operands.specs.CcSyntax.Expressions.{type_of}

pub then_ok : {A B : Type 0} (j : Judged A) (next : A → Judged B) (r : B) → judge_then j next ≡ Ok r → (x : A) × (j ≡ Ok x) × (next x ≡ Ok r)
then_ok (Ok x) next r h = (x, refl, h)
then_ok (Err e) next r h = absurd (cc)

pointer_itself : (t : ValueType) → is_pointer t ≡ true → is_assignable t t ≡ true
pointer_itself NoValue h = absurd (cc)
pointer_itself (Integer i) h = absurd (cc)
pointer_itself (ToObject c v t) h = assignable_object c v t c v t (alike_itself t) (implies_itself c) (implies_itself v)
pointer_itself (ToFunction s) h = function_itself s

pub assignable_there : (to t : ValueType) → is_assignable to t ≡ true → is_nothing t ≡ false
assignable_there NoValue t h = absurd (cc)
assignable_there (Integer s) NoValue h = absurd (cc)
assignable_there (Integer s) (Integer i) h = refl
assignable_there (Integer s) (ToObject c v u) h = absurd (cc)
assignable_there (Integer s) (ToFunction f) h = absurd (cc)
assignable_there (ToObject c v u) NoValue h = absurd (cc)
assignable_there (ToObject c v u) (Integer i) h = absurd (cc)
assignable_there (ToObject c v u) (ToObject d w x) h = refl
assignable_there (ToObject c v u) (ToFunction f) h = absurd (cc)
assignable_there (ToFunction s) NoValue h = absurd (cc)
assignable_there (ToFunction s) (Integer i) h = absurd (cc)
assignable_there (ToFunction s) (ToObject c v u) h = absurd (cc)
assignable_there (ToFunction s) (ToFunction f) h = refl

false_ok : (r x : Operand) → must false rule.NoSum (Ok x) ≡ Ok r → ⊥
false_ok r x h = absurd (cc)

-- ---- what a place takes

shape_there : (x : shape.Shape-F Shape CType Sig) (r : ValueType) → scalar_shape x ≡ Some r → is_nothing r ≡ false
shape_there (shape.Int i) r h = ap is_nothing (sym (same_Some (Integer i) r h))
shape_there (shape.Pointer to) r h = ap is_nothing (sym (same_Some (pointer_to to) r h)) ∙ points_something to
shape_there shape.Void r h = absurd (cc)
shape_there (shape.Array of n) r h = absurd (cc)
shape_there (shape.Struct s) r h = absurd (cc)
shape_there (shape.Func s) r h = absurd (cc)

taken_by : (c : Bool) (x : Option ValueType) (r : ValueType) → ((s : ValueType) → x ≡ Some s → is_nothing s ≡ false) → (if c then None else x) ≡ Some r → is_nothing r ≡ false
taken_by true x r g h = absurd (cc)
taken_by false x r g h = g r h

pub taken_there : (t : PlaceType) (r : ValueType) → written_to t ≡ Some r → is_nothing r ≡ false
taken_there (DevicePlace c i) r h = taken_by c (Some (Integer i)) r (λ s e. ap is_nothing (sym (same_Some (Integer i) s e))) h
taken_there (ObjectPlace c v t) r h = taken_by c (scalar_value t) r (λ s e. shape_there (out-Shape t.shape) s e) h
taken_there (FunctionPlace s) r h = absurd (cc)

-- ---- the operators that assign

changes_there : (o other : BinOp) → is_comparison other ≡ false → Some other ≡ Some o → is_comparison o ≡ false
changes_there o other h e = ap is_comparison (sym (same_Some other o e)) ∙ h

changes : (mark : Mark) (o : BinOp) → assigns_by mark ≡ Some o → is_comparison o ≡ false
changes m.StarAssign o h = changes_there o op.Mul refl h
changes m.SlashAssign o h = changes_there o op.Div refl h
changes m.PercentAssign o h = changes_there o op.Rem refl h
changes m.PlusAssign o h = changes_there o op.Add refl h
changes m.MinusAssign o h = changes_there o op.Sub refl h
changes m.ShlAssign o h = changes_there o op.Shl refl h
changes m.ShrAssign o h = changes_there o op.Shr refl h
changes m.AndAssign o h = changes_there o op.And refl h
changes m.XorAssign o h = changes_there o op.Xor refl h
changes m.OrAssign o h = changes_there o op.Or refl h
changes mark o h = absurd (cc)

changes_as : (b : Bool) (s j : IntType) (c : Target) →
    (if b then same_int (promoted s c) (if b then promoted s c else usual_of s j c) && is_promoted c (if b then promoted j c else usual_of s j c)
    else same_int (usual_of s (if b then promoted s c else usual_of s j c) c) (if b then promoted s c else usual_of s j c) && same_int (if b then promoted j c else usual_of s j c) (if b then promoted s c else usual_of s j c)) ≡ true
changes_as true s j c = and_true (same_int (promoted s c) (promoted s c)) (is_promoted c (promoted j c)) (int_itself (promoted s c)) (promoted_is j c)
changes_as false s j c =
    and_true (same_int (usual_of s (usual_of s j c) c) (usual_of s j c)) (same_int (usual_of s j c) (usual_of s j c))
    (ap (λ (t : IntType). same_int t (usual_of s j c)) (usual_again s j c) ∙ int_itself (usual_of s j c)) (int_itself (usual_of s j c))

module _ (p : View) (locals : List Named) where
  abbrev Typed : Operand → Type 0
  Typed x = IsTypedOperand p locals x

  abbrev Assigned : ValueType → Expr → Type 0
  Assigned to e = IsAssigned p locals to e

  -- ---- as if by assignment

  integer_assigned : (t : IntType) (y : Operand) → IsInteger p locals t y → Assigned (Integer t) y.value
  integer_assigned t y h = record { own = Integer t; typed = value_integer p locals t y h; assignable = int_itself t }

  bool_by : (t : IntType) (x y : Operand) → is_pointer x.type ≡ true → HasType p locals x.value x.type → must (same_int t int.Bool) rule.NotAssignable (Ok (truth_of_pointer p.target x)) ≡ Ok y → Assigned (Integer t) y.value
  bool_by t x y k hx h =
      let g = must_ok (same_int t int.Bool) rule.NotAssignable (Ok (truth_of_pointer p.target x)) y h in
      let a : IsInteger p locals int.Bool (truth_of_pointer p.target x) =
      cast_typed p locals int.Bool int.Int (truth (against_null op.Ne x)) (integer_as p locals (truth (against_null op.Ne x)) int.Int (against_typed p locals op.Ne x refl k hx) refl) in
      subst (λ (i : IntType). Assigned (Integer i) y.value) (sym (int_same t int.Bool g.0)) (integer_assigned int.Bool y (subst (IsInteger p locals int.Bool) (ok_is g.1) a))

  to_integer : (t : IntType) (x y : Operand) (a : ValueType) → Typed x → x.type ≡ a → assigned_integer p.target t x a ≡ Ok y → Assigned (Integer t) y.value
  to_integer t x y (Integer s) hx e h = integer_assigned t y (subst (IsInteger p locals t) (ok_is h) (converted_typed p locals t s x hx e))
  to_integer t x y NoValue hx e h = absurd (cc)
  to_integer t x y (ToObject c v u) hx e h = bool_by t x y (ap is_pointer e) (value_of p locals x hx (ap is_nothing e)) h
  to_integer t x y (ToFunction s) hx e h = bool_by t x y (ap is_pointer e) (value_of p locals x hx (ap is_nothing e)) h

  to_pointer_by : (to : ValueType) (x y : Operand) (b : Bool) → is_pointer to ≡ true → stands p to ≡ true → Typed x → (if b then Ok (operand (null_of to) to) else must (is_assignable to x.type) rule.NotAssignable (Ok (operand x.value to))) ≡ Ok y → Assigned to y.value
  to_pointer_by to x y true k s hx h =
      let n = null_typed p locals to k s in
      subst (λ (z : Operand). Assigned to z.value) (ok_is h) (record { own = n.own; typed = n.typed; assignable = assigned_from to n.own to n.agrees (pointer_itself to k) })
  to_pointer_by to x y false k s hx h =
      let g = must_ok (is_assignable to x.type) rule.NotAssignable (Ok (operand x.value to)) y h in
      let v = value_of p locals x hx (assignable_there to x.type g.0) in
      subst (λ (z : Operand). Assigned to z.value) (ok_is g.1) (record { own = v.own; typed = v.typed; assignable = assigned_from to v.own x.type v.agrees g.0 })

  to_pointer : (to : ValueType) (x y : Operand) → is_pointer to ≡ true → stands p to ≡ true → Typed x → assigned_pointer to x ≡ Ok y → Assigned to y.value
  to_pointer to x y k s hx h = to_pointer_by to x y (is_null_constant x) k s hx h

  assigned_to : (to : ValueType) (x y : Operand) → stands p to ≡ true → Typed x → assigned_by p.target x to ≡ Ok y → Assigned to y.value
  assigned_to NoValue x y s hx h = absurd (cc)
  assigned_to (Integer t) x y s hx h = to_integer t x y x.type hx refl h
  assigned_to (ToObject c v t) x y s hx h = to_pointer (ToObject c v t) x y refl s hx (value_ok x (assigned_pointer (ToObject c v t) x) y h).1
  assigned_to (ToFunction f) x y s hx h = to_pointer (ToFunction f) x y refl s hx (value_ok x (assigned_pointer (ToFunction f) x) y h).1

  pub assigned_typed : (to : ValueType) (x y : Operand) → stands p to ≡ true → Typed x → assigned p.target to x ≡ Ok y → Assigned to y.value
  assigned_typed to x y s hx h = assigned_to to x y s hx (structure_ok x (assigned_by p.target x to) y h).1

  -- ---- what is assigned to a place

  module _ (a : Place) (t : PlaceType) (ha : IsTypedPlace p locals a t) where
    taken : (to : ValueType) → written_to t ≡ Some to → written_to ha.own ≡ Some to
    taken to e = written_agrees ha.own t ha.agrees ∙ e

    made : (e : Expr) (to : ValueType) → written_to t ≡ Some to → type_of p locals e ≡ Some to → Typed (operand e to)
    made e to f h = as_operand p locals e to (taken_there t to f) (exact p locals e to h (written_stands p t to ha.standing f))

    stored_typed : (to : ValueType) (x r : Operand) → written_to t ≡ Some to → Typed x → stored p.target a to x ≡ Ok r → Typed r
    stored_typed to x r e hx h =
        let g = then_ok (assigned p.target to x) (λ y. Ok (operand (Assign a y.value) to)) r h in
        let k = assigned_typed to x g.0 (written_stands p t to ha.standing e) hx g.1 in
        subst Typed (ok_is g.2) (made (Assign a g.0.value) to e (type-Assign p locals a g.0.value ha.own to k.own (Some to) ha.typed (taken to e) k.typed (when_one (is_assignable to k.own) to k.assignable)))

    stored_by : (o : Option ValueType) (x r : Operand) → written_to t ≡ o → Typed x → stored_at p.target a o x ≡ Ok r → Typed r
    stored_by None x r e hx h = absurd (cc)
    stored_by (Some to) x r e hx h = stored_typed to x r e hx h

    change_integer : (o : BinOp) (s : IntType) (x r : Operand) (b : ValueType) → is_comparison o ≡ false → written_to t ≡ Some (Integer s) → Typed x → x.type ≡ b → changed_integer p.target o a s x b ≡ Ok r → Typed r
    change_integer o s x r (Integer j) n e hx f h =
        let y = converted_to p.target (second_type p.target o s j) x in
        subst Typed (ok_is h) (made (Change a o (working_type p.target o s j) y.value) (Integer s) e
        (type-Change p locals a o (working_type p.target o s j) y.value ha.own (Integer s) (Integer (second_type p.target o s j)) (Some (Integer s)) ha.typed (taken (Integer s) e)
        (value_integer p locals (second_type p.target o s j) y (converted_typed p locals (second_type p.target o s j) j x hx f))
        (when_two (not (is_comparison o)) (changes_by p.target s o (working_type p.target o s j) (Integer (second_type p.target o s j))) (Integer s) (ap not n) (changes_as (is_shift o) s j p.target))))
    change_integer o s x r NoValue n e hx f h = absurd (cc)
    change_integer o s x r (ToObject c v u) n e hx f h = absurd (cc)
    change_integer o s x r (ToFunction u) n e hx f h = absurd (cc)

    change_pointer : (o : BinOp) (c v : Bool) (u : CType) (x r : Operand) (b : ValueType) → written_to t ≡ Some (ToObject c v u) → Typed x → x.type ≡ b → changed_pointer p.structures o a (ToObject c v u) x b ≡ Ok r → Typed r
    change_pointer o c v u x r (Integer j) e hx f h =
        let g = must_ok (is_additive o) rule.NoInteger (must (points_to_object p.structures (ToObject c v u)) rule.NoSum (Ok (operand (Change a o j x.value) (ToObject c v u)))) r h in
        let k = must_ok (points_to_object p.structures (ToObject c v u)) rule.NoSum (Ok (operand (Change a o j x.value) (ToObject c v u))) r g.1 in
        subst Typed (ok_is k.1) (made (Change a o j x.value) (ToObject c v u) e
        (type-Change p locals a o j x.value ha.own (ToObject c v u) (Integer j) (Some (ToObject c v u)) ha.typed (taken (ToObject c v u) e) (integer_as p locals x j hx f)
        (when_three (is_additive o) (is_complete p.structures u) (same_int j j) (ToObject c v u) g.0 k.0 (int_itself j))))
    change_pointer o c v u x r NoValue e hx f h = absurd (cc)
    change_pointer o c v u x r (ToObject c' v' u') e hx f h = absurd (cc)
    change_pointer o c v u x r (ToFunction s) e hx f h = absurd (cc)

    change_function : (o : BinOp) (s : Sig) (x r : Operand) (b : ValueType) → changed_pointer p.structures o a (ToFunction s) x b ≡ Ok r → Typed r
    change_function o s x r (Integer j) h =
        let g = must_ok (is_additive o) rule.NoInteger (must false rule.NoSum (Ok (operand (Change a o j x.value) (ToFunction s)))) r h in
        absurd (false_ok r (operand (Change a o j x.value) (ToFunction s)) g.1)
    change_function o s x r NoValue h = absurd (cc)
    change_function o s x r (ToObject c' v' u') h = absurd (cc)
    change_function o s x r (ToFunction s') h = absurd (cc)

    change_by : (o : BinOp) (to : ValueType) (x r : Operand) → is_comparison o ≡ false → written_to t ≡ Some to → Typed x → changed_by p.target p.structures o a x to ≡ Ok r → Typed r
    change_by o NoValue x r n e hx h = absurd (cc)
    change_by o (Integer s) x r n e hx h = change_integer o s x r x.type n e hx refl h
    change_by o (ToObject c v u) x r n e hx h = change_pointer o c v u x r x.type e hx refl h
    change_by o (ToFunction s) x r n e hx h = change_function o s x r x.type h

    change_to : (o : BinOp) (to : Option ValueType) (x r : Operand) → is_comparison o ≡ false → written_to t ≡ to → Typed x → changed_to p.target p.structures o a x to ≡ Ok r → Typed r
    change_to o None x r n e hx h = absurd (cc)
    change_to o (Some to) x r n e hx h = change_by o to x r n e hx h

    step_typed : (down : Bool) (to : ValueType) → written_to t ≡ Some to → is_integer to || points_to_object p.structures to ≡ true → Typed (operand (After a down) to)
    step_typed down to e h = made (After a down) to e (type-After p locals a down ha.own to (Some to) ha.typed (taken to e) (when_one (is_integer to || points_to_object p.structures to) to h))

    step_by : (b : Bool) (down : Bool) (to : ValueType) (r : Operand) → written_to t ≡ Some to → is_integer to ≡ b →
        (if b then Ok (operand (After a down) to) else must (points_to_object p.structures to) rule.NoSum (Ok (operand (After a down) to))) ≡ Ok r → Typed r
    step_by true down to r e f h = subst Typed (ok_is h) (step_typed down to e (ap (λ (c : Bool). c || points_to_object p.structures to) f))
    step_by false down to r e f h =
        let g = must_ok (points_to_object p.structures to) rule.NoSum (Ok (operand (After a down) to)) r h in
        subst Typed (ok_is g.1) (step_typed down to e (ap (λ (c : Bool). c || points_to_object p.structures to) f ∙ g.0))

    step_at : (down : Bool) (to : Option ValueType) (r : Operand) → written_to t ≡ to → stepped_at p.structures down a to ≡ Ok r → Typed r
    step_at down None r e h = absurd (cc)
    step_at down (Some to) r e h = step_by (is_integer to) down to r e refl h

  -- ---- assignments to what is designated

  pub assign_to_typed : (a : TypedExpr) (x r : Operand) → IsTypedExpr p locals a → Typed x → assign_to p.target a x ≡ Ok r → Typed r
  assign_to_typed (IsPlace a t) x r ha hx h = stored_by a t ha (written_to t) x r refl hx h
  assign_to_typed (IsValue y) x r ha hx h = absurd (cc)
  assign_to_typed (IsFunction f s) x r ha hx h = absurd (cc)
  assign_to_typed (IsIntrinsic i at) x r ha hx h = absurd (cc)
  assign_to_typed (IsAddress n t at) x r ha hx h = absurd (cc)

  change_of_typed : (o : BinOp) (a : TypedExpr) (x r : Operand) → is_comparison o ≡ false → IsTypedExpr p locals a → Typed x → change_of p.target p.structures o a x ≡ Ok r → Typed r
  change_of_typed o (IsPlace a t) x r n ha hx h = change_to a t ha o (written_to t) x r n refl hx (value_ok x (changed_to p.target p.structures o a x (written_to t)) r h).1
  change_of_typed o (IsValue y) x r n ha hx h = absurd (cc)
  change_of_typed o (IsFunction f s) x r n ha hx h = absurd (cc)
  change_of_typed o (IsIntrinsic i at) x r n ha hx h = absurd (cc)
  change_of_typed o (IsAddress k t at) x r n ha hx h = absurd (cc)

  assign_by_typed : (o : Option BinOp) (a : TypedExpr) (x r : Operand) → ((b : BinOp) → o ≡ Some b → is_comparison b ≡ false) → IsTypedExpr p locals a → Typed x → assign_by p.target p.structures o a x ≡ Ok r → Typed r
  assign_by_typed None a x r n ha hx h = assign_to_typed a x r ha hx h
  assign_by_typed (Some o) a x r n ha hx h = change_of_typed o a x r (n o refl) ha hx h

  pub assign_typed : (mark : Mark) (a : TypedExpr) (x r : Operand) → IsTypedExpr p locals a → Typed x → assign_of p.target p.structures mark a x ≡ Ok r → Typed r
  assign_typed mark a x r ha hx h = assign_by_typed (assigns_by mark) a x r (λ b e. changes mark b e) ha hx h

  one_typed : Typed (one p.target)
  one_typed = as_constant p locals (pos 1) int.Int (truth_fits int.Int p.target true)

  step_op : (down : Bool) → is_comparison (if down then op.Sub else op.Add) ≡ false
  step_op true = refl
  step_op false = refl

  pub before_typed : (down : Bool) (a : TypedExpr) (r : Operand) → IsTypedExpr p locals a → stepped_before p.target p.structures down a ≡ Ok r → Typed r
  before_typed down a r ha h = change_of_typed (if down then op.Sub else op.Add) a (one p.target) r (step_op down) ha one_typed h

  pub after_typed : (down : Bool) (a : TypedExpr) (r : Operand) → IsTypedExpr p locals a → stepped_after p.structures down a ≡ Ok r → Typed r
  after_typed down (IsPlace a t) r ha h = step_at a t ha down (written_to t) r refl h
  after_typed down (IsValue y) r ha h = absurd (cc)
  after_typed down (IsFunction f s) r ha h = absurd (cc)
  after_typed down (IsIntrinsic i at) r ha h = absurd (cc)
  after_typed down (IsAddress k t at) r ha h = absurd (cc)
