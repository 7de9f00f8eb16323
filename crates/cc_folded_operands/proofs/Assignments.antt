-- What is assigned is folded, where the operand is; and so are assignments to folded places.
use Rattle.std.proofs.Common.{◌≡◌, Bool, true, false, List, Option, Some, None, Ok, refl, ap, subst}
use Rattle.std.specs.Prelude.{if◌then◌else◌}
use Rattle.cc_operands.specs.CcLex.declared.token.Mark.{Mark}
use Rattle.cc_program.specs.CcNum.declared.int_type.IntType.{IntType}
use Rattle.cc_program.specs.CcNum.declared.int_type.IntType.TheVariants as int
use Rattle.cc_program.specs.CcNum.declared.op.BinOp.{BinOp}
use Rattle.cc_program.specs.CcNum.declared.op.BinOp.TheVariants as op
use Rattle.cc_program.specs.CcNum.declared.target.Target.{Target}
use Rattle.std.specs.Prelude.{pos}
use Rattle.cc_designators.specs.Assignments.{assign_to, change_of, assign_by, assign_of, one as first_number, stepped_before, stepped_after}
use Rattle.cc_designators.specs.Designators.{TypedExpr, IsPlace, IsValue, IsFunction, IsIntrinsic, IsAddress}
use Rattle.cc_operands.specs.Arithmetic.{working_type, second_type, truth}
use Rattle.cc_operands.specs.Assignments.{assigned_pointer, changed_pointer, truth_of_pointer, assigned_integer, assigned_by, assigned, stored, stored_at, changed_integer, changed_by, changed_to, changed_at, stepped_at}
use Rattle.cc_operands.specs.Operands.{Operand, operand, converted_to, is_null_constant, null_of, against_null}
use Rattle.cc_operands.specs.Operators.{assigns_by}
use Rattle.cc_operands.specs.Verdicts.{must}
use Rattle.cc_operands.specs.declared.rule.Rule.TheVariants as rule
use Rattle.cc_program.specs.declared.expr.Expr.{Expr, Assign, Change, After}
use Rattle.cc_program.specs.declared.expr.Expr.TheOpen as one
use Rattle.cc_program.specs.declared.expr.Expr.TheVariants.{rolls-Assign, rolls-Change, rolls-After}
use Rattle.cc_program.specs.declared.expr.Place.{Place}
use Rattle.cc_program.specs.declared.types.Structure.{Structure}
use Rattle.cc_operands.specs.CcSyntax.Folding.{variable, is_folded, is_folded_place}
use Rattle.cc_operands.specs.CcSyntax.Operators.{points_to_object, is_integer, is_additive}
use Rattle.cc_operands.specs.CcSyntax.SameTypes.{same_int}
use Rattle.cc_operands.specs.CcSyntax.Values.{ValueType, NoValue, Integer, ToObject, ToFunction, is_assignable, written_to}
use Rattle.cc_folded_operands.specs.Folded.{IsFoldedExpr}
use Rattle.cc_folded_operands.proofs.Conversions.{null_folded, against_folded, cast_folded, converted_folded}
use Rattle.cc_folded_operands.proofs.Opened.{Folded, IsVariable, variable_at, variable_operand, constant_operand}
use Rattle.cc_folded_operands.proofs.Verdicts.{ok_is, must_ok, value_ok, structure_ok, then_ok, both as two}

module _ (target : Target) where
  abbrev Good : Operand → Type 0
  Good x = Folded target x

  abbrev IsFoldedPlace : Place → Type 0
  IsFoldedPlace a = is_folded_place target a ≡ true

  -- what is assigned is taken as an expression
  abbrev HasFolded : Operand → Type 0
  HasFolded x = is_folded target x.value ≡ true

  pointer_by : (to : ValueType) (x r : Operand) (b : Bool) → Good x → (if b then Ok (operand (null_of to) to) else must (is_assignable to x.type) rule.NotAssignable (Ok (operand x.value to))) ≡ Ok r → HasFolded r
  pointer_by to x r true h e = subst HasFolded (ok_is e) (null_folded target to)
  pointer_by to x r false h e = subst HasFolded (ok_is (must_ok (is_assignable to x.type) rule.NotAssignable (Ok (operand x.value to)) r e).1) h.folded

  pointer_folded : (to : ValueType) (x r : Operand) → Good x → assigned_pointer to x ≡ Ok r → HasFolded r
  pointer_folded to x r h e = pointer_by to x r (is_null_constant x) h e

  truth_folded : (x : Operand) → Good x → HasFolded (truth_of_pointer target x)
  truth_folded x h = (cast_folded target int.Bool (truth (against_null op.Ne x)) (against_folded target op.Ne x h)).folded

  bool_folded : (t : IntType) (x r : Operand) → Good x → must (same_int t int.Bool) rule.NotAssignable (Ok (truth_of_pointer target x)) ≡ Ok r → HasFolded r
  bool_folded t x r h e = subst HasFolded (ok_is (must_ok (same_int t int.Bool) rule.NotAssignable (Ok (truth_of_pointer target x)) r e).1) (truth_folded x h)

  integer_folded : (t : IntType) (x : Operand) (v : ValueType) (r : Operand) → Good x → assigned_integer target t x v ≡ Ok r → HasFolded r
  integer_folded t x (Integer s) r h e = subst HasFolded (ok_is e) (converted_folded target t x h).folded
  integer_folded t x NoValue r h e = absurd (cc)
  integer_folded t x (ToObject c v u) r h e = bool_folded t x r h e
  integer_folded t x (ToFunction s) r h e = bool_folded t x r h e

  by_folded : (x : Operand) (to : ValueType) (r : Operand) → Good x → assigned_by target x to ≡ Ok r → HasFolded r
  by_folded x (Integer t) r h e = integer_folded t x x.type r h e
  by_folded x NoValue r h e = absurd (cc)
  by_folded x (ToObject c v u) r h e = pointer_folded (ToObject c v u) x r h (value_ok x (assigned_pointer (ToObject c v u) x) r e)
  by_folded x (ToFunction s) r h e = pointer_folded (ToFunction s) x r h (value_ok x (assigned_pointer (ToFunction s) x) r e)

  pub assigned_folded : (to : ValueType) (x r : Operand) → Good x → assigned target to x ≡ Ok r → HasFolded r
  assigned_folded to x r h e = by_folded x to r h (structure_ok x (assigned_by target x to) r e)

  -- ---- `a = b`

  assign_variable : (a : Place) (e : Expr) → IsFoldedPlace a → is_folded target e ≡ true → IsVariable target (Assign a e)
  assign_variable a e h k = variable_at target (Assign a e) (one.Assign a e) (rolls-Assign a e) refl (ap variable (two (is_folded_place target a) (is_folded target e) h k))

  pub assignment_folded : (a : Place) (e : Expr) → IsFoldedPlace a → is_folded target e ≡ true → is_folded target (Assign a e) ≡ true
  assignment_folded a e h k = (variable_operand target (Assign a e) NoValue (assign_variable a e h k)).folded

  stored_folded : (a : Place) (to : ValueType) (x r : Operand) → IsFoldedPlace a → Good x → stored target a to x ≡ Ok r → Good r
  stored_folded a to x r h k e =
      let y = then_ok (assigned target to x) (λ y. Ok (operand (Assign a y.value) to)) r e in
      subst Good (ok_is y.2) (variable_operand target (Assign a y.0.value) to (assign_variable a y.0.value h (assigned_folded to x y.0 k y.1)))

  stored_at_folded : (a : Place) (to : Option ValueType) (x r : Operand) → IsFoldedPlace a → Good x → stored_at target a to x ≡ Ok r → Good r
  stored_at_folded a None x r h k e = absurd (cc)
  stored_at_folded a (Some to) x r h k e = stored_folded a to x r h k e

  -- ---- `a op= b`

  change_folded : (a : Place) (o : BinOp) (t : IntType) (e : Expr) (v : ValueType) → IsFoldedPlace a → is_folded target e ≡ true → Good (operand (Change a o t e) v)
  change_folded a o t e v h k =
      variable_operand target (Change a o t e) v (variable_at target (Change a o t e) (one.Change a o t e) (rolls-Change a o t e) refl (ap variable (two (is_folded_place target a) (is_folded target e) h k)))

  change_pointer_by : (structures : List Structure) (o : BinOp) (a : Place) (to : ValueType) (x : Operand) (v : ValueType) (r : Operand) → IsFoldedPlace a → Good x → changed_pointer structures o a to x v ≡ Ok r → Good r
  change_pointer_by structures o a to x (Integer j) r h k e =
      let m = must_ok (is_additive o) rule.NoInteger (must (points_to_object structures to) rule.NoSum (Ok (operand (Change a o j x.value) to))) r e in
      subst Good (ok_is (must_ok (points_to_object structures to) rule.NoSum (Ok (operand (Change a o j x.value) to)) r m.1).1) (change_folded a o j x.value to h k.folded)
  change_pointer_by structures o a to x NoValue r h k e = absurd (cc)
  change_pointer_by structures o a to x (ToObject c v u) r h k e = absurd (cc)
  change_pointer_by structures o a to x (ToFunction s) r h k e = absurd (cc)

  change_integer_by : (o : BinOp) (a : Place) (s : IntType) (x : Operand) (v : ValueType) (r : Operand) → IsFoldedPlace a → Good x → changed_integer target o a s x v ≡ Ok r → Good r
  change_integer_by o a s x (Integer j) r h k e =
      subst Good (ok_is e) (change_folded a o (working_type target o s j) (converted_to target (second_type target o s j) x).value (Integer s) h (converted_folded target (second_type target o s j) x k).folded)
  change_integer_by o a s x NoValue r h k e = absurd (cc)
  change_integer_by o a s x (ToObject c v u) r h k e = absurd (cc)
  change_integer_by o a s x (ToFunction f) r h k e = absurd (cc)

  changed_by_folded : (structures : List Structure) (o : BinOp) (a : Place) (x : Operand) (to : ValueType) (r : Operand) → IsFoldedPlace a → Good x → changed_by target structures o a x to ≡ Ok r → Good r
  changed_by_folded structures o a x (Integer s) r h k e = change_integer_by o a s x x.type r h k e
  changed_by_folded structures o a x NoValue r h k e = absurd (cc)
  changed_by_folded structures o a x (ToObject c v u) r h k e = change_pointer_by structures o a (ToObject c v u) x x.type r h k e
  changed_by_folded structures o a x (ToFunction s) r h k e = change_pointer_by structures o a (ToFunction s) x x.type r h k e

  changed_to_folded : (structures : List Structure) (o : BinOp) (a : Place) (x : Operand) (to : Option ValueType) (r : Operand) → IsFoldedPlace a → Good x → changed_to target structures o a x to ≡ Ok r → Good r
  changed_to_folded structures o a x None r h k e = absurd (cc)
  changed_to_folded structures o a x (Some to) r h k e = changed_by_folded structures o a x to r h k e

  changed_folded : (structures : List Structure) (o : BinOp) (a : Place) (x : Operand) (to : Option ValueType) (r : Operand) → IsFoldedPlace a → Good x → changed_at target structures o a x to ≡ Ok r → Good r
  changed_folded structures o a x to r h k e = changed_to_folded structures o a x to r h k (value_ok x (changed_to target structures o a x to) r e)

  -- ---- `a++`, `a--`

  after_folded : (a : Place) (down : Bool) (v : ValueType) → IsFoldedPlace a → Good (operand (After a down) v)
  after_folded a down v h = variable_operand target (After a down) v (variable_at target (After a down) (one.After a down) (rolls-After a down) refl (ap variable h))

  step_by : (structures : List Structure) (down : Bool) (a : Place) (to : ValueType) (b : Bool) (r : Operand) → IsFoldedPlace a →
      (if b then Ok (operand (After a down) to) else must (points_to_object structures to) rule.NoSum (Ok (operand (After a down) to))) ≡ Ok r → Good r
  step_by structures down a to true r h e = subst Good (ok_is e) (after_folded a down to h)
  step_by structures down a to false r h e = subst Good (ok_is (must_ok (points_to_object structures to) rule.NoSum (Ok (operand (After a down) to)) r e).1) (after_folded a down to h)

  stepped_folded : (structures : List Structure) (down : Bool) (a : Place) (to : Option ValueType) (r : Operand) → IsFoldedPlace a → stepped_at structures down a to ≡ Ok r → Good r
  stepped_folded structures down a None r h e = absurd (cc)
  stepped_folded structures down a (Some to) r h e = step_by structures down a to (is_integer to) r h e

  -- ---- of what an expression designates

  abbrev Designates : TypedExpr → Type 0
  Designates a = IsFoldedExpr target a

  assign_to_folded : (a : TypedExpr) (x r : Operand) → Designates a → Good x → assign_to target a x ≡ Ok r → Good r
  assign_to_folded (IsPlace a t) x r h k e = stored_at_folded a (written_to t) x r h k e
  assign_to_folded (IsValue y) x r h k e = absurd (cc)
  assign_to_folded (IsFunction f sig) x r h k e = absurd (cc)
  assign_to_folded (IsIntrinsic i at) x r h k e = absurd (cc)
  assign_to_folded (IsAddress n t at) x r h k e = absurd (cc)

  change_of_folded : (structures : List Structure) (o : BinOp) (a : TypedExpr) (x r : Operand) → Designates a → Good x → change_of target structures o a x ≡ Ok r → Good r
  change_of_folded structures o (IsPlace a t) x r h k e = changed_folded structures o a x (written_to t) r h k e
  change_of_folded structures o (IsValue y) x r h k e = absurd (cc)
  change_of_folded structures o (IsFunction f sig) x r h k e = absurd (cc)
  change_of_folded structures o (IsIntrinsic i at) x r h k e = absurd (cc)
  change_of_folded structures o (IsAddress n t at) x r h k e = absurd (cc)

  assign_by_folded : (structures : List Structure) (o : Option BinOp) (a : TypedExpr) (x r : Operand) → Designates a → Good x → assign_by target structures o a x ≡ Ok r → Good r
  assign_by_folded structures None a x r h k e = assign_to_folded a x r h k e
  assign_by_folded structures (Some o) a x r h k e = change_of_folded structures o a x r h k e

  pub assign_folded : (structures : List Structure) (mark : Mark) (a : TypedExpr) (x r : Operand) → Designates a → Good x → assign_of target structures mark a x ≡ Ok r → Good r
  assign_folded structures mark a x r h k e = assign_by_folded structures (assigns_by mark) a x r h k e

  pub before_folded : (structures : List Structure) (down : Bool) (a : TypedExpr) (r : Operand) → Designates a → stepped_before target structures down a ≡ Ok r → Good r
  before_folded structures down a r h e = change_of_folded structures (if down then op.Sub else op.Add) a (first_number target) r h (constant_operand target (pos 1) int.Int) e

  pub stepped_after_folded : (structures : List Structure) (down : Bool) (a : TypedExpr) (r : Operand) → Designates a → stepped_after structures down a ≡ Ok r → Good r
  stepped_after_folded structures down (IsPlace a t) r h e = stepped_folded structures down a (written_to t) r h e
  stepped_after_folded structures down (IsValue y) r h e = absurd (cc)
  stepped_after_folded structures down (IsFunction f sig) r h e = absurd (cc)
  stepped_after_folded structures down (IsIntrinsic i at) r h e = absurd (cc)
  stepped_after_folded structures down (IsAddress n t at) r h e = absurd (cc)
