-- What is assigned accesses what the operand does; and assignments, what their places and operands do.
use Rattle.std.proofs.Common.{◌≡◌, ◌∙◌, ◌||◌, ℕ, Bool, true, false, List, Option, Some, None, Ok, refl, subst}
use Rattle.std.specs.Prelude.{if◌then◌else◌}
use Rattle.std.proofs.lemmas.Bool.{or_left}
use Rattle.cc_accessed_operands.specs.Accessed.{of_place, accesses, place_access}
use Rattle.cc_accessed_operands.specs.Kept.{designated_accesses, Keeps, KeepsOperand}
use Rattle.cc_accessed_operands.proofs.Accesses.{or_kept}
use Rattle.cc_accessed_operands.proofs.Conversions.{against_keeps, cast_keeps, converted_keeps}
use Rattle.cc_accessed_operands.proofs.Parts.{accesses_is, never, null_constant_none, operand_keeps, fewer}
use Rattle.cc_accessed_operands.proofs.Verdicts.{ok_is, must_ok, value_ok, structure_ok, then_ok}
use Rattle.cc_designators.specs.Assignments.{assign_to, change_of, assign_by, assign_of, one as first_number, stepped_before, stepped_after}
use Rattle.cc_designators.specs.Designators.{TypedExpr, IsPlace, IsValue, IsFunction, IsIntrinsic, IsAddress}
use Rattle.cc_operands.specs.CcLex.declared.token.Mark.{Mark}
use Rattle.cc_program.specs.CcNum.declared.int_type.IntType.{IntType}
use Rattle.cc_program.specs.CcNum.declared.int_type.IntType.TheVariants as int
use Rattle.cc_program.specs.CcNum.declared.op.BinOp.{BinOp}
use Rattle.cc_program.specs.CcNum.declared.op.BinOp.TheVariants as op
use Rattle.cc_program.specs.CcNum.declared.target.Target.{Target}
use Rattle.cc_operands.specs.Arithmetic.{working_type, second_type, truth}
use Rattle.cc_operands.specs.Assignments.{assigned_pointer, changed_pointer, truth_of_pointer, assigned_integer, assigned_by, assigned, stored, stored_at, changed_integer, changed_by, changed_to, changed_at, stepped_at}
use Rattle.cc_operands.specs.Operands.{Operand, operand, converted_to, is_null_constant, null_of, against_null}
use Rattle.cc_operands.specs.Operators.{assigns_by}
use Rattle.cc_operands.specs.Verdicts.{must}
use Rattle.cc_operands.specs.declared.rule.Rule.TheVariants as rule
use Rattle.cc_program.specs.declared.expr.Expr.{Expr, Assign, Change, After}
use Rattle.cc_program.specs.declared.expr.Expr.TheOpen as one
use Rattle.cc_program.specs.declared.expr.Expr.TheVariants.{rolls-Assign, rolls-Change, rolls-After}
use Rattle.cc_program.specs.declared.expr.Place.{Place}
use Rattle.cc_program.specs.declared.types.Structure.{Structure}
use Rattle.cc_operands.specs.CcSyntax.Operators.{points_to_object, is_integer, is_additive}
use Rattle.cc_operands.specs.CcSyntax.SameTypes.{same_int}
use Rattle.cc_operands.specs.CcSyntax.Values.{ValueType, NoValue, Integer, ToObject, ToFunction, is_assignable, written_to}

-- what is assigned is taken as an expression
abbrev KeepsValue : Operand → Operand → Type 0
KeepsValue x r = Keeps r.value x.value

abbrev accesses_place : Place → ℕ → Bool
accesses_place a d = of_place (place_access d a)

abbrev accesses_with : Place → Operand → ℕ → Bool
accesses_with a x d = of_place (place_access d a) || accesses d x.value

abbrev KeepsWith : Place → Operand → Operand → Type 0
KeepsWith a x r = KeepsOperand r (accesses_with a x)

-- a place, and an operand that another stands for
place_and : (a : Place) (e : Expr) (x : Operand) (d : ℕ) → (accesses d x.value ≡ true → accesses d e ≡ true) → accesses_with a x d ≡ true → (of_place (place_access d a) || accesses d e) ≡ true
place_and a e x d h = or_kept (of_place (place_access d a)) (accesses d x.value) (of_place (place_access d a)) (accesses d e) (λ z. z) h

pointer_by : (to : ValueType) (x r : Operand) (b : Bool) → is_null_constant x ≡ b → (if b then Ok (operand (null_of to) to) else must (is_assignable to x.type) rule.NotAssignable (Ok (operand x.value to))) ≡ Ok r → KeepsValue x r
pointer_by to x r true k e = subst (KeepsValue x) (ok_is e) (λ d h. never h (null_constant_none d x k))
pointer_by to x r false k e = subst (KeepsValue x) (ok_is (must_ok (is_assignable to x.type) rule.NotAssignable (Ok (operand x.value to)) r e).1) (λ d h. h)

pointer_keeps : (to : ValueType) (x r : Operand) → assigned_pointer to x ≡ Ok r → KeepsValue x r
pointer_keeps to x r e = pointer_by to x r (is_null_constant x) refl e

pub assignment_keeps : (a : Place) (e : Expr) (d : ℕ) → (of_place (place_access d a) || accesses d e) ≡ true → accesses d (Assign a e) ≡ true
assignment_keeps a e d h = accesses_is d (Assign a e) (one.Assign a e) (rolls-Assign a e) ∙ h

module _ (target : Target) where
  truth_keeps : (x : Operand) → KeepsValue x (truth_of_pointer target x)
  truth_keeps x d h = cast_keeps target int.Bool (truth (against_null op.Ne x)) d (against_keeps op.Ne x d h)

  bool_keeps : (t : IntType) (x r : Operand) → must (same_int t int.Bool) rule.NotAssignable (Ok (truth_of_pointer target x)) ≡ Ok r → KeepsValue x r
  bool_keeps t x r e = subst (KeepsValue x) (ok_is (must_ok (same_int t int.Bool) rule.NotAssignable (Ok (truth_of_pointer target x)) r e).1) (truth_keeps x)

  integer_keeps : (t : IntType) (x : Operand) (v : ValueType) (r : Operand) → assigned_integer target t x v ≡ Ok r → KeepsValue x r
  integer_keeps t x (Integer s) r e = subst (KeepsValue x) (ok_is e) (converted_keeps target t x)
  integer_keeps t x NoValue r e = absurd (cc)
  integer_keeps t x (ToObject c v u) r e = bool_keeps t x r e
  integer_keeps t x (ToFunction s) r e = bool_keeps t x r e

  by_keeps : (x : Operand) (to : ValueType) (r : Operand) → assigned_by target x to ≡ Ok r → KeepsValue x r
  by_keeps x (Integer t) r e = integer_keeps t x x.type r e
  by_keeps x NoValue r e = absurd (cc)
  by_keeps x (ToObject c v u) r e = pointer_keeps (ToObject c v u) x r (value_ok x (assigned_pointer (ToObject c v u) x) r e)
  by_keeps x (ToFunction s) r e = pointer_keeps (ToFunction s) x r (value_ok x (assigned_pointer (ToFunction s) x) r e)

  pub assigned_keeps : (to : ValueType) (x r : Operand) → assigned target to x ≡ Ok r → Keeps r.value x.value
  assigned_keeps to x r e = by_keeps x to r (structure_ok x (assigned_by target x to) r e)

  -- ---- `a = b`

  stored_keeps : (a : Place) (to : ValueType) (x r : Operand) → stored target a to x ≡ Ok r → KeepsWith a x r
  stored_keeps a to x r e =
      let y = then_ok (assigned target to x) (λ y. Ok (operand (Assign a y.value) to)) r e in
      subst (KeepsWith a x) (ok_is y.2)
      (operand_keeps (Assign a y.0.value) to (accesses_with a x) (λ d h. assignment_keeps a y.0.value d (place_and a y.0.value x d (assigned_keeps to x y.0 y.1 d) h)))

  stored_at_keeps : (a : Place) (to : Option ValueType) (x r : Operand) → stored_at target a to x ≡ Ok r → KeepsWith a x r
  stored_at_keeps a None x r e = absurd (cc)
  stored_at_keeps a (Some to) x r e = stored_keeps a to x r e

  -- ---- `a op= b`

  change_keeps : (a : Place) (o : BinOp) (t : IntType) (e : Expr) (v : ValueType) (x : Operand) → ((d : ℕ) → accesses d x.value ≡ true → accesses d e ≡ true) → KeepsWith a x (operand (Change a o t e) v)
  change_keeps a o t e v x h = operand_keeps (Change a o t e) v (accesses_with a x) (λ d k. accesses_is d (Change a o t e) (one.Change a o t e) (rolls-Change a o t e) ∙ place_and a e x d (h d) k)

  change_pointer_by : (structures : List Structure) (o : BinOp) (a : Place) (to : ValueType) (x : Operand) (v : ValueType) (r : Operand) → changed_pointer structures o a to x v ≡ Ok r → KeepsWith a x r
  change_pointer_by structures o a to x (Integer j) r e =
      let m = must_ok (is_additive o) rule.NoInteger (must (points_to_object structures to) rule.NoSum (Ok (operand (Change a o j x.value) to))) r e in
      subst (KeepsWith a x) (ok_is (must_ok (points_to_object structures to) rule.NoSum (Ok (operand (Change a o j x.value) to)) r m.1).1) (change_keeps a o j x.value to x (λ d h. h))
  change_pointer_by structures o a to x NoValue r e = absurd (cc)
  change_pointer_by structures o a to x (ToObject c v u) r e = absurd (cc)
  change_pointer_by structures o a to x (ToFunction s) r e = absurd (cc)

  change_integer_by : (o : BinOp) (a : Place) (s : IntType) (x : Operand) (v : ValueType) (r : Operand) → changed_integer target o a s x v ≡ Ok r → KeepsWith a x r
  change_integer_by o a s x (Integer j) r e =
      subst (KeepsWith a x) (ok_is e) (change_keeps a o (working_type target o s j) (converted_to target (second_type target o s j) x).value (Integer s) x (converted_keeps target (second_type target o s j) x))
  change_integer_by o a s x NoValue r e = absurd (cc)
  change_integer_by o a s x (ToObject c v u) r e = absurd (cc)
  change_integer_by o a s x (ToFunction f) r e = absurd (cc)

  changed_by_keeps : (structures : List Structure) (o : BinOp) (a : Place) (x : Operand) (to : ValueType) (r : Operand) → changed_by target structures o a x to ≡ Ok r → KeepsWith a x r
  changed_by_keeps structures o a x (Integer s) r e = change_integer_by o a s x x.type r e
  changed_by_keeps structures o a x NoValue r e = absurd (cc)
  changed_by_keeps structures o a x (ToObject c v u) r e = change_pointer_by structures o a (ToObject c v u) x x.type r e
  changed_by_keeps structures o a x (ToFunction s) r e = change_pointer_by structures o a (ToFunction s) x x.type r e

  changed_to_keeps : (structures : List Structure) (o : BinOp) (a : Place) (x : Operand) (to : Option ValueType) (r : Operand) → changed_to target structures o a x to ≡ Ok r → KeepsWith a x r
  changed_to_keeps structures o a x None r e = absurd (cc)
  changed_to_keeps structures o a x (Some to) r e = changed_by_keeps structures o a x to r e

  changed_keeps : (structures : List Structure) (o : BinOp) (a : Place) (x : Operand) (to : Option ValueType) (r : Operand) → changed_at target structures o a x to ≡ Ok r → KeepsWith a x r
  changed_keeps structures o a x to r e = changed_to_keeps structures o a x to r (value_ok x (changed_to target structures o a x to) r e)

  -- ---- of what an expression designates

  abbrev KeepsBoth : TypedExpr → Operand → Operand → Type 0
  KeepsBoth a x r = KeepsOperand r (λ d. designated_accesses d a || accesses d x.value)

  assign_to_keeps : (a : TypedExpr) (x r : Operand) → assign_to target a x ≡ Ok r → KeepsBoth a x r
  assign_to_keeps (IsPlace a t) x r e = stored_at_keeps a (written_to t) x r e
  assign_to_keeps (IsValue y) x r e = absurd (cc)
  assign_to_keeps (IsFunction f sig) x r e = absurd (cc)
  assign_to_keeps (IsIntrinsic i at) x r e = absurd (cc)
  assign_to_keeps (IsAddress n t at) x r e = absurd (cc)

  change_of_keeps : (structures : List Structure) (o : BinOp) (a : TypedExpr) (x r : Operand) → change_of target structures o a x ≡ Ok r → KeepsBoth a x r
  change_of_keeps structures o (IsPlace a t) x r e = changed_keeps structures o a x (written_to t) r e
  change_of_keeps structures o (IsValue y) x r e = absurd (cc)
  change_of_keeps structures o (IsFunction f sig) x r e = absurd (cc)
  change_of_keeps structures o (IsIntrinsic i at) x r e = absurd (cc)
  change_of_keeps structures o (IsAddress n t at) x r e = absurd (cc)

  assign_by_keeps : (structures : List Structure) (o : Option BinOp) (a : TypedExpr) (x r : Operand) → assign_by target structures o a x ≡ Ok r → KeepsBoth a x r
  assign_by_keeps structures None a x r e = assign_to_keeps a x r e
  assign_by_keeps structures (Some o) a x r e = change_of_keeps structures o a x r e

  pub assign_keeps : (structures : List Structure) (mark : Mark) (a : TypedExpr) (x r : Operand) → assign_of target structures mark a x ≡ Ok r → KeepsOperand r (λ d. designated_accesses d a || accesses d x.value)
  assign_keeps structures mark a x r e = assign_by_keeps structures (assigns_by mark) a x r e

  pub before_keeps : (structures : List Structure) (down : Bool) (a : TypedExpr) (r : Operand) → stepped_before target structures down a ≡ Ok r → KeepsOperand r (λ d. designated_accesses d a)
  before_keeps structures down a r e =
      fewer (IsValue r) (λ d. designated_accesses d a || accesses d (first_number target).value) (λ d. designated_accesses d a) (λ d. or_left (designated_accesses d a) (accesses d (first_number target).value))
      (change_of_keeps structures (if down then op.Sub else op.Add) a (first_number target) r e)

-- ---- `a++`, `a--`

after_operand : (a : Place) (down : Bool) (v : ValueType) → KeepsOperand (operand (After a down) v) (accesses_place a)
after_operand a down v = operand_keeps (After a down) v (accesses_place a) (λ d h. accesses_is d (After a down) (one.After a down) (rolls-After a down) ∙ h)

step_by : (structures : List Structure) (down : Bool) (a : Place) (to : ValueType) (b : Bool) (r : Operand) →
    (if b then Ok (operand (After a down) to) else must (points_to_object structures to) rule.NoSum (Ok (operand (After a down) to))) ≡ Ok r → KeepsOperand r (accesses_place a)
step_by structures down a to true r e = subst (λ z. KeepsOperand z (accesses_place a)) (ok_is e) (after_operand a down to)
step_by structures down a to false r e = subst (λ z. KeepsOperand z (accesses_place a)) (ok_is (must_ok (points_to_object structures to) rule.NoSum (Ok (operand (After a down) to)) r e).1) (after_operand a down to)

stepped_keeps : (structures : List Structure) (down : Bool) (a : Place) (to : Option ValueType) (r : Operand) → stepped_at structures down a to ≡ Ok r → KeepsOperand r (accesses_place a)
stepped_keeps structures down a None r e = absurd (cc)
stepped_keeps structures down a (Some to) r e = step_by structures down a to (is_integer to) r e

pub after_keeps : (structures : List Structure) (down : Bool) (a : TypedExpr) (r : Operand) → stepped_after structures down a ≡ Ok r → KeepsOperand r (λ d. designated_accesses d a)
after_keeps structures down (IsPlace a t) r e = stepped_keeps structures down a (written_to t) r e
after_keeps structures down (IsValue y) r e = absurd (cc)
after_keeps structures down (IsFunction f sig) r e = absurd (cc)
after_keeps structures down (IsIntrinsic i at) r e = absurd (cc)
after_keeps structures down (IsAddress n t at) r e = absurd (cc)
