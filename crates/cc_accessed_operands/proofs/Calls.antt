-- Casts and calls access what their operands and arguments do.
use Rattle.std.proofs.Common.{◌≡◌, ◌∙◌, ◌||◌, ℕ, pos, Bool, true, false, List, [], ◌∷◌, map, Option, Some, None, Ok, refl, ap, subst}
use Rattle.std.specs.List.{list_any}
use Rattle.std.specs.Prelude.{if◌then◌else◌}
use Rattle.cc_accessed_operands.specs.Accessed.{accesses}
use Rattle.cc_accessed_operands.specs.Kept.{TrapsWithoutAccess, KeepsDesignated, KeepsOperand}
use Rattle.cc_accessed_operands.proofs.Accesses.{no, or_kept, or_either}
use Rattle.cc_accessed_operands.proofs.Assignments.{assigned_keeps}
use Rattle.cc_accessed_operands.proofs.Conversions.{cast_known}
use Rattle.cc_accessed_operands.proofs.Parts.{accesses_is, never, constant_none, null_constant_none, operand_known, operand_keeps}
use Rattle.cc_accessed_operands.proofs.Verdicts.{ok_is, must_ok, value_ok, structure_ok, then_ok}
use Rattle.cc_designators.specs.Calls.{signature, byte_type, intrinsic_signature, first_or_none, result_of, passed_to, passed, called_with, called_by, called, intrinsic}
use Rattle.cc_designators.specs.Casts.{void_pointer_cast, constant_cast, pointer_cast, integer_cast, cast_by, cast_of, size_value}
use Rattle.cc_designators.specs.Designators.{TypedExpr, IsValue, pointed_in, null}
use Rattle.cc_program.specs.CcNum.Integers.{is_value_of}
use Rattle.cc_program.specs.CcNum.declared.int_type.IntType.{IntType}
use Rattle.cc_program.specs.CcNum.declared.target.Target.{Target}
use Rattle.cc_operands.specs.Operands.{Operand, operand, integer, constancy, as_nothing, size_type, is_null_constant}
use Rattle.cc_operands.specs.Qualified.{plain, unqualified}
use Rattle.cc_operands.specs.Verdicts.{must, judge_then}
use Rattle.cc_operands.specs.declared.rule.Rule.TheVariants as rule
use Rattle.cc_program.specs.declared.expr.Expr.{Expr, Const, Null, Qualify, Call, Intr}
use Rattle.cc_program.specs.declared.expr.Expr.TheOpen as one
use Rattle.cc_program.specs.declared.expr.Expr.TheVariants.{rolls-Qualify, rolls-Call, rolls-Intr}
use Rattle.cc_program.specs.declared.expr.Intr.{Intr as Intrinsic}
use Rattle.cc_program.specs.declared.expr.Intr.TheVariants as intr
use Rattle.cc_program.specs.declared.types.CType.{CType}
use Rattle.cc_program.specs.declared.types.Shape.{Shape, Void, out-Shape}
use Rattle.cc_program.specs.declared.types.Shape.TheOpen as shape
use Rattle.cc_program.specs.declared.types.Sig.{Sig, out-Sig, out-roll-Sig}
use Rattle.cc_operands.specs.CcSyntax.Folding.{Constant, NoConstant, Value, Traps}
use Rattle.cc_operands.specs.CcSyntax.Values.{ValueType, NoValue, Integer, ToObject, ToFunction, pointer_to, is_void, is_assignable, scalar_value, result_value}

abbrev Good : Operand → Type 0
Good x = TrapsWithoutAccess x

abbrev KeepsIts : Operand → TypedExpr → Type 0
KeepsIts x r = KeepsDesignated r (λ d. accesses d x.value)

-- ---- casts

-- a null constant is a null of another type
cast_null : (t : CType) (x : Operand) → is_null_constant x ≡ true → KeepsIts x (IsValue (null t))
cast_null t x h = record { known = operand_known (Null t) (pointed_in (out-Shape t.shape)); kept = λ d k. never k (null_constant_none d x h) }

constant_cast_keeps : (at : ℕ) (t : CType) (x : Operand) (c : Constant) (r : TypedExpr) → constancy x ≡ c → constant_cast at t c ≡ Ok r → KeepsIts x r
constant_cast_keeps at t x NoConstant r h e = absurd (cc)
constant_cast_keeps at t x (Value n) r h e = subst (KeepsIts x) (ok_is e) (record { known = tt; kept = λ d k. never k (constant_none d x n h) })
constant_cast_keeps at t x Traps r h e = absurd (cc)

qualified_keeps : (t : CType) (x : Operand) (v : ValueType) → KeepsIts x (IsValue (operand (Qualify t x.value) v))
qualified_keeps t x v = operand_keeps (Qualify t x.value) v (λ d. accesses d x.value) (λ d k. accesses_is d (Qualify t x.value) (one.Qualify t x.value) (rolls-Qualify t x.value) ∙ k)

qualified_by : (t to : CType) (x : Operand) (b : Bool) (r : TypedExpr) → is_null_constant x ≡ b →
    (if b then Ok (IsValue (null t)) else must (is_assignable (pointer_to to) x.type) rule.Cast (Ok (IsValue (operand (Qualify t x.value) (pointer_to to))))) ≡ Ok r → KeepsIts x r
qualified_by t to x true r h e = subst (KeepsIts x) (ok_is e) (cast_null t x h)
qualified_by t to x false r h e =
    subst (KeepsIts x) (ok_is (must_ok (is_assignable (pointer_to to) x.type) rule.Cast (Ok (IsValue (operand (Qualify t x.value) (pointer_to to)))) r e).1) (qualified_keeps t x (pointer_to to))

pointer_cast_keeps : (at : ℕ) (t to : CType) (x : Operand) (v : ValueType) (r : TypedExpr) → pointer_cast at t to x v ≡ Ok r → KeepsIts x r
pointer_cast_keeps at t to x (Integer s) r e = constant_cast_keeps at t x (constancy x) r refl e
pointer_cast_keeps at t to x NoValue r e = qualified_by t to x (is_null_constant x) r refl e
pointer_cast_keeps at t to x (ToObject c v u) r e = qualified_by t to x (is_null_constant x) r refl e
pointer_cast_keeps at t to x (ToFunction s) r e = qualified_by t to x (is_null_constant x) r refl e

to_pointer : (at : ℕ) (t to : CType) (x : Operand) (b : Bool) (r : TypedExpr) → (if b then void_pointer_cast t x else pointer_cast at t to x x.type) ≡ Ok r → KeepsIts x r
to_pointer at t to x true r e = let m = must_ok (is_null_constant x) rule.PointerToVoid (Ok (IsValue (null t))) r e in subst (KeepsIts x) (ok_is m.1) (cast_null t x m.0)
to_pointer at t to x false r e = pointer_cast_keeps at t to x x.type r e

nothing_keeps : (x : Operand) → Good x → KeepsIts x (IsValue (as_nothing x))
nothing_keeps x h = record { known = h; kept = λ d k. k }

module _ (target : Target) where
  integer_cast_keeps : (i : IntType) (x : Operand) (v : ValueType) (r : TypedExpr) → Good x → integer_cast target i x v ≡ Ok r → KeepsIts x r
  integer_cast_keeps i x (Integer s) r h e = subst (KeepsIts x) (ok_is e) (cast_known target i x h)
  integer_cast_keeps i x NoValue r h e = absurd (cc)
  integer_cast_keeps i x (ToObject c v u) r h e = absurd (cc)
  integer_cast_keeps i x (ToFunction s) r h e = absurd (cc)

  cast_by_keeps : (at : ℕ) (t : CType) (x : Operand) (s : shape.Shape-F Shape CType Sig) (r : TypedExpr) → Good x → cast_by target at t x s ≡ Ok r → KeepsIts x r
  cast_by_keeps at t x shape.Void r h e = subst (KeepsIts x) (ok_is (structure_ok x (Ok (IsValue (as_nothing x))) r e)) (nothing_keeps x h)
  cast_by_keeps at t x (shape.Int i) r h e = integer_cast_keeps i x x.type r h (value_ok x (integer_cast target i x x.type) r e)
  cast_by_keeps at t x (shape.Pointer to) r h e = to_pointer at t to x (is_void to) r (value_ok x (if is_void to then void_pointer_cast t x else pointer_cast at t to x x.type) r e)
  cast_by_keeps at t x (shape.Array of n) r h e = absurd (cc)
  cast_by_keeps at t x (shape.Struct i) r h e = absurd (cc)
  cast_by_keeps at t x (shape.Func sig) r h e = absurd (cc)

  pub written_cast_keeps : (at : ℕ) (t : CType) (x : Operand) (r : TypedExpr) → TrapsWithoutAccess x → cast_of target at t x ≡ Ok r → KeepsDesignated r (λ d. accesses d x.value)
  written_cast_keeps at t x r h e = cast_by_keeps at (unqualified t) x (out-Shape t.shape) r h e

  pub size_known : (n : ℕ) (r : Operand) → size_value target n ≡ Ok r → TrapsWithoutAccess r
  size_known n r e =
      subst Good (ok_is (must_ok (is_value_of (size_type target) target (pos n)) rule.SizeOf (Ok (integer (pos n) (size_type target))) r e).1) (operand_known (Const (pos n) (size_type target)) (Integer (size_type target)))

  -- ---- calls

  abbrev operands_access : List Operand → ℕ → Bool
  operands_access xs d = list_any (λ (x : Operand). accesses d x.value) xs

  abbrev exprs_access : List Expr → ℕ → Bool
  exprs_access es d = list_any (λ b. b) (map (accesses d) es)

  abbrev KeepAll : List Operand → List Expr → Type 0
  KeepAll xs es = (d : ℕ) → operands_access xs d ≡ true → exprs_access es d ≡ true

  passed_to_keeps : (t : CType) (x : Operand) (o : Option ValueType) (r : Operand) → passed_to target t x o ≡ Ok r → (d : ℕ) → accesses d x.value ≡ true → accesses d r.value ≡ true
  passed_to_keeps t x None r e = absurd (cc)
  passed_to_keeps t x (Some to) r e = assigned_keeps target to x r e

  passed_keep : (ts : List CType) (xs : List Operand) (es : List Expr) → passed target ts xs ≡ Ok es → KeepAll xs es
  passed_keep [] [] es e = λ d h. no h
  passed_keep (t ∷ ts) (x ∷ xs) es e =
      let y = then_ok (passed_to target t x (scalar_value t)) (λ y. judge_then (passed target ts xs) (λ ys. Ok (y.value ∷ ys))) es e in
      let ys = then_ok (passed target ts xs) (λ ys. Ok (y.0.value ∷ ys)) es y.2 in
      subst (KeepAll (x ∷ xs)) (ok_is ys.2)
      (λ d. or_kept (accesses d x.value) (operands_access xs d) (accesses d y.0.value) (exprs_access ys.0 d) (passed_to_keeps t x (scalar_value t) y.0 y.1 d) (passed_keep ts xs ys.0 ys.1 d))
  passed_keep [] (x ∷ xs) es e = absurd (cc)
  passed_keep (t ∷ ts) [] es e = absurd (cc)

  result_keeps : (call : Expr) (o : Option ValueType) (r : Operand) (accessed : ℕ → Bool) → ((d : ℕ) → accessed d ≡ true → accesses d call ≡ true) → result_of call o ≡ Ok r → KeepsOperand r accessed
  result_keeps call None r accessed h e = absurd (cc)
  result_keeps call (Some t) r accessed h e = subst (λ z. KeepsOperand z accessed) (ok_is e) (operand_keeps call t accessed h)

  with_keeps : (call : List Expr → Expr) (sig : Sig) (xs : List Operand) (r : Operand) (accessed : ℕ → Bool) →
      ((es : List Expr) → passed target (out-Sig sig).params xs ≡ Ok es → (d : ℕ) → accessed d ≡ true → accesses d (call es) ≡ true) → called_with target call sig xs ≡ Ok r → KeepsOperand r accessed
  with_keeps call sig xs r accessed f e =
      let es = then_ok (passed target (out-Sig sig).params xs) (λ args. result_of (call args) (result_value (out-Sig sig).result)) r e in
      result_keeps (call es.0) (result_value (out-Sig sig).result) r accessed (f es.0 es.1) es.2

  abbrev call_accesses : Expr → List Operand → ℕ → Bool
  call_accesses f xs d = accesses d f || operands_access xs d

  call_keeps : (f : Expr) (xs : List Operand) (es : List Expr) → KeepAll xs es → (d : ℕ) → call_accesses f xs d ≡ true → accesses d (Call f es) ≡ true
  call_keeps f xs es h d k =
      accesses_is d (Call f es) (one.Call f es) (rolls-Call f es) ∙ or_kept (accesses d f) (operands_access xs d) (accesses d f) (exprs_access es d) (λ z. z) (h d) k

  called_by_keeps : (f : Expr) (t : ValueType) (xs : List Operand) (r : Operand) → called_by target f t xs ≡ Ok r → KeepsOperand r (call_accesses f xs)
  called_by_keeps f (ToFunction sig) xs r e = with_keeps (Call f) sig xs r (call_accesses f xs) (λ es p. call_keeps f xs es (passed_keep (out-Sig sig).params xs es p)) e
  called_by_keeps f NoValue xs r e = absurd (cc)
  called_by_keeps f (Integer t) xs r e = absurd (cc)
  called_by_keeps f (ToObject c v t) xs r e = absurd (cc)

  pub called_keeps : (f : Operand) (xs : List Operand) (r : Operand) → called target f xs ≡ Ok r → KeepsOperand r (λ d. accesses d f.value || list_any (λ (x : Operand). accesses d x.value) xs)
  called_keeps f xs r e = called_by_keeps f.value f.type xs r (value_ok f (called_by target f.value f.type xs) r e)

  -- ---- intrinsics: of one argument, or of none

  abbrev IntrinsicKeeps : Intrinsic → List Operand → List Expr → Type 0
  IntrinsicKeeps i xs es = (d : ℕ) → operands_access xs d ≡ true → accesses d (Intr i (first_or_none es)) ≡ true

  none_passed : (i : Intrinsic) (xs : List Operand) (es : List Expr) → passed target [] xs ≡ Ok es → IntrinsicKeeps i xs es
  none_passed i [] es e = λ d h. no h
  none_passed i (x ∷ xs) es e = absurd (cc)

  first_passed : (i : Intrinsic) (x : Operand) (e : Expr) → ((d : ℕ) → accesses d x.value ≡ true → accesses d e ≡ true) → IntrinsicKeeps i (x ∷ []) (e ∷ [])
  first_passed i x e h d k = accesses_is d (Intr i (Some e)) (one.Intr i (Some e)) (rolls-Intr i (Some e)) ∙ or_either (accesses d x.value) false (h d) (λ z. no z) k

  one_passed : (i : Intrinsic) (t : CType) (xs : List Operand) (es : List Expr) → passed target (t ∷ []) xs ≡ Ok es → IntrinsicKeeps i xs es
  one_passed i t [] es e = absurd (cc)
  one_passed i t (x ∷ []) es e =
      let y = then_ok (passed_to target t x (scalar_value t)) (λ y. judge_then (passed target [] []) (λ ys. Ok (y.value ∷ ys))) es e in
      subst (IntrinsicKeeps i (x ∷ [])) (ok_is y.2) (first_passed i x y.0.value (passed_to_keeps t x (scalar_value t) y.0 y.1))
  one_passed i t (x ∷ (z ∷ xs)) es e =
      let y = then_ok (passed_to target t x (scalar_value t)) (λ y. judge_then (passed target [] (z ∷ xs)) (λ ys. Ok (y.value ∷ ys))) es e in
      absurd (cc)

  with_params : (sig : Sig) (ts : List CType) (xs : List Operand) (es : List Expr) → (out-Sig sig).params ≡ ts → passed target (out-Sig sig).params xs ≡ Ok es → passed target ts xs ≡ Ok es
  with_params sig ts xs es h e = subst (λ (z : List CType). passed target z xs ≡ Ok es) h e

  none_of : (result : CType) → (out-Sig (signature result [])).params ≡ []
  none_of result = ap (λ (z : shape.Sig-F Shape CType Sig). z.params) (out-roll-Sig (record { result = result; params = [] }))

  one_of : (result t : CType) → (out-Sig (signature result (t ∷ []))).params ≡ t ∷ []
  one_of result t = ap (λ (z : shape.Sig-F Shape CType Sig). z.params) (out-roll-Sig (record { result = result; params = t ∷ [] }))

  arguments_keep : (i : Intrinsic) (xs : List Operand) (es : List Expr) → passed target (out-Sig (intrinsic_signature i)).params xs ≡ Ok es → IntrinsicKeeps i xs es
  arguments_keep intr.Off xs es e = none_passed intr.Off xs es (with_params (signature (plain Void) []) [] xs es (none_of (plain Void)) e)
  arguments_keep intr.On xs es e = none_passed intr.On xs es (with_params (signature (plain Void) []) [] xs es (none_of (plain Void)) e)
  arguments_keep intr.Save xs es e = none_passed intr.Save xs es (with_params (signature byte_type []) [] xs es (none_of byte_type) e)
  arguments_keep intr.Restore xs es e = one_passed intr.Restore byte_type xs es (with_params (signature (plain Void) (byte_type ∷ [])) (byte_type ∷ []) xs es (one_of (plain Void) byte_type) e)

  pub intrinsic_keeps : (i : Intrinsic) (xs : List Operand) (r : Operand) → intrinsic target i xs ≡ Ok r → KeepsOperand r (λ d. list_any (λ (x : Operand). accesses d x.value) xs)
  intrinsic_keeps i xs r e = with_keeps (λ args. Intr i (first_or_none args)) (intrinsic_signature i) xs r (operands_access xs) (λ es p. arguments_keep i xs es p) e
