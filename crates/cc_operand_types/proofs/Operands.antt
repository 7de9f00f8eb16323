-- Typed operands: what follows of one, and how one is made.
use Rattle.std.proofs.Common.{◌≡◌, ℤ, Bool, true, false, List, Option, Some, Ok, Err, refl, ap, sym, ◌∙◌, subst}
use Rattle.std.specs.Prelude.{if◌then◌else◌}
use Rattle.cc_program.specs.CcNum.declared.int_type.IntType.{IntType}
use Rattle.cc_program.specs.CcNum.Integers.{is_value_of}
use Rattle.cc_program.specs.declared.expr.Expr.{Expr, Const, Conv, out-Expr, roll-out-Expr, map-Expr}
use Rattle.cc_program.specs.declared.expr.Expr.TheOpen as one
use Rattle.cc_program.specs.declared.expr.Place.{Place}
use Rattle.cc_operands.specs.Operands.{Operand, operand, integer, constant_at, constancy, folded, cast_to, converted_by, converted_to, is_nothing, is_void_value, with_value, no_structure}
use Rattle.cc_operands.specs.Verdicts.{Judged, must}
use Rattle.cc_operands.specs.declared.rule.Rule.{Rule}
use Rattle.cc_operands.specs.CcSyntax.Folding.{Constant, NoConstant, Value, Traps, converted_constant}
use Rattle.cc_operands.specs.CcSyntax.Operators.{when}
use Rattle.cc_operands.specs.CcSyntax.SameTypes.{same_int}
use Rattle.cc_operands.specs.CcSyntax.Types.{Named}
use Rattle.cc_operands.specs.CcSyntax.Values.{ValueType, Integer, PlaceType}
use Rattle.cc_operand_types.specs.Typed.{Same, stands, HasType, IsTypedOperand, Valued, Void, Structure}
use Rattle.cc_operand_types.proofs.Agreement.{integer_agrees}
use Rattle.cc_operand_types.proofs.Constants.{Fits, converted_fits}
use Rattle.cc_operand_types.proofs.Rolls.{expr-roll, type-Const, type-Conv}
use Rattle.cc_operands.proofs.CcSyntax.SameLemmas.{int_same}
use Rattle.cc_operands.specs.CcSyntax.Views.{View}
use Rattle.cc_operands.specs.CcSyntax.Expressions.{expr_step, type_of, place_type}

-- ---- verdicts

abbrev pub given : {A : Type 0} → A → Judged A
given x = Ok x

pub ok_is : {A : Type 0} {x y : A} → given x ≡ Ok y → x ≡ y
ok_is h = cc

pub must_ok : {A : Type 0} (b : Bool) (rule : Rule) (next : Judged A) (r : A) → must b rule next ≡ Ok r → (b ≡ true) × (next ≡ Ok r)
must_ok true rule next r h = (refl, h)
must_ok false rule next r h = absurd (cc)

value_by : {A : Type 0} (b : Bool) (rule : Rule) (next : Judged A) (r : A) → (if b then Err rule else next) ≡ Ok r → (b ≡ false) × (next ≡ Ok r)
value_by true rule next r h = absurd (cc)
value_by false rule next r h = (refl, h)

pub value_ok : {A : Type 0} (x : Operand) (next : Judged A) (r : A) → with_value x next ≡ Ok r → (is_void_value x ≡ false) × (next ≡ Ok r)
value_ok x next r h = value_by (is_void_value x) _ next r h

pub structure_ok : {A : Type 0} (x : Operand) (next : Judged A) (r : A) → no_structure x next ≡ Ok r → (x.structure ≡ false) × (next ≡ Ok r)
structure_ok x next r h = value_by x.structure _ next r h

when_integer : (b : Bool) (s t : IntType) → when b (Integer s) ≡ Some (Integer t) → (b ≡ true) × (s ≡ t)
when_integer true s t h = (refl, cc)
when_integer false s t h = absurd (cc)

pub folded_type : (t : IntType) (c : Constant) (e : Expr) → (folded t c e).type ≡ Integer t
folded_type t NoConstant e = refl
folded_type t (Value n) e = refl
folded_type t Traps e = refl

module _ (p : View) (locals : List Named) where
  -- ---- what follows

  pub value_of : (x : Operand) → IsTypedOperand p locals x → is_nothing x.type ≡ false → HasType p locals x.value x.type
  value_of _ (Valued x s n h) k = h
  value_of _ (Void x t s e h) k = let c : true ≡ false = sym (ap is_nothing e) ∙ k in absurd (cc)
  value_of _ (Structure x a t e h) k = let c : true ≡ false = sym (ap (λ (y : Operand). is_nothing y.type) e) ∙ k in absurd (cc)

  pub value_as : (x : Operand) (t : ValueType) → IsTypedOperand p locals x → x.type ≡ t → is_nothing t ≡ false → HasType p locals x.value t
  value_as x t h e n = subst (λ (u : ValueType). HasType p locals x.value u) e (value_of x h (ap is_nothing e ∙ n))

  pub integer_as : (x : Operand) (i : IntType) → IsTypedOperand p locals x → x.type ≡ Integer i → type_of p locals x.value ≡ Some (Integer i)
  integer_as x i h e = let v = value_as x (Integer i) h e refl in v.typed ∙ ap Some (integer_agrees v.own (Integer i) i v.agrees refl)

  pub any_type : (x : Operand) → IsTypedOperand p locals x → x.structure ≡ false → (t : ValueType) × (type_of p locals x.value ≡ Some t)
  any_type _ (Valued x s n h) k = (h.own, h.typed)
  any_type _ (Void x t s e h) k = (t, h)
  any_type _ (Structure x a t e h) k = let c : true ≡ false = sym (ap (λ (y : Operand). y.structure) e) ∙ k in absurd (cc)

  -- ---- how one is made

  pub exact : (e : Expr) (t : ValueType) → type_of p locals e ≡ Some t → stands p t ≡ true → HasType p locals e t
  exact e t h s = record { own = t; typed = h; agrees = Same t; standing = s }

  pub as_operand : (e : Expr) (t : ValueType) → is_nothing t ≡ false → HasType p locals e t → IsTypedOperand p locals (operand e t)
  as_operand e t n h = Valued (operand e t) refl n h

  pub integer_operand : (e : Expr) (t : IntType) → type_of p locals e ≡ Some (Integer t) → IsTypedOperand p locals (operand e (Integer t))
  integer_operand e t h = as_operand e (Integer t) refl (exact e (Integer t) h refl)

  pub as_constant : (n : ℤ) (t : IntType) → is_value_of t p.target n ≡ true → IsTypedOperand p locals (integer n t)
  as_constant n t h = integer_operand (Const n t) t (type-Const p locals n t ∙ ap (λ (b : Bool). when b (Integer t)) h)

  pub as_folded : (t : IntType) (c : Constant) (e : Expr) → type_of p locals e ≡ Some (Integer t) → Fits t p.target c → IsTypedOperand p locals (folded t c e)
  as_folded t NoConstant e h f = integer_operand e t h
  as_folded t (Value n) e h f = as_constant n t f
  as_folded t Traps e h f = Valued (folded t Traps e) refl refl (exact e (Integer t) h refl)

  -- ---- a constant fits its type

  fits_at : (y : one.Expr-F Expr Place) (t : IntType) → expr_step p locals (map-Expr Expr Place (Option ValueType) (Option PlaceType) (type_of p locals) (place_type p locals) y) ≡ Some (Integer t) → Fits t p.target (constant_at y)
  fits_at (one.Const n s) t h =
      let b = when_integer (is_value_of s p.target n) s t h in
      subst (λ (i : IntType). is_value_of i p.target n ≡ true) b.1 b.0
  fits_at y t h = tt

  fits_by : (traps : Bool) (t : IntType) (c : Constant) → Fits t p.target c → Fits t p.target (if traps then Traps else c)
  fits_by true t c h = tt
  fits_by false t c h = h

  pub constancy_fits : (x : Operand) (t : IntType) → type_of p locals x.value ≡ Some (Integer t) → Fits t p.target (constancy x)
  constancy_fits x t h =
      fits_by x.traps t (constant_at (out-Expr x.value)) (fits_at (out-Expr x.value) t (sym (expr-roll p locals x.value (out-Expr x.value) (roll-out-Expr x.value)) ∙ h))

  -- ---- conversions of an integer

  pub record IsInteger (t : IntType) (x : Operand) : Type 0 where
    pub operand : IsTypedOperand p locals x
    pub type : x.type ≡ Integer t

  pub cast_typed : (t i : IntType) (x : Operand) → type_of p locals x.value ≡ Some (Integer i) → IsInteger t (cast_to p.target t x)
  cast_typed t i x h = record {
    operand = as_folded t (converted_constant p.target t (constancy x)) (Conv t x.value) (type-Conv p locals t x.value (Integer i) (Some (Integer t)) h refl) (converted_fits t p.target (constancy x));
    type = folded_type t (converted_constant p.target t (constancy x)) (Conv t x.value);
  }

  from_typed : (b : Bool) (t s : IntType) (x : Operand) → same_int s t ≡ b → IsTypedOperand p locals x → x.type ≡ Integer s → IsInteger t (if b then x else cast_to p.target t x)
  from_typed true t s x f h e = record { operand = h; type = e ∙ ap Integer (int_same s t f) }
  from_typed false t s x f h e = cast_typed t s x (integer_as x s h e)

  pub converted_typed : (t s : IntType) (x : Operand) → IsTypedOperand p locals x → x.type ≡ Integer s → IsInteger t (converted_to p.target t x)
  converted_typed t s x h e = subst (λ (v : ValueType). IsInteger t (converted_by p.target t x v)) (sym e) (from_typed (same_int s t) t s x refl h e)

  pub value_integer : (t : IntType) (x : Operand) → IsInteger t x → type_of p locals x.value ≡ Some (Integer t)
  value_integer t x h = integer_as x t h.operand h.type
