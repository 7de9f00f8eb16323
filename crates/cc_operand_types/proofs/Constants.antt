-- What folding gives is a value of the type of the operation.
use Rattle.std.proofs.Common.{◌≡◌, ℤ, pos, Bool, true, false, not, ◌&&◌, ◌||◌, Option, Some, None, refl, subst}
use Rattle.std.proofs.lemmas.Option.{same_Some}
use Rattle.std.specs.Prelude.{IfSome, int_lt, int_le, if◌then◌else◌}
use Rattle.std.specs.Ordering.{int_eq}
use Rattle.cc_program.specs.CcNum.declared.int_type.IntType.{IntType}
use Rattle.cc_program.specs.CcNum.declared.int_type.IntType.TheVariants as int
use Rattle.cc_program.specs.CcNum.declared.op.BinOp.{BinOp}
use Rattle.cc_program.specs.CcNum.declared.op.BinOp.TheVariants as op
use Rattle.cc_program.specs.CcNum.declared.op.UnOp.{UnOp}
use Rattle.cc_program.specs.CcNum.declared.op.UnOp.TheVariants as one_op
use Rattle.cc_program.specs.CcNum.declared.target.Target.{Target}
use Rattle.cc_program.specs.CcNum.Integers.{IsValueOf, is_value_of, converted}
use Rattle.cc_program.specs.CcNum.Results.{result_of, unary_result_of, is_shift, one_if}
use Rattle.cc_program.proofs.CcNum.Conversions.{converted-IsValueOf}
use Rattle.cc_program.proofs.CcNum.ResultLaws.{is_value_from, value_from_test, truth_value, result_lands, unary_result_lands}
use Rattle.cc_operands.specs.CcSyntax.Folding.{Constant, NoConstant, Value, Traps, result_constant, unary_constant, binary_constant, converted_constant, is_true, truth_constant, settled, both_constant, either_constant, chosen_constant}
use Rattle.cc_operands.specs.CcSyntax.Operators.{is_promoted, is_comparison, binary_result, unary_result}
use Rattle.cc_operands.proofs.CcSyntax.Prefixes.{both_true}

-- a constant, where it has a value, has one of the type
abbrev pub Fits : IntType → Target → Constant → Type 0
Fits t target NoConstant = Unit {0}
Fits t target (Value n) = is_value_of t target n ≡ true
Fits t target Traps = Unit {0}

pub truth_fits : (t : IntType) (target : Target) (b : Bool) → is_value_of t target (one_if b) ≡ true
truth_fits t target b = is_value_from t target (one_if b) (truth_value b t target)

-- ---- operators

compared : (o : BinOp) (t : IntType) (target : Target) (x y z : ℤ) → is_comparison o ≡ true → result_of o x y t target ≡ Some z → (b : Bool) × (one_if b ≡ z)
unfolding result_of
compared op.Lt t target x y z c h = (int_lt x y, same_Some (one_if (int_lt x y)) z h)
compared op.Le t target x y z c h = (int_le x y, same_Some (one_if (int_le x y)) z h)
compared op.Gt t target x y z c h = (int_lt y x, same_Some (one_if (int_lt y x)) z h)
compared op.Ge t target x y z c h = (int_le y x, same_Some (one_if (int_le y x)) z h)
compared op.Eq t target x y z c h = (int_eq x y, same_Some (one_if (int_eq x y)) z h)
compared op.Ne t target x y z c h = (not (int_eq x y), same_Some (one_if (not (int_eq x y))) z h)
compared op.Add t target x y z c h = absurd (cc)
compared op.Sub t target x y z c h = absurd (cc)
compared op.Mul t target x y z c h = absurd (cc)
compared op.Div t target x y z c h = absurd (cc)
compared op.Rem t target x y z c h = absurd (cc)
compared op.And t target x y z c h = absurd (cc)
compared op.Or t target x y z c h = absurd (cc)
compared op.Xor t target x y z c h = absurd (cc)
compared op.Shl t target x y z c h = absurd (cc)
compared op.Shr t target x y z c h = absurd (cc)

truth_is : (t : IntType) (target : Target) (z : ℤ) → (b : Bool) × (one_if b ≡ z) → is_value_of t target z ≡ true
truth_is t target z c = subst (λ (n : ℤ). is_value_of t target n ≡ true) c.1 (truth_fits t target c.0)

landed : (t : IntType) (target : Target) (r : Option ℤ) (z : ℤ) → IfSome r (IsValueOf t target) → r ≡ Some z → is_value_of t target z ≡ true
landed t target None z h e = absurd (cc)
landed t target (Some n) z h e = subst (λ (m : ℤ). is_value_of t target m ≡ true) (same_Some n z e) (is_value_from t target n h)

not_shift : (s b : Bool) → s || b ≡ true → s ≡ false → b ≡ true
not_shift true b h e = absurd (cc)
not_shift false b h e = h

result_fits : (o : BinOp) (t : IntType) (target : Target) (x y z : ℤ) (c : Bool) → is_comparison o ≡ c → is_value_of t target x ≡ true → (is_shift o || is_value_of t target y) ≡ true → result_of o x y t target ≡ Some z →
    is_value_of (if c then int.Int else t) target z ≡ true
result_fits o t target x y z true c k l h = truth_is int.Int target z (compared o t target x y z c h)
result_fits o t target x y z false c k l h =
    landed t target (result_of o x y t target) z (result_lands o x y t target (value_from_test t target x k) (λ s. value_from_test t target y (not_shift (is_shift o) (is_value_of t target y) l s))) h

of_result : (t : IntType) (target : Target) (r : Option ℤ) → ((z : ℤ) → r ≡ Some z → is_value_of t target z ≡ true) → Fits t target (result_constant r)
of_result t target None h = tt
of_result t target (Some z) h = h z refl

binary_by : (o : BinOp) (t : IntType) (target : Target) (x y : ℤ) (b : Bool) → (is_promoted target t && (is_value_of t target x && (is_shift o || is_value_of t target y))) ≡ b →
    Fits (binary_result o t) target (if b then result_constant (result_of o x y t target) else NoConstant)
binary_by o t target x y false e = tt
binary_by o t target x y true e =
    let all = both_true (is_promoted target t) (is_value_of t target x && (is_shift o || is_value_of t target y)) e in
    let those = both_true (is_value_of t target x) (is_shift o || is_value_of t target y) all.1 in
    of_result (binary_result o t) target (result_of o x y t target) (λ z h. result_fits o t target x y z (is_comparison o) refl those.0 those.1 h)

pub binary_fits : (o : BinOp) (t : IntType) (target : Target) (a b : Constant) → Fits (binary_result o t) target (binary_constant target o t a b)
binary_fits o t target NoConstant b = tt
binary_fits o t target (Value m) NoConstant = tt
binary_fits o t target (Value m) (Value n) = binary_by o t target m n (is_promoted target t && (is_value_of t target m && (is_shift o || is_value_of t target n))) refl
binary_fits o t target (Value m) Traps = tt
binary_fits o t target Traps NoConstant = tt
binary_fits o t target Traps (Value n) = tt
binary_fits o t target Traps Traps = tt

unary_there : (o : UnOp) (t : IntType) (target : Target) (x z : ℤ) → unary_result_of o x t target ≡ Some z → is_value_of (unary_result o t) target z ≡ true
unfolding unary_result_of
unary_there one_op.Neg t target x z h = landed t target (unary_result_of one_op.Neg x t target) z (unary_result_lands one_op.Neg x t target) h
unary_there one_op.Not t target x z h = landed t target (unary_result_of one_op.Not x t target) z (unary_result_lands one_op.Not x t target) h
unary_there one_op.Lnot t target x z h = truth_is int.Int target z (int_eq x (pos 0), same_Some (one_if (int_eq x (pos 0))) z h)

unary_by : (o : UnOp) (t : IntType) (target : Target) (x : ℤ) (b : Bool) → Fits (unary_result o t) target (if b then result_constant (unary_result_of o x t target) else NoConstant)
unary_by o t target x false = tt
unary_by o t target x true = of_result (unary_result o t) target (unary_result_of o x t target) (λ z h. unary_there o t target x z h)

pub unary_fits : (o : UnOp) (t : IntType) (target : Target) (a : Constant) → Fits (unary_result o t) target (unary_constant target o t a)
unary_fits o t target NoConstant = tt
unary_fits o t target (Value n) = unary_by o t target n (is_promoted target t && is_value_of t target n)
unary_fits o t target Traps = tt

pub converted_fits : (t : IntType) (target : Target) (a : Constant) → Fits t target (converted_constant target t a)
converted_fits t target NoConstant = tt
converted_fits t target (Value n) = is_value_from t target (converted n t target) (converted-IsValueOf n t target)
converted_fits t target Traps = tt

-- ---- conditions

truth_constant_fits : (target : Target) (a : Constant) → Fits int.Int target (truth_constant a)
truth_constant_fits target NoConstant = tt
truth_constant_fits target (Value n) = truth_fits int.Int target (is_true n)
truth_constant_fits target Traps = tt

settled_fits : (t : IntType) (target : Target) (a b : Constant) → Fits t target b → Fits t target (settled a b)
settled_fits t target NoConstant b h = tt
settled_fits t target (Value n) b h = h
settled_fits t target Traps b h = h

either_of : (t : IntType) (target : Target) (c : Bool) (a b : Constant) → Fits t target a → Fits t target b → Fits t target (if c then a else b)
either_of t target true a b h k = h
either_of t target false a b h k = k

pub both_fits : (target : Target) (a b : Constant) → Fits int.Int target (both_constant a b)
both_fits target NoConstant b = tt
both_fits target (Value m) b = either_of int.Int target (is_true m) (truth_constant b) (settled b (Value (pos 0))) (truth_constant_fits target b) (settled_fits int.Int target b (Value (pos 0)) (truth_fits int.Int target false))
both_fits target Traps b = settled_fits int.Int target b Traps tt

pub either_fits : (target : Target) (a b : Constant) → Fits int.Int target (either_constant a b)
either_fits target NoConstant b = tt
either_fits target (Value m) b = either_of int.Int target (is_true m) (settled b (Value (pos 1))) (truth_constant b) (settled_fits int.Int target b (Value (pos 1)) (truth_fits int.Int target true)) (truth_constant_fits target b)
either_fits target Traps b = settled_fits int.Int target b Traps tt

pub chosen_fits : (t : IntType) (target : Target) (c a b : Constant) → Fits t target a → Fits t target b → Fits t target (chosen_constant c a b)
chosen_fits t target NoConstant a b h k = tt
chosen_fits t target (Value n) a b h k = either_of t target (is_true n) (settled b a) (settled a b) (settled_fits t target b a h) (settled_fits t target a b k)
chosen_fits t target Traps a b h k = settled_fits t target a (settled b Traps) (settled_fits t target b Traps tt)
