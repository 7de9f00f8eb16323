-- What tests of functions and of types say.
use Rattle.std.proofs.Common.{arith, ◌≡◌, ◌⊎◌, inl, inr, ℕ, suc, Bool, true, false, not, ◌&&◌, Option, Some, None, ap, subst}
use Rattle.std.proofs.lemmas.Bool.{eqb-true}
use Rattle.std.proofs.lemmas.Option.{same_Some}
use Rattle.std.specs.Prelude.{option_map, if◌then◌else◌, nat_eq}
use Rattle.cc_program.specs.CcNum.declared.int_type.IntType.TheVariants as int
use Rattle.cc_program.specs.declared.func.Func.{Func}
use Rattle.cc_program.specs.declared.types.CType.{CType}
use Rattle.cc_program.specs.declared.types.Shape.{out-Shape, Shape}
use Rattle.cc_program.specs.declared.types.Shape.TheOpen as shape
use Rattle.cc_program.specs.declared.types.Sig.{Sig}
use Rattle.cc_steps.specs.CcSyntax.Operators.{is_handler, is_unqualified}
use Rattle.cc_steps.specs.CcSyntax.SameTypes.{is_int_shape, is_void_shape}
use Rattle.cc_steps.specs.CcSyntax.Sound.{is_plain_int, is_plain_void}
use Rattle.cc_steps.specs.CcSyntax.Values.{ValueType, Integer, scalar_shape, scalar_value, is_void, is_assignable_some}
use Rattle.cc_steps.proofs.CcSyntax.Prefixes.{both_true}
use Rattle.cc_steps.proofs.CcSyntax.SameLemmas.{int_there}

pub not_void : {C : Type 0} (b : Bool) → b ≡ true → b ≡ false → C
not_void b h k = absurd (cc)

pub both_not : {C : Type 0} (a b : Bool) → not a && b ≡ true → a ≡ true → C
both_not true b h k = absurd (cc)
both_not false b h k = absurd (cc)

pub not_empty : (n : ℕ) → nat_eq (suc n) 0 ≡ true → ⊥
not_empty n h = let e = eqb-true (suc n) 0 h in omega (arith, e)

pub plain : (t : CType) → is_void t ≡ false → (is_plain_int t ≡ true) ⊎ (is_plain_void t ≡ true) → scalar_value t ≡ Some (Integer int.Int)
plain t e (inl h) = ap scalar_shape (int_there int.Int (out-Shape t.shape) (both_true (is_unqualified t) (is_int_shape int.Int (out-Shape t.shape)) h).1)
plain t e (inr h) = not_void (is_void t) (both_true (is_unqualified t) (is_void t) h).1 e

-- a void function returns no value
pub void_returns : (x : shape.Shape-F Shape CType Sig) (t : Option ValueType) → is_void_shape x ≡ true → is_assignable_some (scalar_shape x) t ≡ true → ⊥
void_returns shape.Void t h k = absurd (cc)
void_returns (shape.Int i) t h k = absurd (cc)
void_returns (shape.Pointer to) t h k = absurd (cc)
void_returns (shape.Array of n) t h k = absurd (cc)
void_returns (shape.Struct i) t h k = absurd (cc)
void_returns (shape.Func sig) t h k = absurd (cc)

pub handler_by : (f : Func) (id : ℕ) (e : ℕ × Func) (b : Bool) → is_handler f ≡ b → option_map (λ f. (id, f)) (if b then Some f else None) ≡ Some e → (Some f ≡ Some e.1) × (is_handler e.1 ≡ true) × (id ≡ e.0)
handler_by f id e true h k =
    let same = same_Some (id, f) e k in
    (ap (λ (x : ℕ × Func). Some x.1) same, subst (λ (x : ℕ × Func). is_handler x.1 ≡ true) same h, ap (λ (x : ℕ × Func). x.0) same)
handler_by f id e false h k = absurd (cc)
