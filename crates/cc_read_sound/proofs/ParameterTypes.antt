-- The type of a parameter is that of an object: a scalar, of at most eight bytes.
use Rattle.std.proofs.Common.{◌≡◌, ℕ, Bool, true, false, ◌&&◌, ◌||◌, Option, Some, None, refl, ap, sym, ◌∙◌, eqb-true}
use Rattle.std.specs.Prelude.{◌*◌, nat_eq, nat_le, if◌then◌else◌}
use Rattle.cc_program.specs.CcNum.Integers.{bytes_of}
use Rattle.cc_program.specs.CcNum.declared.int_type.IntType.{IntType}
use Rattle.cc_program.specs.CcNum.declared.int_type.IntType.TheVariants as int
use Rattle.cc_program.specs.CcNum.declared.target.Target.{Target}
use Rattle.cc_operand_types.proofs.Requalified.{arrayed, kind_at, shaped}
use Rattle.cc_type.specs.CcOperands.Qualified.{unqualified}
use Rattle.cc_program.specs.declared.types.CType.{CType}
use Rattle.cc_program.specs.declared.types.Shape.{Shape, out-Shape}
use Rattle.cc_program.specs.declared.types.Shape.TheOpen as shape
use Rattle.cc_program.specs.declared.types.Sig.{Sig}
use Rattle.cc_sound_terms.specs.Standing.{ParameterStands}
use Rattle.cc_type.specs.CcSpecifiers.declared.derivation.Parameter.{Parameter}
use Rattle.cc_type.specs.CcSyntax.Kinds.{Kind, IsVoid, IsScalar, IsStructure, IsArray, IsIncomplete, IsFunction, array_kind, bytes_in, extent_kind, is_object_type, is_plain_scalar, is_sig, is_small, pointer_kind, qualified_kind, shape_kind}
use Rattle.cc_type.specs.CcSyntax.Views.{View, kind_in}

-- ---- widths

few_bytes : (n : ℕ) → nat_eq n 2 || nat_eq n 4 ≡ true → is_small n ≡ true
few_bytes n h = of_first (nat_eq n 2) refl h
  where
    of_second : (b : Bool) → nat_eq n 4 ≡ b → b ≡ true → is_small n ≡ true
    of_second true e g = ap is_small (eqb-true n 4 e)
    of_second false e g = absurd (cc)

    of_first : (b : Bool) → nat_eq n 2 ≡ b → b || nat_eq n 4 ≡ true → is_small n ≡ true
    of_first true e g = ap is_small (eqb-true n 2 e)
    of_first false e g = of_second (nat_eq n 4) refl g

small_int : (i : IntType) (target : Target) → is_small (bytes_of i target) ≡ true
small_int int.Bool target = refl
small_int int.Char target = refl
small_int int.SChar target = refl
small_int int.UChar target = refl
small_int int.Short target = refl
small_int int.UShort target = refl
small_int int.Int target = few_bytes target.int_bytes target.int
small_int int.UInt target = few_bytes target.int_bytes target.int
small_int int.Long target = refl
small_int int.ULong target = refl
small_int int.LongLong target = refl
small_int int.ULongLong target = refl

-- ---- scalars

array_no_scalar : (n : ℕ) (o : Option ℕ) → is_plain_scalar (qualified_kind false (array_kind n o)) ≡ true → ⊥
array_no_scalar n None h = absurd (cc)
array_no_scalar n (Some size) h = of_test (nat_le 1 n && (nat_le n 65535 && is_small size)) (n * size) h
  where
    of_test : (b : Bool) (m : ℕ) → is_plain_scalar (qualified_kind false (if b then Some (IsArray m) else None)) ≡ true → ⊥
    of_test true m g = absurd (cc)
    of_test false m g = absurd (cc)

extent_no_scalar : (x : Option (Option ℕ)) → is_plain_scalar (qualified_kind false (extent_kind x)) ≡ true → ⊥
extent_no_scalar None h = absurd (cc)
extent_no_scalar (Some None) h = absurd (cc)
extent_no_scalar (Some (Some n)) h = absurd (cc)

function_no_scalar : (good : Bool) → is_plain_scalar (qualified_kind false (if good then Some IsFunction else None)) ≡ true → ⊥
function_no_scalar true h = absurd (cc)
function_no_scalar false h = absurd (cc)

pointer_complete : (q : Bool) (n : ℕ) (k : Kind) → is_small n ≡ true → is_plain_scalar (qualified_kind false (pointer_kind n k)) ≡ true → is_object_type (qualified_kind q (pointer_kind n k)) ≡ true
pointer_complete q n IsVoid s h = absurd (cc)
pointer_complete q n (IsScalar f m) s h = s
pointer_complete q n (IsStructure m) s h = s
pointer_complete q n (IsArray m) s h = s
pointer_complete q n IsIncomplete s h = s
pointer_complete q n IsFunction s h = s

module _ (v : View) where
  abbrev pointer_to : Option Kind → Option Kind
  pointer_to o = shape_kind v.target v.extents (shape.Pointer o)

  pointed_complete : (q : Bool) (o : Option Kind) → is_plain_scalar (qualified_kind false (pointer_to o)) ≡ true → is_object_type (qualified_kind q (pointer_to o)) ≡ true
  pointed_complete q None h = absurd (cc)
  pointed_complete q (Some k) h = pointer_complete q v.target.pointer_bytes k (few_bytes v.target.pointer_bytes v.target.pointer) h

  shape_complete : (q : Bool) (x : shape.Shape-F Shape CType Sig) → is_plain_scalar (qualified_kind false (shaped v x)) ≡ true → is_object_type (qualified_kind q (shaped v x)) ≡ true
  shape_complete q shape.Void h = absurd (cc)
  shape_complete q (shape.Int i) h = small_int i v.target
  shape_complete q (shape.Pointer to) h = pointed_complete q (kind_in v to) h
  shape_complete q (shape.Array of n) h = absurd (elements_no_scalar n (kind_in v of) h)
    where
      elements_no_scalar : (n : ℕ) (o : Option Kind) → is_plain_scalar (qualified_kind false (arrayed v n o)) ≡ true → ⊥
      elements_no_scalar n None h = absurd (cc)
      elements_no_scalar n (Some e) h = array_no_scalar n (bytes_in e) h
  shape_complete q (shape.Struct i) h = absurd (extent_no_scalar (v.extents i) h)
  shape_complete q (shape.Func s) h = absurd (function_no_scalar (is_sig v.target v.extents s) h)

  pub parameter_complete : (p : Parameter) → ParameterStands v p → is_object_type (kind_in v p.ctype) ≡ true
  parameter_complete p h =
      let t = p.ctype in
      ap is_object_type (kind_at v t (out-Shape t.shape) refl)
      ∙ shape_complete (t.constant || t.volatile) (out-Shape t.shape) (sym (ap is_plain_scalar (kind_at v (unqualified t) (out-Shape t.shape) refl)) ∙ h.plain)
