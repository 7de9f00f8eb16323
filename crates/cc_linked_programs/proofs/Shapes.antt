-- Whether a type is a device's or a function's is kept by other numbers; and no function is an object.
use Rattle.std.proofs.Common.{◌≡◌, ◌∙◌, ℕ, Bool, true, false, true≢false, ◌&&◌, ◌||◌, List, refl, ap, sym}
use Rattle.cc_program.specs.CcNum.declared.int_type.IntType.{IntType}
use Rattle.cc_program.specs.Qualifiers.{is_const, of_element}
use Rattle.cc_program.specs.declared.types.CType.{CType}
use Rattle.cc_program.specs.declared.types.Shape.{Shape, out-Shape}
use Rattle.cc_program.specs.declared.types.Shape.TheOpen as shape
use Rattle.cc_program.specs.declared.types.Sig.{Sig}
use Rattle.cc_program.proofs.QualifierLemmas.{const-opens, parts_const}
use Rattle.cc_relocated_units.specs.Units.{is_integer_shape, is_register_type}
use Rattle.cc_structures.proofs.WordLaws.{renumbered_level, level-renumbered, volatile-kept}
use Rattle.cc_operands.specs.CcSyntax.Kinds.{is_object_type, is_sig, qualified_kind, shape_kind}
use Rattle.cc_operands.specs.CcSyntax.Views.{View, kind_in}
use Rattle.cc_operands.proofs.CcSyntax.KindRolls.{parts_kind, kind-opens}
use Rattle.cc_unit.specs.Renumbered.{type_renumbered}
use Rattle.cc_linked_programs.specs.FunctionTypes.{is_function_shape, is_function_type}

module _ (numbers : List ℕ) where
  integer_level : (x : shape.Shape-F Shape CType Sig) → is_integer_shape (renumbered_level numbers x) ≡ is_integer_shape x
  integer_level shape.Void = refl
  integer_level (shape.Int t) = refl
  integer_level (shape.Pointer to) = refl
  integer_level (shape.Array of n) = refl
  integer_level (shape.Struct i) = refl
  integer_level (shape.Func s) = refl

  function_level : (x : shape.Shape-F Shape CType Sig) → is_function_shape (renumbered_level numbers x) ≡ is_function_shape x
  function_level shape.Void = refl
  function_level (shape.Int t) = refl
  function_level (shape.Pointer to) = refl
  function_level (shape.Array of n) = refl
  function_level (shape.Struct i) = refl
  function_level (shape.Func s) = refl

  pub register_kept : (t : CType) → is_register_type (type_renumbered numbers t) ≡ is_register_type t
  register_kept t =
      ap (λ (b : Bool). b && is_integer_shape (out-Shape (type_renumbered numbers t).shape)) (volatile-kept numbers t)
      ∙ ap (λ (b : Bool). t.volatile && b) (ap is_integer_shape (level-renumbered numbers t (out-Shape t.shape) refl) ∙ integer_level (out-Shape t.shape))

  pub function_kept : (t : CType) → is_function_type (type_renumbered numbers t) ≡ is_function_type t
  function_kept t = ap is_function_shape (level-renumbered numbers t (out-Shape t.shape) refl) ∙ function_level (out-Shape t.shape)

  int_level : (x : shape.Shape-F Shape CType Sig) (i : IntType) → renumbered_level numbers x ≡ shape.Int i → x ≡ shape.Int i
  int_level (shape.Int t) i e = e
  int_level shape.Void i e = absurd (cc e)
  int_level (shape.Pointer to) i e = absurd (cc e)
  int_level (shape.Array of n) i e = absurd (cc e)
  int_level (shape.Struct k) i e = absurd (cc e)
  int_level (shape.Func s) i e = absurd (cc e)

  pub int_back : (t : CType) (i : IntType) → out-Shape (type_renumbered numbers t).shape ≡ shape.Int i → out-Shape t.shape ≡ shape.Int i
  int_back t i e = int_level (out-Shape t.shape) i (sym (level-renumbered numbers t (out-Shape t.shape) refl) ∙ e)

pub register_is : (t : CType) (i : IntType) → out-Shape t.shape ≡ shape.Int i → t.volatile ≡ true → is_register_type t ≡ true
register_is t i e v = rw (v, e) refl

pub function_is : (t : CType) (s : Sig) → out-Shape t.shape ≡ shape.Func s → is_function_type t ≡ true
function_is t s e = ap is_function_shape e

pub no_object : (v : View) (t : CType) → is_function_type t ≡ true → is_object_type (kind_in v t) ≡ true → ⊥
no_object v t f h = by (out-Shape t.shape) refl f
  where
    kind_is : (q good : Bool) → is_object_type (qualified_kind q (shape_kind v.target v.extents (shape.Func good))) ≡ false
    kind_is true true = refl
    kind_is false true = refl
    kind_is true false = refl
    kind_is false false = refl

    by : (x : shape.Shape-F Shape CType Sig) → out-Shape t.shape ≡ x → is_function_shape x ≡ true → ⊥
    by (shape.Func s) e g =
        let k = kind-opens v.target v.extents t ∙ ap (λ y. qualified_kind (t.constant || t.volatile) (shape_kind v.target v.extents (parts_kind v.target v.extents y))) e in
        true≢false (sym h ∙ (ap is_object_type k ∙ kind_is (t.constant || t.volatile) (is_sig v.target v.extents s)))
    by shape.Void e g = true≢false (sym g)
    by (shape.Int i) e g = true≢false (sym g)
    by (shape.Pointer to) e g = true≢false (sym g)
    by (shape.Array of n) e g = true≢false (sym g)
    by (shape.Struct i) e g = true≢false (sym g)

pub const_int : (t : CType) (i : IntType) → out-Shape t.shape ≡ shape.Int i → is_const t ≡ t.constant
const_int t i e = const-opens t ∙ (ap (λ y. t.constant || of_element (parts_const y)) e ∙ or_false t.constant)
  where
    or_false : (b : Bool) → (b || false) ≡ b
    or_false true = refl
    or_false false = refl
