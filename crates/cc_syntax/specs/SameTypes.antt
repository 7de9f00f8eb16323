-- Whether two types are the same one, and whether they are, their outermost qualifiers aside; those of an
-- array are its innermost element's (C99 6.2.7, 6.7.3).
use Rattle.std.specs.Prelude.{ℕ, Bool, true, false, not, ◌&&◌, nat_eq}
use Rattle.cc_syntax.specs.Pairs.{all_pairs}
use denote.Enum.Declared.{tag_of}
use Rattle.cc_program.specs.CcNum.contracts.int_type.IntType as int_type
use Rattle.cc_program.specs.CcNum.declared.int_type.IntType.{IntType}
use Rattle.cc_program.specs.declared.types.CType.{CType, fold-CType}
use Rattle.cc_program.specs.declared.types.Shape.{Shape, fold-Shape, out-Shape}
use Rattle.cc_program.specs.declared.types.Shape.TheOpen as shape
use Rattle.cc_program.specs.declared.types.Sig.{Sig, fold-Sig, out-Sig}

unfoldable pub same_int : IntType → IntType → Bool
same_int s t = nat_eq (tag_of int_type.the_type s) (tag_of int_type.the_type t)

abbrev pub same_flag : Bool → Bool → Bool
same_flag true b = b
same_flag false b = not b

-- what tells of another type whether it is the same one, and whether it is, outermost qualifiers aside
pub record Comparison (A : Type 0) : Type 0 where
  pub same : A → Bool
  pub alike : A → Bool

abbrev pub always : {A : Type 0} → (A → Bool) → Comparison A
always same = record { same = same; alike = same }

abbrev pub is_void_shape : shape.Shape-F Shape CType Sig → Bool
is_void_shape shape.Void = true
is_void_shape (shape.Int t) = false
is_void_shape (shape.Pointer t) = false
is_void_shape (shape.Array t n) = false
is_void_shape (shape.Struct s) = false
is_void_shape (shape.Func s) = false

abbrev pub is_int_shape : IntType → shape.Shape-F Shape CType Sig → Bool
is_int_shape i (shape.Int t) = same_int i t
is_int_shape i shape.Void = false
is_int_shape i (shape.Pointer t) = false
is_int_shape i (shape.Array t n) = false
is_int_shape i (shape.Struct s) = false
is_int_shape i (shape.Func s) = false

abbrev pub is_pointer_shape : (CType → Bool) → shape.Shape-F Shape CType Sig → Bool
is_pointer_shape to (shape.Pointer t) = to t
is_pointer_shape to shape.Void = false
is_pointer_shape to (shape.Int t) = false
is_pointer_shape to (shape.Array t n) = false
is_pointer_shape to (shape.Struct s) = false
is_pointer_shape to (shape.Func s) = false

abbrev pub is_array_shape : (CType → Bool) → ℕ → shape.Shape-F Shape CType Sig → Bool
is_array_shape of n (shape.Array t m) = nat_eq n m && of t
is_array_shape of n shape.Void = false
is_array_shape of n (shape.Int t) = false
is_array_shape of n (shape.Pointer t) = false
is_array_shape of n (shape.Struct s) = false
is_array_shape of n (shape.Func s) = false

abbrev pub is_struct_shape : ℕ → shape.Shape-F Shape CType Sig → Bool
is_struct_shape i (shape.Struct s) = nat_eq i s
is_struct_shape i shape.Void = false
is_struct_shape i (shape.Int t) = false
is_struct_shape i (shape.Pointer t) = false
is_struct_shape i (shape.Array t n) = false
is_struct_shape i (shape.Func s) = false

abbrev pub is_func_shape : (Sig → Bool) → shape.Shape-F Shape CType Sig → Bool
is_func_shape sig (shape.Func s) = sig s
is_func_shape sig shape.Void = false
is_func_shape sig (shape.Int t) = false
is_func_shape sig (shape.Pointer t) = false
is_func_shape sig (shape.Array t n) = false
is_func_shape sig (shape.Struct s) = false

abbrev pub compare_shape : shape.Shape-F (Comparison Shape) (Comparison CType) (Sig → Bool) → Comparison Shape
compare_shape shape.Void = always (λ s. is_void_shape (out-Shape s))
compare_shape (shape.Int t) = always (λ s. is_int_shape t (out-Shape s))
compare_shape (shape.Pointer to) = always (λ s. is_pointer_shape to.same (out-Shape s))
compare_shape (shape.Array of n) = record { same = λ s. is_array_shape of.same n (out-Shape s); alike = λ s. is_array_shape of.alike n (out-Shape s) }
compare_shape (shape.Struct i) = always (λ s. is_struct_shape i (out-Shape s))
compare_shape (shape.Func sig) = always (λ s. is_func_shape sig (out-Shape s))

abbrev pub compare_type : shape.CType-F (Comparison Shape) (Comparison CType) (Sig → Bool) → Comparison CType
compare_type t = record {
  same = λ u. same_flag t.constant u.constant && (same_flag t.volatile u.volatile && t.shape.same u.shape);
  alike = λ u. t.shape.alike u.shape;
}

abbrev pub compare_sig : shape.Sig-F (Comparison Shape) (Comparison CType) (Sig → Bool) → Sig → Bool
compare_sig s other = s.result.same (out-Sig other).result && all_pairs (λ t u. t.same u) s.params (out-Sig other).params

unfoldable pub comparison_of : CType → Comparison CType
comparison_of t = fold-CType (Comparison Shape) (Comparison CType) (Sig → Bool) compare_shape compare_type compare_sig t

unfoldable pub shape_comparison : Shape → Comparison Shape
shape_comparison s = fold-Shape (Comparison Shape) (Comparison CType) (Sig → Bool) compare_shape compare_type compare_sig s

-- two types of functions are the same one
unfoldable pub same_sig : Sig → Sig → Bool
same_sig s = fold-Sig (Comparison Shape) (Comparison CType) (Sig → Bool) compare_shape compare_type compare_sig s

abbrev pub same_type : CType → CType → Bool
same_type t = (comparison_of t).same

abbrev pub same_shape : Shape → Shape → Bool
same_shape s = (shape_comparison s).same

-- one type, outermost qualifiers aside
abbrev pub alike : CType → CType → Bool
alike t = (comparison_of t).alike
