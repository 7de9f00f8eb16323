-- The types of functions (C99 6.2.5, 20).
use Rattle.std.specs.Prelude.{Bool, true, false}
use Rattle.cc_program.specs.declared.types.CType.{CType}
use Rattle.cc_program.specs.declared.types.Shape.{Shape, out-Shape}
use Rattle.cc_program.specs.declared.types.Shape.TheOpen as shape
use Rattle.cc_program.specs.declared.types.Sig.{Sig}

abbrev pub is_function_shape : shape.Shape-F Shape CType Sig → Bool
is_function_shape (shape.Func s) = true
is_function_shape shape.Void = false
is_function_shape (shape.Int t) = false
is_function_shape (shape.Pointer to) = false
is_function_shape (shape.Array of n) = false
is_function_shape (shape.Struct i) = false

abbrev pub is_function_type : CType → Bool
is_function_type t = is_function_shape (out-Shape t.shape)
