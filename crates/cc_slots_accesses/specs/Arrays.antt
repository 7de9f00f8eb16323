-- Keys that are arrays: how many elements they have.
use Rattle.std.specs.Prelude.{ℕ, Bool, Option, Some, None, is_some}
use Rattle.std.specs.Option.{option_map_or}
use Rattle.cc_program.specs.declared.program.Program.{Program}
use Rattle.cc_program.specs.declared.types.CType.{CType}
use Rattle.cc_program.specs.declared.types.Shape.{Shape, out-Shape}
use Rattle.cc_program.specs.declared.types.Shape.TheOpen as shape
use Rattle.cc_program.specs.declared.types.Sig.{Sig}
use Rattle.cc_state.specs.Shape.{ctype_of}
use Rattle.cc_rules_flows.specs.CcStateFacts.declared.facts.Key.{Key}

-- how many elements an array has
abbrev pub length_shape : shape.Shape-F Shape CType Sig → Option ℕ
length_shape (shape.Array of n) = Some n
length_shape shape.Void = None
length_shape (shape.Int i) = None
length_shape (shape.Pointer to) = None
length_shape (shape.Struct s) = None
length_shape (shape.Func sig) = None

abbrev pub length_of : CType → Option ℕ
length_of t = length_shape (out-Shape t.shape)

-- and one that is a key
abbrev pub array_length : Program → Key → Option ℕ
array_length p k = option_map_or length_of (ctype_of p k) None

abbrev pub is_array : Program → Key → Bool
is_array p k = is_some (array_length p k)
