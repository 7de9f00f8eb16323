-- What kind of type each type is, where it may stand in a program at all (C99 6.2.5, 6.7.5).
use Rattle.std.specs.Prelude.{ℕ, ◌*◌, Bool, true, false, not, ◌&&◌, ◌||◌, nat_le, nat_lt, List, length, Option, Some, None, unwrap_or, slice_get, if◌then◌else◌}
use Rattle.std.specs.List.{list_all}
use Rattle.cc_program.specs.CcNum.declared.target.Target.{Target}
use Rattle.cc_program.specs.CcNum.Integers.{bytes_of}
use Rattle.cc_program.specs.declared.types.CType.{CType, fold-CType}
use Rattle.cc_program.specs.declared.types.Shape.TheOpen as shape
use Rattle.cc_program.specs.declared.types.Sig.{Sig, fold-Sig}
use Rattle.cc_program.specs.declared.types.Structure.{Structure}
use Rattle.cc_syntax.specs.Layout.{nothing, layouts}
use Rattle.cc_syntax.specs.Types.{has_members}

-- scalars, structures with members and arrays are the complete object types, and have so many bytes; a scalar
-- may have qualifiers; a structure that is only named is incomplete
pub data Kind : Type 0 where
  IsVoid : Kind
  IsScalar : Bool → ℕ → Kind
  IsStructure : ℕ → Kind
  IsArray : ℕ → Kind
  IsIncomplete : Kind
  IsFunction : Kind

-- the bytes of a complete object type
abbrev pub bytes_in : Kind → Option ℕ
bytes_in IsVoid = None
bytes_in (IsScalar qualified n) = Some n
bytes_in (IsStructure n) = Some n
bytes_in (IsArray n) = Some n
bytes_in IsIncomplete = None
bytes_in IsFunction = None

-- an object, a member or an element has at most 2 ^ 32 - 1 bytes
abbrev pub is_small : ℕ → Bool
is_small n = nat_le n 4294967295

-- no pointer to void stands in a type
abbrev pub pointer_kind : ℕ → Kind → Option Kind
pointer_kind n IsVoid = None
pointer_kind n (IsScalar qualified m) = Some (IsScalar false n)
pointer_kind n (IsStructure m) = Some (IsScalar false n)
pointer_kind n (IsArray m) = Some (IsScalar false n)
pointer_kind n IsIncomplete = Some (IsScalar false n)
pointer_kind n IsFunction = Some (IsScalar false n)

-- an array has from 1 to 65,535 elements (6.7.5.2, 1)
abbrev pub array_of : ℕ → ℕ → Option Kind
array_of n size = if nat_le 1 n && (nat_le n 65535 && is_small size) then Some (IsArray (n * size)) else None

abbrev pub array_kind : ℕ → Option ℕ → Option Kind
array_kind n None = None
array_kind n (Some size) = array_of n size

-- qualifiers stand at scalars, structures and void; those of an array stand at its element (6.7.3, 8)
abbrev pub with_qualifiers : Bool → Kind → Option Kind
with_qualifiers q IsVoid = Some IsVoid
with_qualifiers q (IsScalar qualified n) = Some (IsScalar q n)
with_qualifiers q (IsStructure n) = Some (IsStructure n)
with_qualifiers q (IsArray n) = if q then None else Some (IsArray n)
with_qualifiers q IsIncomplete = Some IsIncomplete
with_qualifiers q IsFunction = if q then None else Some IsFunction

-- a function returns void or a scalar, and takes plain scalars (6.7.5.3, 1 and 15)
abbrev pub is_result : Option Kind → Bool
is_result None = false
is_result (Some IsVoid) = true
is_result (Some (IsScalar qualified n)) = true
is_result (Some (IsStructure n)) = false
is_result (Some (IsArray n)) = false
is_result (Some IsIncomplete) = false
is_result (Some IsFunction) = false

-- a scalar type without qualifiers of its own
abbrev pub is_plain_scalar : Option Kind → Bool
is_plain_scalar None = false
is_plain_scalar (Some IsVoid) = false
is_plain_scalar (Some (IsScalar qualified n)) = not qualified
is_plain_scalar (Some (IsStructure n)) = false
is_plain_scalar (Some (IsArray n)) = false
is_plain_scalar (Some IsIncomplete) = false
is_plain_scalar (Some IsFunction) = false

-- ---- by how large the structures are: of each that there is, its bytes where it is complete
abbrev pub extent_kind : Option (Option ℕ) → Option Kind
extent_kind None = None
extent_kind (Some None) = Some IsIncomplete
extent_kind (Some (Some n)) = Some (IsStructure n)

abbrev pub qualified_kind : Bool → Option Kind → Option Kind
qualified_kind q None = None
qualified_kind q (Some kind) = with_qualifiers q kind

abbrev pub type_kind : shape.CType-F (Option Kind) (Option Kind) Bool → Option Kind
type_kind t = qualified_kind (t.constant || t.volatile) t.shape

abbrev pub is_signature : shape.Sig-F (Option Kind) (Option Kind) Bool → Bool
is_signature s = is_result s.result && list_all is_plain_scalar s.params

module _ (target : Target) (extents : ℕ → Option (Option ℕ)) where
  abbrev pub shape_kind : shape.Shape-F (Option Kind) (Option Kind) Bool → Option Kind
  shape_kind shape.Void = Some IsVoid
  shape_kind (shape.Int t) = Some (IsScalar false (bytes_of t target))
  shape_kind (shape.Pointer None) = None
  shape_kind (shape.Pointer (Some to)) = pointer_kind target.pointer_bytes to
  shape_kind (shape.Array None n) = None
  shape_kind (shape.Array (Some of) n) = array_kind n (bytes_in of)
  shape_kind (shape.Struct i) = extent_kind (extents i)
  shape_kind (shape.Func good) = if good then Some IsFunction else None

  -- the kind of a type, where it may stand in a program
  unfoldable pub kind_of : CType → Option Kind
  kind_of t = fold-CType (Option Kind) (Option Kind) Bool shape_kind type_kind is_signature t

  unfoldable pub is_sig : Sig → Bool
  is_sig s = fold-Sig (Option Kind) (Option Kind) Bool shape_kind type_kind is_signature s

-- over the structures that are complete by then, of `count` structures in all
abbrev pub extent_with : List Structure → ℕ → Target → ℕ → Option (Option ℕ)
extent_with structures count target i =
    if has_members (slice_get structures i) then Some (Some (unwrap_or (slice_get (layouts target structures) i) nothing).size)
    else (if nat_lt i count then Some None else None)

abbrev pub extent_in : List Structure → Target → ℕ → Option (Option ℕ)
extent_in structures target i = extent_with structures (length structures) target i

abbrev pub struct_kind : List Structure → ℕ → Target → ℕ → Option Kind
struct_kind structures count target i = extent_kind (extent_with structures count target i)

-- the type of an object, a member or an element: complete, and small enough
abbrev pub is_object_kind : Option ℕ → Bool
is_object_kind None = false
is_object_kind (Some n) = is_small n

abbrev pub is_object_type : Option Kind → Bool
is_object_type None = false
is_object_type (Some kind) = is_object_kind (bytes_in kind)
