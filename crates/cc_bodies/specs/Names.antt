-- The names of what a program's ids stand for.
use Rattle.std.specs.Prelude.{ℕ, List, Option, Some, None, option_map, option_and_then, slice_get, ◌∷◌}
use Rattle.cc_program.specs.declared.func.Func.{Func}
use Rattle.cc_program.specs.declared.object.Device.{Device}
use Rattle.cc_program.specs.declared.object.Object.{Object}
use Rattle.cc_program.specs.declared.types.CType.{CType}
use Rattle.cc_program.specs.declared.types.Shape.{Shape, out-Shape}
use Rattle.cc_program.specs.declared.types.Shape.TheOpen as shape
use Rattle.cc_program.specs.declared.types.Sig.{Sig}
use Rattle.cc_program.specs.declared.types.Structure.{Structure}
use Rattle.cc_typed.specs.CcSyntax.Types.{Named}
use Rattle.cc_typed.specs.CcSyntax.Values.{PlaceType, DevicePlace, ObjectPlace, FunctionPlace}
use Rattle.cc_pieces.specs.Pieces.{Pieces, ident}

-- a name, nothing where there is none
abbrev pub named : Option (List ℕ) → Pieces → Pieces
named None ps = ps
named (Some x) ps = ident x ∷ ps

abbrev pub local_name : Option Named → Option (List ℕ)
local_name None = None
local_name (Some l) = Some l.0

abbrev pub object_name : Option Object → Option (List ℕ)
object_name None = None
object_name (Some o) = Some o.name

abbrev pub func_name : Option Func → Option (List ℕ)
func_name None = None
func_name (Some f) = Some f.name

-- a member of the structure that a place holds
abbrev pub member_at : ℕ → Option Structure → Option (List ℕ)
member_at m None = None
member_at m (Some s) = local_name (slice_get s.members m)

abbrev pub member_shape : List Structure → ℕ → shape.Shape-F Shape CType Sig → Option (List ℕ)
member_shape structures m (shape.Struct s) = member_at m (slice_get structures s)
member_shape structures m shape.Void = None
member_shape structures m (shape.Int t) = None
member_shape structures m (shape.Pointer to) = None
member_shape structures m (shape.Array of n) = None
member_shape structures m (shape.Func sig) = None

abbrev pub member_name : List Structure → ℕ → Option PlaceType → Option (List ℕ)
member_name structures m None = None
member_name structures m (Some (DevicePlace constant t)) = None
member_name structures m (Some (ObjectPlace constant volatile t)) = member_shape structures m (out-Shape t.shape)
member_name structures m (Some (FunctionPlace sig)) = None
