-- The scalars of an object (C99 6.2.5, 21), in order of path: members in order, elements in order.
use Rattle.std.specs.Prelude.{ℕ, ◌+◌, ◌*◌, pos, List, [], ◌∷◌, ◌++◌, Option, Some, None, length, take, fold, replicate, slice_get, unwrap_or}
use Rattle.std.specs.List.{flat_map}
use Rattle.cc_program.specs.declared.types.CType.{CType, fold-CType}
use Rattle.cc_program.specs.declared.types.Shape.{Shape, out-Shape}
use Rattle.cc_program.specs.declared.types.Sig.{Sig}
use Rattle.cc_program.specs.declared.types.Shape.TheOpen as shape
use Rattle.cc_program.specs.declared.types.Structure.{Structure}
use Rattle.cc_program.specs.declared.value.Address.TheVariants.{Null}
use Rattle.cc_program.specs.declared.value.Part.{Part}
use Rattle.cc_program.specs.declared.value.Part.TheVariants as part
use Rattle.cc_program.specs.declared.value.Value.{Value}
use Rattle.cc_program.specs.declared.value.Value.TheVariants.{Int, Place}
use Rattle.cc_typed.specs.CcSyntax.Initial.{step_into}
use Rattle.cc_typed.specs.CcSyntax.Types.{Named}
use Rattle.cc_typed.specs.CcSyntax.Values.{PlaceType, DevicePlace, ObjectPlace, FunctionPlace}

-- the zero or null of each scalar in a type, over structures that have these
abbrev pub shape_zeros : List (List Value) → shape.Shape-F (List Value) (List Value) (Unit {0}) → List Value
shape_zeros structures shape.Void = []
shape_zeros structures (shape.Int t) = Int (pos 0) ∷ []
shape_zeros structures (shape.Pointer t) = Place Null ∷ []
shape_zeros structures (shape.Array t n) = flat_map (λ zeros. zeros) (replicate n t)
shape_zeros structures (shape.Struct s) = unwrap_or (slice_get structures s) []
shape_zeros structures (shape.Func s) = []

unfoldable pub zeros_over : List (List Value) → CType → List Value
zeros_over structures t = fold-CType (List Value) (List Value) (Unit {0}) (shape_zeros structures) (λ t. t.shape) (λ s. tt) t

abbrev pub member_zeros : List (List Value) → List Named → List Value
member_zeros structures members = flat_map (λ m. zeros_over structures m.1) members

-- of each structure; it stands on those before it
unfoldable pub structure_zeros : List Structure → List (List Value)
structure_zeros structures = fold (λ before s. before ++ member_zeros before s.members ∷ []) [] structures

module _ (structures : List Structure) where
  -- how every scalar of a type starts where no value is given (6.7.8, 10)
  abbrev pub zeros : CType → List Value
  zeros t = zeros_over (structure_zeros structures) t

  abbrev pub members_before : ℕ → Option Structure → ℕ
  members_before m None = 0
  members_before m (Some s) = length (member_zeros (structure_zeros structures) (take m s.members))

  -- how many scalars stand in front of a part
  abbrev pub before_part : Part → shape.Shape-F Shape CType Sig → ℕ
  before_part (part.Member m) (shape.Struct s) = members_before m (slice_get structures s)
  before_part (part.Index i) (shape.Array of n) = i * length (zeros of)
  before_part (part.Member m) shape.Void = 0
  before_part (part.Member m) (shape.Int t) = 0
  before_part (part.Member m) (shape.Pointer to) = 0
  before_part (part.Member m) (shape.Array of n) = 0
  before_part (part.Member m) (shape.Func sig) = 0
  before_part (part.Index i) shape.Void = 0
  before_part (part.Index i) (shape.Int t) = 0
  before_part (part.Index i) (shape.Pointer to) = 0
  before_part (part.Index i) (shape.Struct s) = 0
  before_part (part.Index i) (shape.Func sig) = 0

  abbrev pub before : Part → PlaceType → ℕ
  before step (ObjectPlace constant volatile t) = before_part step (out-Shape t.shape)
  before step (DevicePlace constant t) = 0
  before step (FunctionPlace sig) = 0

  -- the position of the scalar to which a path leads
  abbrev pub position : List Part → Option PlaceType → ℕ
  position [] a = 0
  position (step ∷ path) None = 0
  position (step ∷ path) (Some a) = before step a + position path (step_into structures step a)
