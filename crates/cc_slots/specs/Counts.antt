-- What the text says of a slot: its name, the size of one of its scalars, and how many scalars it has in RAM. Const objects take no place
-- there, and automatic ones have none of their own.
use Rattle.std.specs.Prelude.{ℕ, List, [], ◌∷◌, ◌++◌, Option, Some, None, slice_get, unwrap_or, if◌then◌else◌}
use Rattle.std.specs.Option.{option_map_or}
use Rattle.cc_program.specs.Qualifiers.{is_const}
use Rattle.cc_program.specs.declared.object.Object.{Object}
use Rattle.cc_program.specs.declared.program.Program.{Program}
use Rattle.cc_program.specs.declared.types.CType.{CType}
use Rattle.cc_program.specs.declared.types.Shape.{Shape, out-Shape}
use Rattle.cc_program.specs.declared.types.Shape.TheOpen as shape
use Rattle.cc_program.specs.declared.types.Sig.{Sig}
use Rattle.cc_program.specs.declared.types.Structure.{Structure}
use Rattle.cc_slots_accesses.specs.Arrays.{length_of}
use Rattle.cc_slots_structures.specs.Copies.{copies_in_ram}
use Rattle.cc_state_points.specs.CcState.Shape.{ctype_of}
use Rattle.cc_state_points.specs.CcStateFacts.declared.facts.Key.{Key}
use Rattle.cc_state_points.specs.CcStateFacts.declared.facts.Key.TheVariants as key
use Rattle.cc_state_points.specs.CcSyntax.Layout.{size_of}
use Rattle.cc_state_points.specs.CcSyntax.Types.{Named}

-- ---- names: that of the object; of a member that of the structure, a dot and its own

abbrev pub member_name : Structure → Named → List ℕ
member_name s m = s.tag ++ 46 ∷ m.0

abbrev pub name_in : Option Structure → ℕ → List ℕ
name_in None m = []
name_in (Some s) m = option_map_or (member_name s) (slice_get s.members m) []

abbrev pub slot_name : Program → Key → List ℕ
slot_name p (key.Object i) = option_map_or (λ (o : Object). o.name) (slice_get p.objects i) []
slot_name p (key.Local f r) = []
slot_name p (key.Member s m) = name_in (slice_get p.structures s) m

-- ---- scalars: of an array its elements

abbrev pub element_shape : CType → shape.Shape-F Shape CType Sig → CType
element_shape t (shape.Array of n) = of
element_shape t shape.Void = t
element_shape t (shape.Int i) = t
element_shape t (shape.Pointer to) = t
element_shape t (shape.Struct s) = t
element_shape t (shape.Func sig) = t

abbrev pub scalar_of : CType → CType
scalar_of t = element_shape t (out-Shape t.shape)

abbrev pub bytes_in : Program → Option CType → ℕ
bytes_in p None = 0
bytes_in p (Some t) = size_of (scalar_of t) p.structures p.target

abbrev pub scalar_bytes : Program → Key → ℕ
scalar_bytes p k = bytes_in p (ctype_of p k)

-- ---- scalars in RAM: those of an object, and of a member those of the places of its structure

abbrev pub scalars_of : Object → ℕ
scalars_of o = if is_const o.ctype then 0 else unwrap_or (length_of o.ctype) 1

abbrev pub scalar_count : Program → Key → ℕ
scalar_count p (key.Object i) = option_map_or scalars_of (slice_get p.objects i) 0
scalar_count p (key.Local f r) = 0
scalar_count p (key.Member s m) = copies_in_ram p s
