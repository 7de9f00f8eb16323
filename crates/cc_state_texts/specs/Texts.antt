-- How values are written in tables and reports: integers in decimal, and addresses by the names that the program gives. What the program does not have has no name.
use Rattle.std.specs.Prelude.{ℕ, ℤ, Bool, true, false, ◌&&◌, nat_eq, List, [], ◌∷◌, ◌++◌, map, Option, Some, None, option_map, slice_get, codes, if◌then◌else◌}
use Rattle.std.specs.Fmt.{decimal, signed_decimal}
use Rattle.std.specs.Option.{option_and_then, option_map_or}
use Rattle.cc_places.specs.declared.abs.Abs.{Abs}
use Rattle.cc_places.specs.declared.abs.Abs.TheVariants.{Ints, Addrs}
use Rattle.cc_program.specs.declared.func.Func.{Func}
use Rattle.cc_program.specs.declared.object.Object.{Object}
use Rattle.cc_program.specs.declared.program.Program.{Program}
use Rattle.cc_program.specs.declared.types.CType.{CType}
use Rattle.cc_program.specs.declared.types.Shape.{Shape, out-Shape}
use Rattle.cc_program.specs.declared.types.Shape.TheOpen as shape
use Rattle.cc_program.specs.declared.types.Sig.{Sig}
use Rattle.cc_program.specs.declared.types.Structure.{Structure}
use Rattle.cc_program.specs.declared.value.Address.{Address}
use Rattle.cc_program.specs.declared.value.Address.TheVariants as address
use Rattle.cc_program.specs.declared.value.Part.{Part}
use Rattle.cc_program.specs.declared.value.Part.TheVariants as part
use Rattle.cc_program.specs.declared.value.Root.{Root}
use Rattle.cc_program.specs.declared.value.Root.TheVariants as root

-- a name, and the type of what it names
abbrev pub Named : Type 0
Named = List ℕ × CType

abbrev pub name_of : Option Named → List ℕ
name_of n = option_map_or (λ (n : Named). n.0) n []

abbrev pub type_of : Option Named → Option CType
type_of n = option_map (λ (n : Named). n.1) n

-- ---- indices: that of one element, or `*` for each

abbrev pub index_text : Bool → ℕ → List ℕ
index_text true i = codes "[" ++ decimal i ++ codes "]"
index_text false i = codes "[*]"

-- the last index of an address: it is left off where it is 0 of an array of one
abbrev pub last_text : Bool → ℕ → ℕ → List ℕ
last_text exact index count = if exact && (nat_eq index 0 && nat_eq count 1) then [] else index_text exact index

-- the type of the elements of an array
abbrev pub element_in : shape.Shape-F Shape CType Sig → Option CType
element_in (shape.Array of n) = Some of
element_in (shape.Struct s) = None
element_in shape.Void = None
element_in (shape.Int t) = None
element_in (shape.Pointer to) = None
element_in (shape.Func sig) = None

module _ (p : Program) where
  -- ---- names

  abbrev pub func_name : ℕ → List ℕ
  func_name f = option_map_or (λ (f : Func). f.name) (slice_get p.funcs f) []

  abbrev pub local_at : ℕ → ℕ → Option Named
  local_at func local = option_and_then (λ (f : Func). slice_get f.locals local) (slice_get p.funcs func)

  abbrev pub named_object : Object → Named
  named_object o = (o.name, o.ctype)

  abbrev pub object_at : ℕ → Option Named
  object_at object = option_map named_object (slice_get p.objects object)

  -- a static object by its name, a local with its function behind an `@`
  abbrev pub root_text : Root → List ℕ
  root_text (root.Static object) = name_of (object_at object)
  root_text (root.Auto activation func local) = name_of (local_at func local) ++ codes "@" ++ func_name func

  abbrev pub root_type : Root → Option CType
  root_type (root.Static object) = type_of (object_at object)
  root_type (root.Auto activation func local) = type_of (local_at func local)

  -- ---- paths

  abbrev pub member_at : ℕ → ℕ → Option Named
  member_at structure member = option_and_then (λ (s : Structure). slice_get s.members member) (slice_get p.structures structure)

  abbrev pub member_in : ℕ → shape.Shape-F Shape CType Sig → Option Named
  member_in m (shape.Struct s) = member_at s m
  member_in m shape.Void = None
  member_in m (shape.Int t) = None
  member_in m (shape.Pointer to) = None
  member_in m (shape.Array of n) = None
  member_in m (shape.Func sig) = None

  -- a step into an object of a type, and the type of what it leads to
  abbrev pub step_text : Bool → Part → CType → List ℕ
  step_text exact (part.Member m) t = codes "." ++ name_of (member_in m (out-Shape t.shape))
  step_text exact (part.Index i) t = index_text exact i

  abbrev pub type_behind : Part → CType → Option CType
  type_behind (part.Member m) t = type_of (member_in m (out-Shape t.shape))
  type_behind (part.Index i) t = element_in (out-Shape t.shape)

  abbrev pub path_text : Bool → List Part → Option CType → List ℕ
  path_text exact [] t = []
  path_text exact (s ∷ path) None = []
  path_text exact (s ∷ path) (Some t) = step_text exact s t ++ path_text exact path (type_behind s t)

  -- ---- addresses: one, or where they are not exact each of a place

  unfoldable pub address_text : Bool → Address → List ℕ
  address_text exact address.Null = codes "0"
  address_text exact (address.Func f) = func_name f
  address_text exact (address.At object path index count) = codes "&" ++ root_text object ++ path_text exact path (root_type object) ++ last_text exact index count

-- ---- values: one behind the other, or from the least to the greatest

abbrev pub behind_blanks : List (List ℕ) → List ℕ
behind_blanks [] = []
behind_blanks (w ∷ ws) = codes " " ++ w ++ behind_blanks ws

abbrev pub spaced : List (List ℕ) → List ℕ
spaced [] = []
spaced (w ∷ ws) = w ++ behind_blanks ws

-- numbers: the members of an explicit set, or the ends of a range; the empty set is written as nothing
abbrev pub range_text : Option (ℤ × ℤ) → List ℕ
range_text None = []
range_text (Some ends) = signed_decimal ends.0 ++ codes ".." ++ signed_decimal ends.1

abbrev pub set_text : Option (List ℤ) → Option (ℤ × ℤ) → List ℕ
set_text (Some members) ends = spaced (map signed_decimal members)
set_text None ends = range_text ends

-- of sets of numbers with these members and ends
unfoldable pub values_text : {I : Type 0} → (I → Option (List ℤ)) → (I → Option (ℤ × ℤ)) → Program → Abs I → List ℕ
values_text members ends p (Ints x) = set_text (members x) (ends x)
values_text members ends p (Addrs s) = spaced (map (address_text p s.is_exact) s.members)
