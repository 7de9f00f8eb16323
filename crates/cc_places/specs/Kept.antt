-- What a set of addresses keeps of an address. An automatic one stands for those of all activations, and is
-- kept with the activation 0. A starred one stands for all addresses of its place: every index of it is 0.
use Rattle.std.specs.Prelude.{Bool, true, false, ◌&&◌, ◌==◌, List, map}
use Rattle.std.specs.List.{list_all}
use Rattle.cc_program.specs.declared.value.Root.{Root}
use Rattle.cc_program.specs.declared.value.Root.TheVariants as root
use Rattle.cc_program.specs.declared.value.Part.{Part}
use Rattle.cc_program.specs.declared.value.Part.TheVariants as part
use Rattle.cc_program.specs.declared.value.Address.{Address}
use Rattle.cc_program.specs.declared.value.Address.TheVariants as address

abbrev pub kept_root : Root → Root
kept_root (root.Static object) = root.Static object
kept_root (root.Auto activation func local) = root.Auto 0 func local

abbrev pub kept : Address → Address
kept address.Null = address.Null
kept (address.Func f) = address.Func f
kept (address.At object path index count) = address.At (kept_root object) path index count

abbrev pub starred_part : Part → Part
starred_part (part.Member m) = part.Member m
starred_part (part.Index i) = part.Index 0

abbrev pub starred : Address → Address
starred address.Null = address.Null
starred (address.Func f) = address.Func f
starred (address.At object path index count) = address.At (kept_root object) (map starred_part path) 0 count

-- the member under which an address stands, in a set that is exact or is not
abbrev pub member_for : Bool → Address → Address
member_for true a = kept a
member_for false a = starred a

-- the same, of a part and of a path
abbrev pub part_for : Bool → Part → Part
part_for true p = p
part_for false p = starred_part p

abbrev pub path_for : Bool → List Part → List Part
path_for true path = path
path_for false path = map starred_part path

-- whether an address is one that an exact set keeps
abbrev pub is_kept_root : Root → Bool
is_kept_root (root.Static object) = true
is_kept_root (root.Auto activation func local) = activation == 0

abbrev pub is_kept : Address → Bool
is_kept address.Null = true
is_kept (address.Func f) = true
is_kept (address.At object path index count) = is_kept_root object

-- and one that any other set keeps
abbrev pub is_starred_part : Part → Bool
is_starred_part (part.Member m) = true
is_starred_part (part.Index i) = i == 0

abbrev pub is_starred : Address → Bool
is_starred address.Null = true
is_starred (address.Func f) = true
is_starred (address.At object path index count) = is_kept_root object && (list_all is_starred_part path && index == 0)

abbrev pub is_object : Address → Bool
is_object address.Null = false
is_object (address.Func f) = false
is_object (address.At object path index count) = true
