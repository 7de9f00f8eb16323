-- Keys: a key names a class of cells, that of a scalar or of all scalars of an array. A member's stands for all objects of its structure.
use Rattle.std.specs.Prelude.{ℕ, ◌==◌, Bool, true, false, not, ◌&&◌, List, [], ◌∷◌, ◌++◌, Option, Some, None, position}
use Rattle.cc_program.specs.declared.func.Func.{Func}
use Rattle.cc_program.specs.declared.object.Object.{Object}
use Rattle.cc_program.specs.declared.program.Program.{Program}
use Rattle.cc_program.specs.declared.types.CType.{CType, fold-CType}
use Rattle.cc_program.specs.declared.types.Shape.{Shape, out-Shape}
use Rattle.cc_program.specs.declared.types.Shape.TheOpen as shape
use Rattle.cc_program.specs.declared.types.Sig.{Sig}
use Rattle.cc_program.specs.declared.types.Structure.{Structure}
use Rattle.cc_program.specs.declared.value.Part.{Part}
use Rattle.cc_program.specs.declared.value.Part.TheVariants as part
use Rattle.cc_program.specs.declared.value.Root.{Root}
use Rattle.cc_program.specs.declared.value.Root.TheVariants as root
use Rattle.cc_state_facts.specs.declared.facts.Key.{Key}
use Rattle.cc_state_facts.specs.declared.facts.Key.TheVariants as key
use Rattle.cc_state_keys.specs.Lists.{made_from, all_from}
use Rattle.cc_eval.specs.CcSyntax.Initial.{step_into}
use Rattle.cc_eval.specs.CcSyntax.Registers.{is_register}
use Rattle.cc_eval.specs.CcSyntax.Types.{Named}
use Rattle.cc_eval.specs.CcSyntax.Values.{PlaceType, DevicePlace, ObjectPlace, FunctionPlace}
use Rattle.cc_eval.specs.Context.{object_type}

-- ---- the keys of a program

-- a scalar, or an array of scalars of any depth
abbrev pub scalars_step : shape.Shape-F Bool Bool (Unit {0}) → Bool
scalars_step shape.Void = false
scalars_step (shape.Int t) = true
scalars_step (shape.Pointer to) = true
scalars_step (shape.Array of n) = of
scalars_step (shape.Struct s) = false
scalars_step (shape.Func sig) = false

unfoldable pub are_scalars : CType → Bool
are_scalars t = fold-CType Bool Bool (Unit {0}) scalars_step (λ t. t.shape) (λ sig. tt) t

abbrev pub has_object_key : ℕ → Object → Bool
has_object_key i o = are_scalars o.ctype

-- a local that is no register
abbrev pub has_local_key : Func → ℕ → Named → Bool
has_local_key f r l = are_scalars l.1 && not (is_register f r)

abbrev pub has_member_key : ℕ → Named → Bool
has_member_key m n = are_scalars n.1

abbrev pub local_keys : ℕ → Func → List Key
local_keys id f = made_from (has_local_key f) (key.Local id) 0 f.locals

abbrev pub member_keys : ℕ → Structure → List Key
member_keys id s = made_from has_member_key (key.Member id) 0 s.members

-- those of the static objects, of the locals and of the members, each kind by its numbers
abbrev pub keys_of : Program → List Key
keys_of p = made_from has_object_key key.Object 0 p.objects ++ (all_from local_keys 0 p.funcs ++ all_from member_keys 0 p.structures)

abbrev pub is_key : Key → Key → Bool
is_key (key.Object i) (key.Object j) = i == j
is_key (key.Local f r) (key.Local g q) = (f == g) && (r == q)
is_key (key.Member s m) (key.Member t n) = (s == t) && (m == n)
is_key _ _ = false

-- the position of a key among them
abbrev pub key_number : Program → Key → Option ℕ
key_number p k = position (is_key k) (keys_of p)

-- ---- the key of a place in an object: that of the last member on the path to it, or else of the object

abbrev pub root_key : Root → Key
root_key (root.Static i) = key.Object i
root_key (root.Auto activation func local) = key.Local func local

abbrev pub structure_shape : shape.Shape-F Shape CType Sig → Option ℕ
structure_shape (shape.Struct s) = Some s
structure_shape shape.Void = None
structure_shape (shape.Int t) = None
structure_shape (shape.Pointer to) = None
structure_shape (shape.Array of n) = None
structure_shape (shape.Func sig) = None

-- the structure that a place is of
abbrev pub structure_of : PlaceType → Option ℕ
structure_of (DevicePlace constant t) = None
structure_of (ObjectPlace constant volatile t) = structure_shape (out-Shape t.shape)
structure_of (FunctionPlace sig) = None

abbrev pub key_of_member : Option ℕ → ℕ → Key → Key
key_of_member None m before = before
key_of_member (Some s) m before = key.Member s m

abbrev pub key_of_step : Part → PlaceType → Key → Key
key_of_step (part.Index i) a before = before
key_of_step (part.Member m) a before = key_of_member (structure_of a) m before

-- along a path from a place of this type, where the key so far is this
abbrev pub key_along : List Structure → List Part → Option PlaceType → Key → Key
key_along structures path None before = before
key_along structures [] (Some a) before = before
key_along structures (step ∷ path) (Some a) before = key_along structures path (step_into structures step a) (key_of_step step a before)

-- the key of the cell to which a path leads in an object of a program
abbrev pub cell_key : Program → Root → List Part → Key
cell_key p object path = key_along p.structures path (object_type p object) (root_key object)
