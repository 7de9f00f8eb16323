-- Types and targets whose layouts are known.
use Rattle.std.specs.Prelude.{ℕ, true, false, refl, List, [], ◌∷◌, codes}
use Rattle.cc_program.specs.CcNum.declared.int_type.IntType.TheVariants as int
use Rattle.cc_program.specs.CcNum.declared.target.Target.{Target}
use Rattle.cc_program.specs.declared.types.CType.{CType}
use Rattle.cc_program.specs.declared.types.Shape.{Shape, Int, Pointer, Array, Struct}
use Rattle.cc_program.specs.declared.types.Structure.{Structure}

-- `int` of 4 bytes, pointers of 2, and the greatest alignment 4
abbrev pub wide : Target
wide = record { int_bytes = 4; pointer_bytes = 2; char_signed = true; align_max = 4; atomic_bytes = 1; int = refl; pointer = refl; align = refl; atomic = refl }

-- the same with the greatest alignment 1
abbrev pub packed : Target
packed = record { int_bytes = 4; pointer_bytes = 2; char_signed = true; align_max = 1; atomic_bytes = 1; int = refl; pointer = refl; align = refl; atomic = refl }

abbrev pub plain : Shape → CType
plain shape = record { constant = false; volatile = false; shape = shape }

abbrev pub char : CType
char = plain (Int int.Char)

abbrev pub integer : CType
integer = plain (Int int.Int)

-- to char
abbrev pub pointer : CType
pointer = plain (Pointer char)

abbrev pub array : CType → ℕ → CType
array t n = plain (Array t n)

abbrev pub struct : ℕ → CType
struct i = plain (Struct i)

-- struct s { char a; int b; char c; };
abbrev pub mixed : Structure
mixed = record { tag = codes "s"; members = (codes "a", char) ∷ (codes "b", integer) ∷ (codes "c", char) ∷ [] }

-- struct t { char a; struct s b; char *c; };
abbrev pub nested : Structure
nested = record { tag = codes "t"; members = (codes "a", char) ∷ (codes "b", struct 0) ∷ (codes "c", pointer) ∷ [] }

abbrev pub both : List Structure
both = mixed ∷ nested ∷ []
