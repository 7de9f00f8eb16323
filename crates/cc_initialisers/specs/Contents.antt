-- What an object of a type consists of: its scalars, in the order of paths (C99 6.2.5, 20 and 21).
use Rattle.std.specs.Prelude.{ℕ, zero, suc, Bool, ◌||◌, List, [], ◌∷◌, map, length, Option, Some, None, slice_get}
use Rattle.cc_program.specs.declared.types.CType.{CType, fold-CType}
use Rattle.cc_program.specs.declared.types.Shape.{Shape, out-Shape}
use Rattle.cc_program.specs.declared.types.Shape.TheOpen as shape
use Rattle.cc_program.specs.declared.types.Sig.{Sig}
use Rattle.cc_program.specs.declared.types.Structure.{Structure}
use Rattle.cc_operands.specs.CcSyntax.Types.{Named}
use Rattle.cc_operands.specs.CcSyntax.Values.{ValueType, Integer, pointer_to}

-- a scalar, whether it is const, and the type of its value; so many elements; members
pub data Contents : Type 0 where
  Scalar : Bool → ValueType → Contents
  Elements : ℕ → Contents → Contents
  NoMember : Contents
  Members : Contents → Contents → Contents

-- of an object, which may be part of a const one
abbrev pub Inside : Type 0
Inside = Bool → Contents

abbrev pub nothing_inside : Inside
nothing_inside = λ constant. NoMember

-- of an object of a type with such a shape
abbrev pub ShapeInside : Type 0
ShapeInside = shape.Shape-F Shape CType Sig → Inside

abbrev pub pointer_inside : ShapeInside
pointer_inside (shape.Pointer to) = λ constant. Scalar constant (pointer_to to)
pointer_inside _ = nothing_inside

abbrev pub elements_inside : (CType → Inside) → ShapeInside
elements_inside of (shape.Array t n) = λ constant. Elements n (of t constant)
elements_inside of _ = nothing_inside

-- over the contents of structures, by number
module _ (structures : ℕ → Inside) where
  abbrev pub shape_inside : shape.Shape-F ShapeInside (CType → Inside) (Unit {0}) → ShapeInside
  shape_inside shape.Void = λ s. nothing_inside
  shape_inside (shape.Int t) = λ s constant. Scalar constant (Integer t)
  shape_inside (shape.Pointer to) = pointer_inside
  shape_inside (shape.Array of n) = elements_inside of
  shape_inside (shape.Struct i) = λ s. structures i
  shape_inside (shape.Func sig) = λ s. nothing_inside

  abbrev pub type_inside : shape.CType-F ShapeInside (CType → Inside) (Unit {0}) → CType → Inside
  type_inside t u = λ constant. t.shape (out-Shape u.shape) (constant || t.constant)

  unfoldable pub contents_over : CType → Inside
  contents_over t = fold-CType ShapeInside (CType → Inside) (Unit {0}) shape_inside type_inside (λ s. tt) t t

-- of a structure with such members
abbrev pub of_members : List Inside → Inside
of_members [] = nothing_inside
of_members (m ∷ ms) = λ constant. Members (m constant) (of_members ms constant)

abbrev pub members_at : Option Structure → List Named
members_at None = []
members_at (Some s) = s.members

-- structures nest at most as deep as there are some, since none contains itself (6.7.2.1, 2)
abbrev pub structure_inside : List Structure → ℕ → ℕ → Inside
structure_inside structures zero i = nothing_inside
structure_inside structures (suc depth) i = of_members (map (λ m. contents_over (structure_inside structures depth) m.1) (members_at (slice_get structures i)))

abbrev pub contents : List Structure → CType → Inside
contents structures t = contents_over (structure_inside structures (length structures)) t
