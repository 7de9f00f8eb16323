-- Which types are complete object types, and which types are parts of others (C99 6.2.5).
use Rattle.std.specs.Prelude.{◌≡◌, ◌<◌, ◌^◌, ◌&&◌, ℕ, Bool, true, false, nat_lt, List, length, Option, Some, None, slice_get, take}
use Rattle.std.specs.List.{All, Contains}
use Rattle.cc_program.specs.declared.types.CType.{CType, fold-CType}
use Rattle.cc_program.specs.declared.types.Shape.{out-Shape}
use Rattle.cc_program.specs.declared.types.Shape.TheOpen as shape
use Rattle.cc_program.specs.declared.types.Structure.{Structure}

-- a member of a structure, or a local: its name and its type
abbrev pub Named : Type 0
Named = List ℕ × CType

-- a structure has a content where it has members; else it is only named
abbrev pub has_members : Option Structure → Bool
has_members None = false
has_members (Some s) = nat_lt 0 (length s.members)

module _ (structures : List Structure) where
  abbrev pub complete_shape : shape.Shape-F Bool Bool (Unit {0}) → Bool
  complete_shape shape.Void = false
  complete_shape (shape.Int t) = true
  complete_shape (shape.Pointer t) = true
  complete_shape (shape.Array t n) = nat_lt 0 n && t
  complete_shape (shape.Struct s) = has_members (slice_get structures s)
  complete_shape (shape.Func s) = false

  -- a complete object type: a scalar, an array of some elements of a complete one, a structure with members
  unfoldable pub is_complete : CType → Bool
  is_complete t = fold-CType Bool Bool (Unit {0}) complete_shape (λ t. t.shape) (λ s. tt) t

  -- the types of the elements and members that stand in a type, at any depth
  pub data IsPart : CType → CType → Type 0 where
    Element : (t e : CType) (n : ℕ) → out-Shape t.shape ≡ shape.Array e n → IsPart e t
    Member : (t : CType) (i : ℕ) (s : Structure) (m : Named) → out-Shape t.shape ≡ shape.Struct i → slice_get structures i ≡ Some s → Contains s.members m → IsPart m.1 t
    Inner : (t p q : CType) → IsPart p t → IsPart q p → IsPart q t

-- the members of each structure have complete object types, over the structures before it alone (6.7.2.1, 2)
abbrev pub IsInOrder : List Structure → Type 0
IsInOrder structures = (i : ℕ) (s : Structure) → slice_get structures i ≡ Some s → All (λ m. is_complete (take i structures) m.1 ≡ true) s.members

-- and there are fewer than 2 ^ 32 of them in each
abbrev pub AreShort : List Structure → Type 0
AreShort structures = All (λ s. length s.members < 2 ^ 32) structures
