-- How many bytes an object of a type takes, and where it may stand: at addresses that its alignment
-- divides (C99 3.2, 6.5.3.4, 6.7.2.1).
use Rattle.std.specs.Prelude.{◌≡◌, ◌≤◌, ◌<◌, ◌^◌, ◌⊎◌, ℕ, ◌+◌, ◌*◌, ◌%◌, min, max, true, List, [], ◌∷◌, ◌++◌, All, length, fold, map, unwrap_or, slice_get}
use Rattle.std.specs.Int.{next_multiple_of}
use Rattle.cc_program.specs.CcNum.declared.target.Target.{Target}
use Rattle.cc_program.specs.CcNum.Integers.{bytes_of}
use Rattle.cc_program.specs.declared.program.Program.{Program}
use Rattle.cc_program.specs.declared.types.CType.{CType, fold-CType}
use Rattle.cc_program.specs.declared.types.Shape.TheOpen as shape
use Rattle.cc_program.specs.declared.types.Structure.{Structure}
use Rattle.cc_syntax.specs.Types.{Named, is_complete, IsInOrder, IsPart, AreShort}
use Rattle.cc_syntax.specs.declared.sizes.Layout.{Layout}

-- what is an alignment of this profile
abbrev pub IsAlign : ℕ → Type 0
IsAlign a = (a ≡ 1) ⊎ ((a ≡ 2) ⊎ (a ≡ 4))

-- the first place from n on that the alignment divides
unfoldable pub aligned : ℕ → ℕ → ℕ
aligned align n = next_multiple_of n align

-- the end of what stands behind others that end at n
abbrev pub end_behind : ℕ → Layout → ℕ
end_behind n object = aligned object.align n + object.size

-- where objects stand that lie in order from n on, each at its alignment behind the one before
abbrev pub places_from : ℕ → List Layout → List ℕ
places_from n [] = []
places_from n (object ∷ objects) = aligned object.align n ∷ places_from (end_behind n object) objects

-- places of objects from n on, each at its alignment and behind the end of the one before
abbrev pub ArePlaced : ℕ → List Layout → List ℕ → Type 0
ArePlaced n [] [] = Unit {0}
ArePlaced n (object ∷ objects) (place ∷ places) = (n ≤ place) × (place % object.align ≡ 0) × ArePlaced (place + object.size) objects places
ArePlaced n [] (place ∷ places) = ⊥
ArePlaced n (object ∷ objects) [] = ⊥

-- none of them is above the one that it stands beside
abbrev pub NoneAbove : List ℕ → List ℕ → Type 0
NoneAbove [] [] = Unit {0}
NoneAbove (a ∷ these) (b ∷ those) = (a ≤ b) × NoneAbove these those
NoneAbove [] (b ∷ those) = ⊥
NoneAbove (a ∷ these) [] = ⊥

-- the end of the last of objects that lie so from 0 on
abbrev pub end_of : List Layout → ℕ
end_of objects = fold end_behind 0 objects

abbrev pub greatest_align : List Layout → ℕ
greatest_align objects = fold (λ align object. max align object.align) 1 objects

-- a structure: its members lie so, and its size is rounded up to its greatest member alignment
unfoldable pub structure : List Layout → Layout
structure members = record { size = aligned (greatest_align members) (end_of members); align = greatest_align members }

-- a scalar's alignment is the smaller of its size and the greatest alignment
abbrev pub scalar : ℕ → Target → Layout
scalar size target = record { size = size; align = min size target.align_max }

-- of a type that has no objects
abbrev pub nothing : Layout
nothing = record { size = 0; align = 1 }

module _ (target : Target) where
  -- of a type over structures whose layouts are known; an array is its elements one behind another
  abbrev pub shape_layout : List Layout → shape.Shape-F Layout Layout (Unit {0}) → Layout
  shape_layout structures shape.Void = nothing
  shape_layout structures (shape.Int t) = scalar (bytes_of t target) target
  shape_layout structures (shape.Pointer t) = scalar target.pointer_bytes target
  shape_layout structures (shape.Array t n) = record { size = n * t.size; align = t.align }
  shape_layout structures (shape.Struct s) = unwrap_or (slice_get structures s) nothing
  shape_layout structures (shape.Func s) = nothing

  unfoldable pub type_layout : List Layout → CType → Layout
  type_layout structures t = fold-CType Layout Layout (Unit {0}) (shape_layout structures) (λ t. t.shape) (λ s. tt) t

  -- of a structure behind others
  abbrev pub next_layout : List Layout → Structure → Layout
  next_layout before s = structure (map (λ m. type_layout before m.1) s.members)

  -- of all structures: each stands on those before it
  unfoldable pub layouts : List Structure → List Layout
  layouts structures = fold (λ before s. before ++ next_layout before s ∷ []) [] structures

abbrev pub layout_of : CType → List Structure → Target → Layout
layout_of t structures target = type_layout target (layouts target structures) t

abbrev pub size_of : CType → List Structure → Target → ℕ
size_of t structures target = (layout_of t structures target).size

abbrev pub align_of : CType → List Structure → Target → ℕ
align_of t structures target = (layout_of t structures target).align

-- each element and member type in a type has at most 2 ^ 32 - 1 bytes
abbrev pub HasSmallParts : CType → List Structure → Target → Type 0
HasSmallParts t structures target = (part : CType) → IsPart structures part t → size_of part structures target ≤ 4294967295

-- what has a size that 64 bits hold
pub record HasSize (t : CType) (structures : List Structure) (target : Target) : Type 0 where
  pub complete : is_complete structures t ≡ true
  pub in_order : IsInOrder structures
  pub short : AreShort structures
  pub small : HasSmallParts t structures target

-- what may be an element, a member or an object of its own
pub record IsSmall (t : CType) (structures : List Structure) (target : Target) : Type 0 where
  pub sized : HasSize t structures target
  pub bytes : size_of t structures target ≤ 4294967295

-- what each program keeps whose objects have sizes: ids are of 32 bits
pub record HasSizes (p : Program) : Type 0 where
  pub objects : All (λ object. IsSmall object.ctype p.structures p.target) p.objects
  pub few : length p.objects < 2 ^ 32

-- the layouts of members
abbrev pub member_layouts : List Named → List Structure → Target → List Layout
member_layouts members structures target = map (λ m. layout_of m.1 structures target) members
