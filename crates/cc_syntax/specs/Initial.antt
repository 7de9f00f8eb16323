-- The first values of static objects, over a view (C99 6.7.8, 6.6).
use Rattle.std.specs.Prelude.{◌≡◌, ℕ, suc, ℤ, pos, Bool, true, false, ◌&&◌, ◌||◌, ◌⊎◌, nat_eq, nat_le, nat_lt, List, [], ◌∷◌, Option, Some, None, slice_get, if◌then◌else◌, not}
use Rattle.std.specs.List.{list_all}
use Rattle.std.specs.Ordering.{int_eq}
use Rattle.cc_program.specs.CcNum.declared.int_type.IntType.{IntType}
use Rattle.cc_program.specs.CcNum.Integers.{is_value_of}
use Rattle.cc_program.specs.declared.types.CType.{CType}
use Rattle.cc_program.specs.declared.types.Shape.{Shape, out-Shape}
use Rattle.cc_program.specs.declared.types.Shape.TheOpen as shape
use Rattle.cc_program.specs.declared.types.Sig.{Sig}
use Rattle.cc_program.specs.declared.types.Structure.{Structure}
use Rattle.cc_program.specs.declared.value.Address.{Address}
use Rattle.cc_program.specs.declared.value.Address.TheVariants as address
use Rattle.cc_program.specs.declared.value.Leaf.{Leaf}
use Rattle.cc_program.specs.declared.value.Leaf.TheVariants as leaf
use Rattle.cc_program.specs.declared.value.Part.{Part}
use Rattle.cc_program.specs.declared.value.Part.TheVariants as part
use Rattle.cc_program.specs.declared.value.Root.{Root}
use Rattle.cc_program.specs.declared.value.Root.TheVariants as root
use Rattle.cc_syntax.specs.Expressions.{of_one}
use Rattle.cc_syntax.specs.Lists.{is_count}
use Rattle.cc_syntax.specs.Types.{Named}
use Rattle.cc_syntax.specs.Values.{ValueType, PlaceType, DevicePlace, ObjectPlace, FunctionPlace, pointer_to, address_of, element_of, member_of, is_assignable_some}
use Rattle.cc_syntax.specs.Views.{View}

-- how many elements an array has
abbrev pub bound_shape : shape.Shape-F Shape CType Sig → Option ℕ
bound_shape (shape.Array of n) = Some n
bound_shape shape.Void = None
bound_shape (shape.Int t) = None
bound_shape (shape.Pointer to) = None
bound_shape (shape.Struct s) = None
bound_shape (shape.Func sig) = None

abbrev pub bound_of : PlaceType → Option ℕ
bound_of (DevicePlace constant t) = None
bound_of (ObjectPlace constant volatile t) = bound_shape (out-Shape t.shape)
bound_of (FunctionPlace sig) = None

abbrev pub is_below : ℕ → Option ℕ → Bool
is_below i None = false
is_below i (Some n) = nat_lt i n

-- the place to which a path leads
abbrev pub step_into : List Structure → Part → PlaceType → Option PlaceType
step_into structures (part.Member m) a = member_of structures m a
step_into structures (part.Index i) a = if is_below i (bound_of a) then element_of a else None

abbrev pub place_at : List Structure → List Part → PlaceType → Option PlaceType
place_at structures [] a = Some a
place_at structures (step ∷ path) a = of_one (step_into structures step a) (place_at structures path)

-- an address behind a place: of an element of the array there, or of what is there, an array of one where it
-- is no element itself (6.5.6, 7)
abbrev pub leads_to_element : List Part → Bool
leads_to_element [] = false
leads_to_element (part.Index i ∷ []) = true
leads_to_element (part.Member m ∷ []) = false
leads_to_element (step ∷ next ∷ path) = leads_to_element (next ∷ path)

abbrev pub names_element : ValueType → ℕ → ℕ → PlaceType → Bool
names_element to index count a = is_count count (bound_of a) && (nat_le index count && is_assignable_some (Some to) (of_one (element_of a) address_of))

abbrev pub names_whole : ValueType → List Part → ℕ → ℕ → PlaceType → Bool
names_whole to path index count a = not (leads_to_element path) && (nat_eq count 1 && (nat_le index 1 && is_assignable_some (Some to) (address_of a)))

abbrev pub names : ValueType → List Part → ℕ → ℕ → Option PlaceType → Bool
names to path index count None = false
names to path index count (Some a) = names_element to index count a || names_whole to path index count a

-- zero or null
abbrev pub is_zero : Leaf → Bool
is_zero (leaf.Int n) = int_eq n (pos 0)
is_zero (leaf.Place address.Null) = true
is_zero (leaf.Place (address.Func f)) = false
is_zero (leaf.Place (address.At object path index count)) = false

module _ (v : View) where
  abbrev pub static_place : Root → Option PlaceType
  static_place (root.Static i) = v.statics i
  static_place (root.Auto activation func local) = None

  -- an address constant of a pointer type (6.6, 9): null, a function that is no handler, or an address in a static object
  abbrev pub is_address : ValueType → Address → Bool
  is_address to address.Null = true
  is_address to (address.Func f) = is_assignable_some (Some to) (v.functions f)
  is_address to (address.At object path index count) = names to path index count (of_one (static_place object) (place_at v.structures path))

  mutual
    -- leaves for the scalars of a type, in order of path, in front of further ones
    pub data AreLeaves : CType → List Leaf → List Leaf → Type 0 where
      OfInteger : (t : CType) (i : IntType) (n : ℤ) (rest : List Leaf) → out-Shape t.shape ≡ shape.Int i → is_value_of i v.target n ≡ true → AreLeaves t (leaf.Int n ∷ rest) rest
      OfPointer : (t to : CType) (a : Address) (rest : List Leaf) → out-Shape t.shape ≡ shape.Pointer to → is_address (pointer_to to) a ≡ true → AreLeaves t (leaf.Place a ∷ rest) rest
      OfArray : (t of : CType) (n : ℕ) (leaves rest : List Leaf) → out-Shape t.shape ≡ shape.Array of n → AreElements of n leaves rest → AreLeaves t leaves rest
      OfStructure : (t : CType) (i : ℕ) (s : Structure) (leaves rest : List Leaf) → out-Shape t.shape ≡ shape.Struct i → slice_get v.structures i ≡ Some s → AreMembers s.members leaves rest → AreLeaves t leaves rest

    -- for so many elements of a type
    pub data AreElements : CType → ℕ → List Leaf → List Leaf → Type 0 where
      NoElement : (of : CType) (rest : List Leaf) → AreElements of 0 rest rest
      Element : (of : CType) (n : ℕ) (leaves between rest : List Leaf) → AreLeaves of leaves between → AreElements of n between rest → AreElements of (suc n) leaves rest

    pub data AreMembers : List Named → List Leaf → List Leaf → Type 0 where
      NoMember : (rest : List Leaf) → AreMembers [] rest rest
      Member : (m : Named) (ms : List Named) (leaves between rest : List Leaf) → AreLeaves m.1 leaves between → AreMembers ms between rest → AreMembers (m ∷ ms) leaves rest

  -- there are leaves exactly where one of them is not zero (6.7.8, 10)
  abbrev pub IsInitial : CType → List Leaf → Type 0
  IsInitial t leaves = (leaves ≡ []) ⊎ (AreLeaves t leaves [] × (list_all is_zero leaves ≡ false))
