-- Values that scalars of objects with static storage duration have at first, and which objects have such (C99 6.6, 9; 6.7.8).
use Rattle.std.specs.Prelude.{◌≡◌, ℕ, true, List, [], ◌∷◌, Some, slice_get}
use Rattle.cc_sound_declarations.specs.Scalars.{OneScalar}
use Rattle.cc_program.specs.CcNum.Integers.{is_value_of}
use Rattle.cc_program.specs.declared.types.CType.{CType}
use Rattle.cc_program.specs.declared.types.Structure.{Structure}
use Rattle.cc_program.specs.declared.value.Leaf.{Leaf}
use Rattle.cc_program.specs.declared.value.Leaf.TheVariants as leaf
use Rattle.cc_type.specs.CcScopes.State.{KnownStructure}
use Rattle.cc_type.specs.CcScopes.declared.unit.Declared.{Declared}
use Rattle.cc_sound_terms.specs.Ordered.{HasMembers}
use Rattle.cc_type.specs.CcSyntax.Initial.{IsInitial, is_address}
use Rattle.cc_type.specs.CcSyntax.Types.{Named}
use Rattle.cc_type.specs.CcSyntax.Values.{ValueType, NoValue, Integer, ToObject, ToFunction}
use Rattle.cc_type.specs.CcSyntax.Views.{View}
use Rattle.cc_type.specs.CcUnit.declared.unit.UnitKind.{UnitKind}
use Rattle.cc_type.specs.CcUnit.declared.unit.UnitKind.TheVariants as kind

module _ (v : View) where
  -- a value of the type: an integer, or an address constant
  abbrev pub IsFirst : ValueType → Leaf → Type 0
  IsFirst NoValue l = ⊥
  IsFirst (Integer i) (leaf.Int n) = is_value_of i v.target n ≡ true
  IsFirst (Integer i) (leaf.Place a) = ⊥
  IsFirst (ToObject constant volatile t) (leaf.Int n) = ⊥
  IsFirst (ToObject constant volatile t) (leaf.Place a) = is_address v (ToObject constant volatile t) a ≡ true
  IsFirst (ToFunction sig) (leaf.Int n) = ⊥
  IsFirst (ToFunction sig) (leaf.Place a) = is_address v (ToFunction sig) a ≡ true

  -- one for each scalar
  abbrev pub AreFirst : List OneScalar → List Leaf → Type 0
  AreFirst [] [] = Unit {0}
  AreFirst (s ∷ ss) (l ∷ ls) = IsFirst s.1 l × AreFirst ss ls
  AreFirst [] (l ∷ ls) = ⊥
  AreFirst (s ∷ ss) [] = ⊥

  -- the view has the members that structures have
  abbrev pub HasContent : ℕ → List Named → Type 0
  HasContent i ms = (c : Structure) × (slice_get v.structures i ≡ Some c) × (c.members ≡ ms)

  abbrev pub HasContents : List KnownStructure → Type 0
  HasContents structures = (i : ℕ) (ms : List Named) → HasMembers structures i ms → HasContent i ms

  -- what has a place in memory of its own, an object with first values of its type
  abbrev pub HasInitial : CType → UnitKind → Type 0
  HasInitial t (kind.Object leaves) = IsInitial v t leaves
  HasInitial t (kind.Device d) = Unit {0}
  HasInitial t (kind.Func entry body) = Unit {0}

  abbrev pub AreInitial : List Declared → Type 0
  AreInitial names = (i : ℕ) (d : Declared) → slice_get names i ≡ Some d → HasInitial d.ctype d.kind
