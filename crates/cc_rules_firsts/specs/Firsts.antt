-- Sets of first values: the least ones of a kind that have some values, and one for each of some keys.
use Rattle.std.specs.Prelude.{◌≡◌, ℕ, suc, ℤ, List, [], ◌∷◌, length, Option, Some, slice_get, slice_set}
use Rattle.cc_rules_asked.specs.CcCells.Cells.{scalar_in}
use Rattle.cc_rules_asked.specs.CcLattice.Domains.{IsIntValue}
use Rattle.cc_rules_asked.specs.CcPlaces.declared.abs.Abs.{Abs}
use Rattle.cc_rules_asked.specs.CcPlaces.declared.abs.Abs.TheVariants as abs
use Rattle.cc_rules_asked.specs.CcPlaces.Abstract.{AreOfOneKind, IsBelowAbs, HasValue}
use Rattle.cc_program.specs.declared.value.Value.{Value}
use Rattle.cc_program.specs.declared.value.Value.TheVariants as value
use Rattle.cc_rules_asked.specs.declared.asked.Asked.{Asked}
use Rattle.cc_rules_asked.specs.declared.asked.Asked.TheVariants as asked
use Rattle.cc_rules_asked.specs.CcRulesNeeds.declared.needs.Part.TheVariants.{Values}
use Rattle.cc_rules_asked.specs.CcRulesNeeds.declared.needs.Slot.TheVariants.{Whole}
use Rattle.cc_rules_asked.specs.CcStateFacts.declared.facts.Key.{Key}

-- of numbers, those of C's types may stand in a set
abbrev pub MayStand : Value → Type 0
MayStand (value.Int n) = IsIntValue n
MayStand (value.Place a) = Unit {0}

-- a value of the kind of a set's
abbrev pub IsOfKindOf : {I : Type 0} → Abs I → Value → Type 0
IsOfKindOf (abs.Ints x) (value.Int n) = Unit {0}
IsOfKindOf (abs.Ints x) (value.Place a) = ⊥
IsOfKindOf (abs.Addrs s) (value.Int n) = ⊥
IsOfKindOf (abs.Addrs s) (value.Place a) = Unit {0}

abbrev pub FitsIn : {I : Type 0} → Abs I → Value → Type 0
FitsIn x v = MayStand v × IsOfKindOf x v

-- an empty set of a kind
pub record IsNoneOf {I : Type 0} (below : I → I → Type 0) (kind x : Abs I) : Type 0 where
  pub alike : AreOfOneKind kind x
  pub least : (u : Abs I) → AreOfOneKind kind u → IsBelowAbs below x u

module _ {I : Type 0} (has : I → ℤ → Type 0) (below : I → I → Type 0) where
  -- the least set that has a value
  pub record IsLeastWith (v : Value) (x : Abs I) : Type 0 where
    pub has_it : HasValue has x v
    pub least : (u : Abs I) → HasValue has u v → IsBelowAbs below x u

  -- the least set above another one that has some values
  pub record IsWith (from : Abs I) (image : Value → Type 0) (y : Abs I) : Type 0 where
    pub alike : AreOfOneKind from y
    pub above : IsBelowAbs below from y
    pub has_all : (v : Value) → image v → HasValue has y v
    pub least : (u : Abs I) → IsBelowAbs below from u → ((v : Value) → image v → HasValue has u v) → IsBelowAbs below y u

  -- the least set of a kind that has some values
  pub record IsLeastOf (kind : Abs I) (image : Value → Type 0) (y : Abs I) : Type 0 where
    pub alike : AreOfOneKind kind y
    pub has_all : (v : Value) → image v → HasValue has y v
    pub least : (u : Abs I) → AreOfOneKind kind u → ((v : Value) → image v → HasValue has u v) → IsBelowAbs below y u

  -- one of some sets gets a value
  pub record IsPutAt (number : ℕ) (v : Value) (old new : List (Abs I)) : Type 0 where
    pub set : Abs I
    pub there : slice_get old number ≡ Some set
    pub both : Abs I
    pub with_it : IsWith set (λ w. w ≡ v) both
    pub is : new ≡ slice_set old number both

-- ---- sets, one for each of some keys

-- empty ones of the kinds of others
pub record AreNoneOf {I : Type 0} (below : I → I → Type 0) (kinds : List (Abs I)) (count : ℕ) (sets : List (Abs I)) : Type 0 where
  pub so_many : length sets ≡ count
  pub each : (m : ℕ) (kind x : Abs I) → slice_get kinds m ≡ Some kind → slice_get sets m ≡ Some x → IsNoneOf below kind x

module _ {I : Type 0} (all : List Key) where
  -- what an image has of a key may stand in the set of that
  abbrev pub MayGetAll : (Key → Value → Type 0) → List (Abs I) → Type 0
  MayGetAll image sets = (m : ℕ) (k : Key) (x : Abs I) (v : Value) → slice_get all m ≡ Some k → slice_get sets m ≡ Some x → image k v → FitsIn x v

  module _ (has : I → ℤ → Type 0) (below : I → I → Type 0) where
    -- the set of each key gets what the image has of it
    pub record AreWith (image : Key → Value → Type 0) (old new : List (Abs I)) : Type 0 where
      pub count : length new ≡ length old
      pub each : (m : ℕ) (k : Key) (x y : Abs I) → slice_get all m ≡ Some k → slice_get old m ≡ Some x → slice_get new m ≡ Some y → IsWith has below x (image k) y

    -- the least ones that have it, of the kinds of others
    pub record AreLeastOf (kinds : List (Abs I)) (image : Key → Value → Type 0) (sets : List (Abs I)) : Type 0 where
      pub count : length sets ≡ length kinds
      pub each : (m : ℕ) (k : Key) (kind y : Abs I) → slice_get all m ≡ Some k → slice_get kinds m ≡ Some kind → slice_get sets m ≡ Some y → IsLeastOf has below kind (image k) y

-- that the whole-run sets of the keys from one on have these
abbrev pub asked_of_sets : {I : Type 0} → ℕ → List (Abs I) → List (Asked I)
asked_of_sets n [] = []
asked_of_sets n (y ∷ sets) = asked.Part (Whole n) (Values (Some y)) ∷ asked_of_sets (suc n) sets

-- ---- the values of a key

-- a scalar of this key, and its value
abbrev pub IsOwn : Key → Option Value → Key → Value → Type 0
IsOwn own its k v = (own ≡ k) × (its ≡ Some v)

-- where each scalar of an object has a key and a value
abbrev pub IsAmong : List Key → List Value → Key → Value → Type 0
IsAmong keys values k v = (n : ℕ) × (slice_get keys n ≡ Some k) × (slice_get values n ≡ Some v)

-- of all objects
abbrev pub IsFirstIn : List (List Key) → List (List Value) → Key → Value → Type 0
IsFirstIn keys values k v = (i n : ℕ) × (scalar_in keys i n ≡ Some k) × (scalar_in values i n ≡ Some v)
