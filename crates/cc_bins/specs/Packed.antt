-- What the words that are opened for slots keep.
use Rattle.std.specs.Prelude.{◌≡◌, ◌≢◌, ◌≤◌, ◌+◌, ◌++◌, ◌⊎◌, ℕ, List, [], ◌∷◌, All, AllPairs}
use Rattle.cc_bins.specs.declared.types.Want.{Want}
use Rattle.cc_bins.specs.declared.open_words.Open.{Open}
use Rattle.cc_bins.specs.declared.open_words.Placed.{Placed}
use Rattle.cc_bins.specs.Placing.{with_slot, opened}

-- no two slots have one number
abbrev pub AreApart : List Want → Type 0
AreApart wants = AllPairs (λ x y. x.slot ≢ y.slot) wants

-- a slot has room in a word
pub record HasRoom (want : Want) (word : Open) : Type 0 where
  pub of_group : word.group ≡ want.group
  pub bits : word.used + want.bits ≤ word.bits

abbrev pub HasNoRoom : Want → Open → Type 0
HasNoRoom want word = HasRoom want word → ⊥

-- words, and what they become: the slot joins a word, where no earlier one has room, or opens one, where none has room
pub data GoesFirst (want : Want) : List Open → List Open → Type 0 where
  Joins : (before : List Open) (word : Open) (behind : List Open) → All (HasNoRoom want) before → HasRoom want word → GoesFirst want (before ++ word ∷ behind) (before ++ with_slot word want ∷ behind)
  Opens : (words : List Open) → All (HasNoRoom want) words → GoesFirst want words (words ++ opened want ∷ [])

-- slots lie one behind the other, from one bit up to another
abbrev pub Follow : ℕ → List Placed → ℕ → Type 0
Follow from [] to = from ≡ to
Follow from (placed ∷ rest) to = (placed.shift ≡ from) × Follow (from + placed.want.bits) rest to

-- the slots of a word are of its group, do not overlap, and end within it
pub record IsPacked (word : Open) : Type 0 where
  pub of_group : All (λ placed. placed.want.group ≡ word.group) word.slots
  pub apart : Follow 0 word.slots word.used
  pub within : word.used ≤ word.bits
  pub sized : (word.bits ≡ 8) ⊎ (word.bits ≡ 16)
