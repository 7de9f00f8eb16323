-- How slots are placed in words: in order, each into the first open word of its group with room.
use Rattle.std.specs.Prelude.{◌≡◌, ◌+◌, ◌/◌, ◌++◌, ◌&&◌, ◌==◌, ℕ, Bool, List, [], ◌∷◌, fold, filter, map, sum_by, nat_lt, nat_le, if◌then◌else◌, IsPermutation, IsSorted}
use Rattle.std.specs.declared.cmp.Ordering.{Ordering}
use Rattle.std.specs.Ordering.{nat_cmp, ordering_then}
use Rattle.cc_bins.specs.declared.types.Want.{Want}
use Rattle.cc_bins.specs.declared.types.Word.{Word}
use Rattle.cc_bins.specs.declared.types.Field.{Field}
use Rattle.cc_bins.specs.declared.types.Bins.{Bins}
use Rattle.cc_bins.specs.declared.open_words.Open.{Open}
use Rattle.cc_bins.specs.declared.open_words.Placed.{Placed}

-- the order of placing: by group, in a group by bits descending, then by slot
abbrev pub place_order : Want → Want → Ordering
place_order x y = ordering_then (ordering_then (nat_cmp x.group y.group) (nat_cmp y.bits x.bits)) (nat_cmp x.slot y.slot)

-- a word has room for a slot of its own group where enough bits are free
abbrev pub has_room : ℕ → ℕ → Open → Bool
has_room group bits word = (word.group == group) && nat_le (word.used + bits) word.bits

abbrev pub placed_at : ℕ → Want → Placed
placed_at shift want = record { want = want; shift = shift }

-- a word with one slot more, at its lowest free bits
abbrev pub with_slot : Open → Want → Open
with_slot word want = record { group = word.group; bits = word.bits; used = word.used + want.bits; slots = word.slots ++ placed_at word.used want ∷ [] }

-- a word has 8 bits, or 16 where it is opened for a slot of more than 8
abbrev pub word_bits : ℕ → ℕ
word_bits bits = if nat_le bits 8 then 8 else 16

-- the word that is opened for a slot
abbrev pub opened : Want → Open
opened want = record { group = want.group; bits = word_bits want.bits; used = want.bits; slots = placed_at 0 want ∷ [] }

-- a slot goes into the first word with room, or into a new one
abbrev pub put : List Open → Want → List Open
put [] want = opened want ∷ []
put (word ∷ words) want = if has_room want.group want.bits word then with_slot word want ∷ words else (word ∷ put words want)

-- the words that are opened for slots in order
abbrev pub opens : List Want → List Open
opens order = fold put [] order

-- a word saves where it has fewer bytes than its slots together; one that does not is dissolved
abbrev pub saves : Open → Bool
saves word = nat_lt (word.bits / 8) (sum_by (λ placed. placed.want.bytes) word.slots)

abbrev pub word_of : Open → Word
word_of word = record { group = word.group; bits = word.bits }

abbrev pub field_of : ℕ → Placed → Field
field_of word placed = record { slot = placed.want.slot; word = word; shift = placed.shift }

-- the fields of words, the first of which has this number
abbrev pub fields_from : ℕ → List Open → List Field
fields_from number [] = []
fields_from number (word ∷ words) = map (field_of number) word.slots ++ fields_from (number + 1) words

-- the words that save, and their fields
abbrev pub bins_of : List Open → Bins
bins_of words = record { words = map word_of (filter saves words); fields = fields_from 0 (filter saves words) }

-- what is placed when the slots come in order
pub record IsPlacing (wants : List Want) (bins : Bins) : Type 0 where
  pub order : List Want
  pub permuted : IsPermutation wants order
  pub sorted : IsSorted place_order order
  pub placed : bins ≡ bins_of (opens order)
