-- What the lists of a plan keep.
use Rattle.std.specs.Prelude.{ℕ, ◌+◌, ◌==◌, Bool, true, ◌&&◌, nat_le, nat_lt, List, [], ◌∷◌, length, map}
use Rattle.std.specs.List.{list_all, list_any}
use Rattle.cc_bins.specs.declared.types.Field.{Field}
use Rattle.cc_bins.specs.declared.types.Word.{Word}

-- numbers ascend, and are no less than some number
abbrev pub ascends_from : ℕ → List ℕ → Bool
ascends_from least [] = true
ascends_from least (n ∷ more) = nat_le least n && ascends_from (n + 1) more

abbrev pub ascends : List ℕ → Bool
ascends numbers = ascends_from 0 numbers

abbrev pub slots_of : List Field → List ℕ
slots_of fields = map (λ (f : Field). f.slot) fields

-- each field's word is there
abbrev pub are_in : List Word → List Field → Bool
are_in words fields = list_all (λ (f : Field). nat_lt f.word (length words)) fields

-- each word, from this number on, has a field
abbrev pub are_used : ℕ → List Word → List Field → Bool
are_used number [] fields = true
are_used number (word ∷ words) fields = list_any (λ (f : Field). f.word == number) fields && are_used (number + 1) words fields
