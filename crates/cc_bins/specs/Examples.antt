-- Slots whose placing is known.
use Rattle.std.specs.Prelude.{ℕ, List, [], ◌∷◌}
use Rattle.cc_bins.specs.declared.types.Want.{Want}
use Rattle.cc_bins.specs.declared.types.Field.{Field}
use Rattle.cc_bins.specs.declared.types.Bins.{Bins}

-- a slot of group 0 that takes one byte
abbrev pub want : ℕ → ℕ → Want
want slot bits = record { group = 0; slot = slot; bits = bits; bytes = 1 }

abbrev pub four : List Want
four = want 0 4 ∷ want 1 2 ∷ want 2 2 ∷ want 3 1 ∷ []

abbrev pub field : ℕ → ℕ → Field
field slot shift = record { slot = slot; word = 0; shift = shift }

abbrev pub one_word : Bins
one_word = record { words = record { group = 0; bits = 8 } ∷ []; fields = field 0 0 ∷ field 1 4 ∷ field 2 6 ∷ [] }
