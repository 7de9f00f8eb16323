-- How the first word with room is found: a twin of the code.
use Rattle.std.specs.Prelude.{◌==◌, ℕ, suc, Bool, List, [], ◌∷◌, if◌then◌else◌}
use Rattle.cc_bins.specs.declared.types.Want.{Want}
use Rattle.cc_bins.specs.declared.open_words.Open.{Open}
use Rattle.cc_bins.specs.declared.placing.Cursor.{Cursor}
use Rattle.cc_bins.specs.Placing.{has_room}

-- the place of the first word that passes a test, or how many words there are
abbrev pub first : (Open → Bool) → List Open → ℕ
first test [] = 0
first test (word ∷ words) = if test word then 0 else suc (first test words)

abbrev pub room_at : Want → List Open → ℕ
room_at want words = first (has_room want.group want.bits) words

-- where the search begins for a slot behind others, of so many words
abbrev pub moved_to : Cursor → Want → ℕ → Cursor
moved_to cursor want count =
    if cursor.group == want.group then (if cursor.bits == want.bits then cursor else record { group = want.group; bits = want.bits; start = cursor.start; at = cursor.start })
    else record { group = want.group; bits = want.bits; start = count; at = count }
