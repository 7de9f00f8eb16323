-- Spaces that names are given into, and whether there are numbers enough for new names (C99 6.2.3).
use Rattle.std.specs.Prelude.{◌≡◌, ◌<◌, ◌+◌, ◌^◌, ℕ, Bool, true, false, List}
use Rattle.std.specs.Str.{bytes_eq}
use Rattle.cc_names.specs.Names.{Wish, Own, Numbered, is_among}
use Rattle.cc_words.specs.Names.{is_name}

-- what the first has, the second has too
abbrev pub AreAmong : List (List ℕ) → List (List ℕ) → Type 0
AreAmong xs ys = (x : List ℕ) → is_among x xs ≡ true → is_among x ys ≡ true

-- where so many names are taken, some number of at most 64 digits from 2 on makes a free one
abbrev pub HaveNumbers : ℕ → Type 0
HaveNumbers n = n + 2 < 10 ^ 64

-- what is wished for may name something
abbrev pub is_named : Wish → Bool
is_named (Own x) = is_name x
is_named (Numbered base) = is_name base

-- the name is the one that is wished for
abbrev pub is_own : Wish → List ℕ → Bool
is_own (Own y) x = bytes_eq y x
is_own (Numbered base) x = false
