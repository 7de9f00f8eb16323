-- Numbers in a new order: each once, those that stand in a text first, in the order in which they first stand there.
use Rattle.std.specs.Prelude.{◌≡◌, ℕ, suc, ◌+◌, ◌<◌, Bool, false, ◌&&◌, nat_eq, nat_le, nat_lt, List, [], ◌∷◌, ◌++◌, fold, filter, flat_map, length, Option, Some, None, option_to_list, slice_get, slice_index_or, if◌then◌else◌}
use Rattle.std.specs.List.{list_any}
use Rattle.cc_names.specs.Names.{numbers_from}

-- behind others, unless it is among them
abbrev pub with_one : List ℕ → ℕ → List ℕ
with_one others i = if list_any (nat_eq i) others then others else others ++ i ∷ []

unfoldable pub firsts : List ℕ → List ℕ
firsts text = fold with_one [] text

abbrev pub is_within : ℕ → ℕ → ℕ → Bool
is_within first end i = nat_le first i && nat_lt i end

-- the numbers from `first` up to `end`: those of a text, and the others behind them in their order
abbrev pub ordered : ℕ → ℕ → List ℕ → List ℕ
ordered first end text = firsts (filter (is_within first end) (text ++ numbers_from 0 end))

-- where a number stands in an order whose first place has a number; what does not stand there stays
abbrev pub place_in : ℕ → List ℕ → ℕ → ℕ
place_in place [] i = i
place_in place (j ∷ js) i = if nat_eq i j then place else place_in (suc place) js i

abbrev pub place_or : ℕ → ℕ → Option ℕ → ℕ
place_or first i None = i
place_or first i (Some position) = first + position

-- the elements of a list in an order
abbrev pub arranged : {A : Type 0} → List A → List ℕ → List A
arranged all order = flat_map (λ i. option_to_list (slice_get all i)) order

-- marks of the numbers that an order has
abbrev pub AreSeen : List Bool → List ℕ → Type 0
AreSeen seen order = (i : ℕ) → i < length seen → slice_index_or seen i false ≡ list_any (nat_eq i) order
