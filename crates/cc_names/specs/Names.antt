-- Names that are given one after the other, none twice in a space (C99 6.2.3).
use Rattle.std.specs.Prelude.{ℕ, zero, suc, ◌+◌, Bool, not, ◌||◌, List, [], ◌∷◌, ◌++◌, find, length, codes, decimal, unwrap_or, if◌then◌else◌}
use Rattle.std.specs.List.{list_any}
use Rattle.std.specs.Str.{bytes_eq}

-- a name of its own, or one that is numbered from 1
pub data Wish : Type 0 where
  Own : List ℕ → Wish
  Numbered : List ℕ → Wish

abbrev pub is_among : List ℕ → List (List ℕ) → Bool
is_among x names = list_any (bytes_eq x) names

-- `base__k`
abbrev pub with_number : List ℕ → ℕ → List ℕ
with_number base k = base ++ (codes "__" ++ decimal k)

-- so many numbers from k on
abbrev pub numbers_from : ℕ → ℕ → List ℕ
numbers_from k zero = []
numbers_from k (suc n) = k ∷ numbers_from (suc k) n

-- reserved are the names that no new one may be, given those that were given before
module _ (reserved : List (List ℕ)) where
  abbrev pub is_free : List (List ℕ) → List ℕ → Bool
  is_free given x = not (is_among x reserved || is_among x given)

  -- the least number from k on that makes a free name: one of any n + 1 does, where n names are taken
  abbrev pub free_number : List (List ℕ) → List ℕ → ℕ → ℕ
  free_number given base k = unwrap_or (find (λ i. is_free given (with_number base i)) (numbers_from k (suc (length reserved + length given)))) k

  abbrev pub new_name : List (List ℕ) → List ℕ → ℕ → List ℕ
  new_name given base k = with_number base (free_number given base k)

  -- the name for a wish, where these were given before, and these of them are in its space
  abbrev pub name_for : List (List ℕ) → List (List ℕ) → Wish → List ℕ
  name_for given space (Own x) = if is_among x space then new_name given x 2 else x
  name_for given space (Numbered base) = new_name given base 1

  -- the names for wishes, one after the other
  unfoldable pub names_for : List (List ℕ) → List (List ℕ) → List Wish → List (List ℕ)
  names_for given space [] = []
  names_for given space (w ∷ ws) =
      let x = name_for given space w in x ∷ names_for (given ++ x ∷ []) (space ++ x ∷ []) ws
