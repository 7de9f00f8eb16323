-- What words, packed arrays and tables start with: the codes of the first values of their slots, and 0 elsewhere.
use Rattle.std.specs.Prelude.{ℕ, zero, suc, ◌+◌, ◌*◌, ◌/◌, ◌^◌, ◌-◌, nat_lt, ℤ, pos, ◌-ℤ◌, unsigned_abs, Bool, false, List, [], ◌∷◌, drop, length, map, sum_by, take, position, unwrap_or, if◌then◌else◌}
use Rattle.std.specs.List.{list_all}
use Rattle.std.specs.Ordering.{int_eq}
use Rattle.cc_code.specs.declared.kinds.Coding.{Coding}
use Rattle.cc_code.specs.declared.kinds.Coding.TheVariants as coding
use Rattle.cc_program.specs.declared.value.Leaf.{Leaf}
use Rattle.cc_program.specs.declared.value.Leaf.TheVariants as leaf
use Rattle.cc_program.specs.declared.value.Value.{Value}
use Rattle.cc_program.specs.declared.value.Value.TheVariants as value
use Rattle.cc_rewrite_codes.specs.Homes.{Code}
use Rattle.cc_operands.specs.CcSyntax.Initial.{is_zero}
use Rattle.cc_state_points.specs.CcValues.Values.{same_address}

-- ---- codes of values

abbrev pub number_of : Value → ℤ
number_of (value.Int n) = n
number_of (value.Place a) = pos 0

abbrev pub same_value : Value → Value → Bool
same_value (value.Int n) (value.Int m) = int_eq n m
same_value (value.Place a) (value.Place b) = same_address a b
same_value (value.Int n) (value.Place b) = false
same_value (value.Place a) (value.Int m) = false

abbrev pub code_by : Coding → List Value → Value → ℕ
code_by coding.Const values v = 0
code_by coding.Direct values v = unsigned_abs (number_of v)
code_by (coding.Biased low) values v = unsigned_abs (number_of v -ℤ low)
code_by coding.Table values v = unwrap_or (position (same_value v) values) 0

abbrev pub code_of : Code → Value → ℕ
code_of c v = code_by c.coding c.values v

-- ---- lists of first values; one is left out where all are zero (C99 6.7.8, 10)

abbrev pub leaf_of : Value → Leaf
leaf_of (value.Int n) = leaf.Int n
leaf_of (value.Place a) = leaf.Place a

abbrev pub initial : List Leaf → List Leaf
initial leaves = if list_all is_zero leaves then [] else leaves

abbrev pub of_codes : List ℕ → List Leaf
of_codes codes = initial (map (λ n. leaf.Int (pos n)) codes)

-- ---- packed elements: of so many bits each, as many in a byte as it has room for, from its lowest bits up; longer ones have an element each

abbrev pub packed : ℕ → List ℕ → ℕ
packed bits [] = 0
packed bits (code ∷ codes) = code + 2 ^ bits * packed bits codes

abbrev pub rows : ℕ → ℕ → List ℕ → List (List ℕ)
rows each zero codes = []
rows each (suc n) codes = take each codes ∷ rows each n (drop each codes)

-- how many elements the packed array has
abbrev pub row_count : ℕ → ℕ → ℕ
row_count each count = (count + each - 1) / each

abbrev pub each_in : ℕ → ℕ
each_in bits = if nat_lt bits 8 then 8 / bits else 1

abbrev pub packed_codes : ℕ → List ℕ → List ℕ
packed_codes bits codes = map (packed bits) (rows (each_in bits) (row_count (each_in bits) (length codes)) codes)

-- ---- words: codes with their shifts

abbrev pub in_word : List (ℕ × ℕ) → ℕ
in_word codes = sum_by (λ (c : ℕ × ℕ). c.0 * 2 ^ c.1) codes
