-- The numbers that words write: SEED and COUNT of `make`, and STEPS of `run`.
use Rattle.std.specs.Prelude.{ℕ, ◌+◌, ◌-◌, ◌*◌, ◌^◌, ◌&&◌, List, length, fold, nat_le, Option, Some, None, if◌then◌else◌}
use Rattle.std.specs.Char.{is_ascii_digit}
use Rattle.std.specs.List.{list_all}

-- the number that decimal digits write
abbrev pub value_of : List ℕ → ℕ
value_of digits = fold (λ number digit. number * 10 + (digit - 48)) 0 digits

-- the number of a word of 1 to 20 decimal digits
abbrev pub number_of : List ℕ → Option ℕ
number_of word = if (nat_le 1 (length word) && nat_le (length word) 20) && list_all is_ascii_digit word then Some (value_of word) else None

-- a number that is within its bounds
abbrev pub bounded : ℕ → ℕ → Option ℕ → Option ℕ
bounded least most None = None
bounded least most (Some number) = if nat_le least number && nat_le number most then Some number else None

-- a seed has at most 64 bits, a count at most 32 and is not 0, and steps have at most 32
abbrev pub seed_of : List ℕ → Option ℕ
seed_of word = bounded 0 (2 ^ 64 - 1) (number_of word)

abbrev pub count_of : List ℕ → Option ℕ
count_of word = bounded 1 (2 ^ 32 - 1) (number_of word)

abbrev pub steps_of : List ℕ → Option ℕ
steps_of word = bounded 0 (2 ^ 32 - 1) (number_of word)
