-- Numbers in fields: decimal digits without a leading zero.
use Rattle.std.specs.Prelude.{ℕ, ◌+◌, ◌-◌, ◌*◌, ◌^◌, ◌==◌, Bool, false, ◌&&◌, nat_le, ℤ, pos, neg_ℤ, List, [], ◌∷◌, drop, fold, Option, Some, None, option_map, if◌then◌else◌}
use Rattle.std.specs.List.{list_all}
use Rattle.std.specs.Str.{byte}
use Rattle.cc_words.specs.Names.{is_between, is_digit}

abbrev pub is_number : List ℕ → Bool
is_number [] = false
is_number (d ∷ []) = is_digit d
is_number (d ∷ e ∷ ds) = is_between (byte "1") (byte "9") d && list_all is_digit (e ∷ ds)

-- the number that digits write
abbrev pub value_of : List ℕ → ℕ
value_of digits = fold (λ number digit. number * 10 + (digit - 48)) 0 digits

-- the number of a field that writes one from `least` to `most`, without a sign
unfoldable pub number_in : ℕ → ℕ → List ℕ → Option ℕ
number_in least most field = if is_number field && (nat_le least (value_of field) && nat_le (value_of field) most) then Some (value_of field) else None

-- the number of digits of one of 64 bits, below 0 and not
abbrev pub negative_in : List ℕ → Option ℤ
negative_in digits = option_map (λ n. neg_ℤ (pos n)) (number_in 0 (2 ^ 63) digits)

abbrev pub positive_in : List ℕ → Option ℤ
positive_in digits = option_map pos (number_in 0 (2 ^ 64 - 1) digits)

abbrev pub has_sign : List ℕ → Bool
has_sign [] = false
has_sign (b ∷ digits) = b == byte "-"

-- the number of a field that writes one of 64 bits, signed or unsigned, with a `-` in front or without
abbrev pub signed_in : List ℕ → Option ℤ
signed_in field = if has_sign field then negative_in (drop 1 field) else positive_in field
