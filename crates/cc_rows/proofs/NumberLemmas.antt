-- The number that decimal digits write, digit by digit, where it stands still at a bound.
use Rattle.std.proofs.Common.{◌≡◌, ◌∙◌, ◌<◌, ◌≤◌, ◌+◌, ◌-◌, ◌*◌, ◌^◌, ℕ, List, length, get_or, take, take_all, min, ap, sym, arith}
use Rattle.std.proofs.lemmas.List.Sums.{fold_more}
use Rattle.cc_rows.specs.Numbers.{value_of}

still : (v m d : ℕ) → min (min (min v m * 10) m + d) m ≡ min (v * 10 + d) m
still v m d = omega arith

pub value-more : (digits : List ℕ) (i n d : ℕ) → i < length digits → d ≡ get_or digits i 0 → n ≡ min (value_of (take i digits)) (2 ^ 128 - 1)
    → min (min (n * 10) (2 ^ 128 - 1) + (d - 48)) (2 ^ 128 - 1) ≡ min (value_of (take (i + 1) digits)) (2 ^ 128 - 1)
value-more digits i n d h e k =
    ap (λ m. min (min (m * 10) (2 ^ 128 - 1) + (d - 48)) (2 ^ 128 - 1)) k ∙ still (value_of (take i digits)) (2 ^ 128 - 1) (d - 48)
    ∙ ap (λ c. min (value_of (take i digits) * 10 + (c - 48)) (2 ^ 128 - 1)) e
    ∙ ap (λ v. min v (2 ^ 128 - 1)) (sym (fold_more (λ number digit. number * 10 + (digit - 48)) 0 digits i 0 h))

pub value-all : (digits : List ℕ) (i n : ℕ) → length digits ≤ i → n ≡ min (value_of (take i digits)) (2 ^ 128 - 1) → n ≡ min (value_of digits) (2 ^ 128 - 1)
value-all digits i n h k = k ∙ ap (λ ds. min (value_of ds) (2 ^ 128 - 1)) (take_all i digits h)

pub ruleset of_values = (value-more, value-all)
