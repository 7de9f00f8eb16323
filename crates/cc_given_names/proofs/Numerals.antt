-- Names with numbers: other numbers make other names.
use Rattle.std.proofs.Common.{◌≡◌, ◌∙◌, ◌+◌, ◌<◌, ◌≤◌, ◌^◌, ℕ, zero, suc, true, false, List, ◌++◌, length, map, refl, ap, sym, arith}
use Rattle.std.specs.Prelude.{codes, decimal}
use Rattle.std.specs.Str.{bytes_eq}
use Rattle.std.specs.Str.Parse.{digits_value}
use Rattle.std.proofs.lemmas.Bool.{false_from_ne_true, or_from}
use Rattle.std.proofs.lemmas.Fmt.{decimal_is_IsNumeral_wide}
use Rattle.std.proofs.lemmas.List.{append_cancel_left}
use Rattle.cc_given_names.proofs.Among.{same-text, distinct-cons}
use Rattle.cc_names.specs.Names.{is_among, numbers_from, with_number}
use Rattle.cc_words.specs.Names.{are_distinct}

same-decimal : (m n : ℕ) → m < 10 ^ 64 → n < 10 ^ 64 → decimal m ≡ decimal n → m ≡ n
same-decimal m n h k e = sym (decimal_is_IsNumeral_wide m h).1 ∙ (ap (digits_value 10) e ∙ (decimal_is_IsNumeral_wide n k).1)

pub same-number : (base : List ℕ) (m n : ℕ) → m < 10 ^ 64 → n < 10 ^ 64 → with_number base m ≡ with_number base n → m ≡ n
same-number base m n h k e =
    same-decimal m n h k (append_cancel_left (codes "__") (decimal m) (decimal n) (append_cancel_left base (codes "__" ++ decimal m) (codes "__" ++ decimal n) e))

abbrev pub names_from : List ℕ → ℕ → ℕ → List (List ℕ)
names_from base k n = map (with_number base) (numbers_from k n)

earlier-absent : (base : List ℕ) (k j n : ℕ) → k < j → j + n ≤ 10 ^ 64 → is_among (with_number base k) (names_from base j n) ≡ false
earlier-absent base k j zero h l = refl
earlier-absent base k j (suc n) h l =
    or_from (bytes_eq (with_number base k) (with_number base j)) (is_among (with_number base k) (names_from base (suc j) n))
    (false_from_ne_true (bytes_eq (with_number base k) (with_number base j)) (λ e. other (same-number base k j (omega (arith, h, l)) (omega (arith, l)) (same-text (with_number base k) (with_number base j) e))))
    (earlier-absent base k (suc j) n (omega (arith, h)) (omega (arith, l)))
  where
    other : k ≡ j → ⊥
    other e = absurd (omega (arith, h, e))

pub names-distinct : (base : List ℕ) (k n : ℕ) → k + n ≤ 10 ^ 64 → are_distinct (names_from base k n) ≡ true
names-distinct base k zero l = refl
names-distinct base k (suc n) l = distinct-cons (with_number base k) (names_from base (suc k) n) (earlier-absent base k (suc k) n (omega arith) (omega (arith, l))) (names-distinct base (suc k) n (omega (arith, l)))

pub length-numbers : (k n : ℕ) → length (numbers_from k n) ≡ n
length-numbers k zero = refl
length-numbers k (suc n) = ap suc (length-numbers (suc k) n)
