-- The number that decimal digits write, digit by digit.
use Rattle.std.proofs.Common.{◌≡◌, ◌≤◌, ◌<◌, ◌+◌, ◌-◌, ◌*◌, ◌^◌, ◌&&◌, ℕ, suc, Bool, true, false, nat_le, if◌then◌else◌, List, length, get_or, take, take_all, Some, None, refl, ap, sym, ◌∙◌, arith}
use Rattle.std.specs.Char.{is_ascii_digit}
use Rattle.std.specs.List.{list_all}
use Rattle.std.proofs.Math.Nat.{pow-le-pow_right, pow-suc}
use Rattle.std.proofs.lemmas.Bool.Decides.{nat_tests}
use Rattle.std.proofs.lemmas.List.Folds.{list_all_more, list_all_at}
use Rattle.std.proofs.lemmas.List.Sums.{fold_more}
use Rattle.ccomp.specs.Make.{value_of, number_of}

digit_is : (d : ℕ) → is_ascii_digit d ≡ true → (48 ≤ d) × (d ≤ 57)
digit_is d h = grind (arith, nat_tests)

both : (a b : Bool) → a ≡ true → b ≡ true → (a && b) ≡ true
both a b e f = rw (e, f) refl

-- the first i digits
pub record ReadTo (word : List ℕ) (i n : ℕ) : Type 0 where
  pub value : n ≡ value_of (take i word)
  pub digits : list_all is_ascii_digit (take i word) ≡ true
  pub small : n < 10 ^ i

pub read_none : (word : List ℕ) → ReadTo word 0 0
read_none word = record { value = refl; digits = refl; small = omega arith }

pub read_more : (word : List ℕ) (i n d : ℕ) → i < length word → d ≡ get_or word i 0 → is_ascii_digit d ≡ true → ReadTo word i n → ReadTo word (i + 1) (n * 10 + (d - 48))
read_more word i n d l e h r = record {
  value = ap (λ m. m * 10 + (d - 48)) r.value ∙ ap (λ m. value_of (take i word) * 10 + (m - 48)) e ∙ sym (fold_more (λ number digit. number * 10 + (digit - 48)) 0 word i 0 l);
  digits = list_all_more is_ascii_digit word i 0 l ∙ both (list_all is_ascii_digit (take i word)) (is_ascii_digit (get_or word i 0)) r.digits (ap is_ascii_digit (sym e) ∙ h);
  small =
      let k = digit_is d h in
      let s = r.small in
      let t : 10 ^ (i + 1) ≡ 10 ^ i * 10 = (let n : i + 1 ≡ suc i = omega arith in ap (λ m. 10 ^ m) n ∙ pow-suc 10 i) in
      omega (arith, k.0, k.1, s, t);
}

-- one digit more fits into 128 bits
pub read_fits : (word : List ℕ) (i n d : ℕ) → i < length word → length word ≤ 20 → is_ascii_digit d ≡ true → ReadTo word i n → n * 10 + (d - 48) < 2 ^ 128
read_fits word i n d l m h r =
    let k = digit_is d h in
    let s = r.small in
    let t : 10 ^ i ≤ 10 ^ 19 = (let low : 0 < 10 = omega arith in let high : i ≤ 19 = omega arith in pow-le-pow_right {n = 10} low {i = i} {j = 19} high) in
    omega (arith, k.0, k.1, s, t)

number_if : (a b c : Bool) (n : ℕ) → a ≡ true → b ≡ true → c ≡ true → (if (a && b) && c then Some n else None) ≡ Some n
number_if a b c n e f g = rw (e, f, g) refl

no_number : (a : Bool) (n : ℕ) → (if a && false then Some n else None) ≡ None
no_number true n = refl
no_number false n = refl

pub read_all : (word : List ℕ) (i n : ℕ) → length word ≤ i → 1 ≤ length word → length word ≤ 20 → ReadTo word i n → Some n ≡ number_of word
read_all word i n l low high r =
    let whole = take_all i word l in
    let d = ap (list_all is_ascii_digit) (sym whole) ∙ r.digits in
    ap Some (r.value ∙ ap value_of whole) ∙ sym (number_if (nat_le 1 (length word)) (nat_le (length word) 20) (list_all is_ascii_digit word) (value_of word) (at_most 1 (length word) low) (at_most (length word) 20 high) d)
  where
    at_most : (a b : ℕ) → a ≤ b → nat_le a b ≡ true
    at_most a b h = grind (arith, nat_tests)

pub read_stops : (word : List ℕ) (i d : ℕ) → i < length word → d ≡ get_or word i 0 → is_ascii_digit d ≡ false → None ≡ number_of word
read_stops word i d l e h =
    let k = list_all_at is_ascii_digit word i 0 l (ap is_ascii_digit (sym e) ∙ h) in
    sym (ap (λ (c : Bool). if (nat_le 1 (length word) && nat_le (length word) 20) && c then Some (value_of word) else None) k ∙ no_number (nat_le 1 (length word) && nat_le (length word) 20) (value_of word))

-- so does ten times the number before it
pub read_times : (word : List ℕ) (i n d : ℕ) → i < length word → length word ≤ 20 → is_ascii_digit d ≡ true → ReadTo word i n → n * 10 < 2 ^ 128
read_times word i n d l m h r = let k = read_fits word i n d l m h r in omega (arith, k)

pub digit_low : (d : ℕ) → is_ascii_digit d ≡ true → 48 ≤ d
digit_low d h = (digit_is d h).0

pub ruleset of_numbers = (read_none, read_more, read_fits, read_times, digit_low, read_all, read_stops)
