-- A name with a number may name something: it is an identifier, and no keyword ends so, and no word that is outside the subset.
use Rattle.std.proofs.Common.{◌≡◌, ◌∙◌, ◌+◌, ◌<◌, ◌/◌, ◌%◌, ℕ, zero, suc, Bool, true, false, true≢false, cond, List, [], ◌∷◌, ◌++◌, length, Some, None, refl, ap, sym, arith}
use Rattle.std.specs.Prelude.{codes, decimal, find, not, nat_eq, nat_le, ◌==◌, ◌&&◌, if◌then◌else◌}
use Rattle.std.specs.Fmt.{digits, digit_glyph, digits_onto}
use Rattle.std.specs.List.{list_all, list_any}
use Rattle.std.specs.Option.{is_none}
use Rattle.std.specs.Str.{bytes_eq}
use Rattle.std.proofs.lemmas.Bool.{and_parts, and_from, or_from, or_right, false_from_ne_true, not-true, le-leb, lt-ltb, eqb-true, not_from_false}
use Rattle.std.proofs.lemmas.List.Folds.{list_all-append}
use Rattle.cc_given_names.proofs.Among.{same-text}
use Rattle.cc_names.specs.Names.{with_number}
use Rattle.cc_words.specs.Names.{is_digit, is_letter, is_letter_or_digit, is_identifier, is_name}
use Rattle.cc_words.specs.Words.{is_outside, is_spelling, outside_words, spellings, word_of, words}
use Rattle.cc_words.specs.declared.word.Word.{Word}

-- ---- the digits of a number

glyph-digit : (d : ℕ) → d < 10 → is_digit (digit_glyph false d) ≡ true
glyph-digit d h =
    ap (λ (b : Bool). is_digit (cond b (48 + d) (87 + d))) (lt-ltb d 10 h)
    ∙ and_from (nat_le 48 (48 + d)) (nat_le (48 + d) 57) (le-leb 48 (48 + d) (omega arith)) (le-leb (48 + d) 57 (omega (arith, h)))

onto-digits : (k n : ℕ) (acc : List ℕ) → list_all is_digit acc ≡ true → list_all is_digit (digits_onto k 10 false n acc) ≡ true
onto-digits zero n acc h = h
onto-digits (suc k) n acc h =
    let g = digit_glyph false (n % 10) in
    let more = and_from (is_digit g) (list_all is_digit acc) (glyph-digit (n % 10) (omega arith)) h in
    by (n / 10 == 0) more (onto-digits k (n / 10) (g ∷ acc) more)
  where
    by : (b : Bool) → list_all is_digit (digit_glyph false (n % 10) ∷ acc) ≡ true → list_all is_digit (digits_onto k 10 false (n / 10) (digit_glyph false (n % 10) ∷ acc)) ≡ true →
        list_all is_digit (cond b (digit_glyph false (n % 10) ∷ acc) (digits_onto k 10 false (n / 10) (digit_glyph false (n % 10) ∷ acc))) ≡ true
    by true h rest = h
    by false h rest = rest

some-onto : (k n x : ℕ) (acc : List ℕ) → 0 < length (digits_onto k 10 false n (x ∷ acc))
some-onto zero n x acc = omega arith
some-onto (suc k) n x acc = by (n / 10 == 0) (some-onto k (n / 10) (digit_glyph false (n % 10)) (x ∷ acc))
  where
    by : (b : Bool) → 0 < length (digits_onto k 10 false (n / 10) (digit_glyph false (n % 10) ∷ x ∷ acc)) →
        0 < length (cond b (digit_glyph false (n % 10) ∷ x ∷ acc) (digits_onto k 10 false (n / 10) (digit_glyph false (n % 10) ∷ x ∷ acc)))
    by true rest = omega arith
    by false rest = rest

some-digit : (k n : ℕ) → 0 < length (digits_onto (suc k) 10 false n [])
some-digit k n = by (n / 10 == 0) (some-onto k (n / 10) (digit_glyph false (n % 10)) [])
  where
    by : (b : Bool) → 0 < length (digits_onto k 10 false (n / 10) (digit_glyph false (n % 10) ∷ [])) →
        0 < length (cond b (digit_glyph false (n % 10) ∷ []) (digits_onto k 10 false (n / 10) (digit_glyph false (n % 10) ∷ [])))
    by true rest = omega arith
    by false rest = rest

pub decimal-digits : (n : ℕ) → list_all is_digit (decimal n) ≡ true
unfolding digits
decimal-digits n = onto-digits 64 n [] refl

pub decimal-some : (n : ℕ) → 0 < length (decimal n)
unfolding digits
decimal-some n = some-digit 63 n

-- ---- whether a word ends with an underscore and digits: 1 behind an underscore, 2 behind it and digits, else 0

abbrev behind_digit : ℕ → ℕ
behind_digit zero = 0
behind_digit (suc s) = 2

abbrev behind : ℕ → ℕ → ℕ
behind s b = if b == 95 then 1 else (if is_digit b then behind_digit s else 0)

abbrev pub ends_numbered : ℕ → List ℕ → Bool
ends_numbered s [] = nat_eq s 2
ends_numbered s (b ∷ bs) = ends_numbered (behind s b) bs

digit-no-underscore : (b : ℕ) → is_digit b ≡ true → (b == 95) ≡ false
digit-no-underscore b h = false_from_ne_true (b == 95) (λ e. true≢false (sym h ∙ ap is_digit (eqb-true b 95 e)))

behind-digit : (s b : ℕ) → is_digit b ≡ true → behind (suc s) b ≡ 2
behind-digit s b h = rw (digit-no-underscore b h, h) refl

digits-numbered : (s : ℕ) (ds : List ℕ) → list_all is_digit ds ≡ true → 0 < length ds → ends_numbered (suc s) ds ≡ true
digits-numbered s [] h l = absurd (omega (arith, l))
digits-numbered s (d ∷ []) h l = let p = and_parts (is_digit d) true h in ap (λ (n : ℕ). nat_eq n 2) (behind-digit s d p.0)
digits-numbered s (d ∷ e ∷ ds) h l =
    let p = and_parts (is_digit d) (list_all is_digit (e ∷ ds)) h in
    ap (λ (n : ℕ). ends_numbered n (e ∷ ds)) (behind-digit s d p.0) ∙ digits-numbered 1 (e ∷ ds) p.1 (omega arith)

behind-base : (base ds : List ℕ) → list_all is_digit ds ≡ true → 0 < length ds → (s : ℕ) → ends_numbered s (base ++ (95 ∷ 95 ∷ ds)) ≡ true
behind-base [] ds h l s = digits-numbered 0 ds h l
behind-base (b ∷ base) ds h l s = behind-base base ds h l (behind s b)

pub number-ends : (base : List ℕ) (n : ℕ) → ends_numbered 0 (with_number base n) ≡ true
number-ends base n = behind-base base (decimal n) (decimal-digits n) (decimal-some n) 0

-- ---- no word ends so

abbrev no_number : List ℕ → Bool
no_number x = not (ends_numbered 0 x)

other-word : (name x : List ℕ) → ends_numbered 0 name ≡ true → no_number x ≡ true → bytes_eq name x ≡ false
other-word name x h k = false_from_ne_true (bytes_eq name x) (λ e. true≢false (sym h ∙ (ap (ends_numbered 0) (same-text name x e) ∙ not-true (ends_numbered 0 x) k)))

no-word : (name : List ℕ) (xs : List (List ℕ)) → ends_numbered 0 name ≡ true → list_all no_number xs ≡ true → list_any (bytes_eq name) xs ≡ false
no-word name [] h k = refl
no-word name (x ∷ xs) h k =
    let p = and_parts (no_number x) (list_all no_number xs) k in
    or_from (bytes_eq name x) (list_any (bytes_eq name) xs) (other-word name x h p.0) (no-word name xs h p.1)

no-spelling : (name : List ℕ) (ws : List Word) → ends_numbered 0 name ≡ true → list_all (λ w. list_all no_number (spellings w)) ws ≡ true → find (λ w. is_spelling w name) ws ≡ None
no-spelling name [] h k = refl
no-spelling name (w ∷ ws) h k =
    let p = and_parts (list_all no_number (spellings w)) (list_all (λ w. list_all no_number (spellings w)) ws) k in
    ap (λ (b : Bool). cond b (Some w) (find (λ w. is_spelling w name) ws)) (no-word name (spellings w) h p.0) ∙ no-spelling name ws h p.1

no-keyword : (name : List ℕ) → ends_numbered 0 name ≡ true → is_none (word_of name) ≡ true
unfolding word_of
no-keyword name h = ap is_none (no-spelling name words h refl)

not-outside : (name : List ℕ) → ends_numbered 0 name ≡ true → not (is_outside name) ≡ true
not-outside name h = not_from_false (is_outside name) (no-word name outside_words h refl)

-- ---- it is an identifier

digits-letters : (ds : List ℕ) → list_all is_digit ds ≡ true → list_all is_letter_or_digit ds ≡ true
digits-letters [] h = refl
digits-letters (d ∷ ds) h =
    let p = and_parts (is_digit d) (list_all is_digit ds) h in
    and_from (is_letter_or_digit d) (list_all is_letter_or_digit ds) (or_right (is_letter d) (is_digit d) p.0) (digits-letters ds p.1)

longer-identifier : (base : List ℕ) (n : ℕ) → is_identifier base ≡ true → is_identifier (with_number base n) ≡ true
longer-identifier [] n h = absurd (true≢false (sym h))
longer-identifier (b ∷ bs) n h =
    let p = and_parts (is_letter b) (list_all is_letter_or_digit bs) h in
    and_from (is_letter b) (list_all is_letter_or_digit (bs ++ (codes "__" ++ decimal n))) p.0
    (list_all-append is_letter_or_digit bs (codes "__" ++ decimal n) ∙ and_from (list_all is_letter_or_digit bs) (list_all is_letter_or_digit (codes "__" ++ decimal n)) p.1 (digits-letters (decimal n) (decimal-digits n)))

pub with-number-named : (base : List ℕ) (n : ℕ) → is_name base ≡ true → is_name (with_number base n) ≡ true
unfolding is_name
with-number-named base n h =
    let p = and_parts (is_identifier base && is_none (word_of base)) (not (is_outside base)) h in
    let q = and_parts (is_identifier base) (is_none (word_of base)) p.0 in
    let e = number-ends base n in
    and_from (is_identifier (with_number base n) && is_none (word_of (with_number base n))) (not (is_outside (with_number base n)))
    (and_from (is_identifier (with_number base n)) (is_none (word_of (with_number base n))) (longer-identifier base n q.0) (no-keyword (with_number base n) e))
    (not-outside (with_number base n) e)
