-- Lines that are skipped, as the productions derive them and as they are computed, both ways.
use Rattle.std.proofs.Common.{◌≡◌, ◌≢◌, ℕ, suc, ◌+◌, Bool, true, false, ◌&&◌, ◌||◌, not, eqb, List, [], ◌∷◌, ◌++◌, length, take, drop, refl, ap, sym, ◌∙◌, subst, arith, ◌⊎◌, inl, inr}
use Rattle.std.specs.Prelude.{codes}
use Rattle.std.specs.List.{list_all, prefix_len}
use Rattle.std.specs.Str.{bytes_eq}
use Rattle.std.specs.Cmp.Lexicographic.{bytes_decides}
use Rattle.std.proofs.Math.ListN.{take-append-drop}
use Rattle.std.proofs.lemmas.Bool.Decides.{nat_tests}
use Rattle.cc_words.specs.Names.{is_digit, is_letter, is_letter_or_digit}
use Rattle.cc_lex.specs.Bytes.{is_blank, begins_with}
use Rattle.cc_lex.specs.Identifiers.{IsIdentifier}
use Rattle.cc_lex.specs.Numbers.{is_digit_in, IsLongestNumber, is_sign}
use Rattle.cc_lex.specs.Separators.{BeginsWithNumber, ANumeral, AreBlanks, Blanks, IsSkipped, ALineMarker, ALineNumber, APragma, BehindBlank}
use Rattle.cc_lex.specs.ScanParts.{goes_on, is_exponent, past_blanks, front_word, is_decimal_front, begins_with_decimal, is_other_pragma, is_skipped_word, is_skipped, value_of}
use Rattle.cc_lex.proofs.Booleans.{and-true, both-true, and-false, or-true, or-false, not-true, true-false}
use Rattle.cc_lex.proofs.Constants.{Digits, digits-are, digits-found}
use Rattle.cc_lex.proofs.Runs.{stops, last_of, run-longest, longest-stops, digit-no-exponent, digits-run, last-digit}
use Rattle.cc_lex.proofs.Fronts.{take-front, drop-front, front-len, front-all, front-stops}

-- ---- bytes

digit-ten : (b : ℕ) → is_digit_in 10 b ≡ is_digit b
digit-ten b = grind (arith, nat_tests)

blank-no_word : (b : ℕ) → is_blank b ≡ true → is_letter_or_digit b ≡ false
blank-no_word b h = grind (arith, nat_tests)

digit-word : (b : ℕ) → is_digit b ≡ true → is_letter_or_digit b ≡ true
digit-word b h = rw h (or-true (is_letter b))

word-no_blank : (b : ℕ) → is_letter_or_digit b ≡ true → is_blank b ≡ false
word-no_blank b h = by-test (is_blank b) refl
  where
    by-test : (t : Bool) → is_blank b ≡ t → t ≡ false
    by-test true e = absurd (true-false (is_letter_or_digit b) h (blank-no_word b e))
    by-test false e = refl

all-same : (p q : ℕ → Bool) → ((b : ℕ) → p b ≡ q b) → (bs : List ℕ) → list_all p bs ≡ list_all q bs
all-same p q h [] = refl
all-same p q h (b ∷ bs) = rw (h b, all-same p q h bs) refl

all-more : (p q : ℕ → Bool) → ((b : ℕ) → p b ≡ true → q b ≡ true) → (bs : List ℕ) → list_all p bs ≡ true → list_all q bs ≡ true
all-more p q h [] k = refl
all-more p q h (b ∷ bs) k = let e = and-true (p b) (list_all p bs) k in rw (h b e.0, all-more p q h bs e.1) refl

-- what stands behind a number goes on neither with a word nor with a point
number-stops : (last : ℕ) (behind : List ℕ) → stops last behind ≡ true → (begins_with is_letter_or_digit behind ≡ false) × (begins_with (λ b. eqb b 46) behind ≡ false)
number-stops last [] h = (refl, refl)
number-stops last (b ∷ bs) h =
    let e = or-false (is_letter_or_digit b || eqb b 46) (is_sign b && is_exponent last) (not-true (goes_on last b) h) in
    or-false (is_letter_or_digit b) (eqb b 46) e.0

stops-number : (last : ℕ) (behind : List ℕ) → is_exponent last ≡ false → begins_with is_letter_or_digit behind ≡ false → begins_with (λ b. eqb b 46) behind ≡ false → stops last behind ≡ true
stops-number last [] x h k = refl
stops-number last (b ∷ bs) x h k = rw (h, k, x, and-false (is_sign b)) refl

-- ---- numbers

number-found : (text : List ℕ) → BeginsWithNumber text → begins_with_decimal text ≡ true
number-found text (ANumeral ds behind n h l) = by-digits ds (digits-found 10 ds n h) l
  where
    by-digits : (ds : List ℕ) → Digits 10 ds n → IsLongestNumber ds behind → begins_with_decimal (ds ++ behind) ≡ true
    by-digits [] d l = absurd (omega (arith, d.some))
    by-digits (c ∷ cs) d l =
        let digits : list_all is_digit (c ∷ cs) ≡ true = sym (all-same (is_digit_in 10) is_digit digit-ten (c ∷ cs)) ∙ d.all in
        let words : list_all is_letter_or_digit (c ∷ cs) ≡ true = all-more is_digit is_letter_or_digit digit-word (c ∷ cs) digits in
        let end = number-stops (last_of c cs) behind (longest-stops c cs behind (digits-run c cs digits) l) in
        let len = front-len is_letter_or_digit (c ∷ cs) behind words end.0 in
        ap (λ (n : ℕ). is_decimal_front (take n ((c ∷ cs) ++ behind)) (drop n ((c ∷ cs) ++ behind))) len
        ∙ ap (λ (w : List ℕ). is_decimal_front w (drop (length (c ∷ cs)) ((c ∷ cs) ++ behind))) (take-front (c ∷ cs) behind)
        ∙ ap (is_decimal_front (c ∷ cs)) (drop-front (c ∷ cs) behind)
        ∙ rw (digits, end.1) refl

decimal-is : (word behind : List ℕ) → is_decimal_front word behind ≡ true → begins_with is_letter_or_digit behind ≡ false → BeginsWithNumber (word ++ behind)
decimal-is [] behind h k = absurd (cc)
decimal-is (d ∷ ds) behind h k =
    let e = and-true (list_all is_digit (d ∷ ds)) (not (begins_with (λ b. eqb b 46) behind)) h in
    let digits : list_all (is_digit_in 10) (d ∷ ds) ≡ true = all-same (is_digit_in 10) is_digit digit-ten (d ∷ ds) ∙ e.0 in
    let end = stops-number (last_of d ds) behind (digit-no-exponent (last_of d ds) (last-digit d ds e.0)) k (not-true (begins_with (λ b. eqb b 46) behind) e.1) in
    ANumeral (d ∷ ds) behind (value_of 10 (d ∷ ds)) (digits-are 10 d ds digits) (run-longest d ds behind (digits-run d ds e.0) end)

number-is : (text : List ℕ) → begins_with_decimal text ≡ true → BeginsWithNumber text
number-is text h = subst BeginsWithNumber (take-append-drop (prefix_len is_letter_or_digit text) text) (decimal-is (front_word text) (drop (prefix_len is_letter_or_digit text) text) h (front-stops is_letter_or_digit text))

-- a number begins with a byte of a word
number-first : (text : List ℕ) → BeginsWithNumber text → begins_with is_letter_or_digit text ≡ true
number-first text (ANumeral ds behind n h l) = by-digits ds (digits-found 10 ds n h)
  where
    by-digits : (ds : List ℕ) → Digits 10 ds n → begins_with is_letter_or_digit (ds ++ behind) ≡ true
    by-digits [] d = absurd (omega (arith, d.some))
    by-digits (c ∷ cs) d = digit-word c (sym (digit-ten c) ∙ (and-true (is_digit_in 10 c) (list_all (is_digit_in 10) cs) d.all).0)

-- ---- blanks

-- what the rest of the line is, past its blanks
abbrev line_of : List ℕ → List ℕ → Bool
line_of word behind = is_decimal_front word behind || is_skipped_word word behind

abbrev line_at : List ℕ → Bool
line_at text = line_of (front_word text) (drop (prefix_len is_letter_or_digit text) text)

no-blank : (text : List ℕ) → begins_with is_letter_or_digit text ≡ true → begins_with is_blank text ≡ false
no-blank [] h = refl
no-blank (b ∷ bs) h = word-no_blank b h

blanks-past : (blanks text : List ℕ) → list_all is_blank blanks ≡ true → begins_with is_letter_or_digit text ≡ true → past_blanks (blanks ++ text) ≡ text
blanks-past blanks text h k = ap (λ (n : ℕ). drop n (blanks ++ text)) (front-len is_blank blanks text h (no-blank text k)) ∙ drop-front blanks text

all-blanks : (blanks : List ℕ) → AreBlanks blanks → list_all is_blank blanks ≡ true
all-blanks blanks (Blanks b bs h k) = rw (h, k) refl

blanks-stop : (blanks text : List ℕ) → AreBlanks blanks → begins_with is_letter_or_digit (blanks ++ text) ≡ false
blanks-stop blanks text (Blanks b bs h k) = blank-no_word b h

-- ---- what is derived is computed

word-front : (word behind : List ℕ) → list_all is_letter_or_digit word ≡ true → begins_with is_letter_or_digit behind ≡ false → line_at (word ++ behind) ≡ line_of word behind
word-front word behind h k =
    ap (λ (n : ℕ). line_of (take n (word ++ behind)) (drop n (word ++ behind))) (front-len is_letter_or_digit word behind h k)
    ∙ ap (λ (w : List ℕ). line_of w (drop (length word) (word ++ behind))) (take-front word behind)
    ∙ ap (line_of word) (drop-front word behind)

identifier-words : (word : List ℕ) → IsIdentifier word → list_all is_letter_or_digit word ≡ true
identifier-words [] h = absurd (cc)
identifier-words (c ∷ cs) h =
    let e = and-true (is_letter c) (list_all is_letter_or_digit cs) h in
    rw (e.0, e.1) refl

identifier-first : (word behind : List ℕ) → IsIdentifier word → begins_with is_letter_or_digit (word ++ behind) ≡ true
identifier-first [] behind h = absurd (cc)
identifier-first (c ∷ cs) behind h =
    let e = and-true (is_letter c) (list_all is_letter_or_digit cs) h in
    rw e.0 refl

letter-no_digit : (b : ℕ) → is_letter b ≡ true → is_digit b ≡ false
letter-no_digit b h = grind (arith, nat_tests)

other-word : (word text : List ℕ) → word ≢ text → bytes_eq word text ≡ false
other-word word text h = by-test (bytes_eq word text) refl
  where
    by-test : (t : Bool) → bytes_eq word text ≡ t → t ≡ false
    by-test true e = absurd (h ((bytes_decides word text).0 e))
    by-test false e = refl

pragma-found : (word : List ℕ) → IsIdentifier word → word ≢ codes "pack" → is_other_pragma word ≡ true
pragma-found [] h k = absurd (cc)
pragma-found (c ∷ cs) h k =
    let e = and-true (is_letter c) (list_all is_letter_or_digit cs) h in
    rw (letter-no_digit c e.0, other-word (c ∷ cs) (codes "pack") k) refl

past-blank : (b : ℕ) (text : List ℕ) → is_blank b ≡ true → past_blanks (b ∷ text) ≡ past_blanks text
past-blank b text h = let e : 1 + prefix_len is_blank text ≡ suc (prefix_len is_blank text) = omega arith in rw (h, e) refl

past-none : (text : List ℕ) → begins_with is_letter_or_digit text ≡ true → past_blanks text ≡ text
past-none text h = blanks-past [] text refl h

true-or : (a b : Bool) → a ≡ true → (a || b) ≡ true
true-or a b h = rw h refl

pub skipped-found : (c : List ℕ) → IsSkipped c → is_skipped c ≡ true
unfolding is_skipped
skipped-found c (ALineMarker _ h) = ap line_at (past-none c (number-first c h)) ∙ true-or (begins_with_decimal c) (is_skipped_word (front_word c) (drop (prefix_len is_letter_or_digit c) c)) (number-found c h)
skipped-found c (ALineNumber blanks text h k) =
    let past = blanks-past blanks text (all-blanks blanks h) (number-first text k) in
    word-front (codes "line") (blanks ++ text) refl (blanks-stop blanks text h)
    ∙ ap (λ (t : List ℕ). begins_with_decimal t || (false && is_other_pragma (front_word t))) past
    ∙ true-or (begins_with_decimal text) (false && is_other_pragma (front_word text)) (number-found text k)
skipped-found c (APragma blanks word behind h i k stop) =
    let past = blanks-past blanks (word ++ behind) (all-blanks blanks h) (identifier-first word behind i) in
    let front : front_word (word ++ behind) ≡ word = ap (λ (n : ℕ). take n (word ++ behind)) (front-len is_letter_or_digit word behind (identifier-words word i) stop) ∙ take-front word behind in
    word-front (codes "pragma") (blanks ++ (word ++ behind)) refl (blanks-stop blanks (word ++ behind) h)
    ∙ ap (λ (t : List ℕ). (false && begins_with_decimal t) || is_other_pragma (front_word t)) past
    ∙ ap (λ (w : List ℕ). is_other_pragma w) front
    ∙ pragma-found word i k
skipped-found c (BehindBlank b text h k) = ap line_at (past-blank b text h) ∙ skipped-found text k

-- ---- what is computed is derived

behind-blanks : (blanks text : List ℕ) → list_all is_blank blanks ≡ true → IsSkipped text → IsSkipped (blanks ++ text)
behind-blanks [] text h k = k
behind-blanks (b ∷ bs) text h k = let e = and-true (is_blank b) (list_all is_blank bs) h in BehindBlank b (bs ++ text) e.0 (behind-blanks bs text e.1 k)

or-cases : (a b : Bool) → (a || b) ≡ true → (a ≡ true) ⊎ (b ≡ true)
or-cases true b h = inl refl
or-cases false b h = inr h

-- blanks stand between a word and another
some-blanks : (blanks text : List ℕ) → list_all is_blank blanks ≡ true → begins_with is_letter_or_digit (blanks ++ text) ≡ false → begins_with is_letter_or_digit text ≡ true → AreBlanks blanks
some-blanks [] text h k i = absurd (true-false (begins_with is_letter_or_digit text) i k)
some-blanks (b ∷ bs) text h k i = let e = and-true (is_blank b) (list_all is_blank bs) h in Blanks b bs e.0 e.1

number-line : (blanks text : List ℕ) → list_all is_blank blanks ≡ true → begins_with is_letter_or_digit (blanks ++ text) ≡ false → begins_with_decimal text ≡ true → IsSkipped (codes "line" ++ (blanks ++ text))
number-line blanks text h k d =
    let n = number-is text d in
    ALineNumber blanks text (some-blanks blanks text h k (number-first text n)) n

other-text : (word text : List ℕ) → not (bytes_eq word text) ≡ true → word ≢ text
other-text word text h k = true-false (bytes_eq word text) ((bytes_decides word text).1 k) (not-true (bytes_eq word text) h)

word-letter : (b : ℕ) → is_letter_or_digit b ≡ true → is_digit b ≡ false → is_letter b ≡ true
word-letter b h k = by-test (is_letter b) refl
  where
    by-test : (t : Bool) → is_letter b ≡ t → t ≡ true
    by-test true e = refl
    by-test false e = absurd (true-false (is_letter_or_digit b) h (rw (e, k) refl))

pragma-line : (blanks word behind : List ℕ) → list_all is_blank blanks ≡ true → begins_with is_letter_or_digit (blanks ++ (word ++ behind)) ≡ false → list_all is_letter_or_digit word ≡ true → begins_with is_letter_or_digit behind ≡ false → is_other_pragma word ≡ true →
    IsSkipped (codes "pragma" ++ (blanks ++ (word ++ behind)))
pragma-line blanks [] behind h k i stop p = absurd (cc)
pragma-line blanks (c ∷ cs) behind h k i stop p =
    let e = and-true (not (is_digit c)) (not (bytes_eq (c ∷ cs) (codes "pack"))) p in
    let f = and-true (is_letter_or_digit c) (list_all is_letter_or_digit cs) i in
    let letter = word-letter c f.0 (not-true (is_digit c) e.0) in
    APragma blanks (c ∷ cs) behind (some-blanks blanks ((c ∷ cs) ++ behind) h k f.0) (both-true (is_letter c) (list_all is_letter_or_digit cs) letter f.1) (other-text (c ∷ cs) (codes "pack") e.1) stop

number-behind : (behind : List ℕ) → begins_with is_letter_or_digit behind ≡ false → begins_with_decimal (past_blanks behind) ≡ true → IsSkipped (codes "line" ++ behind)
number-behind behind h d =
    let n = prefix_len is_blank behind in
    let whole = take-append-drop n behind in
    let stop : begins_with is_letter_or_digit (take n behind ++ drop n behind) ≡ false = ap (begins_with is_letter_or_digit) whole ∙ h in
    subst (λ (x : List ℕ). IsSkipped (codes "line" ++ x)) whole (number-line (take n behind) (drop n behind) (front-all is_blank behind) stop d)

pragma-behind : (behind : List ℕ) → begins_with is_letter_or_digit behind ≡ false → is_other_pragma (front_word (past_blanks behind)) ≡ true → IsSkipped (codes "pragma" ++ behind)
pragma-behind behind h p =
    let n = prefix_len is_blank behind in
    let text = drop n behind in
    let m = prefix_len is_letter_or_digit text in
    let whole : take n behind ++ (take m text ++ drop m text) ≡ behind = ap (λ (x : List ℕ). take n behind ++ x) (take-append-drop m text) ∙ take-append-drop n behind in
    let stop : begins_with is_letter_or_digit (take n behind ++ (take m text ++ drop m text)) ≡ false = ap (begins_with is_letter_or_digit) whole ∙ h in
    subst (λ (x : List ℕ). IsSkipped (codes "pragma" ++ x)) whole
    (pragma-line (take n behind) (take m text) (drop m text) (front-all is_blank behind) stop (front-all is_letter_or_digit text) (front-stops is_letter_or_digit text) p)

word-line : (word behind : List ℕ) → begins_with is_letter_or_digit behind ≡ false → is_skipped_word word behind ≡ true → IsSkipped (word ++ behind)
word-line word behind h s =
    elim (or-cases (bytes_eq word (codes "line") && begins_with_decimal (past_blanks behind)) (bytes_eq word (codes "pragma") && is_other_pragma (front_word (past_blanks behind))) s) [
      | inl e ↦
          let f = and-true (bytes_eq word (codes "line")) (begins_with_decimal (past_blanks behind)) e in
          subst (λ (w : List ℕ). IsSkipped (w ++ behind)) (sym ((bytes_decides word (codes "line")).0 f.0)) (number-behind behind h f.1)
      | inr e ↦
          let f = and-true (bytes_eq word (codes "pragma")) (is_other_pragma (front_word (past_blanks behind))) e in
          subst (λ (w : List ℕ). IsSkipped (w ++ behind)) (sym ((bytes_decides word (codes "pragma")).0 f.0)) (pragma-behind behind h f.1)
    ]

line-is : (text : List ℕ) → line_at text ≡ true → IsSkipped text
line-is text h =
    elim (or-cases (begins_with_decimal text) (is_skipped_word (front_word text) (drop (prefix_len is_letter_or_digit text) text)) h) [
      | inl e ↦ ALineMarker text (number-is text e)
      | inr e ↦ subst IsSkipped (take-append-drop (prefix_len is_letter_or_digit text) text) (word-line (front_word text) (drop (prefix_len is_letter_or_digit text) text) (front-stops is_letter_or_digit text) e)
    ]

pub skipped-is : (c : List ℕ) → is_skipped c ≡ true → IsSkipped c
unfolding is_skipped
skipped-is c h =
    let n = prefix_len is_blank c in
    subst IsSkipped (take-append-drop n c) (behind-blanks (take n c) (drop n c) (front-all is_blank c) (line-is (drop n c) h))

-- ---- both ways

pub not-skipped : (c : List ℕ) → is_skipped c ≡ false → IsSkipped c → ⊥
not-skipped c h k = true-false (is_skipped c) (skipped-found c k) h

pub none-skipped : (c : List ℕ) (t : Bool) → is_skipped c ≡ t → (IsSkipped c → ⊥) → t ≡ false
none-skipped c true e h = absurd (h (skipped-is c e))
none-skipped c false e h = refl
