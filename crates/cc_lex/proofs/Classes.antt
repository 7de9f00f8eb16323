-- The class of a byte by the tests that define it, both ways.
use Rattle.std.proofs.Common.{◌≡◌, ℕ, Bool, true, false, ◌||◌, not, cond, eqb, refl, arith}
use Rattle.std.proofs.lemmas.Bool.Decides.{nat_tests}
use Rattle.cc_lex.specs.declared.byte.Class.{Class}
use Rattle.cc_lex.specs.declared.byte.Class.TheVariants as class
use Rattle.cc_words.specs.Names.{is_letter, is_digit}
use Rattle.cc_lex.specs.Bytes.{is_blank, is_other_space}
use Rattle.cc_lex.specs.Faults.{begins_at_most_a_mark}
use Rattle.cc_lex.specs.Scan.{class_of}
use Rattle.cc_lex.proofs.Booleans.{eq-true}

-- what the class says of the byte
abbrev pub IsClass : Class → ℕ → Type 0
IsClass class.Letter b = is_letter b ≡ true
IsClass class.Digit b = is_digit b ≡ true
IsClass class.Point b = b ≡ 46
IsClass class.Apostrophe b = b ≡ 39
IsClass class.Quote b = b ≡ 34
IsClass class.Blank b = is_blank b ≡ true
IsClass class.LineFeed b = b ≡ 10
IsClass class.OtherSpace b = is_other_space b ≡ true
IsClass class.Slash b = b ≡ 47
IsClass class.Hash b = b ≡ 35
IsClass class.Other b = (begins_at_most_a_mark b ≡ true) × (eqb b 46 ≡ false) × (eqb b 47 ≡ false) × (is_digit b ≡ false)

is-cond : (b : ℕ) (t : Bool) (x y : Class) → (t ≡ true → IsClass x b) → (t ≡ false → IsClass y b) → IsClass (cond t x y) b
is-cond b true x y h k = h refl
is-cond b false x y h k = k refl

pub class-is : (b : ℕ) → IsClass (class_of b) b
unfolding class_of
class-is b =
    is-cond b (is_letter b) _ _ (λ h. h) (λ h1.
    is-cond b (is_digit b) _ _ (λ h. h) (λ h2.
    is-cond b (eqb b 46) _ _ (λ h. eq-true b 46 h) (λ h3.
    is-cond b (eqb b 39) _ _ (λ h. eq-true b 39 h) (λ h4.
    is-cond b (eqb b 34) _ _ (λ h. eq-true b 34 h) (λ h5.
    is-cond b (is_blank b) _ _ (λ h. h) (λ h6.
    is-cond b (eqb b 10) _ _ (λ h. eq-true b 10 h) (λ h7.
    is-cond b (is_other_space b) _ _ (λ h. h) (λ h8.
    is-cond b (eqb b 47) _ _ (λ h. eq-true b 47 h) (λ h9.
    is-cond b (eqb b 35) _ _ (λ h. eq-true b 35 h) (λ h10. (rw (h1, h2, h6, h7, h8, h4, h5, h10) refl, h3, h9, h2)))))))))))

pub letter-class : (b : ℕ) → is_letter b ≡ true → class_of b ≡ class.Letter
unfolding class_of
letter-class b h = rw h refl

digit-letter : (b : ℕ) → is_digit b ≡ true → is_letter b ≡ false
digit-letter b h = grind (arith, nat_tests)

pub digit-class : (b : ℕ) → is_digit b ≡ true → class_of b ≡ class.Digit
unfolding class_of
digit-class b h = rw (digit-letter b h, h) refl

pub blank-class : (b : ℕ) → is_blank b ≡ true → class_of b ≡ class.Blank
unfolding class_of
blank-class b h = grind (arith, nat_tests)

pub other_space-class : (b : ℕ) → is_other_space b ≡ true → class_of b ≡ class.OtherSpace
unfolding class_of
other_space-class b h = grind (arith, nat_tests)

none-of : (a b c d e f g h : Bool) → not (a || b || c || d || e || f || g || h) ≡ true → (a ≡ false) × (b ≡ false) × (c ≡ false) × (d ≡ false) × (e ≡ false) × (f ≡ false) × (g ≡ false) × (h ≡ false)
none-of true _ _ _ _ _ _ _ k = absurd (cc)
none-of false true _ _ _ _ _ _ k = absurd (cc)
none-of false false true _ _ _ _ _ k = absurd (cc)
none-of false false false true _ _ _ _ k = absurd (cc)
none-of false false false false true _ _ _ k = absurd (cc)
none-of false false false false false true _ _ k = absurd (cc)
none-of false false false false false false true _ k = absurd (cc)
none-of false false false false false false false true k = absurd (cc)
none-of false false false false false false false false k = (refl, refl, refl, refl, refl, refl, refl, refl)

pub nothing-class : (b : ℕ) → begins_at_most_a_mark b ≡ true → eqb b 46 ≡ false → eqb b 47 ≡ false → class_of b ≡ class.Other
unfolding class_of
nothing-class b h i j =
    let n = none-of (is_letter b) (is_digit b) (is_blank b) (eqb b 10) (is_other_space b) (eqb b 39) (eqb b 34) (eqb b 35) h in
    rw (n.0, n.1, i, n.5, n.6, n.2, n.3, n.4, j, n.7) refl

pub point-class : class_of 46 ≡ class.Point
unfolding class_of
point-class = refl

pub apostrophe-class : class_of 39 ≡ class.Apostrophe
unfolding class_of
apostrophe-class = refl

pub quote-class : class_of 34 ≡ class.Quote
unfolding class_of
quote-class = refl

pub line_feed-class : class_of 10 ≡ class.LineFeed
unfolding class_of
line_feed-class = refl

pub slash-class : class_of 47 ≡ class.Slash
unfolding class_of
slash-class = refl

pub hash-class : class_of 35 ≡ class.Hash
unfolding class_of
hash-class = refl
