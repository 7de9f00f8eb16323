-- A constant that is printed in decimal, with its suffix, spells its number.
use Rattle.std.proofs.Common.{◌≡◌, ℕ, zero, suc, ◌+◌, ◌*◌, ◌≤◌, ◌<◌, ◌^◌, ◌/◌, ◌%◌, Bool, true, false, ◌||◌, ◌&&◌, not, eqb, fold, List, [], ◌∷◌, ◌++◌, refl, ap, sym, ◌∙◌, subst, arith, decimal}
use Rattle.std.proofs.lemmas.Bool.Decides.{nat_tests}
use Rattle.std.proofs.lemmas.Fmt.{decimal_by_steps, decimal_digit}
use Rattle.std.specs.List.{list_all}
use Rattle.cc_program.specs.CcWords.Names.{is_digit, is_letter_or_digit}
use Rattle.cc_lex.specs.declared.token.Suffix.{Suffix}
use Rattle.cc_lex.specs.declared.token.Kind.TheVariants as kind
use Rattle.cc_lex.specs.Bytes.{begins_with}
use Rattle.cc_lex.specs.Numbers.{digit_value, is_digit_in, AreDigits, OneDigit, IsConstant, ADecimal, AnOctal, IsSuffix, NoSuffix, JustUnsigned, JustLong, UnsignedLong, SmallU, SmallL, SmallTwo, greatest, AnInteger, is_sign}
use Rattle.cc_lex.specs.ScanParts.{is_exponent, value_of}
use Rattle.cc_lex.specs.Tokens.{Spells}
use Rattle.cc_lex.proofs.Booleans.{or-false, not-true, and-true, and-false, eq-false}
use Rattle.cc_lex.proofs.Constants.{digits-are}
use Rattle.cc_lex.proofs.Runs.{all_go_on, last_of, stops, FromDigit, run-spells}
use Rattle.cc_pieces.specs.Pieces.{suffix_text, unsigned_letter, long_letters}

-- ---- what `decimal` writes

all-push : (p : ℕ → Bool) (ds : List ℕ) (d : ℕ) → list_all p ds ≡ true → p d ≡ true → list_all p (ds ++ d ∷ []) ≡ true
all-push p [] d h e = rw e refl
all-push p (x ∷ ds) d h e = let f = and-true (p x) (list_all p ds) h in rw f.0 (all-push p ds d f.1 e)

fold-push : (f : ℕ → ℕ → ℕ) (v : ℕ) (ds : List ℕ) (d : ℕ) → fold f v (ds ++ d ∷ []) ≡ f (fold f v ds) d
fold-push f v [] d = refl
fold-push f v (x ∷ ds) d = fold-push f (f v x) ds d

value-push : (ds : List ℕ) (d : ℕ) → value_of 10 (ds ++ d ∷ []) ≡ value_of 10 ds * 10 + digit_value d
unfolding value_of
value-push ds d = fold-push (λ v b. v * 10 + digit_value b) 0 ds d

digit-is : (d : ℕ) → d < 10 → is_digit (48 + d) ≡ true
digit-is d h = grind (arith, nat_tests)

digit-worth : (d : ℕ) → d < 10 → digit_value (48 + d) ≡ d
digit-worth d h = rw (digit-is d h) (omega arith)

value-one : (d : ℕ) → d < 10 → value_of 10 ((48 + d) ∷ []) ≡ d
unfolding value_of
value-one d h = rw (digit-worth d h) (omega arith)

-- the first digit of a number above 0 is not 0
abbrev Leads : ℕ → List ℕ → Type 0
Leads n [] = ⊥
Leads n (c ∷ cs) = 0 < n → eqb c 48 ≡ false

leads-push : (n m : ℕ) (ds : List ℕ) (d : ℕ) → (0 < m → 0 < n) → Leads n ds → Leads m (ds ++ d ∷ [])
leads-push n m [] d k h = absurd h
leads-push n m (c ∷ cs) d k h = λ p. h (k p)

abbrev pub IsNumeral : ℕ → List ℕ → Type 0
IsNumeral n ds = (list_all is_digit ds ≡ true) × (value_of 10 ds ≡ n) × Leads n ds

numeral-more : (n : ℕ) (ds : List ℕ) → 10 ≤ n → IsNumeral (n / 10) ds → IsNumeral n (ds ++ ((48 + n % 10) ∷ []))
numeral-more n ds h i =
    let small : n % 10 < 10 = omega arith in
    let value : value_of 10 ds * 10 + digit_value (48 + n % 10) ≡ n = rw (i.1, digit-worth (n % 10) small) (omega arith) in
    (all-push is_digit ds (48 + n % 10) i.0 (digit-is (n % 10) small), value-push ds (48 + n % 10) ∙ value, leads-push (n / 10) n ds (48 + n % 10) (λ p. omega (arith, h)) i.2)

first-one : (n : ℕ) → 0 < n → eqb (48 + n) 48 ≡ false
first-one n h = grind (arith, nat_tests)

pub numeral : (n : ℕ) → n < 2 ^ 64 → IsNumeral n (decimal n)
numeral n h = decimal_by_steps IsNumeral (λ n h. (rw (digit-is n h) refl, value-one n h, first-one n)) numeral-more n h

-- ---- suffixes

suffix-is : (u : Bool) (k : ℕ) → k ≤ 2 → IsSuffix (unsigned_letter u ++ long_letters k) u k
suffix-is true zero h = JustUnsigned _ SmallU
suffix-is true (suc zero) h = UnsignedLong _ _ 1 SmallU SmallL
suffix-is true (suc (suc zero)) h = UnsignedLong _ _ 2 SmallU SmallTwo
suffix-is false zero h = NoSuffix
suffix-is false (suc zero) h = JustLong _ 1 SmallL
suffix-is false (suc (suc zero)) h = JustLong _ 2 SmallTwo
suffix-is u (suc (suc (suc k))) h = absurd (omega (arith, h))

-- ---- where a constant ends

-- bytes that a number goes on with, and behind which no sign belongs to it
abbrev is_plain : ℕ → Bool
is_plain b = is_letter_or_digit b && not (is_exponent b)

digit-plain : (b : ℕ) → is_digit b ≡ true → is_plain b ≡ true
digit-plain b h = grind (arith, nat_tests)

digits-plain : (ds : List ℕ) → list_all is_digit ds ≡ true → list_all is_plain ds ≡ true
digits-plain [] h = refl
digits-plain (d ∷ ds) h = let f = and-true (is_digit d) (list_all is_digit ds) h in rw (digit-plain d f.0) (digits-plain ds f.1)

suffix-plain : (u : Bool) (k : ℕ) → list_all is_plain (unsigned_letter u ++ long_letters k) ≡ true
suffix-plain true zero = refl
suffix-plain true (suc zero) = refl
suffix-plain true (suc (suc k)) = refl
suffix-plain false zero = refl
suffix-plain false (suc zero) = refl
suffix-plain false (suc (suc k)) = refl

all-both : (p : ℕ → Bool) (v w : List ℕ) → list_all p v ≡ true → list_all p w ≡ true → list_all p (v ++ w) ≡ true
all-both p [] w h e = e
all-both p (x ∷ v) w h e = let f = and-true (p x) (list_all p v) h in rw f.0 (all-both p v w f.1 e)

plain-goes : (before : ℕ) (w : List ℕ) → list_all is_plain w ≡ true → all_go_on before w ≡ true
plain-goes before [] h = refl
plain-goes before (b ∷ w) h =
    let f = and-true (is_plain b) (list_all is_plain w) h in
    let g = and-true (is_letter_or_digit b) (not (is_exponent b)) f.0 in
    rw g.0 (plain-goes b w f.1)

plain-last : (c : ℕ) (w : List ℕ) → is_plain c ≡ true → list_all is_plain w ≡ true → is_exponent (last_of c w) ≡ false
plain-last c [] h e = not-true (is_exponent c) (and-true (is_letter_or_digit c) (not (is_exponent c)) h).1
plain-last c (b ∷ w) h e = let f = and-true (is_plain b) (list_all is_plain w) e in plain-last b w f.0 f.1

plain-stops : (c : ℕ) (w rest : List ℕ) → is_plain c ≡ true → list_all is_plain w ≡ true → begins_with (λ b. is_letter_or_digit b || eqb b 46) rest ≡ false → stops (last_of c w) rest ≡ true
plain-stops c w [] h e k = refl
plain-stops c w (b ∷ rest) h e k =
    let f = or-false (is_letter_or_digit b) (eqb b 46) k in
    rw (f.0, f.1, plain-last c w h e, and-false (is_sign b)) refl

-- ---- constants

-- digits and a suffix that make a constant
written : (ds : List ℕ) (n : ℕ) (s : Suffix) (rest : List ℕ) → list_all is_digit ds ≡ true → IsConstant ds s.decimal n → n ≤ greatest s.decimal s.unsigned → s.longs ≤ 2 →
    begins_with (λ b. is_letter_or_digit b || eqb b 46) rest ≡ false → Spells (ds ++ suffix_text s) rest (kind.Number n s)
written [] n s rest h i g j e = absurd (no-constant i) where
  no-constant : {d : Bool} {n : ℕ} → IsConstant [] d n → ⊥
  no-constant h = elim h [ ]
written (c ∷ cs) n s rest h i g j e =
    let f = and-true (is_digit c) (list_all is_digit cs) h in
    let p = all-both is_plain cs (suffix_text s) (digits-plain cs f.1) (suffix-plain s.unsigned s.longs) in
    run-spells c (cs ++ suffix_text s) rest n s (FromDigit c (cs ++ suffix_text s) f.0 (plain-goes c (cs ++ suffix_text s) p)) (plain-stops c (cs ++ suffix_text s) rest (digit-plain c f.0) p e)
    (AnInteger (c ∷ cs) (suffix_text s) s.decimal s.unsigned n s.longs i (suffix-is s.unsigned s.longs j) g)

within : (decimal unsigned : Bool) (n : ℕ) → n ≤ greatest decimal unsigned → n < 2 ^ 64
within true false n h = omega (arith, h)
within true true n h = omega (arith, h)
within false u n h = omega (arith, h)

positive : (n : ℕ) (ds : List ℕ) → IsNumeral n ds → 0 < n → IsConstant ds true n
positive n [] i p = absurd i.2
positive n (d ∷ ds) i p = ADecimal d ds n (eq-false d 48 (i.2 p)) (subst (λ v. AreDigits 10 (d ∷ ds) v) i.1 (digits-are 10 d ds (all-in (d ∷ ds) i.0))) where
  digit-in : (b : ℕ) → is_digit b ≡ true → is_digit_in 10 b ≡ true
  digit-in b h = rw h (grind (arith, nat_tests))

  all-in : (ds : List ℕ) → list_all is_digit ds ≡ true → list_all (is_digit_in 10) ds ≡ true
  all-in [] h = refl
  all-in (d ∷ ds) h = let f = and-true (is_digit d) (list_all is_digit ds) h in rw (digit-in d f.0) (all-in ds f.1)

not-zero : (n : ℕ) → eqb (suc n) 0 ≡ false
not-zero n = grind (arith, nat_tests)

-- the spelling of a number in decimal is a constant, which counts as decimal unless it is 0
constant-is : (n : ℕ) (decimal_one : Bool) → n < 2 ^ 64 → decimal_one ≡ not (eqb n 0) → IsConstant (decimal n) decimal_one n
constant-is zero d h e =
    subst (λ t. IsConstant (decimal 0) t 0) (sym e) (subst (λ ds. IsConstant ds false 0) (sym (decimal_digit 0 (omega arith))) (AnOctal [] 0 (OneDigit 8 48 refl)))
constant-is (suc n) d h e = subst (λ t. IsConstant (decimal (suc n)) t (suc n)) (sym (e ∙ ap not (not-zero n))) (positive (suc n) (decimal (suc n)) (numeral (suc n) h) (omega arith))

pub constant : (n : ℕ) (s : Suffix) (rest : List ℕ) → n ≤ greatest s.decimal s.unsigned → s.decimal ≡ not (eqb n 0) → s.longs ≤ 2 → begins_with (λ b. is_letter_or_digit b || eqb b 46) rest ≡ false →
    Spells (decimal n ++ suffix_text s) rest (kind.Number n s)
constant n s rest g d j e =
    let h = within s.decimal s.unsigned n g in
    written (decimal n) n s rest (numeral n h).0 (constant-is n s.decimal h d) g j e
