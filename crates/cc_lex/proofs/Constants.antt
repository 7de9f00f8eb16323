-- Integer constants, as the productions derive them and as they are computed, both ways.
use Rattle.std.proofs.Common.{◌≡◌, ◌≢◌, ℕ, zero, suc, ◌+◌, ◌*◌, ◌<◌, ◌≤◌, Bool, true, false, ◌&&◌, ◌||◌, cond, eqb, ltb, List, [], ◌∷◌, ◌++◌, length, take, drop, fold, Option, Some, None, refl, ap, sym, ◌∙◌, subst, arith, append_assoc, append-nil, length-append}
use Rattle.std.specs.List.{list_all, prefix_len}
use Rattle.std.proofs.Math.ListN.{take-append-drop}
use Rattle.std.proofs.lemmas.Bool.Decides.{nat_tests}
use Rattle.std.proofs.lemmas.List.Folds.{list_all-append}
use Rattle.std.proofs.lemmas.List.Sums.{fold-append, prefix_len-le-length}
use Rattle.cc_lex.specs.declared.token.Suffix.{Suffix}
use Rattle.cc_lex.specs.Bytes.{begins_with}
use Rattle.cc_lex.specs.Numbers.{digit_value, is_digit_in, AreDigits, OneDigit, OneMore, is_x, is_b, IsConstant, ADecimal, AnOctal, AHexadecimal, ABinary, IsUnsigned, SmallU, CapitalU, IsLong, SmallL, CapitalL, SmallTwo, CapitalTwo, IsSuffix, NoSuffix, JustUnsigned, JustLong, UnsignedLong, LongUnsigned, greatest, IsInteger, AnInteger}
use Rattle.cc_lex.specs.ScanParts.{value_of, base_of, is_u, is_l, suffix_of, valued, integer_in, number_of}
use Rattle.cc_lex.proofs.Booleans.{and-true, eq-true, eq-false, eq-other}
use Rattle.cc_lex.proofs.Fronts.{take-front, drop-front, front-len, front-all}

-- ---- digits

-- the value of one more digit
abbrev with_digit : ℕ → ℕ → ℕ → ℕ
with_digit base v b = v * base + digit_value b

digits-behind : (base : ℕ) (front ds : List ℕ) (n : ℕ) → AreDigits base front n → list_all (is_digit_in base) ds ≡ true → AreDigits base (front ++ ds) (fold (with_digit base) n ds)
digits-behind base front [] n h k = subst (λ (x : List ℕ). AreDigits base x n) (sym (append-nil front)) h
digits-behind base front (d ∷ ds) n h k =
    let e = and-true (is_digit_in base d) (list_all (is_digit_in base) ds) k in
    subst (λ (x : List ℕ). AreDigits base x (fold (with_digit base) (with_digit base n d) ds)) (append_assoc front (d ∷ []) ds)
    (digits-behind base (front ++ d ∷ []) ds (with_digit base n d) (OneMore base front n d h e.0) e.1)

pub digits-are : (base d : ℕ) (ds : List ℕ) → list_all (is_digit_in base) (d ∷ ds) ≡ true → AreDigits base (d ∷ ds) (value_of base (d ∷ ds))
unfolding value_of
digits-are base d ds h =
    let e = and-true (is_digit_in base d) (list_all (is_digit_in base) ds) h in
    let z : digit_value d ≡ 0 * base + digit_value d = omega arith in
    subst (λ (v : ℕ). AreDigits base (d ∷ ds) (fold (with_digit base) v ds)) z (digits-behind base (d ∷ []) ds (digit_value d) (OneDigit base d e.0) e.1)

-- what digits and their value are by tests
pub record Digits (base : ℕ) (ds : List ℕ) (n : ℕ) : Type 0 where
  pub all : list_all (is_digit_in base) ds ≡ true
  pub value : value_of base ds ≡ n
  pub some : 0 < length ds

pub digits-found : (base : ℕ) (ds : List ℕ) (n : ℕ) → AreDigits base ds n → Digits base ds n
unfolding value_of
digits-found base ds n (OneDigit _ b h) = record { all = rw h refl; value = omega arith; some = omega arith }
digits-found base ds n (OneMore _ front v b h k) =
    let d = digits-found base front v h in
    record {
      all = list_all-append (is_digit_in base) front (b ∷ []) ∙ rw (d.all, k) refl;
      value = fold-append (with_digit base) 0 front (b ∷ []) ∙ ap (λ (x : ℕ). x * base + digit_value b) d.value;
      some = omega (arith, length-append front (b ∷ []));
    }

-- ---- suffixes

u-is : (a : ℕ) → is_u a ≡ true → IsUnsigned (a ∷ [])
u-is a h = by-small (eqb a 117) refl h
  where
    by-small : (t : Bool) → eqb a 117 ≡ t → (t || eqb a 85) ≡ true → IsUnsigned (a ∷ [])
    by-small true e h = subst (λ (x : ℕ). IsUnsigned (x ∷ [])) (sym (eq-true a 117 e)) SmallU
    by-small false e h = subst (λ (x : ℕ). IsUnsigned (x ∷ [])) (sym (eq-true a 85 h)) CapitalU

l-is : (a : ℕ) → is_l a ≡ true → IsLong (a ∷ []) 1
l-is a h = by-small (eqb a 108) refl h
  where
    by-small : (t : Bool) → eqb a 108 ≡ t → (t || eqb a 76) ≡ true → IsLong (a ∷ []) 1
    by-small true e h = subst (λ (x : ℕ). IsLong (x ∷ []) 1) (sym (eq-true a 108 e)) SmallL
    by-small false e h = subst (λ (x : ℕ). IsLong (x ∷ []) 1) (sym (eq-true a 76 h)) CapitalL

ll-is : (a b : ℕ) → is_l a ≡ true → eqb a b ≡ true → IsLong (a ∷ b ∷ []) 2
ll-is a b h k = subst (λ (x : ℕ). IsLong (a ∷ x ∷ []) 2) (eq-true a b k) (by-small (eqb a 108) refl h)
  where
    by-small : (t : Bool) → eqb a 108 ≡ t → (t || eqb a 76) ≡ true → IsLong (a ∷ a ∷ []) 2
    by-small true e h = subst (λ (x : ℕ). IsLong (x ∷ x ∷ []) 2) (sym (eq-true a 108 e)) SmallTwo
    by-small false e h = subst (λ (x : ℕ). IsLong (x ∷ x ∷ []) 2) (sym (eq-true a 76 h)) CapitalTwo

-- what the answer says of the bytes
abbrev SuffixIs : List ℕ → Option (Bool × ℕ) → Type 0
SuffixIs s None = Unit {0}
SuffixIs s (Some (unsigned, longs)) = IsSuffix s unsigned longs

suffix-cond : (s : List ℕ) (t : Bool) (x y : Option (Bool × ℕ)) → (t ≡ true → SuffixIs s x) → SuffixIs s y → SuffixIs s (cond t x y)
suffix-cond s true x y h k = h refl
suffix-cond s false x y h k = k

suffix-is : (s : List ℕ) → SuffixIs s (suffix_of s)
suffix-is [] = NoSuffix
suffix-is (a ∷ []) =
    suffix-cond (a ∷ []) (is_u a) _ _ (λ h. JustUnsigned (a ∷ []) (u-is a h))
    (suffix-cond (a ∷ []) (is_l a) _ _ (λ h. JustLong (a ∷ []) 1 (l-is a h)) tt)
suffix-is (a ∷ b ∷ []) =
    suffix-cond (a ∷ b ∷ []) _ _ _ (λ h. let e = and-true (is_u a) (is_l b) h in UnsignedLong (a ∷ []) (b ∷ []) 1 (u-is a e.0) (l-is b e.1))
    (suffix-cond (a ∷ b ∷ []) _ _ _ (λ h. let e = and-true (is_l a) (is_u b) h in LongUnsigned (b ∷ []) (a ∷ []) 1 (u-is b e.1) (l-is a e.0))
    (suffix-cond (a ∷ b ∷ []) _ _ _ (λ h. let e = and-true (is_l a) (eqb a b) h in JustLong (a ∷ b ∷ []) 2 (ll-is a b e.0 e.1)) tt))
suffix-is (a ∷ b ∷ c ∷ []) =
    suffix-cond (a ∷ b ∷ c ∷ []) _ _ _ (λ h.
    let e = and-true (is_u a && is_l b) (eqb b c) h in
    let f = and-true (is_u a) (is_l b) e.0 in
    UnsignedLong (a ∷ []) (b ∷ c ∷ []) 2 (u-is a f.0) (ll-is b c f.1 e.1))
    (suffix-cond (a ∷ b ∷ c ∷ []) _ _ _ (λ h.
    let e = and-true (is_l a && eqb a b) (is_u c) h in
    let f = and-true (is_l a) (eqb a b) e.0 in
    LongUnsigned (c ∷ []) (a ∷ b ∷ []) 2 (u-is c e.1) (ll-is a b f.0 f.1)) tt)
suffix-is (a ∷ b ∷ c ∷ d ∷ rest) = tt

suffix-found : (s : List ℕ) (unsigned : Bool) (longs : ℕ) → IsSuffix s unsigned longs → suffix_of s ≡ Some (unsigned, longs)
suffix-found s unsigned longs NoSuffix = refl
suffix-found s unsigned longs (JustUnsigned _ SmallU) = refl
suffix-found s unsigned longs (JustUnsigned _ CapitalU) = refl
suffix-found s unsigned longs (JustLong _ _ SmallL) = refl
suffix-found s unsigned longs (JustLong _ _ CapitalL) = refl
suffix-found s unsigned longs (JustLong _ _ SmallTwo) = refl
suffix-found s unsigned longs (JustLong _ _ CapitalTwo) = refl
suffix-found s unsigned longs (UnsignedLong _ _ _ SmallU SmallL) = refl
suffix-found s unsigned longs (UnsignedLong _ _ _ SmallU CapitalL) = refl
suffix-found s unsigned longs (UnsignedLong _ _ _ SmallU SmallTwo) = refl
suffix-found s unsigned longs (UnsignedLong _ _ _ SmallU CapitalTwo) = refl
suffix-found s unsigned longs (UnsignedLong _ _ _ CapitalU SmallL) = refl
suffix-found s unsigned longs (UnsignedLong _ _ _ CapitalU CapitalL) = refl
suffix-found s unsigned longs (UnsignedLong _ _ _ CapitalU SmallTwo) = refl
suffix-found s unsigned longs (UnsignedLong _ _ _ CapitalU CapitalTwo) = refl
suffix-found s unsigned longs (LongUnsigned _ _ _ SmallU SmallL) = refl
suffix-found s unsigned longs (LongUnsigned _ _ _ SmallU CapitalL) = refl
suffix-found s unsigned longs (LongUnsigned _ _ _ SmallU SmallTwo) = refl
suffix-found s unsigned longs (LongUnsigned _ _ _ SmallU CapitalTwo) = refl
suffix-found s unsigned longs (LongUnsigned _ _ _ CapitalU SmallL) = refl
suffix-found s unsigned longs (LongUnsigned _ _ _ CapitalU CapitalL) = refl
suffix-found s unsigned longs (LongUnsigned _ _ _ CapitalU SmallTwo) = refl
suffix-found s unsigned longs (LongUnsigned _ _ _ CapitalU CapitalTwo) = refl

-- a test that none of u, U, l and L passes
record Misses (p : ℕ → Bool) : Type 0 where
  small_u : p 117 ≡ false
  capital_u : p 85 ≡ false
  small_l : p 108 ≡ false
  capital_l : p 76 ≡ false

u-missed : (p : ℕ → Bool) (u t : List ℕ) → Misses p → IsUnsigned u → begins_with p (u ++ t) ≡ false
u-missed p u t m SmallU = m.small_u
u-missed p u t m CapitalU = m.capital_u

l-missed : (p : ℕ → Bool) (l t : List ℕ) (n : ℕ) → Misses p → IsLong l n → begins_with p (l ++ t) ≡ false
l-missed p l t n m SmallL = m.small_l
l-missed p l t n m CapitalL = m.capital_l
l-missed p l t n m SmallTwo = m.small_l
l-missed p l t n m CapitalTwo = m.capital_l

suffix-missed : (p : ℕ → Bool) (s : List ℕ) (unsigned : Bool) (longs : ℕ) → Misses p → IsSuffix s unsigned longs → begins_with p s ≡ false
suffix-missed p s unsigned longs m NoSuffix = refl
suffix-missed p s unsigned longs m (JustUnsigned _ u) = ap (begins_with p) (sym (append-nil s)) ∙ u-missed p s [] m u
suffix-missed p s unsigned longs m (JustLong _ n l) = ap (begins_with p) (sym (append-nil s)) ∙ l-missed p s [] n m l
suffix-missed p s unsigned longs m (UnsignedLong v w n u l) = u-missed p v w m u
suffix-missed p s unsigned longs m (LongUnsigned v w n u l) = l-missed p w v n m l

digits-missed : (base : ℕ) → base ≤ 16 → Misses (is_digit_in base)
digits-missed base h = let e : ltb 16 base ≡ false = grind (arith, nat_tests) in record { small_u = e; capital_u = e; small_l = e; capital_l = e }

-- ---- what is computed is derived

-- what the answer says of a run
abbrev IntegerIs : List ℕ → Option (ℕ × Suffix) → Type 0
IntegerIs run None = Unit {0}
IntegerIs run (Some (v, s)) = IsInteger run v s

in-range : (w s : List ℕ) (decimal unsigned : Bool) (v longs : ℕ) (t : Bool) → ltb (greatest decimal unsigned) v ≡ t → IsConstant w decimal v → IsSuffix s unsigned longs →
    IntegerIs (w ++ s) (cond t None (Some (v, record { decimal = decimal; unsigned = unsigned; longs = longs })))
in-range w s decimal unsigned v longs true e h k = tt
in-range w s decimal unsigned v longs false e h k = AnInteger w s decimal unsigned v longs h k (at-most (greatest decimal unsigned) v e)
  where
    at-most : (a b : ℕ) → ltb a b ≡ false → b ≤ a
    at-most a b h = grind (arith, nat_tests)

valued-is : (w s : List ℕ) (decimal : Bool) (v : ℕ) (r : Option (Bool × ℕ)) → IsConstant w decimal v → SuffixIs s r → IntegerIs (w ++ s) (valued decimal v r)
valued-is w s decimal v None h k = tt
valued-is w s decimal v (Some (unsigned, longs)) h k = in-range w s decimal unsigned v longs (ltb (greatest decimal unsigned) v) refl h k

-- the front that comes before the digits makes a constant of them
abbrev Prefixed : ℕ → Bool → List ℕ → List ℕ → Type 0
Prefixed base decimal front text = (d : ℕ) (ds behind : List ℕ) → text ≡ d ∷ ds ++ behind → AreDigits base (d ∷ ds) (value_of base (d ∷ ds)) → IsConstant (front ++ d ∷ ds) decimal (value_of base (d ∷ ds))

integer-by : (base : ℕ) (decimal : Bool) (front text : List ℕ) (n : ℕ) (t : Bool) → eqb base 10 ≡ decimal → Prefixed base decimal front text → n ≤ length text → list_all (is_digit_in base) (take n text) ≡ true → eqb n 0 ≡ t →
    IntegerIs (front ++ text) (cond t None (valued (eqb base 10) (value_of base (take n text)) (suffix_of (drop n text))))
integer-by base decimal front text n true e p h k z = tt
integer-by base decimal front [] n false e p h k z = absurd (eq-false n 0 z (omega arith))
integer-by base decimal front (d ∷ ds) n false e p h k z = behind-first n (eq-false n 0 z) h k
  where
    behind-first : (n : ℕ) → n ≢ 0 → n ≤ length (d ∷ ds) → list_all (is_digit_in base) (take n (d ∷ ds)) ≡ true → IntegerIs (front ++ (d ∷ ds)) (valued (eqb base 10) (value_of base (take n (d ∷ ds))) (suffix_of (drop n (d ∷ ds))))
    behind-first zero z h k = absurd (z refl)
    behind-first (suc m) z h k =
        let v = value_of base (d ∷ take m ds) in
        let digits = digits-are base d (take m ds) k in
        let constant : IsConstant (front ++ (d ∷ take m ds)) decimal v = p d (take m ds) (drop m ds) (ap (λ (x : List ℕ). d ∷ x) (sym (take-append-drop m ds))) digits in
        let whole : (front ++ (d ∷ take m ds)) ++ drop m ds ≡ front ++ (d ∷ ds) = append_assoc front (d ∷ take m ds) (drop m ds) ∙ ap (λ (x : List ℕ). front ++ (d ∷ x)) (take-append-drop m ds) in
        subst (λ (x : List ℕ). IntegerIs x (valued (eqb base 10) v (suffix_of (drop m ds)))) whole
        (subst (λ (t : Bool). IntegerIs ((front ++ (d ∷ take m ds)) ++ drop m ds) (valued t v (suffix_of (drop m ds)))) (sym e)
        (valued-is (front ++ (d ∷ take m ds)) (drop m ds) decimal v (suffix_of (drop m ds)) constant (suffix-is (drop m ds))))

integer-is : (base : ℕ) (decimal : Bool) (front text : List ℕ) → eqb base 10 ≡ decimal → Prefixed base decimal front text → IntegerIs (front ++ text) (integer_in base text)
integer-is base decimal front text e p =
    let n = prefix_len (is_digit_in base) text in
    integer-by base decimal front text n (eqb n 0) e p (prefix_len-le-length (is_digit_in base) text) (front-all (is_digit_in base) text) refl

decimal-run : (a : ℕ) (t : List ℕ) → a ≢ 48 → IntegerIs (a ∷ t) (integer_in 10 (a ∷ t))
decimal-run a t h = integer-is 10 true [] (a ∷ t) refl (λ d ds behind e g. ADecimal d ds (value_of 10 (d ∷ ds)) (λ k. h (same-first d ds behind e ∙ k)) g)
  where
    same-first : (d : ℕ) (ds behind : List ℕ) → a ∷ t ≡ d ∷ ds ++ behind → a ≡ d
    same-first d ds behind e = cc

octal-run : (t : List ℕ) → IntegerIs (48 ∷ t) (integer_in 8 (48 ∷ t))
octal-run t = integer-is 8 false [] (48 ∷ t) refl (λ d ds behind e g. first-zero d ds behind e g)
  where
    first-zero : (d : ℕ) (ds behind : List ℕ) → 48 ∷ t ≡ d ∷ ds ++ behind → AreDigits 8 (d ∷ ds) (value_of 8 (d ∷ ds)) → IsConstant (d ∷ ds) false (value_of 8 (d ∷ ds))
    first-zero d ds behind e g =
        let i : 48 ≡ d = cc in
        let P : ℕ → Type 0 = λ x. AreDigits 8 (x ∷ ds) (value_of 8 (x ∷ ds)) → IsConstant (x ∷ ds) false (value_of 8 (x ∷ ds)) in
        subst P i (AnOctal ds (value_of 8 (48 ∷ ds))) g

hexadecimal-run : (x : ℕ) (t : List ℕ) → is_x x ≡ true → IntegerIs (48 ∷ x ∷ t) (integer_in 16 t)
hexadecimal-run x t h = integer-is 16 false (48 ∷ x ∷ []) t refl (λ d ds behind e g. AHexadecimal x (d ∷ ds) (value_of 16 (d ∷ ds)) h g)

binary-run : (b : ℕ) (t : List ℕ) → is_b b ≡ true → IntegerIs (48 ∷ b ∷ t) (integer_in 2 t)
binary-run b t h = integer-is 2 false (48 ∷ b ∷ []) t refl (λ d ds behind e g. ABinary b (d ∷ ds) (value_of 2 (d ∷ ds)) h g)

-- the integer that is computed at a base and a start
abbrev number_at : ℕ × ℕ → List ℕ → Option (ℕ × Suffix)
number_at from run = integer_in from.0 (drop from.1 run)

one-byte : (a : ℕ) (zero : Bool) → eqb a 48 ≡ zero → IntegerIs (a ∷ []) (number_at (cond zero (8, 0) (10, 0)) (a ∷ []))
one-byte a true e = subst (λ (x : ℕ). IntegerIs (x ∷ []) (integer_in 8 (x ∷ []))) (sym (eq-true a 48 e)) (octal-run [])
one-byte a false e = decimal-run a [] (eq-false a 48 e)

two-bytes : (a b : ℕ) (rest : List ℕ) (zero x y : Bool) → eqb a 48 ≡ zero → is_x b ≡ x → is_b b ≡ y →
    IntegerIs (a ∷ b ∷ rest) (number_at (cond zero (cond x (16, 2) (cond y (2, 2) (8, 0))) (10, 0)) (a ∷ b ∷ rest))
two-bytes a b rest false x y e h k = decimal-run a (b ∷ rest) (eq-false a 48 e)
two-bytes a b rest true true y e h k = subst (λ (z : ℕ). IntegerIs (z ∷ b ∷ rest) (integer_in 16 rest)) (sym (eq-true a 48 e)) (hexadecimal-run b rest h)
two-bytes a b rest true false true e h k = subst (λ (z : ℕ). IntegerIs (z ∷ b ∷ rest) (integer_in 2 rest)) (sym (eq-true a 48 e)) (binary-run b rest k)
two-bytes a b rest true false false e h k = subst (λ (z : ℕ). IntegerIs (z ∷ b ∷ rest) (integer_in 8 (z ∷ b ∷ rest))) (sym (eq-true a 48 e)) (octal-run (b ∷ rest))

number-is : (run : List ℕ) → IntegerIs run (number_of run)
unfolding number_of
number-is [] = tt
number-is (a ∷ []) = one-byte a (eqb a 48) refl
number-is (a ∷ b ∷ rest) = two-bytes a b rest (eqb a 48) (is_x b) (is_b b) refl refl refl

-- ---- what is derived is computed

integer-found : (base : ℕ) (ds s : List ℕ) (decimal unsigned : Bool) (n longs : ℕ) → Digits base ds n → begins_with (is_digit_in base) s ≡ false → suffix_of s ≡ Some (unsigned, longs) →
    n ≤ greatest decimal unsigned → eqb base 10 ≡ decimal → integer_in base (ds ++ s) ≡ Some (n, record { decimal = decimal; unsigned = unsigned; longs = longs })
integer-found base ds s decimal unsigned n longs d stop e le f =
    let some : eqb (length ds) 0 ≡ false = eq-other (length ds) 0 (λ k. absurd (omega (arith, d.some, k))) in
    let all : prefix_len (is_digit_in base) (ds ++ s) ≡ length ds = front-len (is_digit_in base) ds s d.all stop in
    let small : ltb (greatest decimal unsigned) n ≡ false = no-more (greatest decimal unsigned) n le in
    rw (all, some, take-front ds s, drop-front ds s, d.value, e, f, small) refl
  where
    no-more : (a b : ℕ) → b ≤ a → ltb a b ≡ false
    no-more a b h = grind (arith, nat_tests)

decimal-base : (d : ℕ) (t : List ℕ) → d ≢ 48 → base_of (d ∷ t) ≡ (10, 0)
decimal-base d [] h = rw (eq-other d 48 h) refl
decimal-base d (b ∷ t) h = rw (eq-other d 48 h) refl

octal-base : (t : List ℕ) → begins_with is_x t ≡ false → begins_with is_b t ≡ false → base_of (48 ∷ t) ≡ (8, 0)
octal-base [] h k = refl
octal-base (b ∷ t) h k = rw (h, k) refl

binary-base : (b : ℕ) (t : List ℕ) → is_b b ≡ true → base_of (48 ∷ b ∷ t) ≡ (2, 2)
binary-base b t h = let e : is_x b ≡ false = grind (arith, nat_tests) in rw (e, h) refl

-- a byte that passes one test is another than one that doesn't
other-byte : (p : ℕ → Bool) (a b : ℕ) → p a ≡ true → p b ≡ false → eqb a b ≡ false
other-byte p a b h k = eq-other a b (λ e. differ (p a) h (ap p e ∙ k))
  where
    differ : (t : Bool) → t ≡ true → t ≡ false → ⊥
    differ t h k = cc

no-prefix : (p q : ℕ → Bool) (ds s : List ℕ) → ((d : ℕ) → p d ≡ true → q d ≡ false) → list_all p ds ≡ true → begins_with q s ≡ false → begins_with q (ds ++ s) ≡ false
no-prefix p q [] s h k e = e
no-prefix p q (d ∷ ds) s h k e = h d (and-true (p d) (list_all p ds) k).0

octal-no_x : (d : ℕ) → is_digit_in 8 d ≡ true → is_x d ≡ false
octal-no_x d h = rw (other-byte (is_digit_in 8) d 120 h refl, other-byte (is_digit_in 8) d 88 h refl) refl

octal-no_b : (d : ℕ) → is_digit_in 8 d ≡ true → is_b d ≡ false
octal-no_b d h = rw (other-byte (is_digit_in 8) d 98 h refl, other-byte (is_digit_in 8) d 66 h refl) refl

constant-found : (w s : List ℕ) (decimal unsigned : Bool) (n longs : ℕ) → IsConstant w decimal n → IsSuffix s unsigned longs → n ≤ greatest decimal unsigned →
    number_at (base_of (w ++ s)) (w ++ s) ≡ Some (n, record { decimal = decimal; unsigned = unsigned; longs = longs })
constant-found w s decimal unsigned n longs (ADecimal d ds _ h g) k le =
    ap (λ (x : ℕ × ℕ). number_at x (d ∷ (ds ++ s))) (decimal-base d (ds ++ s) h)
    ∙ integer-found 10 (d ∷ ds) s true unsigned n longs (digits-found 10 (d ∷ ds) n g) (suffix-missed (is_digit_in 10) s unsigned longs (digits-missed 10 (omega arith)) k) (suffix-found s unsigned longs k) le refl
constant-found w s decimal unsigned n longs (AnOctal ds _ g) k le =
    let d = digits-found 8 (48 ∷ ds) n g in
    let all = (and-true (is_digit_in 8 48) (list_all (is_digit_in 8) ds) d.all).1 in
    let no_x = no-prefix (is_digit_in 8) is_x ds s octal-no_x all (suffix-missed is_x s unsigned longs (record { small_u = refl; capital_u = refl; small_l = refl; capital_l = refl }) k) in
    let no_b = no-prefix (is_digit_in 8) is_b ds s octal-no_b all (suffix-missed is_b s unsigned longs (record { small_u = refl; capital_u = refl; small_l = refl; capital_l = refl }) k) in
    ap (λ (x : ℕ × ℕ). number_at x (48 ∷ (ds ++ s))) (octal-base (ds ++ s) no_x no_b)
    ∙ integer-found 8 (48 ∷ ds) s false unsigned n longs d (suffix-missed (is_digit_in 8) s unsigned longs (digits-missed 8 (omega arith)) k) (suffix-found s unsigned longs k) le refl
constant-found w s decimal unsigned n longs (AHexadecimal x ds _ h g) k le =
    rw h (integer-found 16 ds s false unsigned n longs (digits-found 16 ds n g) (suffix-missed (is_digit_in 16) s unsigned longs (digits-missed 16 (omega arith)) k) (suffix-found s unsigned longs k) le refl)
constant-found w s decimal unsigned n longs (ABinary b ds _ h g) k le =
    ap (λ (x : ℕ × ℕ). number_at x (48 ∷ b ∷ (ds ++ s))) (binary-base b (ds ++ s) h)
    ∙ integer-found 2 ds s false unsigned n longs (digits-found 2 ds n g) (suffix-missed (is_digit_in 2) s unsigned longs (digits-missed 2 (omega arith)) k) (suffix-found s unsigned longs k) le refl

pub integer-number : (run : List ℕ) (v : ℕ) (s : Suffix) → IsInteger run v s → number_of run ≡ Some (v, s)
unfolding number_of
integer-number run v suffix (AnInteger w s decimal unsigned _ longs c k le) = constant-found w s decimal unsigned v longs c k le

-- ---- both ways

pub number-integer : (run : List ℕ) (v : ℕ) (s : Suffix) → number_of run ≡ Some (v, s) → IsInteger run v s
number-integer run v s e = subst (IntegerIs run) e (number-is run)

pub no-integer : (run : List ℕ) → number_of run ≡ None → (v : ℕ) (s : Suffix) → IsInteger run v s → ⊥
no-integer run e v s h = let f = integer-number run v s h in absurd (cc)

no-number-by : (run : List ℕ) (r : Option (ℕ × Suffix)) → ((v : ℕ) (s : Suffix) → IsInteger run v s → ⊥) → IntegerIs run r → r ≡ None
no-number-by run None h k = refl
no-number-by run (Some (v, s)) h k = absurd (h v s k)

pub no-number : (run : List ℕ) → ((v : ℕ) (s : Suffix) → IsInteger run v s → ⊥) → number_of run ≡ None
no-number run h = no-number-by run (number_of run) h (number-is run)
