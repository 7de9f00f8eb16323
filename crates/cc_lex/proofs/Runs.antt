-- Preprocessing numbers by their bytes. A run is a digit, or a point and a digit, and behind it bytes each
-- of which goes on with the one before. The productions derive exactly the runs; and a run is the longest
-- preprocessing number at its place exactly where it stops there.
use Rattle.std.proofs.Common.{◌≡◌, ℕ, suc, ◌<◌, ◌≤◌, Bool, true, false, ◌&&◌, ◌||◌, not, cond, eqb, List, [], ◌∷◌, ◌++◌, length, take, drop, refl, ap, sym, ◌∙◌, subst, arith, append_assoc, append-nil, length-append}
use Rattle.std.specs.List.{list_all}
use Rattle.std.proofs.lemmas.Bool.Decides.{nat_tests}
use Rattle.cc_words.specs.Names.{is_digit, is_letter, is_letter_or_digit}
use Rattle.cc_lex.specs.declared.token.Kind.TheVariants as kind
use Rattle.cc_lex.specs.declared.token.Suffix.{Suffix}
use Rattle.cc_lex.specs.Numbers.{is_sign, IsPreprocessingNumber, ADigit, APointAndDigit, AndDigit, AndLetter, AndSmallE, AndCapitalE, AndSmallP, AndCapitalP, AndPoint, IsLongestNumber, HasNoNumber, IsInteger}
use Rattle.cc_lex.specs.Tokens.{Spells, ANumber}
use Rattle.cc_lex.specs.ScanParts.{is_exponent, goes_on, begins_with_digit, begins_fraction}
use Rattle.cc_lex.specs.Scan.{run_len}
use Rattle.cc_lex.proofs.Booleans.{and-true, both-true, and-false, or-true, not-true, true-false, eq-true}

-- each byte goes on with the run behind `before`
abbrev pub all_go_on : ℕ → List ℕ → Bool
all_go_on before [] = true
all_go_on before (b ∷ bs) = goes_on before b && all_go_on b bs

-- a run, whatever follows it
pub data IsRun : List ℕ → Type 0 where
  FromDigit : (c : ℕ) (cs : List ℕ) → is_digit c ≡ true → all_go_on c cs ≡ true → IsRun (c ∷ cs)
  FromPoint : (cs : List ℕ) → begins_with_digit cs ≡ true → all_go_on 46 cs ≡ true → IsRun (46 ∷ cs)

-- the last byte of a run whose first is `before`
abbrev pub last_of : ℕ → List ℕ → ℕ
last_of before [] = before
last_of before (b ∷ bs) = last_of b bs

-- the text doesn't go on with a run whose last byte is `before`
abbrev pub stops : ℕ → List ℕ → Bool
stops before [] = true
stops before (b ∷ bs) = not (goes_on before b)

pub fraction-found : (cs rest : List ℕ) → begins_with_digit cs ≡ true → begins_with_digit (cs ++ rest) ≡ true
fraction-found [] rest h = absurd (cc)
fraction-found (d ∷ ds) rest h = h

-- ---- how long a run is

stop-run : (before : ℕ) (rest : List ℕ) → stops before rest ≡ true → run_len before rest ≡ 0
stop-run before [] h = refl
stop-run before (b ∷ bs) h = let e = not-true (goes_on before b) h in rw e refl

pub run-len : (before : ℕ) (w rest : List ℕ) → all_go_on before w ≡ true → stops (last_of before w) rest ≡ true → run_len before (w ++ rest) ≡ length w
run-len before [] rest h k = stop-run before rest k
run-len before (b ∷ bs) rest h k =
    let e = and-true (goes_on before b) (all_go_on b bs) h in
    let f = run-len b bs rest e.1 k in
    rw (e.0, f) refl

pub run-within : (before : ℕ) (w rest : List ℕ) → all_go_on before w ≡ true → length w ≤ run_len before (w ++ rest)
run-within before [] rest h = omega arith
run-within before (b ∷ bs) rest h =
    let e = and-true (goes_on before b) (all_go_on b bs) h in
    let f = run-within b bs rest e.1 in
    rw e.0 (omega (arith, f))

run-all-at : (before b : ℕ) (bs : List ℕ) (t : Bool) → goes_on before b ≡ t → all_go_on b (take (run_len b bs) bs) ≡ true → all_go_on before (take (cond t (suc (run_len b bs)) 0) (b ∷ bs)) ≡ true
run-all-at before b bs true h k = rw h k
run-all-at before b bs false h k = refl

pub run-all : (before : ℕ) (text : List ℕ) → all_go_on before (take (run_len before text) text) ≡ true
run-all before [] = refl
run-all before (b ∷ bs) = run-all-at before b bs (goes_on before b) refl (run-all b bs)

run-stops-at : (before b : ℕ) (bs : List ℕ) (t : Bool) → goes_on before b ≡ t → stops (last_of b (take (run_len b bs) bs)) (drop (run_len b bs) bs) ≡ true →
    stops (last_of before (take (cond t (suc (run_len b bs)) 0) (b ∷ bs))) (drop (cond t (suc (run_len b bs)) 0) (b ∷ bs)) ≡ true
run-stops-at before b bs true h k = k
run-stops-at before b bs false h k = rw h refl

pub run-stops : (before : ℕ) (text : List ℕ) → stops (last_of before (take (run_len before text) text)) (drop (run_len before text) text) ≡ true
run-stops before [] = refl
run-stops before (b ∷ bs) = run-stops-at before b bs (goes_on before b) refl (run-stops b bs)

-- ---- what goes on behind any byte

pub digit-goes-on : (d : ℕ) → is_digit d ≡ true → (before : ℕ) → goes_on before d ≡ true
digit-goes-on d h before = rw (h, or-true (is_letter d)) refl

letter-goes-on : (b : ℕ) → is_letter b ≡ true → (before : ℕ) → goes_on before b ≡ true
letter-goes-on b h before = rw h refl

sign-goes-on : (e s : ℕ) → is_exponent e ≡ true → is_sign s ≡ true → goes_on e s ≡ true
sign-goes-on e s h k = rw (h, k, or-true (is_letter_or_digit s || eqb s 46)) refl

-- one byte that goes on behind any byte, or two
one-goes-on : (b : ℕ) → ((before : ℕ) → goes_on before b ≡ true) → (before : ℕ) → all_go_on before (b ∷ []) ≡ true
one-goes-on b h before = both-true (goes_on before b) true (h before) refl

two-go-on : (a b : ℕ) → ((before : ℕ) → goes_on before a ≡ true) → goes_on a b ≡ true → (before : ℕ) → all_go_on before (a ∷ b ∷ []) ≡ true
two-go-on a b h k before = both-true (goes_on before a) (goes_on a b && true) (h before) (both-true (goes_on a b) true k refl)

-- ---- what the productions derive is a run

all-append : (before : ℕ) (xs ys : List ℕ) → all_go_on before xs ≡ true → all_go_on (last_of before xs) ys ≡ true → all_go_on before (xs ++ ys) ≡ true
all-append before [] ys h k = k
all-append before (x ∷ xs) ys h k =
    let e = and-true (goes_on before x) (all_go_on x xs) h in
    both-true (goes_on before x) (all_go_on x (xs ++ ys)) e.0 (all-append x xs ys e.1 k)

run-more : (w ys : List ℕ) → IsRun w → ((before : ℕ) → all_go_on before ys ≡ true) → IsRun (w ++ ys)
run-more w ys (FromDigit c cs h g) k = FromDigit c (cs ++ ys) h (all-append c cs ys g (k (last_of c cs)))
run-more w ys (FromPoint cs h g) k = FromPoint (cs ++ ys) (fraction-found cs ys h) (all-append 46 cs ys g (k (last_of 46 cs)))

pub number-run : (w : List ℕ) → IsPreprocessingNumber w → IsRun w
number-run w (ADigit d h) = FromDigit d [] h refl
number-run w (APointAndDigit d h) = FromPoint (d ∷ []) h (one-goes-on d (digit-goes-on d h) 46)
number-run w (AndDigit v d n h) = run-more v (d ∷ []) (number-run v n) (one-goes-on d (digit-goes-on d h))
number-run w (AndLetter v b n h) = run-more v (b ∷ []) (number-run v n) (one-goes-on b (letter-goes-on b h))
number-run w (AndSmallE v s n h) = run-more v (101 ∷ s ∷ []) (number-run v n) (two-go-on 101 s (letter-goes-on 101 refl) (sign-goes-on 101 s refl h))
number-run w (AndCapitalE v s n h) = run-more v (69 ∷ s ∷ []) (number-run v n) (two-go-on 69 s (letter-goes-on 69 refl) (sign-goes-on 69 s refl h))
number-run w (AndSmallP v s n h) = run-more v (112 ∷ s ∷ []) (number-run v n) (two-go-on 112 s (letter-goes-on 112 refl) (sign-goes-on 112 s refl h))
number-run w (AndCapitalP v s n h) = run-more v (80 ∷ s ∷ []) (number-run v n) (two-go-on 80 s (letter-goes-on 80 refl) (sign-goes-on 80 s refl h))
number-run w (AndPoint v n) = run-more v (46 ∷ []) (number-run v n) (one-goes-on 46 (λ before. refl))

-- ---- a run is derived

-- a preprocessing number and its last byte; where that may have a sign behind it, it stands behind another
record Grown (w : List ℕ) (last : ℕ) : Type 0 where
  number : IsPreprocessingNumber w
  front : is_exponent last ≡ true → (v : List ℕ) × (IsPreprocessingNumber v × (w ≡ v ++ last ∷ []))

by-exponent : (v : List ℕ) (e s : ℕ) (i j k l : Bool) → eqb e 101 ≡ i → eqb e 69 ≡ j → eqb e 112 ≡ k → eqb e 80 ≡ l → IsPreprocessingNumber v → is_exponent e ≡ true → is_sign s ≡ true → IsPreprocessingNumber (v ++ e ∷ s ∷ [])
by-exponent v e s true j k l a b c d n x h = subst (λ (y : ℕ). IsPreprocessingNumber (v ++ y ∷ s ∷ [])) (sym (eq-true e 101 a)) (AndSmallE v s n h)
by-exponent v e s false true k l a b c d n x h = subst (λ (y : ℕ). IsPreprocessingNumber (v ++ y ∷ s ∷ [])) (sym (eq-true e 69 b)) (AndCapitalE v s n h)
by-exponent v e s false false true l a b c d n x h = subst (λ (y : ℕ). IsPreprocessingNumber (v ++ y ∷ s ∷ [])) (sym (eq-true e 112 c)) (AndSmallP v s n h)
by-exponent v e s false false false true a b c d n x h = subst (λ (y : ℕ). IsPreprocessingNumber (v ++ y ∷ s ∷ [])) (sym (eq-true e 80 d)) (AndCapitalP v s n h)
by-exponent v e s false false false false a b c d n x h = absurd (true-false (is_exponent e) x (rw (a, b, c, d) refl))

with-sign : (w : List ℕ) (last s : ℕ) → Grown w last → is_exponent last ≡ true → is_sign s ≡ true → IsPreprocessingNumber (w ++ s ∷ [])
with-sign w last s g x h =
    let f = g.front x in
    let whole : w ++ s ∷ [] ≡ f.0 ++ last ∷ s ∷ [] = ap (λ (y : List ℕ). y ++ s ∷ []) f.1.1 ∙ append_assoc f.0 (last ∷ []) (s ∷ []) in
    subst IsPreprocessingNumber (sym whole) (by-exponent f.0 last s (eqb last 101) (eqb last 69) (eqb last 112) (eqb last 80) refl refl refl refl f.1.0 x h)

or-left : (a b : Bool) → a ≡ false → (a || b) ≡ true → b ≡ true
or-left true b h k = absurd (cc)
or-left false b h k = k

more-by : (w : List ℕ) (last b : ℕ) (l d p : Bool) → Grown w last → is_letter b ≡ l → is_digit b ≡ d → eqb b 46 ≡ p → goes_on last b ≡ true → IsPreprocessingNumber (w ++ b ∷ [])
more-by w last b true d p g i j k h = AndLetter w b g.number i
more-by w last b false true p g i j k h = AndDigit w b g.number j
more-by w last b false false true g i j k h = subst (λ (x : ℕ). IsPreprocessingNumber (w ++ x ∷ [])) (sym (eq-true b 46 k)) (AndPoint w g.number)
more-by w last b false false false g i j k h =
    let none : (is_letter_or_digit b || eqb b 46) ≡ false = rw (i, j, k) refl in
    let e = and-true (is_sign b) (is_exponent last) (or-left (is_letter_or_digit b || eqb b 46) (is_sign b && is_exponent last) none h) in
    with-sign w last b g e.1 e.0

run-derived : (w : List ℕ) (last : ℕ) (bs : List ℕ) → Grown w last → all_go_on last bs ≡ true → IsPreprocessingNumber (w ++ bs)
run-derived w last [] g h = subst IsPreprocessingNumber (sym (append-nil w)) g.number
run-derived w last (b ∷ bs) g h =
    let e = and-true (goes_on last b) (all_go_on b bs) h in
    let one = more-by w last b (is_letter b) (is_digit b) (eqb b 46) g refl refl refl e.0 in
    subst IsPreprocessingNumber (append_assoc w (b ∷ []) bs) (run-derived (w ++ b ∷ []) b bs (record { number = one; front = λ _. (w, (g.number, refl)) }) e.1)

pub digit-no-exponent : (d : ℕ) → is_digit d ≡ true → is_exponent d ≡ false
digit-no-exponent d h = grind (arith, nat_tests)

-- behind a digit no sign goes on
from-digit : (w : List ℕ) (d : ℕ) (ds : List ℕ) → IsPreprocessingNumber w → is_digit d ≡ true → all_go_on d ds ≡ true → IsPreprocessingNumber (w ++ ds)
from-digit w d ds n h g = run-derived w d ds (record { number = n; front = λ x. absurd (true-false (is_exponent d) x (digit-no-exponent d h)) }) g

pub run-number : (w : List ℕ) → IsRun w → IsPreprocessingNumber w
run-number w (FromDigit c cs h g) = from-digit (c ∷ []) c cs (ADigit c h) h g
run-number w (FromPoint [] h g) = absurd (cc)
run-number w (FromPoint (d ∷ ds) h g) = let e = and-true (goes_on 46 d) (all_go_on d ds) g in from-digit (46 ∷ d ∷ []) d ds (APointAndDigit d h) h e.1

-- ---- the longest

run-goes-on : (c : ℕ) (cs : List ℕ) → IsRun (c ∷ cs) → all_go_on c cs ≡ true
run-goes-on c cs (FromDigit _ _ h g) = g
run-goes-on c cs (FromPoint _ h g) = g

no-longer : (c d : ℕ) (cs ds rest behind : List ℕ) → all_go_on c cs ≡ true → stops (last_of c cs) rest ≡ true → all_go_on d ds ≡ true → c ∷ (cs ++ rest) ≡ d ∷ (ds ++ behind) → suc (length ds) ≤ suc (length cs)
no-longer c d cs ds rest behind g s k e =
    let first : c ≡ d = cc in
    let others : cs ++ rest ≡ ds ++ behind = cc in
    let same : run_len c (cs ++ rest) ≡ run_len d (ds ++ behind) = ap (λ (x : ℕ). run_len x (cs ++ rest)) first ∙ ap (run_len d) others in
    let here = run-len c cs rest g s in
    let there = run-within d ds behind k in
    omega (arith, same, here, there)

longest-by : (c : ℕ) (cs rest other behind : List ℕ) → all_go_on c cs ≡ true → stops (last_of c cs) rest ≡ true → IsRun other → c ∷ (cs ++ rest) ≡ other ++ behind → length other ≤ suc (length cs)
longest-by c cs rest other behind g s (FromDigit d ds h k) e = no-longer c d cs ds rest behind g s k e
longest-by c cs rest other behind g s (FromPoint ds h k) e = no-longer c 46 cs ds rest behind g s k e

pub run-longest : (c : ℕ) (cs rest : List ℕ) → IsRun (c ∷ cs) → stops (last_of c cs) rest ≡ true → IsLongestNumber (c ∷ cs) rest
run-longest c cs rest r s = λ other behind n e. longest-by c cs rest other behind (run-goes-on c cs r) s (number-run other n) e

run-last : (c : ℕ) (cs : List ℕ) (b : ℕ) → IsRun (c ∷ cs) → goes_on (last_of c cs) b ≡ true → IsRun (c ∷ (cs ++ b ∷ []))
run-last c cs b (FromDigit _ _ h g) k = FromDigit c (cs ++ b ∷ []) h (all-append c cs (b ∷ []) g (both-true (goes_on (last_of c cs) b) true k refl))
run-last c cs b (FromPoint _ h g) k = FromPoint (cs ++ b ∷ []) (fraction-found cs (b ∷ []) h) (all-append 46 cs (b ∷ []) g (both-true (goes_on (last_of 46 cs) b) true k refl))

stops-by : (c : ℕ) (cs : List ℕ) (b : ℕ) (bs : List ℕ) (t : Bool) → IsRun (c ∷ cs) → IsLongestNumber (c ∷ cs) (b ∷ bs) → goes_on (last_of c cs) b ≡ t → not t ≡ true
stops-by c cs b bs true r l h =
    let longer = l (c ∷ (cs ++ b ∷ [])) bs (run-number (c ∷ (cs ++ b ∷ [])) (run-last c cs b r h)) (sym (append_assoc (c ∷ cs) (b ∷ []) bs)) in
    absurd (omega (arith, longer, length-append cs (b ∷ [])))
stops-by c cs b bs false r l h = refl

pub longest-stops : (c : ℕ) (cs rest : List ℕ) → IsRun (c ∷ cs) → IsLongestNumber (c ∷ cs) rest → stops (last_of c cs) rest ≡ true
longest-stops c cs [] r l = refl
longest-stops c cs (b ∷ bs) r l = stops-by c cs b bs (goes_on (last_of c cs) b) r l refl

pub run-spells : (c : ℕ) (cs rest : List ℕ) (n : ℕ) (s : Suffix) → IsRun (c ∷ cs) → stops (last_of c cs) rest ≡ true → IsInteger (c ∷ cs) n s → Spells (c ∷ cs) rest (kind.Number n s)
run-spells c cs rest n s r h i = ANumber (c ∷ cs) rest n s (run-number (c ∷ cs) r) (run-longest c cs rest r h) i

run-some : (w : List ℕ) → IsRun w → 0 < length w
run-some w (FromDigit c cs h g) = omega arith
run-some w (FromPoint cs h g) = omega arith

pub number-some : (w : List ℕ) → IsPreprocessingNumber w → 0 < length w
number-some w h = run-some w (number-run w h)

-- ---- where none begins

fraction-by : (a b : ℕ) (bs : List ℕ) (p d : Bool) → HasNoNumber (a ∷ b ∷ bs) → eqb a 46 ≡ p → is_digit b ≡ d → (p && d) ≡ false
fraction-by a b bs true true h i j = absurd (h (46 ∷ b ∷ []) bs (APointAndDigit b j) (ap (λ (x : ℕ). x ∷ b ∷ bs) (eq-true a 46 i)))
fraction-by a b bs true false h i j = refl
fraction-by a b bs false d h i j = refl

pub no-fraction : (text : List ℕ) → HasNoNumber text → begins_fraction text ≡ false
no-fraction [] h = refl
no-fraction (a ∷ []) h = and-false (eqb a 46)
no-fraction (a ∷ b ∷ bs) h = fraction-by a b bs (eqb a 46) (is_digit b) h refl refl

none-by : (b : ℕ) (bs w behind : List ℕ) → is_digit b ≡ false → begins_fraction (b ∷ bs) ≡ false → IsRun w → b ∷ bs ≡ w ++ behind → ⊥
none-by b bs w behind i j (FromDigit c cs h g) e =
    let first : b ≡ c = cc in
    true-false (is_digit c) h (subst (λ (x : ℕ). is_digit x ≡ false) first i)
none-by b bs w behind i j (FromPoint cs h g) e =
    true-false (begins_with_digit (cs ++ behind)) (fraction-found cs behind h) (subst (λ (x : List ℕ). begins_fraction x ≡ false) e j)

pub no-number-front : (b : ℕ) (bs : List ℕ) → is_digit b ≡ false → begins_fraction (b ∷ bs) ≡ false → HasNoNumber (b ∷ bs)
no-number-front b bs i j = λ w behind n e. none-by b bs w behind i j (number-run w n) e

-- ---- digits

digits-go-on : (before : ℕ) (ds : List ℕ) → list_all is_digit ds ≡ true → all_go_on before ds ≡ true
digits-go-on before [] h = refl
digits-go-on before (d ∷ ds) h =
    let e = and-true (is_digit d) (list_all is_digit ds) h in
    both-true (goes_on before d) (all_go_on d ds) (digit-goes-on d e.0 before) (digits-go-on d ds e.1)

pub digits-run : (d : ℕ) (ds : List ℕ) → list_all is_digit (d ∷ ds) ≡ true → IsRun (d ∷ ds)
digits-run d ds h = let e = and-true (is_digit d) (list_all is_digit ds) h in FromDigit d ds e.0 (digits-go-on d ds e.1)

pub last-digit : (d : ℕ) (ds : List ℕ) → list_all is_digit (d ∷ ds) ≡ true → is_digit (last_of d ds) ≡ true
last-digit d [] h = (and-true (is_digit d) true h).0
last-digit d (c ∷ cs) h = last-digit c cs (and-true (is_digit d) (list_all is_digit (c ∷ cs)) h).1
