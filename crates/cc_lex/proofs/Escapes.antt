-- Elements of literals, as the productions derive them and as they are computed, both ways.
use Rattle.std.proofs.Common.{◌≡◌, ◌≢◌, ℕ, zero, suc, ◌+◌, ◌<◌, ◌≤◌, min, Bool, true, false, cond, eqb, ltb, List, [], ◌∷◌, ◌++◌, length, take, drop, Option, Some, None, ◌⊎◌, inl, inr, refl, ap, sym, ◌∙◌, subst, arith, add-one, append-nil, length-take}
use Rattle.std.specs.List.{list_all, prefix_len}
use Rattle.std.proofs.Math.ListN.{take-append-drop}
use Rattle.std.proofs.lemmas.Bool.Decides.{nat_tests}
use Rattle.std.proofs.lemmas.Bool.{cases_lt}
use Rattle.std.proofs.lemmas.List.{length-take-le}
use Rattle.std.proofs.lemmas.List.Sums.{prefix_len-le-length}
use Rattle.cc_lex.specs.Bytes.{begins_with}
use Rattle.cc_lex.specs.Literals.{IsContent, NoByte, OneByte, Escaped, IsSimple, AnApostrophe, AQuotation, AQuestionMark, ABackslash, AnAlert, ABackspace, AFormFeed, ANewLine, ACarriageReturn, ATab, AVerticalTab, IsEscape, ASimpleEscape, AnOctalEscape, AHexadecimalEscape, IsElement, AByte, AnEscape, IsBadEscape, ALargeEscape, AnUnknown}
use Rattle.cc_lex.specs.Numbers.{is_digit_in, AreDigits}
use Rattle.cc_lex.specs.ScanParts.{value_of, simple_escape, byte_of, octal_escape, hexadecimal_escape, escape_of, behind_backslash, element_of}
use Rattle.cc_lex.proofs.Booleans.{and-true, true-false, eq-true, eq-false, eq-other}
use Rattle.cc_lex.proofs.Constants.{Digits, digits-are, digits-found}
use Rattle.cc_lex.proofs.Fronts.{take-front, drop-front, front-len, front-stops}

-- ---- simple escapes

-- what the answer says of the byte
abbrev SimpleIs : ℕ → Option ℕ → Type 0
SimpleIs b None = Unit {0}
SimpleIs b (Some v) = IsSimple (b ∷ []) v

simple-cond : (b n v : ℕ) (t : Bool) (r : Option ℕ) → eqb b n ≡ t → IsSimple (n ∷ []) v → SimpleIs b r → SimpleIs b (cond t (Some v) r)
simple-cond b n v true r e h k = subst (λ (x : ℕ). IsSimple (x ∷ []) v) (sym (eq-true b n e)) h
simple-cond b n v false r e h k = k

simple-is : (b : ℕ) → SimpleIs b (simple_escape b)
simple-is b =
    simple-cond b 39 39 (eqb b 39) _ refl AnApostrophe
    (simple-cond b 34 34 (eqb b 34) _ refl AQuotation
    (simple-cond b 63 63 (eqb b 63) _ refl AQuestionMark
    (simple-cond b 92 92 (eqb b 92) _ refl ABackslash
    (simple-cond b 97 7 (eqb b 97) _ refl AnAlert
    (simple-cond b 98 8 (eqb b 98) _ refl ABackspace
    (simple-cond b 102 12 (eqb b 102) _ refl AFormFeed
    (simple-cond b 110 10 (eqb b 110) _ refl ANewLine
    (simple-cond b 114 13 (eqb b 114) _ refl ACarriageReturn
    (simple-cond b 116 9 (eqb b 116) _ refl ATab
    (simple-cond b 118 11 (eqb b 118) _ refl AVerticalTab tt))))))))))

-- a simple escape is one byte, which is no octal digit and no x, and has a value
record SimpleByte (w : List ℕ) (v : ℕ) : Type 0 where
  byte : ℕ
  alone : w ≡ byte ∷ []
  no_octal : is_digit_in 8 byte ≡ false
  no_x : eqb byte 120 ≡ false
  value : simple_escape byte ≡ Some v
  small : ltb v 256 ≡ true

simple-byte : (w : List ℕ) (v : ℕ) → IsSimple w v → SimpleByte w v
simple-byte w v AnApostrophe = record { byte = 39; alone = refl; no_octal = refl; no_x = refl; value = refl; small = refl }
simple-byte w v AQuotation = record { byte = 34; alone = refl; no_octal = refl; no_x = refl; value = refl; small = refl }
simple-byte w v AQuestionMark = record { byte = 63; alone = refl; no_octal = refl; no_x = refl; value = refl; small = refl }
simple-byte w v ABackslash = record { byte = 92; alone = refl; no_octal = refl; no_x = refl; value = refl; small = refl }
simple-byte w v AnAlert = record { byte = 97; alone = refl; no_octal = refl; no_x = refl; value = refl; small = refl }
simple-byte w v ABackspace = record { byte = 98; alone = refl; no_octal = refl; no_x = refl; value = refl; small = refl }
simple-byte w v AFormFeed = record { byte = 102; alone = refl; no_octal = refl; no_x = refl; value = refl; small = refl }
simple-byte w v ANewLine = record { byte = 110; alone = refl; no_octal = refl; no_x = refl; value = refl; small = refl }
simple-byte w v ACarriageReturn = record { byte = 114; alone = refl; no_octal = refl; no_x = refl; value = refl; small = refl }
simple-byte w v ATab = record { byte = 116; alone = refl; no_octal = refl; no_x = refl; value = refl; small = refl }
simple-byte w v AVerticalTab = record { byte = 118; alone = refl; no_octal = refl; no_x = refl; value = refl; small = refl }

-- ---- an escape that is derived is computed

-- the value of an escape, where it is a byte
byte-below : (v : ℕ) → v < 256 → byte_of v ≡ Some v
byte-below v h = let e : ltb v 256 ≡ true = grind (arith, nat_tests) in rw e refl

byte-above : (v : ℕ) → 256 ≤ v → byte_of v ≡ None
byte-above v h = let e : ltb v 256 ≡ false = grind (arith, nat_tests) in rw e refl

simple-found : (w behind : List ℕ) (v : ℕ) → SimpleByte w v → escape_of (w ++ behind) ≡ (length w, byte_of v)
unfolding escape_of
simple-found w behind v s =
    subst (λ (x : List ℕ). escape_of (x ++ behind) ≡ (length x, byte_of v)) (sym s.alone)
    (rw (s.no_octal, s.no_x, s.value, s.small) refl)

front-least : (p : ℕ → Bool) (w rest : List ℕ) → list_all p w ≡ true → length w ≤ prefix_len p (w ++ rest)
front-least p [] rest h = omega arith
front-least p (b ∷ bs) rest h =
    let e = and-true (p b) (list_all p bs) h in
    let f = front-least p bs rest e.1 in
    rw e.0 (omega (arith, f))

octal-len : (ds behind : List ℕ) → list_all (is_digit_in 8) ds ≡ true → length ds ≤ 3 → (length ds ≡ 3) ⊎ (begins_with (is_digit_in 8) behind ≡ false) → min 3 (prefix_len (is_digit_in 8) (ds ++ behind)) ≡ length ds
octal-len ds behind h le (inl e) = let f = front-least (is_digit_in 8) ds behind h in omega arith
octal-len ds behind h le (inr e) = let f = front-len (is_digit_in 8) ds behind h e in omega arith

octal-found : (ds behind : List ℕ) (v : ℕ) → Digits 8 ds v → length ds ≤ 3 → (length ds ≡ 3) ⊎ (begins_with (is_digit_in 8) behind ≡ false) → escape_of (ds ++ behind) ≡ (length ds, byte_of v)
unfolding escape_of
octal-found [] behind v d le stop = absurd (omega (arith, d.some))
octal-found (b ∷ ds) behind v d le stop =
    let e = and-true (is_digit_in 8 b) (list_all (is_digit_in 8) ds) d.all in
    let n = octal-len (b ∷ ds) behind d.all le stop in
    ap (λ (t : Bool). cond t (octal_escape (b ∷ (ds ++ behind)) (min 3 (prefix_len (is_digit_in 8) (b ∷ (ds ++ behind)))))
    (cond (eqb b 120) (hexadecimal_escape (ds ++ behind) (prefix_len (is_digit_in 16) (ds ++ behind))) (1, simple_escape b))) e.0
    ∙ ap (octal_escape (b ∷ (ds ++ behind))) n
    ∙ ap (λ (x : List ℕ). (length (b ∷ ds), byte_of (value_of 8 x))) (take-front (b ∷ ds) behind)
    ∙ ap (λ (x : ℕ). (length (b ∷ ds), byte_of x)) d.value

hexadecimal-found : (ds behind : List ℕ) (v : ℕ) → Digits 16 ds v → begins_with (is_digit_in 16) behind ≡ false → escape_of (120 ∷ (ds ++ behind)) ≡ (suc (length ds), byte_of v)
unfolding escape_of
hexadecimal-found ds behind v d stop =
    let n = front-len (is_digit_in 16) ds behind d.all stop in
    let some : eqb (length ds) 0 ≡ false = eq-other (length ds) 0 (λ k. absurd (omega (arith, d.some, k))) in
    rw (n, some, take-front ds behind, d.value, add-one) refl

pub escape-found : (w behind : List ℕ) (v : ℕ) → IsEscape w behind v → escape_of (w ++ behind) ≡ (length w, byte_of v)
escape-found w behind v (ASimpleEscape _ _ _ s) = simple-found w behind v (simple-byte w v s)
escape-found w behind v (AnOctalEscape _ _ _ d le stop) = octal-found w behind v (digits-found 8 w v d) le stop
escape-found w behind v (AHexadecimalEscape ds _ _ d stop) = hexadecimal-found ds behind v (digits-found 16 ds v d) stop

-- ---- an escape that is computed is derived

-- no escape begins the text
abbrev NoEscape : List ℕ → Type 0
NoEscape text = (w rest : List ℕ) (v : ℕ) → text ≡ w ++ rest → IsEscape w rest v → ⊥

-- what the answer says of the text behind a backslash
abbrev EscapeIs : List ℕ → ℕ × Option ℕ → Type 0
EscapeIs text (n, Some v) = IsEscape (take n text) (drop n text) v × (v < 256)
EscapeIs text (n, None) = ((v : ℕ) × IsEscape (take n text) (drop n text) v × (256 ≤ v)) ⊎ ((n ≡ 1) × NoEscape text)

escape-cond : (text : List ℕ) (t : Bool) (x y : ℕ × Option ℕ) → (t ≡ true → EscapeIs text x) → (t ≡ false → EscapeIs text y) → EscapeIs text (cond t x y)
escape-cond text true x y h k = h refl
escape-cond text false x y h k = k refl

with-value : (text : List ℕ) (n v : ℕ) (t : Bool) → ltb v 256 ≡ t → IsEscape (take n text) (drop n text) v → EscapeIs text (n, cond t (Some v) None)
with-value text n v true e h = (h, below v e)
  where
    below : (v : ℕ) → ltb v 256 ≡ true → v < 256
    below v e = grind (arith, nat_tests)
with-value text n v false e h = inl (v, h, above v e)
  where
    above : (v : ℕ) → ltb v 256 ≡ false → 256 ≤ v
    above v e = grind (arith, nat_tests)

front-takes : (p : ℕ → Bool) (n : ℕ) (text : List ℕ) → n ≤ prefix_len p text → list_all p (take n text) ≡ true
front-takes p zero text h = refl
front-takes p (suc n) [] h = absurd (omega arith)
front-takes p (suc n) (b ∷ bs) h = behind-first (p b) refl h (front-takes p n bs)
  where
    behind-first : (t : Bool) → p b ≡ t → suc n ≤ cond t (1 + prefix_len p bs) 0 → (n ≤ prefix_len p bs → list_all p (take n bs) ≡ true) → list_all p (take (suc n) (b ∷ bs)) ≡ true
    behind-first true e h k = rw e (k (omega arith))
    behind-first false e h k = absurd (omega arith)

-- some digits of the base at the front, as many as n
digits-of : (base n : ℕ) (text : List ℕ) → 0 < n → n ≤ prefix_len (is_digit_in base) text → AreDigits base (take n text) (value_of base (take n text))
digits-of base n text some within =
    by-digits (take n text) (length-take-le n text (omega (arith, within, prefix_len-le-length (is_digit_in base) text))) (front-takes (is_digit_in base) n text within)
  where
    by-digits : (ds : List ℕ) → length ds ≡ n → list_all (is_digit_in base) ds ≡ true → AreDigits base ds (value_of base ds)
    by-digits [] e h = absurd (omega (arith, e))
    by-digits (d ∷ ds) e h = digits-are base d ds h

octal-stop : (text : List ℕ) → (length (take (min 3 (prefix_len (is_digit_in 8) text)) text) ≡ 3) ⊎ (begins_with (is_digit_in 8) (drop (min 3 (prefix_len (is_digit_in 8) text)) text) ≡ false)
octal-stop text = by-size (prefix_len (is_digit_in 8) text) (cases_lt (prefix_len (is_digit_in 8) text) 3) (prefix_len-le-length (is_digit_in 8) text) (front-stops (is_digit_in 8) text)
  where
    by-size : (n : ℕ) → (n < 3) ⊎ (3 ≤ n) → n ≤ length text → begins_with (is_digit_in 8) (drop n text) ≡ false → (length (take (min 3 n) text) ≡ 3) ⊎ (begins_with (is_digit_in 8) (drop (min 3 n) text) ≡ false)
    by-size n (inl k) h stop = let e : min 3 n ≡ n = omega arith in inr (rw e stop)
    by-size n (inr k) h stop = let e : min 3 n ≡ 3 = omega arith in inl (rw e (length-take-le 3 text (omega arith)))

octal-is : (b : ℕ) (bs : List ℕ) → is_digit_in 8 b ≡ true → EscapeIs (b ∷ bs) (octal_escape (b ∷ bs) (min 3 (prefix_len (is_digit_in 8) (b ∷ bs))))
octal-is b bs h =
    let len = prefix_len (is_digit_in 8) (b ∷ bs) in
    let n = min 3 len in
    let first : 0 < prefix_len (is_digit_in 8) (b ∷ bs) = rw h (omega arith) in
    let some : 0 < n = omega (arith, first) in
    let within : n ≤ len = omega arith in
    let short : length (take n (b ∷ bs)) ≤ 3 = omega (arith, length-take n (b ∷ bs)) in
    let v = value_of 8 (take n (b ∷ bs)) in
    with-value (b ∷ bs) n v (ltb v 256) refl (AnOctalEscape (take n (b ∷ bs)) (drop n (b ∷ bs)) v (digits-of 8 n (b ∷ bs) some within) short (octal-stop (b ∷ bs)))

-- a byte that is no simple escape and no octal digit, and no x with a digit behind it, begins none
no-escape : (b : ℕ) (bs : List ℕ) → simple_escape b ≡ None → is_digit_in 8 b ≡ false → (eqb b 120 ≡ false) ⊎ (prefix_len (is_digit_in 16) bs ≡ 0) → NoEscape (b ∷ bs)
no-escape b bs none octal x w rest v e (ASimpleEscape _ _ _ s) = other-value (simple-byte w v s)
  where
    other-value : SimpleByte w v → ⊥
    other-value q =
        let f : b ∷ bs ≡ q.byte ∷ rest = e ∙ ap (λ (l : List ℕ). l ++ rest) q.alone in
        let g : b ≡ q.byte = cc in
        let h : simple_escape q.byte ≡ None = subst (λ (k : ℕ). simple_escape k ≡ None) g none in
        let i = q.value in
        cc
no-escape b bs none octal x w rest v e (AnOctalEscape _ _ _ d le stop) = first-digit w (digits-found 8 w v d) e
  where
    first-digit : (ds : List ℕ) → Digits 8 ds v → b ∷ bs ≡ ds ++ rest → ⊥
    first-digit [] d e = absurd (omega (arith, d.some))
    first-digit (c ∷ cs) d e =
        let f : b ≡ c = cc in
        let g = (and-true (is_digit_in 8 c) (list_all (is_digit_in 8) cs) d.all).0 in
        let h : is_digit_in 8 c ≡ false = subst (λ (k : ℕ). is_digit_in 8 k ≡ false) f octal in
        true-false (is_digit_in 8 c) g h
no-escape b bs none octal x w rest v e (AHexadecimalEscape ds _ _ d stop) = behind-x x (digits-found 16 ds v d)
  where
    behind-x : (eqb b 120 ≡ false) ⊎ (prefix_len (is_digit_in 16) bs ≡ 0) → Digits 16 ds v → ⊥
    behind-x (inl h) d = let f : b ≡ 120 = cc in eq-false b 120 h f
    behind-x (inr h) d =
        let f : bs ≡ ds ++ rest = cc in
        let g : length ds ≤ prefix_len (is_digit_in 16) bs = subst (λ (l : List ℕ). length ds ≤ prefix_len (is_digit_in 16) l) (sym f) (front-least (is_digit_in 16) ds rest d.all) in
        absurd (omega (arith, d.some, g, h))

hexadecimal-by : (bs : List ℕ) (n : ℕ) (t : Bool) → n ≡ prefix_len (is_digit_in 16) bs → eqb n 0 ≡ t → EscapeIs (120 ∷ bs) (cond t (1, None) (n + 1, byte_of (value_of 16 (take n bs))))
hexadecimal-by bs n true e z = inr (refl, no-escape 120 bs refl refl (inr (sym e ∙ eq-true n 0 z)))
hexadecimal-by bs n false e z =
    let v = value_of 16 (take n bs) in
    let some : 0 < n = above n (eq-false n 0 z) in
    let stop : begins_with (is_digit_in 16) (drop n bs) ≡ false = rw e (front-stops (is_digit_in 16) bs) in
    rw add-one (with-value (120 ∷ bs) (suc n) v (ltb v 256) refl (AHexadecimalEscape (take n bs) (drop n bs) v (digits-of 16 n bs some (omega (arith, e))) stop))
  where
    above : (n : ℕ) → n ≢ 0 → 0 < n
    above n h = omega arith

hexadecimal-is : (b : ℕ) (bs : List ℕ) → eqb b 120 ≡ true → EscapeIs (b ∷ bs) (hexadecimal_escape bs (prefix_len (is_digit_in 16) bs))
hexadecimal-is b bs h =
    let n = prefix_len (is_digit_in 16) bs in
    subst (λ (x : ℕ). EscapeIs (x ∷ bs) (hexadecimal_escape bs n)) (sym (eq-true b 120 h)) (hexadecimal-by bs n (eqb n 0) refl refl)

one-is : (b : ℕ) (bs : List ℕ) (r : Option ℕ) → simple_escape b ≡ r → is_digit_in 8 b ≡ false → eqb b 120 ≡ false → SimpleIs b r → EscapeIs (b ∷ bs) (1, r)
one-is b bs None e h k s = inr (refl, no-escape b bs e h (inl k))
one-is b bs (Some v) e h k s = (ASimpleEscape (b ∷ []) bs v s, below v (simple-byte (b ∷ []) v s).small)
  where
    below : (v : ℕ) → ltb v 256 ≡ true → v < 256
    below v e = grind (arith, nat_tests)

escape-is : (b : ℕ) (bs : List ℕ) → EscapeIs (b ∷ bs) (escape_of (b ∷ bs))
unfolding escape_of
escape-is b bs =
    escape-cond (b ∷ bs) (is_digit_in 8 b) (octal_escape (b ∷ bs) (min 3 (prefix_len (is_digit_in 8) (b ∷ bs)))) (cond (eqb b 120) (hexadecimal_escape bs (prefix_len (is_digit_in 16) bs)) (1, simple_escape b))
    (λ h. octal-is b bs h)
    (λ h. escape-cond (b ∷ bs) (eqb b 120) (hexadecimal_escape bs (prefix_len (is_digit_in 16) bs)) (1, simple_escape b)
    (λ k. hexadecimal-is b bs k) (λ k. one-is b bs (simple_escape b) refl h k (simple-is b)))

-- ---- elements

pub element-found : (w rest : List ℕ) (v : ℕ) → IsElement w rest v → element_of (w ++ rest) ≡ (length w, Some v)
unfolding element_of
element-found w rest v (AByte b _ h) = rw (eq-other b 92 h) refl
element-found w rest v (AnEscape x _ _ h k) = rw (escape-found x rest v h, byte-below v k, add-one) refl

none-escape : (text : List ℕ) (x : ℕ × Option ℕ) → NoEscape text → EscapeIs text x → x ≡ (1, None)
none-escape text (n, Some v) none h = absurd (none (take n text) (drop n text) v (sym (take-append-drop n text)) h.0)
none-escape text (n, None) none (inl h) = absurd (none (take n text) (drop n text) h.0 (sym (take-append-drop n text)) h.1)
none-escape text (n, None) none (inr h) = ap (λ (k : ℕ). (k, None)) h.0

pub bad-found : (w rest : List ℕ) → IsBadEscape w rest → element_of (w ++ rest) ≡ (length w, None)
unfolding element_of
bad-found w rest (ALargeEscape x _ v h k) = rw (escape-found x rest v h, byte-above v k, add-one) refl
bad-found w rest (AnUnknown b _ h) = rw (none-escape (b ∷ rest) (escape_of (b ∷ rest)) h (escape-is b rest)) refl

-- what the answer says of a content
abbrev pub ElementIs : List ℕ → ℕ × Option ℕ → Type 0
ElementIs text (n, Some v) = IsElement (take n text) (drop n text) v
ElementIs text (n, None) = IsBadEscape (take n text) (drop n text)

backslash-is : (c : ℕ) (cs : List ℕ) (x : ℕ × Option ℕ) → EscapeIs (c ∷ cs) x → ElementIs (92 ∷ c ∷ cs) (behind_backslash x)
backslash-is c cs (n, Some v) h = rw add-one (AnEscape (take n (c ∷ cs)) (drop n (c ∷ cs)) v h.0 h.1)
backslash-is c cs (n, None) (inl h) = rw add-one (ALargeEscape (take n (c ∷ cs)) (drop n (c ∷ cs)) h.0 h.1 h.2)
backslash-is c cs (n, None) (inr h) = subst (λ (k : ℕ). ElementIs (92 ∷ c ∷ cs) (k + 1, None)) (sym h.0) (AnUnknown c cs h.1)

-- a content goes on behind a backslash
content-behind : (quote : ℕ) (text : List ℕ) → IsContent quote text → text ≡ 92 ∷ [] → ⊥
content-behind quote text (NoByte _) e = absurd (cc)
content-behind quote text (OneByte _ b bs h k j i) e = let f : b ≡ 92 = cc in k f
content-behind quote text (Escaped _ b bs h i) e = absurd (cc)

element-by : (quote b : ℕ) (bs : List ℕ) (t : Bool) → eqb b 92 ≡ t → IsContent quote (b ∷ bs) → ElementIs (b ∷ bs) (cond t (behind_backslash (escape_of bs)) (1, Some b))
element-by quote b bs false e h = AByte b bs (eq-false b 92 e)
element-by quote b [] true e h = absurd (content-behind quote (b ∷ []) h (ap (λ (x : ℕ). x ∷ []) (eq-true b 92 e)))
element-by quote b (c ∷ cs) true e h = subst (λ (x : ℕ). ElementIs (x ∷ c ∷ cs) (behind_backslash (escape_of (c ∷ cs)))) (sym (eq-true b 92 e)) (backslash-is c cs (escape_of (c ∷ cs)) (escape-is c cs))

pub element-is : (quote b : ℕ) (bs : List ℕ) → IsContent quote (b ∷ bs) → ElementIs (b ∷ bs) (element_of (b ∷ bs))
unfolding element_of
element-is quote b bs h = element-by quote b bs (eqb b 92) refl h

-- ---- what stands behind an element

behind-byte : (quote b : ℕ) (rest text : List ℕ) → IsContent quote text → text ≡ b ∷ rest → b ≢ 92 → IsContent quote rest
behind-byte quote b rest text (NoByte _) e h = absurd (cc)
behind-byte quote b rest text (OneByte _ c cs i j k r) e h = let f : cs ≡ rest = cc in subst (IsContent quote) f r
behind-byte quote b rest text (Escaped _ c cs i r) e h = let f : b ≡ 92 = cc in absurd (h f)

behind-escaped : (quote b : ℕ) (rest text : List ℕ) → IsContent quote text → text ≡ 92 ∷ b ∷ rest → IsContent quote rest
behind-escaped quote b rest text (NoByte _) e = absurd (cc)
behind-escaped quote b rest text (OneByte _ c cs i j k r) e = let f : c ≡ 92 = cc in absurd (j f)
behind-escaped quote b rest text (Escaped _ c cs i r) e = let f : cs ≡ rest = cc in subst (IsContent quote) f r

behind-digits : (quote base : ℕ) (ds rest : List ℕ) → is_digit_in base 92 ≡ false → list_all (is_digit_in base) ds ≡ true → IsContent quote (ds ++ rest) → IsContent quote rest
behind-digits quote base [] rest n h c = c
behind-digits quote base (d ∷ ds) rest n h c =
    let e = and-true (is_digit_in base d) (list_all (is_digit_in base) ds) h in
    let other : d ≢ 92 = λ k. true-false (is_digit_in base d) e.0 (ap (is_digit_in base) k ∙ n) in
    behind-digits quote base ds rest n e.1 (behind-byte quote d (ds ++ rest) (d ∷ (ds ++ rest)) c refl other)

behind-octal : (quote : ℕ) (ds rest : List ℕ) (v : ℕ) → Digits 8 ds v → IsContent quote (92 ∷ (ds ++ rest)) → IsContent quote rest
behind-octal quote [] rest v d c = absurd (omega (arith, d.some))
behind-octal quote (b ∷ ds) rest v d c =
    behind-digits quote 8 ds rest refl (and-true (is_digit_in 8 b) (list_all (is_digit_in 8) ds) d.all).1 (behind-escaped quote b (ds ++ rest) (92 ∷ b ∷ (ds ++ rest)) c refl)

behind-escape : (quote : ℕ) (w rest : List ℕ) (v : ℕ) → IsEscape w rest v → IsContent quote (92 ∷ (w ++ rest)) → IsContent quote rest
behind-escape quote w rest v (ASimpleEscape _ _ _ s) c =
    let q = simple-byte w v s in
    behind-escaped quote q.byte rest (92 ∷ (w ++ rest)) c (ap (λ (x : List ℕ). 92 ∷ (x ++ rest)) q.alone)
behind-escape quote w rest v (AnOctalEscape _ _ _ d le stop) c = behind-octal quote w rest v (digits-found 8 w v d) c
behind-escape quote w rest v (AHexadecimalEscape ds _ _ d stop) c =
    behind-digits quote 16 ds rest refl (digits-found 16 ds v d).all (behind-escaped quote 120 (ds ++ rest) (92 ∷ 120 ∷ (ds ++ rest)) c refl)

pub behind-element : (quote : ℕ) (w rest : List ℕ) (v : ℕ) → IsElement w rest v → IsContent quote (w ++ rest) → IsContent quote rest
behind-element quote w rest v (AByte b _ h) c = behind-byte quote b rest (b ∷ rest) c refl h
behind-element quote w rest v (AnEscape x _ _ h k) c = behind-escape quote x rest v h c

pub element-some : (w rest : List ℕ) (v : ℕ) → IsElement w rest v → 0 < length w
element-some w rest v (AByte b _ h) = omega arith
element-some w rest v (AnEscape x _ _ h k) = omega arith

pub bad-some : (w rest : List ℕ) → IsBadEscape w rest → 0 < length w
bad-some w rest (ALargeEscape x _ v h k) = omega arith
bad-some w rest (AnUnknown b _ h) = omega arith

-- what an element that is the whole content says of it
abbrev pub WholeIs : List ℕ → Option ℕ → Type 0
WholeIs c (Some v) = IsElement c [] v
WholeIs c None = IsBadEscape c []

pub all-element : (c : List ℕ) (n : ℕ) (r : Option ℕ) → ElementIs c (n, r) → n ≡ length c → WholeIs c r
all-element c n (Some v) h e =
    let front : take n c ≡ c = ap (λ (k : ℕ). take k c) e ∙ ap (take (length c)) (sym (append-nil c)) ∙ take-front c [] in
    let behind : drop n c ≡ [] = ap (λ (k : ℕ). drop k c) e ∙ ap (drop (length c)) (sym (append-nil c)) ∙ drop-front c [] in
    subst (λ (x : List ℕ). IsElement x [] v) front (subst (λ (x : List ℕ). IsElement (take n c) x v) behind h)
all-element c n None h e =
    let front : take n c ≡ c = ap (λ (k : ℕ). take k c) e ∙ ap (take (length c)) (sym (append-nil c)) ∙ take-front c [] in
    let behind : drop n c ≡ [] = ap (λ (k : ℕ). drop k c) e ∙ ap (drop (length c)) (sym (append-nil c)) ∙ drop-front c [] in
    subst (λ (x : List ℕ). IsBadEscape x []) front (subst (λ (x : List ℕ). IsBadEscape (take n c) x) behind h)

pub whole-element : (c : List ℕ) (v : ℕ) → IsElement c [] v → element_of c ≡ (length c, Some v)
whole-element c v h = ap element_of (sym (append-nil c)) ∙ element-found c [] v h

pub whole-bad : (c : List ℕ) → IsBadEscape c [] → element_of c ≡ (length c, None)
whole-bad c h = ap element_of (sym (append-nil c)) ∙ bad-found c [] h
