-- The elements of a content, one behind another, as a relation and as computed. Each element takes at
-- least one byte, so the content behind it is shorter.
use Rattle.std.proofs.Common.{◌≡◌, ℕ, zero, suc, ◌+◌, ◌<◌, ◌≤◌, min, Bool, true, false, cond, eqb, List, [], ◌∷◌, ◌++◌, length, take, drop, Option, Some, None, Result, Ok, Err, refl, ap, sym, ◌∙◌, subst, arith, add-zero, sub-one, length-drop}
use Rattle.std.specs.List.{prefix_len}
use Rattle.std.proofs.Math.ListN.{take-append-drop}
use Rattle.std.proofs.lemmas.List.{length-take-le}
use Rattle.std.proofs.lemmas.List.Sums.{prefix_len-le-length}
use Rattle.cc_lex.specs.declared.fault.LexFault.{LexFault}
use Rattle.cc_lex.specs.declared.fault.LexFault.TheVariants as fault
use Rattle.cc_lex.specs.Literals.{IsContent, IsElement, HasBytes, NoElement, OneElement, HasBadEscape, AtFirst, Behind}
use Rattle.cc_lex.specs.Numbers.{is_digit_in}
use Rattle.cc_lex.specs.ScanParts.{value_of, simple_escape, octal_escape, hexadecimal_escape, byte_of, escape_of, behind_backslash, element_of}
use Rattle.cc_lex.specs.Scan.{put_byte, bytes_of}
use Rattle.cc_lex.proofs.Contents.{bytes_of-skip}
use Rattle.cc_lex.proofs.Escapes.{ElementIs, element-is, element-found, bad-found, behind-element, element-some, bad-some}
use Rattle.cc_lex.proofs.Fronts.{drop-front}

-- ---- lengths

abbrev Within : ℕ → ℕ × Option ℕ → Type 0
Within n x = x.0 ≤ n

within-cond : (n : ℕ) (t : Bool) (x y : ℕ × Option ℕ) → Within n x → Within n y → Within n (cond t x y)
within-cond n true x y h k = h
within-cond n false x y h k = k

escape-within : (text : List ℕ) → Within (length text) (escape_of text)
unfolding escape_of
escape-within [] = omega arith
escape-within (b ∷ bs) =
    let octal : min 3 (prefix_len (is_digit_in 8) (b ∷ bs)) ≤ length (b ∷ bs) = omega (arith, prefix_len-le-length (is_digit_in 8) (b ∷ bs)) in
    let hex : prefix_len (is_digit_in 16) bs + 1 ≤ length (b ∷ bs) = omega (arith, prefix_len-le-length (is_digit_in 16) bs) in
    within-cond (length (b ∷ bs)) (is_digit_in 8 b) (octal_escape (b ∷ bs) (min 3 (prefix_len (is_digit_in 8) (b ∷ bs)))) _ octal
    (within-cond (length (b ∷ bs)) (eqb b 120) (hexadecimal_escape bs (prefix_len (is_digit_in 16) bs)) (1, simple_escape b)
    (within-cond (length (b ∷ bs)) (eqb (prefix_len (is_digit_in 16) bs) 0) (1, None) (prefix_len (is_digit_in 16) bs + 1, byte_of (value_of 16 (take (prefix_len (is_digit_in 16) bs) bs))) (omega arith) hex)
    (omega arith))

pub record Fits (n : ℕ) (x : ℕ × Option ℕ) : Type 0 where
  pub some : 0 < x.0
  pub within : x.0 ≤ n

fits-cond : (n : ℕ) (t : Bool) (x y : ℕ × Option ℕ) → Fits n x → Fits n y → Fits n (cond t x y)
fits-cond n true x y h k = h
fits-cond n false x y h k = k

pub element-fits : (b : ℕ) (bs : List ℕ) → Fits (length (b ∷ bs)) (element_of (b ∷ bs))
unfolding element_of
element-fits b bs =
    fits-cond (length (b ∷ bs)) (eqb b 92) (behind_backslash (escape_of bs)) (1, Some b)
    (record { some = omega arith; within = omega (arith, escape-within bs) })
    (record { some = omega arith; within = omega arith })

pub element-size : (b : ℕ) (bs : List ℕ) (n : ℕ) (v : Option ℕ) → element_of (b ∷ bs) ≡ (n, v) → (0 < n) × (n ≤ length (b ∷ bs))
element-size b bs n v e =
    let f = subst (Fits (length (b ∷ bs))) e (element-fits b bs) in
    (f.some, f.within)

-- ---- one element

pub bytes-step : (at b : ℕ) (bs : List ℕ) (n v : ℕ) → element_of (b ∷ bs) ≡ (n, Some v) → bytes_of 0 at (b ∷ bs) ≡ put_byte v (bytes_of 0 (at + n) (drop n (b ∷ bs)))
bytes-step at b bs zero v e = absurd (omega (arith, (element-size b bs zero (Some v) e).0))
bytes-step at b bs (suc n) v e =
    let f : at + suc n ≡ at + 1 + n = omega arith in
    let h = (element-size b bs (suc n) (Some v) e).1 in
    rw (e, f, sub-one) (ap (put_byte v) (bytes_of-skip n (at + 1) bs (omega (arith, h))))

pub bytes-bad : (at b : ℕ) (bs : List ℕ) (n : ℕ) → element_of (b ∷ bs) ≡ (n, None) → bytes_of 0 at (b ∷ bs) ≡ Err (fault.BadNumber at)
bytes-bad at b bs n e = rw e refl

-- the same at an element that is derived
step-found : (at : ℕ) (w rest : List ℕ) (v : ℕ) → 0 < length w → element_of (w ++ rest) ≡ (length w, Some v) → bytes_of 0 at (w ++ rest) ≡ put_byte v (bytes_of 0 (at + length w) rest)
step-found at [] rest v some e = absurd (omega arith)
step-found at (b ∷ bs) rest v some e = bytes-step at b (bs ++ rest) (length (b ∷ bs)) v e ∙ ap (λ (x : List ℕ). put_byte v (bytes_of 0 (at + length (b ∷ bs)) x)) (drop-front (b ∷ bs) rest)

bad-at : (at : ℕ) (w rest : List ℕ) → 0 < length w → element_of (w ++ rest) ≡ (length w, None) → bytes_of 0 at (w ++ rest) ≡ Err (fault.BadNumber at)
bad-at at [] rest some e = absurd (omega arith)
bad-at at (b ∷ bs) rest some e = bytes-bad at b (bs ++ rest) (length (b ∷ bs)) e

-- ---- from the relation

pub has-bytes : (c vs : List ℕ) → HasBytes c vs → (at : ℕ) → bytes_of 0 at c ≡ Ok vs
has-bytes c vs NoElement at = refl
has-bytes c vs (OneElement w rest ws v e h) at =
    step-found at w rest v (element-some w rest v e) (element-found w rest v e) ∙ ap (put_byte v) (has-bytes rest ws h (at + length w))

pub has-bad : (c : List ℕ) (k : ℕ) → HasBadEscape c k → (at : ℕ) → bytes_of 0 at c ≡ Err (fault.BadNumber (at + k))
has-bad c k (AtFirst w rest e) at = bad-at at w rest (bad-some w rest e) (bad-found w rest e) ∙ ap (λ (x : ℕ). Err (fault.BadNumber x)) (sym (add-zero at))
has-bad c k (Behind w rest v j e h) at =
    let f : at + length w + j ≡ at + (length w + j) = omega arith in
    step-found at w rest v (element-some w rest v e) (element-found w rest v e) ∙ ap (put_byte v) (has-bad rest j h (at + length w)) ∙ ap (λ (x : ℕ). Err (fault.BadNumber x)) f

-- ---- to the relation

-- what the answer says of the content
abbrev pub BytesAre : List ℕ → ℕ → Result (List ℕ) LexFault → Type 0
BytesAre c at (Ok vs) = HasBytes c vs
BytesAre c at (Err e) = (k : ℕ) × (e ≡ fault.BadNumber (at + k)) × HasBadEscape c k

with-first : (at : ℕ) (w rest : List ℕ) (v : ℕ) (r : Result (List ℕ) LexFault) → IsElement w rest v → BytesAre rest (at + length w) r → BytesAre (w ++ rest) at (put_byte v r)
with-first at w rest v (Ok vs) e h = OneElement w rest vs v e h
with-first at w rest v (Err x) e h =
    let f : at + length w + h.0 ≡ at + (length w + h.0) = omega arith in
    (length w + h.0, h.1 ∙ ap (λ (y : ℕ). fault.BadNumber y) f, Behind w rest v h.0 e h.2)

bytes-at : (fuel quote b : ℕ) (bs : List ℕ) (at : ℕ) → IsContent quote (b ∷ bs) → ((c : List ℕ) (here : ℕ) → IsContent quote c → length c ≤ fuel → BytesAre c here (bytes_of 0 here c)) →
    (x : ℕ × Option ℕ) → element_of (b ∷ bs) ≡ x → ElementIs (b ∷ bs) x → length (b ∷ bs) ≤ suc fuel → BytesAre (b ∷ bs) at (bytes_of 0 at (b ∷ bs))
bytes-at fuel quote b bs at c rest (n, None) e k h =
    let whole = take-append-drop n (b ∷ bs) in
    subst (BytesAre (b ∷ bs) at) (sym (bytes-bad at b bs n e))
    (0, ap (λ (y : ℕ). fault.BadNumber y) (sym (add-zero at)), subst (λ (x : List ℕ). HasBadEscape x 0) whole (AtFirst (take n (b ∷ bs)) (drop n (b ∷ bs)) k))
bytes-at fuel quote b bs at c rest (n, Some v) e k h =
    let size = element-size b bs n (Some v) e in
    let front = take n (b ∷ bs) in
    let behind = drop n (b ∷ bs) in
    let whole : front ++ behind ≡ b ∷ bs = take-append-drop n (b ∷ bs) in
    let len : length front ≡ n = length-take-le n (b ∷ bs) size.1 in
    let shorter : length behind ≤ fuel = omega (arith, length-drop n (b ∷ bs), size.0, size.1) in
    let content : IsContent quote behind = behind-element quote front behind v k (subst (IsContent quote) (sym whole) c) in
    let is : BytesAre (front ++ behind) at (put_byte v (bytes_of 0 (at + length front) behind)) = with-first at front behind v (bytes_of 0 (at + length front) behind) k (rest behind (at + length front) content shorter) in
    subst (BytesAre (b ∷ bs) at) (ap (λ (m : ℕ). put_byte v (bytes_of 0 (at + m) behind)) len ∙ sym (bytes-step at b bs n v e))
    (subst (λ (x : List ℕ). BytesAre x at (put_byte v (bytes_of 0 (at + length front) behind))) whole is)

bytes-by : (fuel quote : ℕ) (c : List ℕ) (at : ℕ) → IsContent quote c → length c ≤ fuel → BytesAre c at (bytes_of 0 at c)
bytes-by fuel quote [] at i h = NoElement
bytes-by zero quote (b ∷ bs) at i h = absurd (omega arith)
bytes-by (suc fuel) quote (b ∷ bs) at i h = bytes-at fuel quote b bs at i (λ c here j k. bytes-by fuel quote c here j k) (element_of (b ∷ bs)) refl (element-is quote b bs i) h

pub bytes-are : (quote : ℕ) (c : List ℕ) (at : ℕ) → IsContent quote c → BytesAre c at (bytes_of 0 at c)
bytes-are quote c at i = bytes-by (length c) quote c at i (omega arith)
