-- The elements of a content, one after another. What the first `skip` bytes belong to is passed over, so
-- the loop stands at each element's first byte.
use Rattle.std.proofs.Common.{◌≡◌, ℕ, zero, suc, ◌+◌, ◌<◌, ◌≤◌, List, [], ◌∷◌, ◌++◌, length, drop, Option, Some, None, Result, Ok, Err, refl, ap, sym, ◌∙◌, arith, append_assoc, sub-one, add-zero}
use Rattle.cc_lex.specs.declared.fault.LexFault.{LexFault}
use Rattle.cc_lex.specs.ScanParts.{element_of}
use Rattle.cc_lex.specs.Scan.{bytes_of, put_byte}
use Rattle.cc_lex.specs.declared.fault.LexFault.TheVariants as fault

-- the bytes that a content before has, and those of the rest
abbrev pub after_bytes : List ℕ → Result (List ℕ) LexFault → Result (List ℕ) LexFault
after_bytes vs (Ok ws) = Ok (vs ++ ws)
after_bytes vs (Err e) = Err e

pub after_bytes-none : (r : Result (List ℕ) LexFault) → after_bytes [] r ≡ r
after_bytes-none (Ok vs) = refl
after_bytes-none (Err e) = refl

after_bytes-put : (vs : List ℕ) (v : ℕ) (r : Result (List ℕ) LexFault) → after_bytes vs (put_byte v r) ≡ after_bytes (vs ++ v ∷ []) r
after_bytes-put vs v (Ok ws) = ap Ok (sym (append_assoc vs (v ∷ []) ws))
after_bytes-put vs v (Err e) = refl

pub bytes_of-skip : (k at : ℕ) (text : List ℕ) → k ≤ length text → bytes_of k at text ≡ bytes_of 0 (at + k) (drop k text)
bytes_of-skip zero at text h = rw add-zero refl
bytes_of-skip (suc k) at [] h = absurd (omega arith)
bytes_of-skip (suc k) at (b ∷ bs) h =
    let e : at + suc k ≡ at + 1 + k = omega arith in
    rw e (bytes_of-skip k (at + 1) bs (omega arith))

bad-at : (at : ℕ) (b : ℕ) (bs vs : List ℕ) (x : ℕ × Option ℕ) → element_of (b ∷ bs) ≡ x → x.1 ≡ None → after_bytes vs (bytes_of 0 at (b ∷ bs)) ≡ Err (fault.BadNumber at)
bad-at at b bs vs (n, None) e h = rw e refl
bad-at at b bs vs (n, Some v) e h = absurd (cc)

pub bytes_of-bad : (at : ℕ) (text vs : List ℕ) → 0 < length text → (element_of text).1 ≡ None → after_bytes vs (bytes_of 0 at text) ≡ Err (fault.BadNumber at)
bytes_of-bad at [] vs h e = absurd (omega arith)
bytes_of-bad at (b ∷ bs) vs h e = bad-at at b bs vs (element_of (b ∷ bs)) refl e

step-at : (at : ℕ) (b : ℕ) (bs vs : List ℕ) (v : ℕ) (x : ℕ × Option ℕ) → element_of (b ∷ bs) ≡ x → 0 < x.0 → x.0 ≤ length (b ∷ bs) → x.1 ≡ Some v →
    after_bytes vs (bytes_of 0 at (b ∷ bs)) ≡ after_bytes (vs ++ v ∷ []) (bytes_of 0 (at + x.0) (drop x.0 (b ∷ bs)))
step-at at b bs vs v (n, None) e h k j = absurd (cc)
step-at at b bs vs v (zero, Some w) e h k j = absurd (omega arith)
step-at at b bs vs v (suc n, Some w) e h k j =
    let f : at + suc n ≡ at + 1 + n = omega arith in
    let i : w ≡ v = cc in
    rw (e, f, sub-one, i) (after_bytes-put vs v (bytes_of n (at + 1) bs) ∙ ap (after_bytes (vs ++ v ∷ [])) (bytes_of-skip n (at + 1) bs (omega arith)))

pub bytes_of-step : (at : ℕ) (text vs : List ℕ) (v : ℕ) → 0 < length text → 0 < (element_of text).0 → (element_of text).0 ≤ length text → (element_of text).1 ≡ Some v →
    after_bytes vs (bytes_of 0 at text) ≡ after_bytes (vs ++ v ∷ []) (bytes_of 0 (at + (element_of text).0) (drop (element_of text).0 text))
bytes_of-step at [] vs v g h k e = absurd (omega arith)
bytes_of-step at (b ∷ bs) vs v g h k e = step-at at b bs vs v (element_of (b ∷ bs)) refl h k e

pub ruleset of_bytes = (after_bytes-none, bytes_of-bad, bytes_of-step)
