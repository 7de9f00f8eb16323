-- The scan's loop: the tokens so far and those of the rest are those of the text. And what the scan's
-- answer says of the text by the relations.
use Rattle.std.proofs.Common.{◌≡◌, ◌≢◌, ℕ, zero, suc, ◌+◌, ◌<◌, ◌≤◌, Bool, true, false, List, [], ◌∷◌, ◌++◌, length, take, drop, Result, Ok, Err, IfOk, IfErr, MatchResult, refl, ap, sym, ◌∙◌, subst, arith, append_assoc, add-zero, sub-one, length-append}
use Rattle.std.specs.Prelude.{Vec}
use Rattle.std.specs.declared.alloc.Global.{Global}
use Rattle.std.proofs.lemmas.List.{take_at, drop_at}
use Rattle.cc_lex.specs.declared.fault.LexFault.{LexFault}
use Rattle.cc_lex.specs.declared.fault.LexFault.TheVariants as fault
use Rattle.cc_lex.specs.declared.scan.Piece.TheVariants as piece
use Rattle.cc_lex.specs.declared.token.Kind.{Kind}
use Rattle.cc_lex.specs.declared.token.Token.{Token}
use Rattle.cc_lex.specs.Tokens.{Spells, TokensFrom, NoToken, Separated, Spelled, Tokens, AreSpans}
use Rattle.cc_lex.specs.Faults.{HasFault}
use Rattle.cc_lex.specs.Scan.{Reading, Gives, FaultGives, piece_at, put_token, tokens_of, size_of}
use Rattle.cc_lex.proofs.Whole.{PieceFits, TokensAre, tokens-are, tokens-found, first-fault}

-- ---- sizes of pieces

pub gives-some : (r read : Reading) (n : ℕ) → Gives (λ p. p) r read → PieceFits n read → IfOk r (λ p. 0 < size_of p)
gives-some (Ok p) read n h k = (subst (PieceFits n) h k).some
gives-some (Err e) read n h k = tt

pub gives-within : (r read : Reading) (n : ℕ) → Gives (λ p. p) r read → PieceFits n read → IfOk r (λ p. size_of p ≤ n)
gives-within (Ok p) read n h k = (subst (PieceFits n) h k).within
gives-within (Err e) read n h k = tt

-- ---- the loop

-- the tokens so far, and those of the rest
abbrev pub after_tokens : List Token → Result (List Token) LexFault → Result (List Token) LexFault
after_tokens ts (Ok us) = Ok (ts ++ us)
after_tokens ts (Err e) = Err e

pub after_tokens-none : (r : Result (List Token) LexFault) → after_tokens [] r ≡ r
after_tokens-none (Ok ts) = refl
after_tokens-none (Err e) = refl

after_tokens-put : (ts : List Token) (t : Token) (r : Result (List Token) LexFault) → after_tokens ts (put_token t r) ≡ after_tokens (ts ++ t ∷ []) r
after_tokens-put ts t (Ok us) = ap Ok (sym (append_assoc ts (t ∷ []) us))
after_tokens-put ts t (Err e) = refl

skip : (n : ℕ) (fresh : Bool) (at : ℕ) (text : List ℕ) → n ≤ length text → tokens_of n fresh at text ≡ tokens_of 0 fresh (at + n) (drop n text)
skip zero fresh at text h = rw add-zero refl
skip (suc n) fresh at [] h = absurd (omega arith)
skip (suc n) fresh at (b ∷ bs) h =
    let e : at + suc n ≡ at + 1 + n = omega arith in
    rw e (skip n fresh (at + 1) bs (omega arith))

pub tokens-err : (fresh : Bool) (at : ℕ) (text : List ℕ) (ts : List Token) (e : LexFault) → 0 < length text → piece_at fresh at text ≡ Err e → after_tokens ts (tokens_of 0 fresh at text) ≡ Err e
tokens-err fresh at [] ts e h k = absurd (omega arith)
tokens-err fresh at (b ∷ bs) ts e h k = rw k refl

pub tokens-gap : (fresh : Bool) (at : ℕ) (text : List ℕ) (ts : List Token) (n : ℕ) (after : Bool) → 0 < n → n ≤ length text → piece_at fresh at text ≡ Ok (piece.Gap n after) →
    after_tokens ts (tokens_of 0 fresh at text) ≡ after_tokens ts (tokens_of 0 after (at + n) (drop n text))
tokens-gap fresh at [] ts n after g h k = absurd (omega arith)
tokens-gap fresh at (b ∷ bs) ts zero after g h k = absurd (omega arith)
tokens-gap fresh at (b ∷ bs) ts (suc n) after g h k =
    let e : at + suc n ≡ at + 1 + n = omega arith in
    rw (k, e, sub-one) (ap (after_tokens ts) (skip n after (at + 1) bs (omega arith)))

pub tokens-spelled : (fresh : Bool) (at : ℕ) (text : List ℕ) (ts : List Token) (n : ℕ) (q : Kind) → 0 < n → n ≤ length text → piece_at fresh at text ≡ Ok (piece.Spelled n q) →
    after_tokens ts (tokens_of 0 fresh at text) ≡ after_tokens (ts ++ record { at = at; len = n; kind = q } ∷ []) (tokens_of 0 false (at + n) (drop n text))
tokens-spelled fresh at [] ts n q g h k = absurd (omega arith)
tokens-spelled fresh at (b ∷ bs) ts zero q g h k = absurd (omega arith)
tokens-spelled fresh at (b ∷ bs) ts (suc n) q g h k =
    let e : at + suc n ≡ at + 1 + n = omega arith in
    rw (k, e, sub-one) (after_tokens-put ts (record { at = at; len = suc n; kind = q }) (tokens_of n false (at + 1) bs) ∙ ap (after_tokens (ts ++ record { at = at; len = suc n; kind = q } ∷ [])) (skip n false (at + 1) bs (omega arith)))

pub ruleset of_tokens = (after_tokens-none, tokens-err, tokens-gap, tokens-spelled)

-- ---- spans

spans-from : (text : List ℕ) (ts : List Token) (low from : ℕ) → low ≤ from → AreSpans text from ts → AreSpans text low ts
spans-from text [] low from h k = omega (arith, h, k)
spans-from text (t ∷ ts) low from h k = (omega (arith, h, k.0), k.1, k.2)

spans-of : (front : List ℕ) (fresh : Bool) (at : ℕ) (text : List ℕ) (ts : List Token) → TokensFrom fresh at text ts → at ≡ length front → AreSpans (front ++ text) at ts
spans-of front fresh at text ts (NoToken _ _) e = let f = length-append front [] in omega (arith, e)
spans-of front fresh at text ts (Separated _ after _ w rest _ h r) e =
    let f : at + length w ≡ length (front ++ w) = omega (arith, e, length-append front w) in
    let low : at ≤ at + length w = omega arith in
    spans-from (front ++ (w ++ rest)) ts at (at + length w) low
    (subst (λ (x : List ℕ). AreSpans x (at + length w) ts) (append_assoc front w rest) (spans-of (front ++ w) after (at + length w) rest ts r f))
spans-of front fresh at text ts (Spelled _ _ w rest k us h r) e =
    let f : at + length w ≡ length (front ++ w) = omega (arith, e, length-append front w) in
    let slice : drop at (front ++ (w ++ rest)) ≡ w ++ rest = drop_at front (w ++ rest) at (sym e) in
    let spelling : take (length w) (drop at (front ++ (w ++ rest))) ≡ w = ap (take (length w)) slice ∙ take_at w rest (length w) refl in
    let behind : drop (at + length w) (front ++ (w ++ rest)) ≡ rest = ap (drop (at + length w)) (sym (append_assoc front w rest)) ∙ drop_at (front ++ w) rest (at + length w) (sym f) in
    let low : at ≤ at = omega arith in (
      low,
      subst (λ (x : List ℕ). Spells x (drop (at + length w) (front ++ (w ++ rest))) k) (sym spelling) (subst (λ (x : List ℕ). Spells w x k) (sym behind) h),
      subst (λ (x : List ℕ). AreSpans x (at + length w) us) (append_assoc front w rest) (spans-of (front ++ w) false (at + length w) rest us r f),
    )

pub spans : (text : List ℕ) (ts : List Token) → Tokens text ts → AreSpans text 0 ts
spans text ts h = spans-of [] true 0 text ts h refl

-- ---- what is answered

abbrev Answer : Type 0
Answer = Result (Vec Token Global) LexFault

abbrev Given : Answer → List ℕ → Type 0
Given r text = Gives (λ v. v.items) r (tokens_of 0 true 0 text)

-- a fault other than want of memory is the one that is read
fault-given : {Y : Type 0} (e : LexFault) (read : Result Y LexFault) → e ≢ fault.NoMemory → FaultGives e read → read ≡ Err e
fault-given (fault.BadByte at) read n h = h
fault-given (fault.OpenComment at) read n h = h
fault-given (fault.OpenText at) read n h = h
fault-given (fault.BadNumber at) read n h = h
fault-given (fault.Directive at) read n h = h
fault-given fault.NoMemory read n h = absurd (n refl)

ok-given : {Y : Type 0} (e : LexFault) (y : Y) (read : Result Y LexFault) → read ≡ Ok y → FaultGives e read → e ≡ fault.NoMemory
ok-given (fault.BadByte at) y read k h = absurd (cc)
ok-given (fault.OpenComment at) y read k h = absurd (cc)
ok-given (fault.OpenText at) y read k h = absurd (cc)
ok-given (fault.BadNumber at) y read k h = absurd (cc)
ok-given (fault.Directive at) y read k h = absurd (cc)
ok-given fault.NoMemory y read k h = refl

same-tokens : (ts us : List Token) (read : Result (List Token) LexFault) → read ≡ Ok ts → read ≡ Ok us → ts ≡ us
same-tokens ts us read h k = cc

same-fault : (e f : LexFault) (read : Result (List Token) LexFault) → read ≡ Err e → read ≡ Err f → f ≡ e
same-fault e f read h k = cc

pub found-of : (r : Answer) (text : List ℕ) → Given r text → IfOk r (λ v. Tokens text v.items)
found-of (Ok v) text h = subst (TokensAre true 0 text) h (tokens-are true 0 text)
found-of (Err e) text h = tt

pub only-of : (r : Answer) (text : List ℕ) → Given r text → (ts : List Token) → Tokens text ts → MatchResult r (λ v. v.items ≡ ts) (λ e. e ≡ fault.NoMemory)
only-of (Ok v) text h ts k = same-tokens v.items ts (tokens_of 0 true 0 text) h (tokens-found true 0 text ts k)
only-of (Err e) text h ts k = ok-given e ts (tokens_of 0 true 0 text) (tokens-found true 0 text ts k) h

pub fault-of : (r : Answer) (text : List ℕ) → Given r text → IfErr r (λ e. e ≢ fault.NoMemory → HasFault text e)
fault-of (Ok v) text h = tt
fault-of (Err e) text h = λ n. subst (TokensAre true 0 text) (fault-given e (tokens_of 0 true 0 text) n h) (tokens-are true 0 text)

pub only_fault-of : (r : Answer) (text : List ℕ) → Given r text → (e : LexFault) → HasFault text e → MatchResult r (λ _. ⊥) (λ f. f ≢ fault.NoMemory → f ≡ e)
only_fault-of (Ok v) text h e k = let f = first-fault true 0 text e k in absurd (cc)
only_fault-of (Err d) text h e k = λ n. same-fault e d (tokens_of 0 true 0 text) (first-fault true 0 text e k) (fault-given d (tokens_of 0 true 0 text) n h)

pub spans-of-answer : (r : Answer) (text : List ℕ) → Given r text → IfOk r (λ v. AreSpans text 0 v.items)
spans-of-answer (Ok v) text h = spans text v.items (subst (TokensAre true 0 text) h (tokens-are true 0 text))
spans-of-answer (Err e) text h = tt
