-- A whole text: the tokens that are computed are those of the text, and the fault that is computed is
-- its first. A text with tokens has no other tokens and no fault, since what stands at a place is one.
use Rattle.std.proofs.Common.{◌≡◌, ℕ, zero, suc, ◌+◌, ◌<◌, ◌≤◌, Bool, true, false, List, [], ◌∷◌, ◌++◌, length, Result, Ok, Err, refl, ap, sym, ◌∙◌, subst, arith, add-zero, sub-one, length-append, ◌⊎◌, inl, inr}
use Rattle.cc_lex.specs.declared.fault.LexFault.{LexFault}
use Rattle.cc_lex.specs.declared.scan.Piece.TheVariants as piece
use Rattle.cc_lex.specs.declared.token.Kind.{Kind}
use Rattle.cc_lex.specs.declared.token.Token.{Token}
use Rattle.cc_lex.specs.Identifiers.{IsIdentifier}
use Rattle.cc_lex.specs.Separators.{Separates, ABlank, ALineFeed, AnotherSpace, AComment, ALineComment, ALine}
use Rattle.cc_lex.specs.Tokens.{Spells, AName, ANumber, ACharacter, AText, AMark, Tokens, TokensFrom, NoToken, Separated, Spelled}
use Rattle.cc_lex.specs.Faults.{Fails, ABadByte, ALateHash, ADirective, AnOpenComment, ABadNumber, AnOpenCharacter, AnOpenText, AWrongLength, ABadCharacter, ABadEscape, HasFault, FaultFrom, FirstFault, BehindSeparator, BehindSpelling}
use Rattle.cc_lex.specs.Scan.{Reading, piece_at, put_token, tokens_of, size_of}
use Rattle.cc_lex.proofs.LongestMark.{mark-some}
use Rattle.cc_lex.proofs.Runs.{number-some}
use Rattle.cc_lex.proofs.Pieces.{Cut, IsPiece, piece-is}
use Rattle.cc_lex.proofs.Found.{gap-found, spelling-found, fault-found}

-- ---- separators and spellings have bytes

gap-some : (fresh after : Bool) (w rest : List ℕ) → Separates fresh w rest after → 0 < length w
gap-some fresh after w rest (ABlank _ b _ h) = omega arith
gap-some fresh after w rest (ALineFeed _ _) = omega arith
gap-some fresh after w rest (AnotherSpace _ b _ h) = omega arith
gap-some fresh after w rest (AComment _ c _ h) = omega arith
gap-some fresh after w rest (ALineComment _ c _ h k) = omega arith
gap-some fresh after w rest (ALine c _ h k s) = omega arith

name-some : (w : List ℕ) → IsIdentifier w → 0 < length w
name-some [] h = absurd (cc)
name-some (c ∷ cs) h = omega arith

spelling-some : (w rest : List ℕ) (k : Kind) → Spells w rest k → 0 < length w
spelling-some w rest k (AName _ _ h j) = name-some w h
spelling-some w rest k (ANumber _ _ n s h l e) = number-some w h
spelling-some w rest k (ACharacter c _ v h j) = omega arith
spelling-some w rest k (AText c _ vs h j) = omega arith
spelling-some w rest k (AMark m _ h f c) = omega (arith, mark-some m)

-- ---- one piece

tokens-skip : (w rest : List ℕ) (fresh : Bool) (at : ℕ) → tokens_of (length w) fresh at (w ++ rest) ≡ tokens_of 0 fresh (at + length w) rest
tokens-skip [] rest fresh at = rw add-zero refl
tokens-skip (b ∷ bs) rest fresh at =
    let e : at + suc (length bs) ≡ at + 1 + length bs = omega arith in
    rw e (tokens-skip bs rest fresh (at + 1))

tokens-gap : (fresh after : Bool) (at : ℕ) (w rest : List ℕ) → 0 < length w → piece_at fresh at (w ++ rest) ≡ Ok (piece.Gap (length w) after) → tokens_of 0 fresh at (w ++ rest) ≡ tokens_of 0 after (at + length w) rest
tokens-gap fresh after at [] rest h e = absurd (omega arith)
tokens-gap fresh after at (b ∷ bs) rest h e =
    let f : at + suc (length bs) ≡ at + 1 + length bs = omega arith in
    rw (e, f, sub-one) (tokens-skip bs rest after (at + 1))

tokens-spelling : (fresh : Bool) (at : ℕ) (w rest : List ℕ) (k : Kind) → 0 < length w → piece_at fresh at (w ++ rest) ≡ Ok (piece.Spelled (length w) k) →
    tokens_of 0 fresh at (w ++ rest) ≡ put_token (record { at = at; len = length w; kind = k }) (tokens_of 0 false (at + length w) rest)
tokens-spelling fresh at [] rest k h e = absurd (omega arith)
tokens-spelling fresh at (b ∷ bs) rest k h e =
    let f : at + suc (length bs) ≡ at + 1 + length bs = omega arith in
    rw (e, f, sub-one) (ap (put_token (record { at = at; len = suc (length bs); kind = k })) (tokens-skip bs rest false (at + 1)))

-- ---- from the relations

pub tokens-found : (fresh : Bool) (at : ℕ) (text : List ℕ) (ts : List Token) → TokensFrom fresh at text ts → tokens_of 0 fresh at text ≡ Ok ts
tokens-found fresh at text ts (NoToken _ _) = refl
tokens-found fresh at text ts (Separated _ after _ w rest _ h r) =
    tokens-gap fresh after at w rest (gap-some fresh after w rest h) (gap-found fresh after w rest h at) ∙ tokens-found after (at + length w) rest ts r
tokens-found fresh at text ts (Spelled _ _ w rest k us h r) =
    tokens-spelling fresh at w rest k (spelling-some w rest k h) (spelling-found w rest k h fresh at)
    ∙ ap (put_token (record { at = at; len = length w; kind = k })) (tokens-found false (at + length w) rest us r)

fails-at : (fresh : Bool) (at : ℕ) (text : List ℕ) (e : LexFault) → 0 < length text → piece_at fresh at text ≡ Err e → tokens_of 0 fresh at text ≡ Err e
fails-at fresh at [] e h k = absurd (omega arith)
fails-at fresh at (b ∷ bs) e h k = rw k refl

fails-some : (fresh : Bool) (at : ℕ) (text : List ℕ) (e : LexFault) → Fails fresh at text e → 0 < length text
fails-some fresh at text e (ABadByte _ _ b rest h k) = omega arith
fails-some fresh at text e (ALateHash _ rest) = omega arith
fails-some fresh at text e (ADirective _ c rest h k s) = omega arith
fails-some fresh at text e (AnOpenComment _ _ rest h) = omega arith
fails-some fresh at text e (ABadNumber _ _ w rest h l n) = omega (arith, number-some w h, length-append w rest)
fails-some fresh at text e (AnOpenCharacter _ _ rest h) = omega arith
fails-some fresh at text e (AnOpenText _ _ rest h) = omega arith
fails-some fresh at text e (AWrongLength _ _ c rest h k i) = omega arith
fails-some fresh at text e (ABadCharacter _ _ c rest h k) = omega arith
fails-some fresh at text e (ABadEscape _ _ c rest k h j) = omega arith

pub first-fault : (fresh : Bool) (at : ℕ) (text : List ℕ) (e : LexFault) → FaultFrom fresh at text e → tokens_of 0 fresh at text ≡ Err e
first-fault fresh at text e (FirstFault _ _ _ _ h) = fails-at fresh at text e (fails-some fresh at text e h) (fault-found fresh at text e h)
first-fault fresh at text e (BehindSeparator _ after _ w rest _ h r) =
    tokens-gap fresh after at w rest (gap-some fresh after w rest h) (gap-found fresh after w rest h at) ∙ first-fault after (at + length w) rest e r
first-fault fresh at text e (BehindSpelling _ _ w rest k _ h r) =
    tokens-spelling fresh at w rest k (spelling-some w rest k h) (spelling-found w rest k h fresh at)
    ∙ ap (put_token (record { at = at; len = length w; kind = k })) (first-fault false (at + length w) rest e r)

-- ---- to the relations

-- what the answer says of the text
abbrev pub TokensAre : Bool → ℕ → List ℕ → Result (List Token) LexFault → Type 0
TokensAre fresh at text (Ok ts) = TokensFrom fresh at text ts
TokensAre fresh at text (Err e) = FaultFrom fresh at text e

behind-gap : (fresh after : Bool) (at : ℕ) (w rest : List ℕ) (r : Result (List Token) LexFault) → Separates fresh w rest after → TokensAre after (at + length w) rest r → TokensAre fresh at (w ++ rest) r
behind-gap fresh after at w rest (Ok ts) h k = Separated fresh after at w rest ts h k
behind-gap fresh after at w rest (Err e) h k = BehindSeparator fresh after at w rest e h k

behind-spelling : (fresh : Bool) (at : ℕ) (w rest : List ℕ) (k : Kind) (r : Result (List Token) LexFault) → Spells w rest k → TokensAre false (at + length w) rest r →
    TokensAre fresh at (w ++ rest) (put_token (record { at = at; len = length w; kind = k }) r)
behind-spelling fresh at w rest k (Ok ts) h j = Spelled fresh at w rest k ts h j
behind-spelling fresh at w rest k (Err e) h j = BehindSpelling fresh at w rest k e h j

abbrev Shorter : ℕ → Type 0
Shorter fuel = (fresh : Bool) (at : ℕ) (text : List ℕ) → length text ≤ fuel → TokensAre fresh at text (tokens_of 0 fresh at text)

shorter-rest : (fuel n : ℕ) (text w rest : List ℕ) → length text ≤ suc fuel → text ≡ w ++ rest → n ≡ length w → 0 < n → length rest ≤ fuel
shorter-rest fuel n text w rest h e k j = let f = ap length e ∙ length-append w rest in omega arith

tokens-at : (fuel : ℕ) → Shorter fuel → (fresh : Bool) (at b : ℕ) (bs : List ℕ) (p : Reading) → length (b ∷ bs) ≤ suc fuel → piece_at fresh at (b ∷ bs) ≡ p → IsPiece fresh at (b ∷ bs) p → TokensAre fresh at (b ∷ bs) (tokens_of 0 fresh at (b ∷ bs))
tokens-at fuel ih fresh at b bs (Err e) h k c = subst (TokensAre fresh at (b ∷ bs)) (sym (fails-at fresh at (b ∷ bs) e (omega arith) k)) (FirstFault fresh at (b ∷ bs) e c)
tokens-at fuel ih fresh at b bs (Ok (piece.Gap n after)) h k c =
    let found = ap (piece_at fresh at) (sym c.whole) ∙ k ∙ ap (λ (m : ℕ). Ok (piece.Gap m after)) c.size in
    let some : 0 < length c.front = omega (arith, c.size, c.some) in
    let rest = ih after (at + length c.front) c.rest (shorter-rest fuel n (b ∷ bs) c.front c.rest h c.whole c.size c.some) in
    subst (λ (x : List ℕ). TokensAre fresh at x (tokens_of 0 fresh at x)) (sym c.whole)
    (subst (TokensAre fresh at (c.front ++ c.rest)) (sym (tokens-gap fresh after at c.front c.rest some found))
    (behind-gap fresh after at c.front c.rest (tokens_of 0 after (at + length c.front) c.rest) c.is rest))
tokens-at fuel ih fresh at b bs (Ok (piece.Spelled n q)) h k c =
    let found = ap (piece_at fresh at) (sym c.whole) ∙ k ∙ ap (λ (m : ℕ). Ok (piece.Spelled m q)) c.size in
    let some : 0 < length c.front = omega (arith, c.size, c.some) in
    let rest = ih false (at + length c.front) c.rest (shorter-rest fuel n (b ∷ bs) c.front c.rest h c.whole c.size c.some) in
    subst (λ (x : List ℕ). TokensAre fresh at x (tokens_of 0 fresh at x)) (sym c.whole)
    (subst (TokensAre fresh at (c.front ++ c.rest)) (sym (tokens-spelling fresh at c.front c.rest q some found))
    (behind-spelling fresh at c.front c.rest q (tokens_of 0 false (at + length c.front) c.rest) c.is rest))

tokens-by : (fuel : ℕ) (fresh : Bool) (at : ℕ) (text : List ℕ) → length text ≤ fuel → TokensAre fresh at text (tokens_of 0 fresh at text)
tokens-by fuel fresh at [] h = NoToken fresh at
tokens-by zero fresh at (b ∷ bs) h = absurd (omega arith)
tokens-by (suc fuel) fresh at (b ∷ bs) h = tokens-at fuel (λ f a t k. tokens-by fuel f a t k) fresh at b bs (piece_at fresh at (b ∷ bs)) h refl (piece-is fresh at b bs)

pub tokens-are : (fresh : Bool) (at : ℕ) (text : List ℕ) → TokensAre fresh at text (tokens_of 0 fresh at text)
tokens-are fresh at text = tokens-by (length text) fresh at text (omega arith)

-- ---- sizes

-- a piece has bytes, and they are of the text
pub record Fits (n : ℕ) (size : ℕ) : Type 0 where
  pub some : 0 < size
  pub within : size ≤ n

abbrev pub PieceFits : ℕ → Reading → Type 0
PieceFits n (Err e) = Unit {0}
PieceFits n (Ok p) = Fits n (size_of p)

cut-fits : (text : List ℕ) (n : ℕ) (P : List ℕ → List ℕ → Type 0) → Cut text n P → Fits (length text) n
cut-fits text n P c = let e = ap length c.whole ∙ length-append c.front c.rest in record { some = c.some; within = omega (arith, e, c.size) }

piece-fits-by : (fresh : Bool) (at : ℕ) (text : List ℕ) (p : Reading) → IsPiece fresh at text p → PieceFits (length text) p
piece-fits-by fresh at text (Err e) h = tt
piece-fits-by fresh at text (Ok (piece.Gap n after)) h = cut-fits text n (λ w rest. Separates fresh w rest after) h
piece-fits-by fresh at text (Ok (piece.Spelled n k)) h = cut-fits text n (λ w rest. Spells w rest k) h

pub piece-fits : (fresh : Bool) (at : ℕ) (text : List ℕ) → 0 < length text → PieceFits (length text) (piece_at fresh at text)
piece-fits fresh at [] h = absurd (omega arith)
piece-fits fresh at (b ∷ bs) h = piece-fits-by fresh at (b ∷ bs) (piece_at fresh at (b ∷ bs)) (piece-is fresh at b bs)

-- ---- each text

pub one-list : (text : List ℕ) (ts us : List Token) → Tokens text ts → Tokens text us → ts ≡ us
one-list text ts us h k =
    let e = tokens-found true 0 text ts h in
    let f = tokens-found true 0 text us k in
    cc

pub one-fault : (text : List ℕ) (e f : LexFault) → HasFault text e → HasFault text f → e ≡ f
one-fault text e f h k =
    let i = first-fault true 0 text e h in
    let j = first-fault true 0 text f k in
    cc

pub not-both : (text : List ℕ) (ts : List Token) (e : LexFault) → Tokens text ts → HasFault text e → ⊥
not-both text ts e h k =
    let i = tokens-found true 0 text ts h in
    let j = first-fault true 0 text e k in
    cc

either-by : (text : List ℕ) (r : Result (List Token) LexFault) → TokensAre true 0 text r → ((ts : List Token) × Tokens text ts) ⊎ ((e : LexFault) × HasFault text e)
either-by text (Ok ts) h = inl (ts, h)
either-by text (Err e) h = inr (e, h)

pub either : (text : List ℕ) → ((ts : List Token) × Tokens text ts) ⊎ ((e : LexFault) × HasFault text e)
either text = either-by text (tokens_of 0 true 0 text) (tokens-are true 0 text)
