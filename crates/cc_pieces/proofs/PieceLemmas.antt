-- A piece that is put in front stands in front of the others; the bytes of a text grow at the end by those of the next piece.
use Rattle.std.proofs.Common.{arith, ◌≡◌, ℕ, zero, suc, ◌+◌, ◌*◌, ◌/◌, ◌%◌, ◌<◌, ◌≤◌, List, [], ◌∷◌, ◌++◌, map, reverse, take, drop, length, get_or, refl, ap, sym, ◌∙◌, append_assoc, add-one}
use Rattle.std.proofs.lemmas.List.{append-nil, map-append, reverse-append, reverse-reverse, take_more, take_all}
use Rattle.std.proofs.Math.ListN.{drop_of_length-le}
use Rattle.std.proofs.Math.Seq.{drop-cons}
use Rattle.std.proofs.lemmas.Grind.{fold-append}
use Rattle.std.proofs.lemmas.Nat.{div-add-mod'}
use Rattle.cc_lex.specs.declared.token.Mark.{Mark}
use Rattle.cc_lex.specs.declared.token.Kind.TheVariants as kind
use Rattle.cc_lex.specs.declared.token.Suffix.{Suffix}
use Rattle.cc_program.specs.CcWords.declared.word.Word.{Word}
use Rattle.cc_pieces.specs.declared.piece.Symbol.{Symbol}
use Rattle.cc_pieces.specs.declared.piece.Symbol.TheVariants as symbol
use Rattle.cc_pieces.specs.Pieces.{Gap, Token, Pieces, bytes_of, flat, indentation, space, end_of_line}
use Rattle.cc_pieces.specs.View.{number_from, number_in, ended, left, read, pieces_of, put_in_front}

pub pieces_of-nil : pieces_of [] ≡ []
unfolding pieces_of
pieces_of-nil = refl

-- ---- bytes in front

abbrev byte : ℕ → Symbol
byte b = symbol.Byte b

read-bytes : (bytes xs : List ℕ) (r : List Symbol) → read bytes (map byte xs ++ r) ≡ read (bytes ++ xs) r
read-bytes bytes [] r = ap (λ b. read b r) (sym (append-nil bytes))
read-bytes bytes (x ∷ xs) r = read-bytes (bytes ++ x ∷ []) xs r ∙ ap (λ b. read b r) (append_assoc bytes (x ∷ []) xs)

-- the last one more
pub front-more : (x : ℕ) (xs : List ℕ) → put_in_front (x ∷ xs) ≡ put_in_front xs ++ byte x ∷ []
front-more x xs = ap (map byte) (reverse-append (x ∷ []) xs) ∙ map-append byte (reverse xs) (x ∷ [])

turned : (xs : List ℕ) → reverse (put_in_front xs) ≡ map byte xs
turned [] = refl
turned (x ∷ xs) = ap reverse (front-more x xs) ∙ reverse-append (put_in_front xs) (byte x ∷ []) ∙ ap (λ l. byte x ∷ l) (turned xs)

in-text : (old : List Symbol) (s : Symbol) (xs : List ℕ) → reverse (old ++ s ∷ put_in_front xs) ≡ map byte xs ++ s ∷ reverse old
in-text old s xs =
    reverse-append old (s ∷ put_in_front xs)
    ∙ ap (λ l. l ++ reverse old) (reverse-append (s ∷ []) (put_in_front xs) ∙ ap (λ l. l ++ s ∷ []) (turned xs))
    ∙ append_assoc (map byte xs) (s ∷ []) (reverse old)

put-read : (old : List Symbol) (s : Symbol) (xs : List ℕ) → read [] (reverse (old ++ s ∷ put_in_front xs)) ≡ ended s xs ++ read (left s xs) (reverse old)
put-read old s xs = ap (read []) (in-text old s xs) ∙ read-bytes [] xs (s ∷ reverse old)

pub name-put : (old : List Symbol) (xs : List ℕ) → pieces_of (old ++ symbol.Name ∷ put_in_front xs) ≡ Token (kind.Ident xs) ∷ pieces_of old
unfolding pieces_of
name-put old xs = put-read old symbol.Name xs

pub number-put : (old : List Symbol) (s : Suffix) (xs : List ℕ) → pieces_of (old ++ symbol.Number s ∷ put_in_front xs) ≡ Token (kind.Number (number_in xs) s) ∷ pieces_of old
unfolding pieces_of
number-put old s xs = put-read old (symbol.Number s) xs

pub gap-put : (old : List Symbol) (xs : List ℕ) → pieces_of (old ++ symbol.Gap ∷ put_in_front xs) ≡ Gap xs ∷ pieces_of old
unfolding pieces_of
gap-put old xs = put-read old symbol.Gap xs

pub keyword-put : (old : List Symbol) (w : Word) → pieces_of (old ++ symbol.Keyword w ∷ []) ≡ Token (kind.Keyword w) ∷ pieces_of old
unfolding pieces_of
keyword-put old w = put-read old (symbol.Keyword w) []

pub mark-put : (old : List Symbol) (o : Mark) → pieces_of (old ++ symbol.Punct o ∷ []) ≡ Token (kind.Punct o) ∷ pieces_of old
unfolding pieces_of
mark-put old o = put-read old (symbol.Punct o) []

pub space-put : (old : List Symbol) → pieces_of (old ++ symbol.Space ∷ []) ≡ space ∷ pieces_of old
unfolding pieces_of
space-put old = put-read old symbol.Space []

pub line_end-put : (old : List Symbol) → pieces_of (old ++ symbol.LineEnd ∷ []) ≡ end_of_line ∷ pieces_of old
unfolding pieces_of
line_end-put old = put-read old symbol.LineEnd []

pub ruleset of_pieces = (pieces_of-nil, name-put, keyword-put, mark-put, space-put, line_end-put)

-- in the loop over bytes
pub front-none : (out : List Symbol) (xs : List ℕ) → out ≡ out ++ put_in_front (drop (length xs) xs)
front-none out xs = let h : length xs ≤ length xs = omega arith in sym (ap (λ l. out ++ put_in_front l) (drop_of_length-le xs {i = length xs} h) ∙ append-nil out)

pub front-next : (xs : List ℕ) (i k d : ℕ) (old out new : List Symbol) → k ≡ suc i → i < length xs → out ≡ old ++ put_in_front (drop k xs) → new ≡ out ++ byte (get_or xs i d) ∷ [] →
    new ≡ old ++ put_in_front (drop i xs)
front-next xs i k d old out new n l h w =
    w ∙ ap (λ o. o ++ byte (get_or xs i d) ∷ []) (h ∙ ap (λ j. old ++ put_in_front (drop j xs)) n) ∙ append_assoc old (put_in_front (drop (suc i) xs)) (byte (get_or xs i d) ∷ [])
    ∙ ap (λ o. old ++ o) (sym (front-more (get_or xs i d) (drop (suc i) xs))) ∙ ap (λ ys. old ++ put_in_front ys) (sym (drop-cons xs i d l))

-- ---- numbers

-- a byte more in front, of what is left
pub number-more : (n : ℕ) (xs : List ℕ) → number_from (n / 256) (n % 256 ∷ xs) ≡ number_from n xs
number-more n xs = ap (λ m. number_from m xs) (div-add-mod' n 256)

pub front-push : (old out new : List Symbol) (b : ℕ) (xs : List ℕ) → out ≡ old ++ put_in_front xs → new ≡ out ++ byte b ∷ [] → new ≡ old ++ put_in_front (b ∷ xs)
front-push old out new b xs h w = w ∙ ap (λ o. o ++ byte b ∷ []) h ∙ append_assoc old (put_in_front xs) (byte b ∷ []) ∙ ap (λ o. old ++ o) (sym (front-more b xs))

-- once nothing is left
pub number-done : (old begun out : List Symbol) (s : Suffix) (n rest : ℕ) (xs : List ℕ) → begun ≡ old ++ symbol.Number s ∷ [] → rest ≡ 0 → out ≡ begun ++ put_in_front xs → number_from rest xs ≡ n →
    pieces_of out ≡ Token (kind.Number n s) ∷ pieces_of old
number-done old begun out s n rest xs b z h e =
    ap pieces_of (h ∙ ap (λ l. l ++ put_in_front xs) b ∙ append_assoc old (symbol.Number s ∷ []) (put_in_front xs))
    ∙ number-put old s xs ∙ ap (λ k. Token (kind.Number k s) ∷ pieces_of old) (sym (ap (λ k. number_from k xs) z) ∙ e)

-- a byte more behind
pub number-next : (xs : List ℕ) (i d : ℕ) → i < length xs → number_in (take (i + 1) xs) ≡ number_in (take i xs) * 256 + get_or xs i d
number-next xs i d h = ap number_in (take_more xs i d h) ∙ fold-append (λ n b. n * 256 + b) 0 (take i xs) (get_or xs i d ∷ [])

pub ruleset of_numbers = (number-next, take_all)

-- ---- gaps

pub indent-more : (n : ℕ) → put_in_front (indentation n) ++ put_in_front (32 ∷ 32 ∷ []) ≡ put_in_front (indentation (n + 1))
indent-more n = sym (two (indentation n)) ∙ ap (λ k. put_in_front (indentation k)) (sym (add-one n))
  where
    two : (xs : List ℕ) → put_in_front (32 ∷ 32 ∷ xs) ≡ put_in_front xs ++ put_in_front (32 ∷ 32 ∷ [])
    two xs = front-more 32 (32 ∷ xs) ∙ ap (λ l. l ++ byte 32 ∷ []) (front-more 32 xs) ∙ append_assoc (put_in_front xs) (byte 32 ∷ []) (byte 32 ∷ [])

pub ruleset of_indents = (indent-more, gap-put, append_assoc, append-nil)

-- ---- bytes of a text

flat-append : (ps qs : Pieces) → flat (ps ++ qs) ≡ flat ps ++ flat qs
flat-append [] qs = refl
flat-append (p ∷ ps) qs = ap (λ bs. bytes_of p ++ bs) (flat-append ps qs) ∙ sym (append_assoc (bytes_of p) (flat ps) (flat qs))

-- the text behind what is spelled, as far as the symbols are read
abbrev pub rest : List ℕ → List Symbol → ℕ → List ℕ
rest bytes symbols n = flat (read bytes (reverse (take n symbols)))

last-first : (xs : List Symbol) (i : ℕ) (d : Symbol) → i < length xs → reverse (take (i + 1) xs) ≡ get_or xs i d ∷ reverse (take i xs)
last-first xs i d h = ap reverse (take_more xs i d h) ∙ reverse-append (take i xs) (get_or xs i d ∷ [])

pub rest-next : (bytes : List ℕ) (xs : List Symbol) (i : ℕ) (d : Symbol) → i < length xs → rest bytes xs (i + 1) ≡ flat (ended (get_or xs i d) bytes) ++ rest (left (get_or xs i d) bytes) xs i
rest-next bytes xs i d h = ap (λ l. flat (read bytes l)) (last-first xs i d h) ∙ flat-append (ended (get_or xs i d) bytes) (read (left (get_or xs i d) bytes) (reverse (take i xs)))

pub rest-all : (xs : List Symbol) → rest [] xs (length xs) ≡ flat (pieces_of xs)
unfolding pieces_of
rest-all xs = let h : length xs ≤ length xs = omega arith in ap (λ l. flat (read [] (reverse l))) (take_all (length xs) xs h)

-- in the loop over the symbols
pub spell-all : (xs : List Symbol) (out bytes : List ℕ) → out ≡ [] → bytes ≡ [] → out ++ rest bytes xs (length xs) ≡ flat (pieces_of xs)
spell-all xs out bytes o b = (λ i. o i ++ rest (b i) xs (length xs)) ∙ rest-all xs

pub spell-next : (xs : List Symbol) (i k : ℕ) (d : Symbol) (out new bytes seen behind : List ℕ) → k ≡ suc i → i < length xs → seen ≡ bytes → out ++ rest bytes xs k ≡ flat (pieces_of xs) →
    new ≡ out ++ flat (ended (get_or xs i d) seen) → behind ≡ left (get_or xs i d) bytes → new ++ rest behind xs i ≡ flat (pieces_of xs)
spell-next xs i k d out new bytes seen behind n l s h w b =
    let m : k ≡ i + 1 = omega (arith, n) in
    (λ j. (w ∙ ap (λ t. out ++ flat (ended (get_or xs i d) t)) s) j ++ rest (b j) xs i) ∙ append_assoc out (flat (ended (get_or xs i d) bytes)) (rest (left (get_or xs i d) bytes) xs i)
    ∙ ap (λ t. out ++ t) (sym (rest-next bytes xs i d l)) ∙ ap (λ j. out ++ rest bytes xs j) (sym m) ∙ h

pub spell-none : (xs : List Symbol) (k : ℕ) (out bytes : List ℕ) → k ≡ 0 → out ++ rest bytes xs k ≡ flat (pieces_of xs) → out ≡ flat (pieces_of xs)
spell-none xs k out bytes z h = sym (append-nil out) ∙ ap (λ j. out ++ rest bytes xs j) (sym z) ∙ h
