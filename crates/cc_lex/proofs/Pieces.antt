-- What the scanner says is at a place is there: by the class of the first byte, what it answers names a
-- separator, a spelling or a fault of the grammar.
use Rattle.std.proofs.Common.{◌≡◌, ℕ, suc, ◌+◌, ◌<◌, ◌≤◌, Bool, true, false, cond, eqb, List, [], ◌∷◌, ◌++◌, length, take, drop, Option, Some, None, Result, Ok, Err, refl, ap, sym, ◌∙◌, subst, arith, append_assoc, add-one, length-take, length-append}
use Rattle.std.specs.List.{list_all, prefix_len}
use Rattle.std.proofs.Math.ListN.{take-append-drop}
use Rattle.std.proofs.lemmas.List.Sums.{prefix_len-le-length}
use Rattle.cc_lex.specs.declared.byte.Class.{Class}
use Rattle.cc_lex.specs.declared.byte.Class.TheVariants as class
use Rattle.cc_lex.specs.declared.fault.LexFault.{LexFault}
use Rattle.cc_lex.specs.declared.fault.LexFault.TheVariants as fault
use Rattle.cc_lex.specs.declared.scan.Piece.TheVariants as piece
use Rattle.cc_lex.specs.declared.token.Kind.TheVariants as kind
use Rattle.cc_lex.specs.declared.token.Mark.{Mark}
use Rattle.cc_lex.specs.declared.token.Mark.TheVariants as mark
use Rattle.cc_lex.specs.declared.token.Suffix.{Suffix}
use Rattle.cc_words.specs.Names.{is_letter, is_digit, is_letter_or_digit}
use Rattle.cc_lex.specs.Bytes.{is_in_line}
use Rattle.cc_lex.specs.Identifiers.{name_kind}
use Rattle.cc_lex.specs.Literals.{IsContent}
use Rattle.cc_lex.specs.Marks.{spelling_of, IsLongestMark, HasNoMark}
use Rattle.cc_lex.specs.Numbers.{HasNoNumber}
use Rattle.cc_lex.specs.Separators.{Separates, ABlank, ALineFeed, AnotherSpace, AComment, ALineComment, ALine, begins_comment}
use Rattle.cc_lex.specs.Tokens.{Spells, AName, ACharacter, AText, AMark}
use Rattle.cc_lex.specs.Faults.{Fails, ABadByte, ALateHash, ADirective, AnOpenComment, ABadNumber, AnOpenCharacter, AnOpenText, AWrongLength, ABadCharacter, ABadEscape, begins_at_most_a_mark}
use Rattle.cc_lex.specs.ScanParts.{goes_on, begins_with_digit, begins_fraction, number_of, element_of, is_skipped}
use Rattle.cc_lex.specs.Scan.{class_of, run_len, content_len, close_len, mark_of, Reading, numbered, number_at, marked, mark_at, one_element, character_in, character_at, bytes_of, text_of, text_in, text_at, comment_in, slash_at, line_at, by_class, piece_at, name_at}
use Rattle.cc_lex.proofs.Classes.{IsClass, class-is}
use Rattle.cc_lex.proofs.Fronts.{take-front, front-all, front-stops}
use Rattle.cc_lex.proofs.Runs.{IsRun, FromDigit, FromPoint, run-all, run-stops, digit-goes-on, run-number, run-longest, run-spells, no-number-front}
use Rattle.cc_lex.proofs.Closing.{IsQuote, Closes, ClosesAt, content-closes-is, pair_len, close_len-is, EndsAt, close-ends}
use Rattle.cc_lex.proofs.LongestMark.{MarkIs, mark-is, mark-some}
use Rattle.cc_lex.proofs.Constants.{number-integer, no-integer}
use Rattle.cc_lex.proofs.Escapes.{ElementIs, element-is, all-element, whole-element, whole-bad, element-some, bad-some}
use Rattle.cc_lex.proofs.Elements.{BytesAre, bytes-are}
use Rattle.cc_lex.proofs.SkippedLines.{skipped-is, not-skipped}
use Rattle.cc_lex.proofs.Booleans.{both-true, eq-true, eq-false, eq-other}

-- a text that begins with w, and what is behind it
pub record Cut (text : List ℕ) (n : ℕ) (P : List ℕ → List ℕ → Type 0) : Type 0 where
  pub front : List ℕ
  pub rest : List ℕ
  pub whole : text ≡ front ++ rest
  pub size : n ≡ length front
  pub some : 0 < n
  pub is : P front rest

-- what the answer says of the text
abbrev pub IsPiece : Bool → ℕ → List ℕ → Reading → Type 0
IsPiece fresh at text (Err e) = Fails fresh at text e
IsPiece fresh at text (Ok (piece.Gap n after)) = Cut text n (λ w rest. Separates fresh w rest after)
IsPiece fresh at text (Ok (piece.Spelled n k)) = Cut text n (λ w rest. Spells w rest k)

-- the first byte and n more
cut-at : (b : ℕ) (bs : List ℕ) (n : ℕ) (P : List ℕ → List ℕ → Type 0) → n ≤ length bs → P (b ∷ take n bs) (drop n bs) → Cut (b ∷ bs) (suc n) P
cut-at b bs n P h k = record {
  front = b ∷ take n bs;
  rest = drop n bs;
  whole = ap (λ (x : List ℕ). b ∷ x) (sym (take-append-drop n bs));
  size = let e = length-take n bs in omega arith;
  some = omega arith;
  is = k;
}

-- ---- names

word-len : (b : ℕ) (bs : List ℕ) → is_letter b ≡ true → prefix_len is_letter_or_digit (b ∷ bs) ≡ suc (prefix_len is_letter_or_digit bs)
word-len b bs h = rw h (omega arith)

pub name-is : (fresh : Bool) (at b : ℕ) (bs : List ℕ) → is_letter b ≡ true → IsPiece fresh at (b ∷ bs) (name_at (b ∷ bs))
name-is fresh at b bs h =
    let n = prefix_len is_letter_or_digit bs in
    subst (λ (k : ℕ). IsPiece fresh at (b ∷ bs) (Ok (piece.Spelled k (name_kind (take k (b ∷ bs)))))) (sym (word-len b bs h))
    (cut-at b bs n (λ w rest. Spells w rest (name_kind (b ∷ take n bs))) (prefix_len-le-length is_letter_or_digit bs)
    (AName (b ∷ take n bs) (drop n bs) (both-true (is_letter b) (list_all is_letter_or_digit (take n bs)) h (front-all is_letter_or_digit bs)) (front-stops is_letter_or_digit bs)))

-- ---- numbers

run-within : (before : ℕ) (bs : List ℕ) → run_len before bs ≤ length bs
run-within before [] = omega arith
run-within before (b ∷ bs) = run-within-at (goes_on before b) (run_len b bs) (length bs) (run-within b bs)
  where
    run-within-at : (t : Bool) (n m : ℕ) → n ≤ m → cond t (suc n) 0 ≤ suc m
    run-within-at true n m h = omega arith
    run-within-at false n m h = omega arith

number-by : (fresh : Bool) (at b : ℕ) (bs : List ℕ) (r : Option (ℕ × Suffix)) → IsRun (b ∷ take (run_len b bs) bs) → number_of (b ∷ take (run_len b bs) bs) ≡ r → IsPiece fresh at (b ∷ bs) (numbered at (suc (run_len b bs)) r)
number-by fresh at b bs None h e =
    let n = run_len b bs in
    subst (λ (x : List ℕ). Fails fresh at (b ∷ x) (fault.BadNumber at)) (take-append-drop n bs)
    (ABadNumber fresh at (b ∷ take n bs) (drop n bs) (run-number (b ∷ take n bs) h) (run-longest b (take n bs) (drop n bs) h (run-stops b bs)) (no-integer (b ∷ take n bs) e))
number-by fresh at b bs (Some (v, s)) h e =
    let n = run_len b bs in
    cut-at b bs n (λ w rest. Spells w rest (kind.Number v s)) (run-within b bs)
    (run-spells b (take n bs) (drop n bs) v s h (run-stops b bs) (number-integer (b ∷ take n bs) v s e))

pub number-is : (fresh : Bool) (at b : ℕ) (bs : List ℕ) → IsRun (b ∷ take (run_len b bs) bs) → IsPiece fresh at (b ∷ bs) (number_at at (b ∷ bs))
number-is fresh at b bs h = number-by fresh at b bs (number_of (b ∷ take (run_len b bs) bs)) h refl

-- ---- marks

mark-by : (fresh : Bool) (at b : ℕ) (bs : List ℕ) (r : Option Mark) → ((HasNoMark (b ∷ bs)) → begins_at_most_a_mark b ≡ true) → is_digit b ≡ false → begins_fraction (b ∷ bs) ≡ false → begins_comment (b ∷ bs) ≡ false → MarkIs (b ∷ bs) r → IsPiece fresh at (b ∷ bs) (marked at r)
mark-by fresh at b bs None h d i j k = ABadByte fresh at b bs (h k) k
mark-by fresh at b bs (Some m) h d i j k =
    let rest = drop (length (spelling_of m)) (b ∷ bs) in
    record {
      front = spelling_of m;
      rest = rest;
      whole = k.0;
      size = refl;
      some = omega (arith, mark-some m);
      is = AMark m rest (subst (IsLongestMark m) k.0 k.1) (subst (λ (x : List ℕ). HasNoNumber x) k.0 (no-number-front b bs d i)) (subst (λ (x : List ℕ). begins_comment x ≡ false) k.0 j);
    }

pub mark-at-is : (fresh : Bool) (at b : ℕ) (bs : List ℕ) → ((HasNoMark (b ∷ bs)) → begins_at_most_a_mark b ≡ true) → is_digit b ≡ false → begins_fraction (b ∷ bs) ≡ false → begins_comment (b ∷ bs) ≡ false → IsPiece fresh at (b ∷ bs) (mark_at at (b ∷ bs))
mark-at-is fresh at b bs h d i j = mark-by fresh at b bs (mark_of (b ∷ bs)) h d i j (mark-is (b ∷ bs))

-- ---- what begins with a point

fraction-run : (bs : List ℕ) → begins_with_digit bs ≡ true → begins_with_digit (take (run_len 46 bs) bs) ≡ true
fraction-run [] h = h
fraction-run (d ∷ ds) h =
    let e : goes_on 46 d ≡ true = digit-goes-on d h 46 in
    rw e h

point-by : (fresh : Bool) (at : ℕ) (bs : List ℕ) (t : Bool) → begins_with_digit bs ≡ t → IsPiece fresh at (46 ∷ bs) (cond t (number_at at (46 ∷ bs)) (mark_at at (46 ∷ bs)))
point-by fresh at bs true h = number-is fresh at 46 bs (FromPoint (take (run_len 46 bs) bs) (fraction-run bs h) (run-all 46 bs))
point-by fresh at bs false h = mark-at-is fresh at 46 bs (λ k. absurd (k mark.Dot bs refl)) refl h (no-comment bs)
  where
    no-comment : (bs : List ℕ) → begins_comment (46 ∷ bs) ≡ false
    no-comment [] = refl
    no-comment (c ∷ cs) = refl

-- ---- literals

pub apostrophe : IsQuote 39
apostrophe = record { no_feed = refl; no_backslash = refl }

pub quotation : IsQuote 34
quotation = record { no_feed = refl; no_backslash = refl }

-- the literal as a front of the text
cut-literal : (quote : ℕ) (c rest : List ℕ) (P : List ℕ → List ℕ → Type 0) → P (quote ∷ (c ++ quote ∷ [])) rest → Cut (quote ∷ (c ++ (quote ∷ rest))) (length c + 2) P
cut-literal quote c rest P h = record {
  front = quote ∷ (c ++ quote ∷ []);
  rest = rest;
  whole = ap (λ (x : List ℕ). quote ∷ x) (sym (append_assoc c (quote ∷ []) rest));
  size = let e = length-append c (quote ∷ []) in omega arith;
  some = omega arith;
  is = h;
}

not-whole : (c : List ℕ) (len : ℕ) (r s : Option ℕ) → element_of c ≡ (len, r) → eqb len (length c) ≡ false → element_of c ≡ (length c, s) → ⊥
not-whole c len r s e h k = let f : len ≡ length c = ap (λ (x : ℕ × Option ℕ). x.0) (sym e ∙ k) in eq-false len (length c) h f

wrong-length : (fresh : Bool) (at : ℕ) (c rest : List ℕ) (len : ℕ) (r : Option ℕ) → IsContent 39 c → element_of c ≡ (len, r) → eqb len (length c) ≡ false → Fails fresh at (39 ∷ (c ++ (39 ∷ rest))) (fault.OpenText at)
wrong-length fresh at c rest len r h e i = AWrongLength fresh at c rest h (λ v k. not-whole c len r (Some v) e i (whole-element c v k)) (λ k. not-whole c len r None e i (whole-bad c k))

one-by : (fresh : Bool) (at : ℕ) (c rest : List ℕ) (len : ℕ) (r : Option ℕ) (t : Bool) → IsContent 39 c → element_of c ≡ (len, r) → ElementIs c (len, r) → eqb len (length c) ≡ t →
    IsPiece fresh at (39 ∷ (c ++ (39 ∷ rest))) (one_element at (length c) (len, r))
one-by fresh at c rest len None true h e k i = rw i (ABadCharacter fresh at c rest h (all-element c len None k (eq-true len (length c) i)))
one-by fresh at c rest len None false h e k i = rw i (wrong-length fresh at c rest len None h e i)
one-by fresh at c rest len (Some v) true h e k i =
    rw i (cut-literal 39 c rest (λ w rest. Spells w rest (kind.Character v)) (ACharacter c rest v h (all-element c len (Some v) k (eq-true len (length c) i))))
one-by fresh at c rest len (Some v) false h e k i = rw i (wrong-length fresh at c rest len (Some v) h e i)

content-by : (fresh : Bool) (at : ℕ) (c rest : List ℕ) → IsContent 39 c → IsPiece fresh at (39 ∷ (c ++ (39 ∷ rest))) (cond (eqb (length c) 0) (Err (fault.OpenText at)) (one_element at (length c) (element_of c)))
content-by fresh at [] rest h = AWrongLength fresh at [] rest h (λ v k. absurd (omega (arith, element-some [] [] v k))) (λ k. absurd (omega (arith, bad-some [] [] k)))
content-by fresh at (b ∷ bs) rest h =
    let e : eqb (suc (length bs)) 0 ≡ false = eq-other (suc (length bs)) 0 (λ k. absurd (omega (arith, k))) in
    let x = element_of (b ∷ bs) in
    rw e (one-by fresh at (b ∷ bs) rest x.0 x.1 (eqb x.0 (length (b ∷ bs))) h refl (element-is 39 b bs h) refl)

-- what is taken up to the quote is the content
closed-take : (quote : ℕ) (text : List ℕ) (n : ℕ) (h : Closes quote text n) → take n text ≡ h.content
closed-take quote text n h = ap (take n) h.whole ∙ ap (λ (k : ℕ). take k (h.content ++ (quote ∷ h.rest))) h.size ∙ take-front h.content (quote ∷ h.rest)

character-by : (fresh : Bool) (at : ℕ) (bs : List ℕ) (r : Option ℕ) → ClosesAt 39 bs r → IsPiece fresh at (39 ∷ bs) (character_in at bs r)
character-by fresh at bs None h = AnOpenCharacter fresh at bs h
character-by fresh at bs (Some n) h =
    let goal : ℕ → List ℕ → List ℕ → Type 0 = λ k c text. IsPiece fresh at (39 ∷ text) (cond (eqb k 0) (Err (fault.OpenText at)) (one_element at k (element_of c))) in
    subst (λ (c : List ℕ). goal n c bs) (sym (closed-take 39 bs n h))
    (subst (λ (k : ℕ). goal k h.content bs) (sym h.size)
    (subst (goal (length h.content) h.content) (sym h.whole) (content-by fresh at h.content h.rest h.is)))

text-by : (fresh : Bool) (at : ℕ) (c rest : List ℕ) (r : Result (List ℕ) LexFault) → IsContent 34 c → BytesAre c (at + 1) r → IsPiece fresh at (34 ∷ (c ++ (34 ∷ rest))) (text_of (length c) r)
text-by fresh at c rest (Ok vs) h k = cut-literal 34 c rest (λ w rest. Spells w rest (kind.Text vs)) (AText c rest vs h k)
text-by fresh at c rest (Err e) h k = subst (Fails fresh at (34 ∷ (c ++ (34 ∷ rest)))) (sym k.1) (ABadEscape fresh at c rest k.0 h k.2)

text-in-by : (fresh : Bool) (at : ℕ) (bs : List ℕ) (r : Option ℕ) → ClosesAt 34 bs r → IsPiece fresh at (34 ∷ bs) (text_in at bs r)
text-in-by fresh at bs None h = AnOpenText fresh at bs h
text-in-by fresh at bs (Some n) h =
    let goal : ℕ → List ℕ → List ℕ → Type 0 = λ k c text. IsPiece fresh at (34 ∷ text) (text_of k (bytes_of 0 (at + 1) c)) in
    subst (λ (c : List ℕ). goal n c bs) (sym (closed-take 34 bs n h))
    (subst (λ (k : ℕ). goal k h.content bs) (sym h.size)
    (subst (goal (length h.content) h.content) (sym h.whole) (text-by fresh at h.content h.rest (bytes_of 0 (at + 1) h.content) h.is (bytes-are 34 h.content (at + 1) h.is))))

-- ---- comments

comment-by : (fresh : Bool) (at : ℕ) (bs : List ℕ) (r : Option ℕ) → EndsAt bs r → IsPiece fresh at (47 ∷ 42 ∷ bs) (comment_in at r)
comment-by fresh at bs None h = AnOpenComment fresh at bs h
comment-by fresh at bs (Some n) h = record {
  front = 47 ∷ 42 ∷ (h.inside ++ 42 ∷ 47 ∷ []);
  rest = h.rest;
  whole = ap (λ (x : List ℕ). 47 ∷ 42 ∷ x) (h.whole ∙ sym (append_assoc h.inside (42 ∷ 47 ∷ []) h.rest));
  size = let e = length-append h.inside (42 ∷ 47 ∷ []) in omega (arith, h.size);
  some = omega arith;
  is = AComment fresh h.inside h.rest h.first;
}

line-len : (b : ℕ) (bs : List ℕ) → is_in_line b ≡ true → prefix_len is_in_line (b ∷ bs) ≡ suc (prefix_len is_in_line bs)
line-len b bs h = rw h (omega arith)

line-comment-is : (fresh : Bool) (at : ℕ) (bs : List ℕ) → IsPiece fresh at (47 ∷ 47 ∷ bs) (Ok (piece.Gap (prefix_len is_in_line (47 ∷ 47 ∷ bs)) false))
line-comment-is fresh at bs =
    let n = prefix_len is_in_line bs in
    let e : prefix_len is_in_line (47 ∷ 47 ∷ bs) ≡ suc (suc n) = omega arith in
    let f = length-take n bs in
    let g = prefix_len-le-length is_in_line bs in
    subst (λ (k : ℕ). IsPiece fresh at (47 ∷ 47 ∷ bs) (Ok (piece.Gap k false))) (sym e) (record {
      front = 47 ∷ 47 ∷ take n bs;
      rest = drop n bs;
      whole = ap (λ (x : List ℕ). 47 ∷ 47 ∷ x) (sym (take-append-drop n bs));
      size = omega arith;
      some = omega arith;
      is = ALineComment fresh (take n bs) (drop n bs) (front-all is_in_line bs) (front-stops is_in_line bs);
    })

slash-by : (fresh : Bool) (at c : ℕ) (cs : List ℕ) (line star : Bool) → eqb c 47 ≡ line → eqb c 42 ≡ star →
    IsPiece fresh at (47 ∷ c ∷ cs) (cond line (Ok (piece.Gap (prefix_len is_in_line (47 ∷ c ∷ cs)) false)) (cond star (comment_in at (close_len false cs)) (mark_at at (47 ∷ c ∷ cs))))
slash-by fresh at c cs true star e f = subst (λ (x : ℕ). IsPiece fresh at (47 ∷ x ∷ cs) (Ok (piece.Gap (prefix_len is_in_line (47 ∷ x ∷ cs)) false))) (sym (eq-true c 47 e)) (line-comment-is fresh at cs)
slash-by fresh at c cs false true e f =
    subst (λ (x : ℕ). IsPiece fresh at (47 ∷ x ∷ cs) (comment_in at (close_len false cs))) (sym (eq-true c 42 f))
    (subst (λ (r : Option ℕ). IsPiece fresh at (47 ∷ 42 ∷ cs) (comment_in at r)) (sym (close_len-is cs)) (comment-by fresh at cs (pair_len cs) (close-ends cs)))
slash-by fresh at c cs false false e f = mark-at-is fresh at 47 (c ∷ cs) (λ k. absurd (k mark.Slash (c ∷ cs) refl)) refl refl (rw (e, f) refl)

slash-is : (fresh : Bool) (at : ℕ) (bs : List ℕ) → IsPiece fresh at (47 ∷ bs) (slash_at at (47 ∷ bs))
slash-is fresh at [] = mark-at-is fresh at 47 [] (λ k. absurd (k mark.Slash [] refl)) refl refl refl
slash-is fresh at (c ∷ cs) = slash-by fresh at c cs (eqb c 47) (eqb c 42) refl refl

-- ---- lines

line-by : (at : ℕ) (bs : List ℕ) (t : Bool) → is_skipped (take (prefix_len is_in_line bs) bs) ≡ t →
    IsPiece true at (35 ∷ bs) (cond t (Ok (piece.Gap (prefix_len is_in_line bs + 1) false)) (Err (fault.Directive at)))
line-by at bs true e =
    let n = prefix_len is_in_line bs in
    subst (λ (k : ℕ). IsPiece true at (35 ∷ bs) (Ok (piece.Gap k false))) (sym (add-one n))
    (cut-at 35 bs n (λ w rest. Separates true w rest false) (prefix_len-le-length is_in_line bs) (ALine (take n bs) (drop n bs) (front-all is_in_line bs) (front-stops is_in_line bs) (skipped-is (take n bs) e)))
line-by at bs false e =
    let n = prefix_len is_in_line bs in
    subst (λ (x : List ℕ). Fails true at (35 ∷ x) (fault.Directive at)) (take-append-drop n bs)
    (ADirective at (take n bs) (drop n bs) (front-all is_in_line bs) (front-stops is_in_line bs) (not-skipped (take n bs) e))

line-is : (fresh : Bool) (at : ℕ) (bs : List ℕ) → IsPiece fresh at (35 ∷ bs) (line_at fresh at (35 ∷ bs))
line-is false at bs = ALateHash at bs
line-is true at bs = line-by at bs (is_skipped (take (prefix_len is_in_line bs) bs)) refl

-- ---- all of them

one-byte : (b : ℕ) (bs : List ℕ) (P : List ℕ → List ℕ → Type 0) → P (b ∷ []) bs → Cut (b ∷ bs) 1 P
one-byte b bs P h = record { front = b ∷ []; rest = bs; whole = refl; size = refl; some = omega arith; is = h }

other-fraction : (b : ℕ) (bs : List ℕ) → eqb b 46 ≡ false → begins_fraction (b ∷ bs) ≡ false
other-fraction b bs h = rw h refl

other-comment : (b : ℕ) (bs : List ℕ) → eqb b 47 ≡ false → begins_comment (b ∷ bs) ≡ false
other-comment b [] h = refl
other-comment b (c ∷ cs) h = rw h refl

by-class : (fresh : Bool) (at b : ℕ) (bs : List ℕ) (k : Class) → IsClass k b → IsPiece fresh at (b ∷ bs) (by_class k fresh at (b ∷ bs))
by-class fresh at b bs class.Letter h = name-is fresh at b bs h
by-class fresh at b bs class.Digit h = number-is fresh at b bs (FromDigit b (take (run_len b bs) bs) h (run-all b bs))
by-class fresh at b bs class.Point h = subst (λ (x : ℕ). IsPiece fresh at (x ∷ bs) (by_class class.Point fresh at (x ∷ bs))) (sym h) (point-by fresh at bs (begins_with_digit bs) refl)
by-class fresh at b bs class.Apostrophe h = subst (λ (x : ℕ). IsPiece fresh at (x ∷ bs) (character_at at (x ∷ bs))) (sym h) (character-by fresh at bs (content_len 39 false bs) (content-closes-is 39 apostrophe bs))
by-class fresh at b bs class.Quote h = subst (λ (x : ℕ). IsPiece fresh at (x ∷ bs) (text_at at (x ∷ bs))) (sym h) (text-in-by fresh at bs (content_len 34 false bs) (content-closes-is 34 quotation bs))
by-class fresh at b bs class.Blank h = one-byte b bs (λ w rest. Separates fresh w rest fresh) (ABlank fresh b bs h)
by-class fresh at b bs class.LineFeed h = subst (λ (x : ℕ). Cut (x ∷ bs) 1 (λ w rest. Separates fresh w rest true)) (sym h) (one-byte 10 bs (λ w rest. Separates fresh w rest true) (ALineFeed fresh bs))
by-class fresh at b bs class.OtherSpace h = one-byte b bs (λ w rest. Separates fresh w rest false) (AnotherSpace fresh b bs h)
by-class fresh at b bs class.Slash h = subst (λ (x : ℕ). IsPiece fresh at (x ∷ bs) (slash_at at (x ∷ bs))) (sym h) (slash-is fresh at bs)
by-class fresh at b bs class.Hash h = subst (λ (x : ℕ). IsPiece fresh at (x ∷ bs) (line_at fresh at (x ∷ bs))) (sym h) (line-is fresh at bs)
by-class fresh at b bs class.Other h = mark-at-is fresh at b bs (λ _. h.0) h.3 (other-fraction b bs h.1) (other-comment b bs h.2)

pub piece-is : (fresh : Bool) (at b : ℕ) (bs : List ℕ) → IsPiece fresh at (b ∷ bs) (piece_at fresh at (b ∷ bs))
unfolding piece_at
piece-is fresh at b bs = by-class fresh at b bs (class_of b) (class-is b)
