-- A spelling is the longest form at its place: what the scanner finds there has its length, and where
-- some form stands at a place, what is found there has at least the form's length.
use Rattle.std.proofs.Common.{◌≡◌, ℕ, suc, ◌+◌, ◌≤◌, Bool, true, false, cond, eqb, List, [], ◌∷◌, ◌++◌, length, take, Option, Some, None, Result, Ok, Err, refl, ap, sym, ◌∙◌, subst, arith, append_assoc, length-append}
use Rattle.std.specs.List.{list_all, prefix_len}
use Rattle.cc_lex.specs.declared.byte.Class.{Class}
use Rattle.cc_lex.specs.declared.byte.Class.TheVariants as class
use Rattle.cc_lex.specs.declared.fault.LexFault.{LexFault}
use Rattle.cc_lex.specs.declared.fault.LexFault.TheVariants as fault
use Rattle.cc_lex.specs.declared.scan.Piece.TheVariants as piece
use Rattle.cc_lex.specs.declared.token.Kind.{Kind}
use Rattle.cc_lex.specs.declared.token.Mark.{Mark}
use Rattle.cc_lex.specs.declared.token.Mark.TheVariants as mark
use Rattle.cc_lex.specs.declared.token.Suffix.{Suffix}
use Rattle.cc_words.specs.Names.{is_letter, is_letter_or_digit}
use Rattle.cc_lex.specs.Bytes.{is_in_line}
use Rattle.cc_lex.specs.Forms.{HasForm, NameForm, NumberForm, CharacterForm, TextForm, MarkForm, IsLongest}
use Rattle.cc_lex.specs.Identifiers.{IsIdentifier}
use Rattle.cc_lex.specs.Literals.{IsContent}
use Rattle.cc_lex.specs.Marks.{spelling_of}
use Rattle.cc_lex.specs.Tokens.{Spells, AName, ANumber, ACharacter, AText, AMark}
use Rattle.cc_lex.specs.ScanParts.{begins_fraction, number_of, element_of}
use Rattle.cc_lex.specs.Scan.{class_of, run_len, close_len, mark_of, Reading, numbered, number_at, marked, mark_at, one_element, bytes_of, text_of, comment_in, slash_at, by_class, piece_at}
use Rattle.cc_lex.proofs.Classes.{letter-class, digit-class, point-class, apostrophe-class, quote-class}
use Rattle.cc_lex.proofs.LongestMark.{MarkIs, mark-is}
use Rattle.cc_lex.proofs.Found.{spelling-found, closed-character, closed-text, IsMarkClass, mark-front}
use Rattle.cc_lex.proofs.Runs.{IsRun, FromDigit, FromPoint, all_go_on, fraction-found, run-within, number-run}
use Rattle.cc_lex.proofs.Booleans.{and-true}

-- what is found at the text has at least n bytes
abbrev Finds : ℕ → Reading → Type 0
Finds n (Err e) = Unit {0}
Finds n (Ok (piece.Gap size after)) = Unit {0}
Finds n (Ok (piece.Spelled size k)) = n ≤ size

-- ---- names and runs

front-within : (p : ℕ → Bool) (w rest : List ℕ) → list_all p w ≡ true → length w ≤ prefix_len p (w ++ rest)
front-within p [] rest h = omega arith
front-within p (b ∷ bs) rest h =
    let e = and-true (p b) (list_all p bs) h in
    let f = front-within p bs rest e.1 in
    rw e.0 (omega (arith, f))

name-finds : (fresh : Bool) (at : ℕ) (w behind : List ℕ) → IsIdentifier w → Finds (length w) (piece_at fresh at (w ++ behind))
unfolding piece_at
name-finds fresh at [] behind h = absurd (cc)
name-finds fresh at (c ∷ cs) behind h =
    let e = and-true (is_letter c) (list_all is_letter_or_digit cs) h in
    let f = front-within is_letter_or_digit cs behind e.1 in
    rw (letter-class c e.0, e.0) (omega (arith, f))

numbered-finds : (at n size : ℕ) (r : Option (ℕ × Suffix)) → n ≤ size → Finds n (numbered at size r)
numbered-finds at n size None h = tt
numbered-finds at n size (Some (v, s)) h = h

number-finds : (at c : ℕ) (cs behind : List ℕ) → all_go_on c cs ≡ true → Finds (suc (length cs)) (number_at at (c ∷ (cs ++ behind)))
number-finds at c cs behind h =
    let f = run-within c cs behind h in
    numbered-finds at (suc (length cs)) (suc (run_len c (cs ++ behind))) (number_of (c ∷ take (run_len c (cs ++ behind)) (cs ++ behind))) (omega (arith, f))

run-finds : (fresh : Bool) (at : ℕ) (w behind : List ℕ) → IsRun w → Finds (length w) (piece_at fresh at (w ++ behind))
unfolding piece_at
run-finds fresh at w behind (FromDigit c cs h g) = rw (digit-class c h) (number-finds at c cs behind g)
run-finds fresh at w behind (FromPoint cs h g) = rw (point-class, fraction-found cs behind h) (number-finds at 46 cs behind g)

-- ---- literals

one-finds : (at n len : ℕ) (v : Option ℕ) (t : Bool) → eqb len n ≡ t → Finds (suc (n + 1)) (one_element at n (len, v))
one-finds at n len None true e = rw e tt
one-finds at n len None false e = rw e tt
one-finds at n len (Some v) true e = rw e (omega arith)
one-finds at n len (Some v) false e = rw e tt

closed-finds : (at n : ℕ) (x : ℕ × Option ℕ) (t : Bool) → Finds (suc (n + 1)) (cond t (Err (fault.OpenText at)) (one_element at n x))
closed-finds at n x true = tt
closed-finds at n x false = one-finds at n x.0 x.1 (eqb x.0 n) refl

character-finds : (fresh : Bool) (at : ℕ) (c behind : List ℕ) → IsContent 39 c → Finds (suc (length c + 1)) (piece_at fresh at (39 ∷ (c ++ (39 ∷ behind))))
unfolding piece_at
character-finds fresh at c behind h =
    rw apostrophe-class (subst (Finds (suc (length c + 1))) (sym (closed-character at c behind h)) (closed-finds at (length c) (element_of c) (eqb (length c) 0)))

text-of-finds : (n : ℕ) (r : Result (List ℕ) LexFault) → Finds (suc (n + 1)) (text_of n r)
text-of-finds n (Ok vs) = omega arith
text-of-finds n (Err e) = tt

text-finds : (fresh : Bool) (at : ℕ) (c behind : List ℕ) → IsContent 34 c → Finds (suc (length c + 1)) (piece_at fresh at (34 ∷ (c ++ (34 ∷ behind))))
unfolding piece_at
text-finds fresh at c behind h =
    rw quote-class (subst (Finds (suc (length c + 1))) (sym (closed-text at c behind h)) (text-of-finds (length c) (bytes_of 0 (at + 1) c)))

literal-finds : (fresh : Bool) (at quote : ℕ) (c behind : List ℕ) → Finds (suc (length c + 1)) (piece_at fresh at (quote ∷ (c ++ (quote ∷ behind)))) → Finds (length (quote ∷ (c ++ quote ∷ []))) (piece_at fresh at ((quote ∷ (c ++ quote ∷ [])) ++ behind))
literal-finds fresh at quote c behind h =
    let n : length (quote ∷ (c ++ quote ∷ [])) ≡ suc (length c + 1) = let e = length-append c (quote ∷ []) in omega arith in
    subst (λ (x : List ℕ). Finds (length (quote ∷ (c ++ quote ∷ []))) (piece_at fresh at (quote ∷ x))) (sym (append_assoc c (quote ∷ []) behind))
    (subst (λ (k : ℕ). Finds k (piece_at fresh at (quote ∷ (c ++ (quote ∷ behind))))) (sym n) h)

-- ---- marks

marked-finds : (at : ℕ) (m : Mark) (text rest : List ℕ) (r : Option Mark) → text ≡ spelling_of m ++ rest → MarkIs text r → Finds (length (spelling_of m)) (marked at r)
marked-finds at m text rest None e h = tt
marked-finds at m text rest (Some n) e h = h.1 m rest e

mark-at-finds : (at : ℕ) (m : Mark) (text rest : List ℕ) → text ≡ spelling_of m ++ rest → Finds (length (spelling_of m)) (mark_at at text)
mark-at-finds at m text rest e = marked-finds at m text rest (mark_of text) e (mark-is text)

-- a point before a digit is the mark of one byte
one-point : (m : Mark) (rest : List ℕ) → begins_fraction (spelling_of m ++ rest) ≡ true → length (spelling_of m) ≤ 1
one-point mark.Dot rest h = omega arith
one-point _ rest h = absurd (cc)

number-some : (n at b : ℕ) (bs : List ℕ) → n ≤ 1 → Finds n (number_at at (b ∷ bs))
number-some n at b bs h = numbered-finds at n (suc (run_len b bs)) (number_of (b ∷ take (run_len b bs) bs)) (omega (arith, h))

point-finds : (at b : ℕ) (bs : List ℕ) (m : Mark) (rest : List ℕ) (t : Bool) → b ∷ bs ≡ spelling_of m ++ rest → begins_fraction (b ∷ bs) ≡ t → Finds (length (spelling_of m)) (cond t (number_at at (b ∷ bs)) (mark_at at (b ∷ bs)))
point-finds at b bs m rest true e h = number-some (length (spelling_of m)) at b bs (one-point m rest (subst (λ (x : List ℕ). begins_fraction x ≡ true) e h))
point-finds at b bs m rest false e h = mark-at-finds at m (b ∷ bs) rest e

comment-finds : (n at : ℕ) (r : Option ℕ) → Finds n (comment_in at r)
comment-finds n at None = tt
comment-finds n at (Some k) = tt

slash-choice : (n : ℕ) (s t : Bool) (k : ℕ) (x y : Reading) → Finds n x → Finds n y → Finds n (cond s (Ok (piece.Gap k false)) (cond t x y))
slash-choice n true t k x y h j = tt
slash-choice n false true k x y h j = h
slash-choice n false false k x y h j = j

slash-finds : (at b : ℕ) (bs : List ℕ) (m : Mark) (rest : List ℕ) → b ∷ bs ≡ spelling_of m ++ rest → Finds (length (spelling_of m)) (slash_at at (b ∷ bs))
slash-finds at b [] m rest e = mark-at-finds at m (b ∷ []) rest e
slash-finds at b (c ∷ cs) m rest e =
    slash-choice (length (spelling_of m)) (eqb c 47) (eqb c 42) (prefix_len is_in_line (b ∷ c ∷ cs)) (comment_in at (close_len false cs)) (mark_at at (b ∷ c ∷ cs))
    (comment-finds (length (spelling_of m)) at (close_len false cs)) (mark-at-finds at m (b ∷ c ∷ cs) rest e)

mark-class-finds : (fresh : Bool) (at b : ℕ) (bs : List ℕ) (m : Mark) (rest : List ℕ) (k : Class) → IsMarkClass k → b ∷ bs ≡ spelling_of m ++ rest → Finds (length (spelling_of m)) (by_class k fresh at (b ∷ bs))
mark-class-finds fresh at b bs m rest class.Point i e = point-finds at b bs m rest (begins_fraction (b ∷ bs)) e refl
mark-class-finds fresh at b bs m rest class.Slash i e = slash-finds at b bs m rest e
mark-class-finds fresh at b bs m rest class.Other i e = mark-at-finds at m (b ∷ bs) rest e
mark-class-finds fresh at b bs m rest _ i e = absurd i

mark-finds : (fresh : Bool) (at : ℕ) (m : Mark) (behind : List ℕ) → Finds (length (spelling_of m)) (piece_at fresh at (spelling_of m ++ behind))
unfolding piece_at
mark-finds fresh at m behind =
    let f = mark-front m in
    let e : f.byte ∷ (f.bytes ++ behind) ≡ spelling_of m ++ behind = ap (λ (x : List ℕ). x ++ behind) (sym f.spelled) in
    subst (λ (x : List ℕ). Finds (length (spelling_of m)) (piece_at fresh at x)) e
    (mark-class-finds fresh at f.byte (f.bytes ++ behind) m behind (class_of f.byte) f.class e)

-- ---- all forms

form-finds : (fresh : Bool) (at : ℕ) (w behind : List ℕ) → HasForm w → Finds (length w) (piece_at fresh at (w ++ behind))
form-finds fresh at w behind (NameForm _ h) = name-finds fresh at w behind h
form-finds fresh at w behind (NumberForm _ h) = run-finds fresh at w behind (number-run w h)
form-finds fresh at w behind (CharacterForm c h) = literal-finds fresh at 39 c behind (character-finds fresh at c behind h)
form-finds fresh at w behind (TextForm c h) = literal-finds fresh at 34 c behind (text-finds fresh at c behind h)
form-finds fresh at w behind (MarkForm m) = mark-finds fresh at m behind

form-of : (w rest : List ℕ) (k : Kind) → Spells w rest k → HasForm w
form-of w rest k (AName _ _ h j) = NameForm w h
form-of w rest k (ANumber _ _ n s h l e) = NumberForm w h
form-of w rest k (ACharacter c _ v h j) = CharacterForm c h
form-of w rest k (AText c _ vs h j) = TextForm c h
form-of w rest k (AMark m _ h f c) = MarkForm m

pub spelling-longest : (w rest : List ℕ) (k : Kind) → Spells w rest k → IsLongest w rest
spelling-longest w rest k h = record {
  form = form-of w rest k h;
  longest = λ other behind f e.
      subst (Finds (length other)) (ap (piece_at true 0) (sym e) ∙ spelling-found w rest k h true 0) (form-finds true 0 other behind f);
}
