-- What the grammar says is at a place is found there: each separator, spelling and fault is what the
-- scanner answers.
use Rattle.std.proofs.Common.{◌≡◌, ℕ, suc, ◌+◌, ◌<◌, Bool, true, false, ◌||◌, cond, eqb, List, [], ◌∷◌, ◌++◌, length, Option, Some, None, Ok, Err, refl, ap, sym, ◌∙◌, subst, arith, append_assoc, add-one, length-append}
use Rattle.std.specs.List.{list_all, prefix_len}
use Rattle.cc_lex.specs.declared.byte.Class.{Class}
use Rattle.cc_lex.specs.declared.byte.Class.TheVariants as class
use Rattle.cc_lex.specs.declared.fault.LexFault.{LexFault}
use Rattle.cc_lex.specs.declared.fault.LexFault.TheVariants as fault
use Rattle.cc_lex.specs.declared.scan.Piece.TheVariants as piece
use Rattle.cc_lex.specs.declared.token.Kind.{Kind}
use Rattle.cc_lex.specs.declared.token.Kind.TheVariants as kind
use Rattle.cc_lex.specs.declared.token.Mark.{Mark}
use Rattle.cc_lex.specs.declared.token.Mark.TheVariants as mark
use Rattle.cc_words.specs.Names.{is_letter, is_letter_or_digit}
use Rattle.cc_lex.specs.Bytes.{is_in_line, begins_with}
use Rattle.cc_lex.specs.Identifiers.{IsIdentifier, name_kind}
use Rattle.cc_lex.specs.Literals.{IsContent, IsElement, IsBadEscape}
use Rattle.cc_lex.specs.Marks.{spelling_of, IsLongestMark, HasNoMark}
use Rattle.cc_lex.specs.Numbers.{IsPreprocessingNumber, IsLongestNumber}
use Rattle.cc_lex.specs.Separators.{has_close, Separates, ABlank, ALineFeed, AnotherSpace, AComment, ALineComment, ALine, begins_comment}
use Rattle.cc_lex.specs.Tokens.{Spells, AName, ANumber, ACharacter, AText, AMark}
use Rattle.cc_lex.specs.Faults.{Fails, ABadByte, ALateHash, ADirective, AnOpenComment, ABadNumber, AnOpenCharacter, AnOpenText, AWrongLength, ABadCharacter, ABadEscape}
use Rattle.cc_lex.specs.ScanParts.{begins_fraction, number_of, element_of, is_skipped}
use Rattle.cc_lex.specs.Scan.{class_of, content_len, close_len, numbered, number_at, marked, mark_at, one_element, character_at, bytes_of, text_of, text_at, comment_in, slash_at, by_class, piece_at}
use Rattle.cc_lex.proofs.Classes.{IsClass, class-is, letter-class, digit-class, blank-class, other_space-class, nothing-class, point-class, apostrophe-class, quote-class, line_feed-class, slash-class, hash-class}
use Rattle.cc_lex.proofs.Fronts.{take-front, front-len}
use Rattle.cc_lex.proofs.Runs.{IsRun, FromDigit, FromPoint, all_go_on, stops, last_of, fraction-found, run-len, number-run, longest-stops, no-fraction}
use Rattle.cc_lex.proofs.Closing.{IsQuote, ClosesAt, content-len, content-closes-is, pair_len, close_len-is, close-len, no-close}
use Rattle.cc_lex.proofs.LongestMark.{no-mark, the-mark}
use Rattle.cc_lex.proofs.Constants.{integer-number, no-number}
use Rattle.cc_lex.proofs.Escapes.{ElementIs, element-is, WholeIs, all-element, whole-element, whole-bad, element-some, bad-some}
use Rattle.cc_lex.proofs.Elements.{has-bytes, has-bad}
use Rattle.cc_lex.proofs.SkippedLines.{skipped-found, none-skipped}
use Rattle.cc_lex.proofs.Pieces.{apostrophe, quotation}
use Rattle.cc_lex.proofs.Booleans.{and-true, or-false, eq-true, eq-same, eq-other}

-- ---- separators

line-found : (c rest : List ℕ) → list_all is_in_line c ≡ true → begins_with is_in_line rest ≡ false → prefix_len is_in_line (c ++ rest) ≡ length c
line-found c rest h k = front-len is_in_line c rest h k

comment-found : (at : ℕ) (c rest : List ℕ) → has_close (c ++ 42 ∷ []) ≡ false → comment_in at (close_len false ((c ++ 42 ∷ 47 ∷ []) ++ rest)) ≡ Ok (piece.Gap (suc (suc (length (c ++ 42 ∷ 47 ∷ [])))) false)
comment-found at c rest h =
    let e = close_len-is ((c ++ 42 ∷ 47 ∷ []) ++ rest) ∙ ap pair_len (append_assoc c (42 ∷ 47 ∷ []) rest) ∙ close-len c rest h in
    let f = length-append c (42 ∷ 47 ∷ []) in
    let n : length c + 2 + 2 ≡ suc (suc (length (c ++ 42 ∷ 47 ∷ []))) = omega arith in
    ap (comment_in at) e ∙ ap (λ (x : ℕ). Ok (piece.Gap x false)) n

pub gap-found : (fresh after : Bool) (w rest : List ℕ) → Separates fresh w rest after → (at : ℕ) → piece_at fresh at (w ++ rest) ≡ Ok (piece.Gap (length w) after)
unfolding piece_at
gap-found fresh after w rest (ABlank _ b _ h) at = rw (blank-class b h) refl
gap-found fresh after w rest (ALineFeed _ _) at = rw line_feed-class refl
gap-found fresh after w rest (AnotherSpace _ b _ h) at = rw (other_space-class b h) refl
gap-found fresh after w rest (AComment _ c _ h) at = rw slash-class (comment-found at c rest h)
gap-found fresh after w rest (ALineComment _ c _ h k) at =
    let n : 1 + (1 + length c) ≡ suc (suc (length c)) = omega arith in
    rw (slash-class, line-found c rest h k, n) refl
gap-found fresh after w rest (ALine c _ h k s) at =
    rw (hash-class, line-found c rest h k, take-front c rest, skipped-found c s, add-one) refl

-- ---- names and numbers

name-found : (fresh : Bool) (at : ℕ) (w rest : List ℕ) → IsIdentifier w → begins_with is_letter_or_digit rest ≡ false → piece_at fresh at (w ++ rest) ≡ Ok (piece.Spelled (length w) (name_kind w))
unfolding piece_at
name-found fresh at [] rest h k = absurd (cc)
name-found fresh at (c ∷ cs) rest h k =
    let e = and-true (is_letter c) (list_all is_letter_or_digit cs) h in
    let n : 1 + length cs ≡ suc (length cs) = omega arith in
    rw (letter-class c e.0, e.0, front-len is_letter_or_digit cs rest e.1 k, n, take-front cs rest) refl

run-found : (at c : ℕ) (cs rest : List ℕ) → all_go_on c cs ≡ true → stops (last_of c cs) rest ≡ true → number_at at (c ∷ (cs ++ rest)) ≡ numbered at (suc (length cs)) (number_of (c ∷ cs))
run-found at c cs rest h k = rw (run-len c cs rest h k, take-front cs rest) refl

number-by : (fresh : Bool) (at : ℕ) (w rest : List ℕ) → IsRun w → IsLongestNumber w rest → piece_at fresh at (w ++ rest) ≡ numbered at (length w) (number_of w)
unfolding piece_at
number-by fresh at w rest (FromDigit c cs h g) l = rw (digit-class c h) (run-found at c cs rest g (longest-stops c cs rest (FromDigit c cs h g) l))
number-by fresh at w rest (FromPoint cs h g) l = rw (point-class, fraction-found cs rest h) (run-found at 46 cs rest g (longest-stops 46 cs rest (FromPoint cs h g) l))

number-found : (fresh : Bool) (at : ℕ) (w rest : List ℕ) → IsPreprocessingNumber w → IsLongestNumber w rest → piece_at fresh at (w ++ rest) ≡ numbered at (length w) (number_of w)
number-found fresh at w rest h l = number-by fresh at w rest (number-run w h) l

-- ---- literals

literal-len : (quote : ℕ) (c : List ℕ) → length c + 2 ≡ suc (length (c ++ quote ∷ []))
literal-len quote c = let e = length-append c (quote ∷ []) in omega arith

not-none : (c : List ℕ) → 0 < length c → eqb (length c) 0 ≡ false
not-none c h = eq-other (length c) 0 (λ k. absurd (omega (arith, k)))

pub closed-character : (at : ℕ) (c rest : List ℕ) → IsContent 39 c → character_at at (39 ∷ (c ++ (39 ∷ rest))) ≡ cond (eqb (length c) 0) (Err (fault.OpenText at)) (one_element at (length c) (element_of c))
closed-character at c rest h = rw (content-len 39 apostrophe c rest h, take-front c (39 ∷ rest)) refl

character-found : (at : ℕ) (c rest : List ℕ) (v : ℕ) → IsContent 39 c → IsElement c [] v → character_at at (39 ∷ (c ++ (39 ∷ rest))) ≡ Ok (piece.Spelled (suc (length (c ++ 39 ∷ []))) (kind.Character v))
character-found at c rest v h k = closed-character at c rest h ∙ rw (not-none c (element-some c [] v k), whole-element c v k, eq-same (length c), literal-len 39 c) refl

bad-character-found : (at : ℕ) (c rest : List ℕ) → IsContent 39 c → IsBadEscape c [] → character_at at (39 ∷ (c ++ (39 ∷ rest))) ≡ Err (fault.BadNumber (at + 1))
bad-character-found at c rest h k = closed-character at c rest h ∙ rw (not-none c (bad-some c [] k), whole-bad c k, eq-same (length c)) refl

wrong-element : (at : ℕ) (c : List ℕ) (len : ℕ) (v : Option ℕ) → eqb len (length c) ≡ false → one_element at (length c) (len, v) ≡ Err (fault.OpenText at)
wrong-element at c len None e = rw e refl
wrong-element at c len (Some v) e = rw e refl

-- no element is the whole content
abbrev IsNoElement : List ℕ → Type 0
IsNoElement c = ((v : ℕ) → IsElement c [] v → ⊥) × (IsBadEscape c [] → ⊥)

whole-none : (c : List ℕ) (r : Option ℕ) → IsNoElement c → WholeIs c r → ⊥
whole-none c None h k = h.1 k
whole-none c (Some v) h k = h.0 v k

other-length : (c : List ℕ) (n : ℕ) (r : Option ℕ) (t : Bool) → IsNoElement c → ElementIs c (n, r) → eqb n (length c) ≡ t → t ≡ false
other-length c n r true h k e = absurd (whole-none c r h (all-element c n r k (eq-true n (length c) e)))
other-length c n r false h k e = refl

wrong-length-by : (at : ℕ) (c : List ℕ) → IsContent 39 c → IsNoElement c → cond (eqb (length c) 0) (Err (fault.OpenText at)) (one_element at (length c) (element_of c)) ≡ Err (fault.OpenText at)
wrong-length-by at [] i h = refl
wrong-length-by at (b ∷ bs) i h =
    let x = element_of (b ∷ bs) in
    let e = other-length (b ∷ bs) x.0 x.1 (eqb x.0 (length (b ∷ bs))) h (element-is 39 b bs i) refl in
    ap (λ (t : Bool). cond t (Err (fault.OpenText at)) (one_element at (length (b ∷ bs)) x)) (not-none (b ∷ bs) (omega arith))
    ∙ wrong-element at (b ∷ bs) x.0 x.1 e

pub closed-text : (at : ℕ) (c rest : List ℕ) → IsContent 34 c → text_at at (34 ∷ (c ++ (34 ∷ rest))) ≡ text_of (length c) (bytes_of 0 (at + 1) c)
closed-text at c rest h = rw (content-len 34 quotation c rest h, take-front c (34 ∷ rest)) refl

open-by : (quote : ℕ) (text : List ℕ) (r : Option ℕ) → ((c behind : List ℕ) → IsContent quote c → text ≡ c ++ (quote ∷ behind) → ⊥) → ClosesAt quote text r → r ≡ None
open-by quote text None h k = refl
open-by quote text (Some n) h k = absurd (h k.content k.rest k.is k.whole)

open-found : (quote : ℕ) → IsQuote quote → (text : List ℕ) → ((c behind : List ℕ) → IsContent quote c → text ≡ c ++ (quote ∷ behind) → ⊥) → content_len quote false text ≡ None
open-found quote q text h = open-by quote text (content_len quote false text) h (content-closes-is quote q text)

-- ---- marks

-- a class at which a mark may stand
abbrev pub IsMarkClass : Class → Type 0
IsMarkClass class.Point = Unit {0}
IsMarkClass class.Slash = Unit {0}
IsMarkClass class.Other = Unit {0}
IsMarkClass _ = ⊥

not-comment : (at b : ℕ) (bs : List ℕ) → b ≡ 47 → begins_comment (b ∷ bs) ≡ false → slash_at at (b ∷ bs) ≡ mark_at at (b ∷ bs)
not-comment at b [] e h = refl
not-comment at b (c ∷ cs) e h =
    let f : (eqb c 47 || eqb c 42) ≡ false = subst (λ (x : ℕ). begins_comment (x ∷ c ∷ cs) ≡ false) e h in
    let g = or-false (eqb c 47) (eqb c 42) f in
    rw (g.0, g.1) refl

mark-class : (fresh : Bool) (at b : ℕ) (bs : List ℕ) (k : Class) → IsMarkClass k → IsClass k b → begins_fraction (b ∷ bs) ≡ false → begins_comment (b ∷ bs) ≡ false → by_class k fresh at (b ∷ bs) ≡ mark_at at (b ∷ bs)
mark-class fresh at b bs class.Point m h f c = rw f refl
mark-class fresh at b bs class.Slash m h f c = not-comment at b bs h c
mark-class fresh at b bs class.Other m h f c = refl
mark-class fresh at b bs _ m h f c = absurd m

pub record Front (w : List ℕ) : Type 0 where
  pub byte : ℕ
  pub bytes : List ℕ
  pub spelled : w ≡ byte ∷ bytes
  pub class : IsMarkClass (class_of byte)

pub mark-front : (m : Mark) → Front (spelling_of m)
unfolding class_of
mark-front mark.LBracket = record { byte = 91; bytes = []; spelled = refl; class = tt }
mark-front mark.RBracket = record { byte = 93; bytes = []; spelled = refl; class = tt }
mark-front mark.LParen = record { byte = 40; bytes = []; spelled = refl; class = tt }
mark-front mark.RParen = record { byte = 41; bytes = []; spelled = refl; class = tt }
mark-front mark.LBrace = record { byte = 123; bytes = []; spelled = refl; class = tt }
mark-front mark.RBrace = record { byte = 125; bytes = []; spelled = refl; class = tt }
mark-front mark.Dot = record { byte = 46; bytes = []; spelled = refl; class = tt }
mark-front mark.Arrow = record { byte = 45; bytes = 62 ∷ []; spelled = refl; class = tt }
mark-front mark.PlusPlus = record { byte = 43; bytes = 43 ∷ []; spelled = refl; class = tt }
mark-front mark.MinusMinus = record { byte = 45; bytes = 45 ∷ []; spelled = refl; class = tt }
mark-front mark.Amp = record { byte = 38; bytes = []; spelled = refl; class = tt }
mark-front mark.Star = record { byte = 42; bytes = []; spelled = refl; class = tt }
mark-front mark.Plus = record { byte = 43; bytes = []; spelled = refl; class = tt }
mark-front mark.Minus = record { byte = 45; bytes = []; spelled = refl; class = tt }
mark-front mark.Tilde = record { byte = 126; bytes = []; spelled = refl; class = tt }
mark-front mark.Bang = record { byte = 33; bytes = []; spelled = refl; class = tt }
mark-front mark.Slash = record { byte = 47; bytes = []; spelled = refl; class = tt }
mark-front mark.Percent = record { byte = 37; bytes = []; spelled = refl; class = tt }
mark-front mark.Shl = record { byte = 60; bytes = 60 ∷ []; spelled = refl; class = tt }
mark-front mark.Shr = record { byte = 62; bytes = 62 ∷ []; spelled = refl; class = tt }
mark-front mark.Lt = record { byte = 60; bytes = []; spelled = refl; class = tt }
mark-front mark.Gt = record { byte = 62; bytes = []; spelled = refl; class = tt }
mark-front mark.Le = record { byte = 60; bytes = 61 ∷ []; spelled = refl; class = tt }
mark-front mark.Ge = record { byte = 62; bytes = 61 ∷ []; spelled = refl; class = tt }
mark-front mark.EqEq = record { byte = 61; bytes = 61 ∷ []; spelled = refl; class = tt }
mark-front mark.NotEq = record { byte = 33; bytes = 61 ∷ []; spelled = refl; class = tt }
mark-front mark.Caret = record { byte = 94; bytes = []; spelled = refl; class = tt }
mark-front mark.Bar = record { byte = 124; bytes = []; spelled = refl; class = tt }
mark-front mark.AndAnd = record { byte = 38; bytes = 38 ∷ []; spelled = refl; class = tt }
mark-front mark.OrOr = record { byte = 124; bytes = 124 ∷ []; spelled = refl; class = tt }
mark-front mark.Question = record { byte = 63; bytes = []; spelled = refl; class = tt }
mark-front mark.Colon = record { byte = 58; bytes = []; spelled = refl; class = tt }
mark-front mark.Semi = record { byte = 59; bytes = []; spelled = refl; class = tt }
mark-front mark.Dots = record { byte = 46; bytes = 46 ∷ 46 ∷ []; spelled = refl; class = tt }
mark-front mark.Assign = record { byte = 61; bytes = []; spelled = refl; class = tt }
mark-front mark.StarAssign = record { byte = 42; bytes = 61 ∷ []; spelled = refl; class = tt }
mark-front mark.SlashAssign = record { byte = 47; bytes = 61 ∷ []; spelled = refl; class = tt }
mark-front mark.PercentAssign = record { byte = 37; bytes = 61 ∷ []; spelled = refl; class = tt }
mark-front mark.PlusAssign = record { byte = 43; bytes = 61 ∷ []; spelled = refl; class = tt }
mark-front mark.MinusAssign = record { byte = 45; bytes = 61 ∷ []; spelled = refl; class = tt }
mark-front mark.ShlAssign = record { byte = 60; bytes = 60 ∷ 61 ∷ []; spelled = refl; class = tt }
mark-front mark.ShrAssign = record { byte = 62; bytes = 62 ∷ 61 ∷ []; spelled = refl; class = tt }
mark-front mark.AndAssign = record { byte = 38; bytes = 61 ∷ []; spelled = refl; class = tt }
mark-front mark.XorAssign = record { byte = 94; bytes = 61 ∷ []; spelled = refl; class = tt }
mark-front mark.OrAssign = record { byte = 124; bytes = 61 ∷ []; spelled = refl; class = tt }
mark-front mark.Comma = record { byte = 44; bytes = []; spelled = refl; class = tt }

mark-by : (fresh : Bool) (at : ℕ) (w rest : List ℕ) → Front w → begins_fraction (w ++ rest) ≡ false → begins_comment (w ++ rest) ≡ false → piece_at fresh at (w ++ rest) ≡ mark_at at (w ++ rest)
unfolding piece_at
mark-by fresh at w rest front f c =
    let e = front.spelled in
    subst (λ (x : List ℕ). begins_fraction (x ++ rest) ≡ false → begins_comment (x ++ rest) ≡ false → piece_at fresh at (x ++ rest) ≡ mark_at at (x ++ rest)) (sym e)
    (λ g d. mark-class fresh at front.byte (front.bytes ++ rest) (class_of front.byte) front.class (class-is front.byte) g d) f c

mark-found : (fresh : Bool) (at : ℕ) (m : Mark) (rest : List ℕ) → IsLongestMark m (spelling_of m ++ rest) → begins_fraction (spelling_of m ++ rest) ≡ false → begins_comment (spelling_of m ++ rest) ≡ false → piece_at fresh at (spelling_of m ++ rest) ≡ Ok (piece.Spelled (length (spelling_of m)) (kind.Punct m))
mark-found fresh at m rest h f c = mark-by fresh at (spelling_of m) rest (mark-front m) f c ∙ ap (marked at) (the-mark m rest h)

-- ---- spellings

pub spelling-found : (w rest : List ℕ) (k : Kind) → Spells w rest k → (fresh : Bool) (at : ℕ) → piece_at fresh at (w ++ rest) ≡ Ok (piece.Spelled (length w) k)
unfolding piece_at
spelling-found w rest k (AName _ _ h j) fresh at = name-found fresh at w rest h j
spelling-found w rest k (ANumber _ _ n s h l e) fresh at = number-found fresh at w rest h l ∙ ap (numbered at (length w)) (integer-number w n s e)
spelling-found w rest k (ACharacter c _ v h j) fresh at = rw apostrophe-class (ap (λ (x : List ℕ). character_at at (39 ∷ x)) (append_assoc c (39 ∷ []) rest) ∙ character-found at c rest v h j)
spelling-found w rest k (AText c _ vs h j) fresh at =
    rw quote-class (ap (λ (x : List ℕ). text_at at (34 ∷ x)) (append_assoc c (34 ∷ []) rest) ∙ closed-text at c rest h ∙ ap (text_of (length c)) (has-bytes c vs j (at + 1)) ∙ ap (λ (n : ℕ). Ok (piece.Spelled n (kind.Text vs))) (literal-len 34 c))
spelling-found w rest k (AMark m _ h f c) fresh at = mark-found fresh at m rest h (no-fraction (spelling_of m ++ rest) f) c

-- ---- faults

no-mark-other : (b : ℕ) (rest : List ℕ) (m : Mark) (t : Bool) (n : ℕ) → HasNoMark (b ∷ rest) → eqb b n ≡ t → n ∷ rest ≡ spelling_of m ++ rest → t ≡ false
no-mark-other b rest m true n h e f = absurd (h m rest (ap (λ (x : ℕ). x ∷ rest) (eq-true b n e) ∙ f))
no-mark-other b rest m false n h e f = refl

pub fault-found : (fresh : Bool) (at : ℕ) (text : List ℕ) (e : LexFault) → Fails fresh at text e → piece_at fresh at text ≡ Err e
unfolding piece_at
fault-found fresh at text e (ABadByte _ _ b rest h k) =
    let i = no-mark-other b rest mark.Dot (eqb b 46) 46 k refl refl in
    let j = no-mark-other b rest mark.Slash (eqb b 47) 47 k refl refl in
    rw (nothing-class b h i j, no-mark (b ∷ rest) k) refl
fault-found fresh at text e (ALateHash _ rest) = rw hash-class refl
fault-found fresh at text e (ADirective _ c rest h k s) = rw (hash-class, line-found c rest h k, take-front c rest, none-skipped c (is_skipped c) refl s) refl
fault-found fresh at text e (AnOpenComment _ _ rest h) = rw slash-class (ap (comment_in at) (close_len-is rest ∙ no-close rest h))
fault-found fresh at text e (ABadNumber _ _ w rest h l n) = number-found fresh at w rest h l ∙ ap (numbered at (length w)) (no-number w n)
fault-found fresh at text e (AnOpenCharacter _ _ rest h) = rw (apostrophe-class, open-found 39 apostrophe rest h) refl
fault-found fresh at text e (AnOpenText _ _ rest h) = rw (quote-class, open-found 34 quotation rest h) refl
fault-found fresh at text e (AWrongLength _ _ c rest h k i) = rw apostrophe-class (closed-character at c rest h ∙ wrong-length-by at c h (k, i))
fault-found fresh at text e (ABadCharacter _ _ c rest h k) = rw apostrophe-class (bad-character-found at c rest h k)
fault-found fresh at text e (ABadEscape _ _ c rest k h j) = rw quote-class (closed-text at c rest h ∙ ap (text_of (length c)) (has-bad c k j (at + 1)))
