-- The mark that is found is the longest at its place: the marks stand in the list by length, and the
-- first that begins the text is taken. Two marks of one length at one place are the same.
use Rattle.std.proofs.Common.{◌≡◌, ℕ, ◌≤◌, Bool, true, false, ◌&&◌, cond, eqb, leb, List, [], ◌∷◌, ◌++◌, length, take, drop, Option, Some, None, refl, ap, sym, ◌∙◌, arith}
use Rattle.std.specs.List.{list_all, find, starts_with}
use Rattle.cc_lex.specs.declared.token.Mark.{Mark}
use Rattle.cc_lex.specs.declared.token.Mark.TheVariants as mark
use Rattle.cc_lex.specs.Marks.{spelling_of, IsLongestMark, HasNoMark}
use Rattle.cc_lex.specs.Scan.{marks, mark_of}
use Rattle.cc_lex.proofs.Fronts.{take-front}
use Rattle.cc_lex.proofs.Booleans.{and-true, true-false, eq-true, eq-same, le-true, le-same}

-- ---- fronts by their test

abbrev begins : List ℕ → List ℕ → Bool
begins text w = starts_with eqb text w

begins-front : (w rest : List ℕ) → begins (w ++ rest) w ≡ true
begins-front [] rest = refl
begins-front (b ∷ bs) rest = rw (eq-same b, begins-front bs rest) refl

front-begins : (w text : List ℕ) → begins text w ≡ true → text ≡ w ++ drop (length w) text
front-begins [] text h = refl
front-begins (b ∷ w) [] h = absurd (cc)
front-begins (b ∷ w) (c ∷ text) h =
    let e = and-true (eqb b c) (begins text w) h in
    let f = eq-true b c e.0 in
    let g = front-begins w text e.1 in
    ap (λ (x : ℕ). x ∷ text) (sym f) ∙ ap (λ (x : List ℕ). b ∷ x) g

-- ---- the first of a list that is in order

abbrev pub Every : (Mark → Type 0) → List Mark → Type 0
Every P [] = Unit {0}
Every P (m ∷ ms) = P m × Every P ms

abbrev in_order : List Mark → Bool
in_order [] = true
in_order (m ∷ ms) = list_all (λ k. leb (length (spelling_of k)) (length (spelling_of m))) ms && in_order ms

-- what a search says of the list
abbrev FoundIn : (Mark → Bool) → List Mark → Option Mark → Type 0
FoundIn p ms None = Every (λ k. p k ≡ true → ⊥) ms
FoundIn p ms (Some m) = (p m ≡ true) × Every (λ k. p k ≡ true → length (spelling_of k) ≤ length (spelling_of m)) ms

all-shorter : (p : Mark → Bool) (m : Mark) (ms : List Mark) → list_all (λ k. leb (length (spelling_of k)) (length (spelling_of m))) ms ≡ true → Every (λ k. p k ≡ true → length (spelling_of k) ≤ length (spelling_of m)) ms
all-shorter p m [] h = tt
all-shorter p m (k ∷ ms) h =
    let e = and-true (leb (length (spelling_of k)) (length (spelling_of m))) (list_all (λ k. leb (length (spelling_of k)) (length (spelling_of m))) ms) h in
    (λ _. le-true (length (spelling_of k)) (length (spelling_of m)) e.0, all-shorter p m ms e.1)

found-behind : (p : Mark → Bool) (m : Mark) (ms : List Mark) (r : Option Mark) → p m ≡ false → FoundIn p ms r → FoundIn p (m ∷ ms) r
found-behind p m ms None e h = (λ k. true-false (p m) k e, h)
found-behind p m ms (Some n) e h = (h.0, (λ k. absurd (true-false (p m) k e), h.1))

found-at : (p : Mark → Bool) (m : Mark) (ms : List Mark) (t : Bool) → p m ≡ t → in_order (m ∷ ms) ≡ true → FoundIn p ms (find p ms) → FoundIn p (m ∷ ms) (cond t (Some m) (find p ms))
found-at p m ms true e o h =
    let f = and-true (list_all (λ k. leb (length (spelling_of k)) (length (spelling_of m))) ms) (in_order ms) o in
    (e, (λ _. le-same (length (spelling_of m)), all-shorter p m ms f.0))
found-at p m ms false e o h = found-behind p m ms (find p ms) e h

found-in : (p : Mark → Bool) (ms : List Mark) → in_order ms ≡ true → FoundIn p ms (find p ms)
found-in p [] o = tt
found-in p (m ∷ ms) o =
    let f = and-true (list_all (λ k. leb (length (spelling_of k)) (length (spelling_of m))) ms) (in_order ms) o in
    found-at p m ms (p m) refl o (found-in p ms f.1)

-- each mark is in the list
pub every-mark : (P : Mark → Type 0) → Every P marks → (m : Mark) → P m
every-mark P h mark.Dots = h.0
every-mark P h mark.ShlAssign = h.1.0
every-mark P h mark.ShrAssign = h.1.1.0
every-mark P h mark.Arrow = h.1.1.1.0
every-mark P h mark.PlusPlus = h.1.1.1.1.0
every-mark P h mark.MinusMinus = h.1.1.1.1.1.0
every-mark P h mark.Shl = h.1.1.1.1.1.1.0
every-mark P h mark.Shr = h.1.1.1.1.1.1.1.0
every-mark P h mark.Le = h.1.1.1.1.1.1.1.1.0
every-mark P h mark.Ge = h.1.1.1.1.1.1.1.1.1.0
every-mark P h mark.EqEq = h.1.1.1.1.1.1.1.1.1.1.0
every-mark P h mark.NotEq = h.1.1.1.1.1.1.1.1.1.1.1.0
every-mark P h mark.AndAnd = h.1.1.1.1.1.1.1.1.1.1.1.1.0
every-mark P h mark.OrOr = h.1.1.1.1.1.1.1.1.1.1.1.1.1.0
every-mark P h mark.StarAssign = h.1.1.1.1.1.1.1.1.1.1.1.1.1.1.0
every-mark P h mark.SlashAssign = h.1.1.1.1.1.1.1.1.1.1.1.1.1.1.1.0
every-mark P h mark.PercentAssign = h.1.1.1.1.1.1.1.1.1.1.1.1.1.1.1.1.0
every-mark P h mark.PlusAssign = h.1.1.1.1.1.1.1.1.1.1.1.1.1.1.1.1.1.0
every-mark P h mark.MinusAssign = h.1.1.1.1.1.1.1.1.1.1.1.1.1.1.1.1.1.1.0
every-mark P h mark.AndAssign = h.1.1.1.1.1.1.1.1.1.1.1.1.1.1.1.1.1.1.1.0
every-mark P h mark.XorAssign = h.1.1.1.1.1.1.1.1.1.1.1.1.1.1.1.1.1.1.1.1.0
every-mark P h mark.OrAssign = h.1.1.1.1.1.1.1.1.1.1.1.1.1.1.1.1.1.1.1.1.1.0
every-mark P h mark.LBracket = h.1.1.1.1.1.1.1.1.1.1.1.1.1.1.1.1.1.1.1.1.1.1.0
every-mark P h mark.RBracket = h.1.1.1.1.1.1.1.1.1.1.1.1.1.1.1.1.1.1.1.1.1.1.1.0
every-mark P h mark.LParen = h.1.1.1.1.1.1.1.1.1.1.1.1.1.1.1.1.1.1.1.1.1.1.1.1.0
every-mark P h mark.RParen = h.1.1.1.1.1.1.1.1.1.1.1.1.1.1.1.1.1.1.1.1.1.1.1.1.1.0
every-mark P h mark.LBrace = h.1.1.1.1.1.1.1.1.1.1.1.1.1.1.1.1.1.1.1.1.1.1.1.1.1.1.0
every-mark P h mark.RBrace = h.1.1.1.1.1.1.1.1.1.1.1.1.1.1.1.1.1.1.1.1.1.1.1.1.1.1.1.0
every-mark P h mark.Dot = h.1.1.1.1.1.1.1.1.1.1.1.1.1.1.1.1.1.1.1.1.1.1.1.1.1.1.1.1.0
every-mark P h mark.Amp = h.1.1.1.1.1.1.1.1.1.1.1.1.1.1.1.1.1.1.1.1.1.1.1.1.1.1.1.1.1.0
every-mark P h mark.Star = h.1.1.1.1.1.1.1.1.1.1.1.1.1.1.1.1.1.1.1.1.1.1.1.1.1.1.1.1.1.1.0
every-mark P h mark.Plus = h.1.1.1.1.1.1.1.1.1.1.1.1.1.1.1.1.1.1.1.1.1.1.1.1.1.1.1.1.1.1.1.0
every-mark P h mark.Minus = h.1.1.1.1.1.1.1.1.1.1.1.1.1.1.1.1.1.1.1.1.1.1.1.1.1.1.1.1.1.1.1.1.0
every-mark P h mark.Tilde = h.1.1.1.1.1.1.1.1.1.1.1.1.1.1.1.1.1.1.1.1.1.1.1.1.1.1.1.1.1.1.1.1.1.0
every-mark P h mark.Bang = h.1.1.1.1.1.1.1.1.1.1.1.1.1.1.1.1.1.1.1.1.1.1.1.1.1.1.1.1.1.1.1.1.1.1.0
every-mark P h mark.Slash = h.1.1.1.1.1.1.1.1.1.1.1.1.1.1.1.1.1.1.1.1.1.1.1.1.1.1.1.1.1.1.1.1.1.1.1.0
every-mark P h mark.Percent = h.1.1.1.1.1.1.1.1.1.1.1.1.1.1.1.1.1.1.1.1.1.1.1.1.1.1.1.1.1.1.1.1.1.1.1.1.0
every-mark P h mark.Lt = h.1.1.1.1.1.1.1.1.1.1.1.1.1.1.1.1.1.1.1.1.1.1.1.1.1.1.1.1.1.1.1.1.1.1.1.1.1.0
every-mark P h mark.Gt = h.1.1.1.1.1.1.1.1.1.1.1.1.1.1.1.1.1.1.1.1.1.1.1.1.1.1.1.1.1.1.1.1.1.1.1.1.1.1.0
every-mark P h mark.Caret = h.1.1.1.1.1.1.1.1.1.1.1.1.1.1.1.1.1.1.1.1.1.1.1.1.1.1.1.1.1.1.1.1.1.1.1.1.1.1.1.0
every-mark P h mark.Bar = h.1.1.1.1.1.1.1.1.1.1.1.1.1.1.1.1.1.1.1.1.1.1.1.1.1.1.1.1.1.1.1.1.1.1.1.1.1.1.1.1.0
every-mark P h mark.Question = h.1.1.1.1.1.1.1.1.1.1.1.1.1.1.1.1.1.1.1.1.1.1.1.1.1.1.1.1.1.1.1.1.1.1.1.1.1.1.1.1.1.0
every-mark P h mark.Colon = h.1.1.1.1.1.1.1.1.1.1.1.1.1.1.1.1.1.1.1.1.1.1.1.1.1.1.1.1.1.1.1.1.1.1.1.1.1.1.1.1.1.1.0
every-mark P h mark.Semi = h.1.1.1.1.1.1.1.1.1.1.1.1.1.1.1.1.1.1.1.1.1.1.1.1.1.1.1.1.1.1.1.1.1.1.1.1.1.1.1.1.1.1.1.0
every-mark P h mark.Assign = h.1.1.1.1.1.1.1.1.1.1.1.1.1.1.1.1.1.1.1.1.1.1.1.1.1.1.1.1.1.1.1.1.1.1.1.1.1.1.1.1.1.1.1.1.0
every-mark P h mark.Comma = h.1.1.1.1.1.1.1.1.1.1.1.1.1.1.1.1.1.1.1.1.1.1.1.1.1.1.1.1.1.1.1.1.1.1.1.1.1.1.1.1.1.1.1.1.1.0

-- ---- the mark at a place

not-empty : (m : Mark) → leb 1 (length (spelling_of m)) ≡ true
not-empty mark.LBracket = refl
not-empty _ = refl

pub mark-some : (m : Mark) → 1 ≤ length (spelling_of m)
mark-some m = le-true 1 (length (spelling_of m)) (not-empty m)

-- what the answer says of the text
abbrev pub MarkIs : List ℕ → Option Mark → Type 0
MarkIs text None = HasNoMark text
MarkIs text (Some m) = (text ≡ spelling_of m ++ drop (length (spelling_of m)) text) × IsLongestMark m text

mark-is-by : (text : List ℕ) (r : Option Mark) → FoundIn (λ m. begins text (spelling_of m)) marks r → MarkIs text r
mark-is-by text None h = λ m rest e. every-mark (λ k. begins text (spelling_of k) ≡ true → ⊥) h m (ap (λ (x : List ℕ). begins x (spelling_of m)) e ∙ begins-front (spelling_of m) rest)
mark-is-by text (Some m) h = (front-begins (spelling_of m) text h.0, λ k rest e. every-mark (λ k. begins text (spelling_of k) ≡ true → length (spelling_of k) ≤ length (spelling_of m)) h.1 k (ap (λ (x : List ℕ). begins x (spelling_of k)) e ∙ begins-front (spelling_of k) rest))

pub mark-is : (text : List ℕ) → MarkIs text (mark_of text)
unfolding mark_of
mark-is text = mark-is-by text (find (λ m. begins text (spelling_of m)) marks) (found-in (λ m. begins text (spelling_of m)) marks refl)

no-mark-by : (text : List ℕ) (r : Option Mark) → HasNoMark text → MarkIs text r → r ≡ None
no-mark-by text None h k = refl
no-mark-by text (Some m) h k = absurd (h m (drop (length (spelling_of m)) text) k.0)

pub no-mark : (text : List ℕ) → HasNoMark text → mark_of text ≡ None
no-mark text h = no-mark-by text (mark_of text) h (mark-is text)

-- each mark is the one that its spelling alone begins with
itself : (m : Mark) → mark_of (spelling_of m) ≡ Some m
unfolding mark_of
itself mark.LBracket = refl
itself _ = refl

fronts-same : (v w x y : List ℕ) → v ++ x ≡ w ++ y → length v ≡ length w → v ≡ w
fronts-same v w x y e h = sym (take-front v x) ∙ ap (take (length v)) e ∙ ap (λ (n : ℕ). take n (w ++ y)) h ∙ take-front w y

some-same : (m k : Mark) → Some m ≡ Some k → m ≡ k
some-same m k e = cc

mark-by : (m : Mark) (text rest : List ℕ) (r : Option Mark) → text ≡ spelling_of m ++ rest → IsLongestMark m text → MarkIs text r → r ≡ Some m
mark-by m text rest None e h k = absurd (k m rest e)
mark-by m text rest (Some n) e h k =
    let a : length (spelling_of n) ≤ length (spelling_of m) = h n (drop (length (spelling_of n)) text) k.0 in
    let b : length (spelling_of m) ≤ length (spelling_of n) = k.1 m rest e in
    let s = fronts-same (spelling_of n) (spelling_of m) (drop (length (spelling_of n)) text) rest (sym k.0 ∙ e) (omega (arith, a, b)) in
    sym (itself n) ∙ ap mark_of s ∙ itself m

pub the-mark : (m : Mark) (rest : List ℕ) → IsLongestMark m (spelling_of m ++ rest) → mark_of (spelling_of m ++ rest) ≡ Some m
the-mark m rest h = mark-by m (spelling_of m ++ rest) rest (mark_of (spelling_of m ++ rest)) refl h (mark-is (spelling_of m ++ rest))
