-- A mark is the longest one at its place where no byte behind it makes a longer one.
use Rattle.std.proofs.Common.{◌≡◌, ℕ, ◌+◌, ◌≤◌, ◌<◌, Bool, true, false, eqb, leb, List, [], ◌∷◌, ◌++◌, length, refl, ap, sym, ◌∙◌, arith, length-append}
use Rattle.std.proofs.lemmas.Bool.Decides.{nat_tests}
use Rattle.std.specs.List.{list_any, starts_with}
use Rattle.cc_program.specs.CcWords.Names.{is_digit}
use Rattle.cc_lex.specs.declared.token.Mark.{Mark}
use Rattle.cc_lex.specs.declared.token.Mark.TheVariants as mark
use Rattle.cc_lex.specs.declared.token.Kind.TheVariants as kind
use Rattle.cc_lex.specs.Bytes.{begins_with}
use Rattle.cc_lex.specs.Marks.{spelling_of, IsLongestMark}
use Rattle.cc_lex.specs.Numbers.{HasNoNumber}
use Rattle.cc_lex.specs.ScanParts.{begins_fraction}
use Rattle.cc_lex.specs.Scan.{marks}
use Rattle.cc_lex.specs.Separators.{begins_comment}
use Rattle.cc_lex.proofs.Booleans.{or-false, not-true, eq-same, true-false, le-true}
use Rattle.cc_lex.proofs.LongestMark.{Every, every-mark}
use Rattle.cc_lex.proofs.Runs.{no-number-front, number-some}
use Rattle.cc_expression_trees.specs.Parts.{extends, makes_other, is_apart}

-- a longer front goes on with the byte behind the shorter one
longer-front : (v w : List ℕ) (b : ℕ) (rest behind : List ℕ) → v ++ b ∷ rest ≡ w ++ behind → length v < length w → starts_with eqb w (v ++ b ∷ []) ≡ true
longer-front v [] b rest behind e h = absurd (omega (arith, h))
longer-front [] (c ∷ w) b rest behind e h =
    let f : b ≡ c = cc e in
    rw (f, eq-same c) refl
longer-front (a ∷ v) (c ∷ w) b rest behind e h =
    let f : a ≡ c = cc e in
    let g : v ++ b ∷ rest ≡ w ++ behind = cc e in
    rw (f, eq-same c) (longer-front v w b rest behind g (omega (arith, h)))

none-of : (p : Mark → Bool) (ms : List Mark) → list_any p ms ≡ false → Every (λ o. p o ≡ false) ms
none-of p [] h = tt
none-of p (o ∷ ms) h = let e = or-false (p o) (list_any p ms) h in (e.0, none-of p ms e.1)

not-le : (k n : ℕ) → leb k n ≡ false → n < k
not-le k n f = grind (arith, nat_tests)

-- no mark is longer than n
no-longer : (n k : ℕ) (t : Bool) → (n < k → t ≡ true) → t ≡ false → k ≤ n
no-longer n k t h e = by (leb k n) refl where
  by : (u : Bool) → leb k n ≡ u → k ≤ n
  by true f = le-true k n f
  by false f = absurd (true-false t (h (not-le k n f)) e)

ends-mark : (o : Mark) (b : ℕ) (rest : List ℕ) → extends o b ≡ false → IsLongestMark o (spelling_of o ++ b ∷ rest)
ends-mark o b rest h other behind e =
    let f = or-false (list_any (λ x. starts_with eqb (spelling_of x) (spelling_of o ++ b ∷ [])) marks) (makes_other o b) h in
    let g = every-mark (λ x. starts_with eqb (spelling_of x) (spelling_of o ++ b ∷ []) ≡ false) (none-of (λ x. starts_with eqb (spelling_of x) (spelling_of o ++ b ∷ [])) marks f.0) other in
    no-longer (length (spelling_of o)) (length (spelling_of other)) _ (longer-front (spelling_of o) (spelling_of other) b rest behind e) g

shorter : (v w rest behind : List ℕ) → v ++ rest ≡ w ++ behind → rest ≡ [] → length w ≤ length v
shorter v w rest behind e f =
    let g : length v + length rest ≡ length w + length behind = sym (length-append v rest) ∙ (ap length e ∙ length-append w behind) in
    let h : length rest ≡ 0 = ap length f in
    omega (arith, g, h)

whole-mark : (o : Mark) → IsLongestMark o (spelling_of o ++ [])
whole-mark o other behind e = shorter (spelling_of o) (spelling_of other) [] behind e refl

pub longest : (o : Mark) (rest : List ℕ) → is_apart (kind.Punct o) rest ≡ true → IsLongestMark o (spelling_of o ++ rest)
longest o [] h = whole-mark o
longest o (b ∷ rest) h = ends-mark o b rest (not-true (extends o b) h)

no-other : (o : Mark) (rest : List ℕ) → is_apart (kind.Punct o) rest ≡ true → begins_with (makes_other o) rest ≡ false
no-other o [] h = refl
no-other o (b ∷ rest) h = (or-false (list_any (λ x. starts_with eqb (spelling_of x) (spelling_of o ++ b ∷ [])) marks) (makes_other o b) (not-true (extends o b) h)).1

-- ---- no number and no comment begins there

fraction-apart : (o : Mark) (rest : List ℕ) → begins_with (makes_other o) rest ≡ false → begins_fraction (spelling_of o ++ rest) ≡ false
fraction-apart mark.Dot [] h = refl
fraction-apart mark.Dot (b ∷ rest) h = h
fraction-apart _ rest h = refl

mark-front : (o : Mark) (rest : List ℕ) → begins_with is_digit (spelling_of o ++ rest) ≡ false
mark-front mark.Dot rest = refl
mark-front _ rest = refl

none-at-front : (text : List ℕ) → begins_with is_digit text ≡ false → begins_fraction text ≡ false → HasNoNumber text
none-at-front [] h k = λ w behind n e. let f = number-some w n in let g = length-append w behind in let l : 0 ≡ length (w ++ behind) = ap length e in omega (arith, f, g, l)
none-at-front (b ∷ bs) h k = no-number-front b bs h k

pub no-number : (o : Mark) (rest : List ℕ) → is_apart (kind.Punct o) rest ≡ true → HasNoNumber (spelling_of o ++ rest)
no-number o rest h = none-at-front (spelling_of o ++ rest) (mark-front o rest) (fraction-apart o rest (no-other o rest h))

comment-apart : (o : Mark) (rest : List ℕ) → begins_with (makes_other o) rest ≡ false → begins_comment (spelling_of o ++ rest) ≡ false
comment-apart mark.Slash [] h = refl
comment-apart mark.Slash (b ∷ rest) h = h
comment-apart mark.Dot [] h = refl
comment-apart mark.Dot (b ∷ rest) h = refl
comment-apart _ [] h = refl
comment-apart _ (b ∷ rest) h = refl

pub no-comment : (o : Mark) (rest : List ℕ) → is_apart (kind.Punct o) rest ≡ true → begins_comment (spelling_of o ++ rest) ≡ false
no-comment o rest h = comment-apart o rest (no-other o rest h)
