-- Which pieces stand before which texts.
use Rattle.std.proofs.Common.{◌≡◌, ◌≤◌, ◌-◌, ◌^◌, ℕ, Bool, true, false, ◌||◌, not, eqb, List, [], ◌∷◌, refl, arith, lit≤}
use Rattle.std.proofs.lemmas.Bool.Decides.{nat_tests}
use Rattle.cc_program.specs.CcWords.declared.word.Word.{Word}
use Rattle.cc_program.specs.CcWords.Names.{is_letter_or_digit}
use Rattle.cc_lex.specs.declared.token.Kind.TheVariants as kind
use Rattle.cc_lex.specs.declared.token.Mark.TheVariants as m
use Rattle.cc_lex.specs.declared.token.Suffix.{Suffix}
use Rattle.cc_lex.specs.Bytes.{begins_with}
use Rattle.cc_lex.specs.Numbers.{greatest}
use Rattle.cc_lex.proofs.Booleans.{or-false}
use Rattle.cc_pieces.specs.Pieces.{Pieces, plain_number, flat}
use Rattle.cc_expression_trees.specs.Parts.{Fits, is_apart}
use Rattle.cc_expression_trees.specs.Soft.{IsSoft}

abbrev pub NoEqual : List ℕ → Type 0
NoEqual text = begins_with (λ b. eqb b 61) text ≡ false

pub soft-no-equal : (text : List ℕ) → IsSoft text → NoEqual text
soft-no-equal [] h = refl
soft-no-equal (b ∷ text) h = (or-false (eqb b 46) (eqb b 61) (or-false (is_letter_or_digit b) (eqb b 46 || eqb b 61) h).1).1

pub name-apart : (x text : List ℕ) → IsSoft text → is_apart (kind.Ident x) text ≡ true
name-apart x [] h = refl
name-apart x (b ∷ text) h = let e = or-false (is_letter_or_digit b) (eqb b 46 || eqb b 61) h in rw e.0 refl

pub word-apart : (x : Word) (text : List ℕ) → IsSoft text → is_apart (kind.Keyword x) text ≡ true
word-apart x [] h = refl
word-apart x (b ∷ text) h = let e = or-false (is_letter_or_digit b) (eqb b 46 || eqb b 61) h in rw e.0 refl

pub number-apart : (n : ℕ) (s : Suffix) (text : List ℕ) → IsSoft text → is_apart (kind.Number n s) text ≡ true
number-apart n s [] h = refl
number-apart n s (b ∷ text) h =
    let e = or-false (is_letter_or_digit b) (eqb b 46 || eqb b 61) h in
    let f = or-false (eqb b 46) (eqb b 61) e.1 in
    rw (e.0, f.0) refl

pub star-apart : (text : List ℕ) → NoEqual text → is_apart (kind.Punct m.Star) text ≡ true
star-apart [] h = refl
star-apart (b ∷ text) h = grind (arith, nat_tests)

pub open-apart : (text : List ℕ) → is_apart (kind.Punct m.LParen) text ≡ true
open-apart [] = refl
open-apart (b ∷ text) = refl

pub close-apart : (text : List ℕ) → is_apart (kind.Punct m.RParen) text ≡ true
close-apart [] = refl
close-apart (b ∷ text) = refl

pub bracket-apart : (text : List ℕ) → is_apart (kind.Punct m.LBracket) text ≡ true
bracket-apart [] = refl
bracket-apart (b ∷ text) = refl

pub unbracket-apart : (text : List ℕ) → is_apart (kind.Punct m.RBracket) text ≡ true
unbracket-apart [] = refl
unbracket-apart (b ∷ text) = refl

pub comma-apart : (text : List ℕ) → is_apart (kind.Punct m.Comma) text ≡ true
comma-apart [] = refl
comma-apart (b ∷ text) = refl

-- a number without letters
within : (n : ℕ) (t : Bool) → n ≤ 2 ^ 63 - 1 → n ≤ greatest t false
within n true h = h
within n false h = omega (arith, h)

pub number-fits : (n : ℕ) (ps : Pieces) → n ≤ 2 ^ 63 - 1 → IsSoft (flat ps) → Fits ps → Fits (plain_number n ∷ ps)
number-fits n ps h s f = ((within n (not (eqb n 0)) h, refl, lit≤ tt), number-apart n (record { decimal = not (eqb n 0); unsigned = false; longs = 0 }) (flat ps) s, f)
