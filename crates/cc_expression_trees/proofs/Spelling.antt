-- Each printed spelling spells its kind where it parts from what stands behind it, so the text of pieces that part has
-- their tokens.
use Rattle.std.proofs.Common.{◌≡◌, ℕ, ◌+◌, Bool, true, false, ◌||◌, not, ◌&&◌, eqb, List, [], ◌∷◌, ◌++◌, length, Option, Some, None, refl, sym, ◌∙◌, subst, arith}
use Rattle.std.specs.Option.{is_none}
use Rattle.cc_program.specs.CcWords.declared.word.Word.{Word}
use Rattle.cc_program.specs.CcWords.declared.word.Word.TheVariants as word
use Rattle.cc_program.specs.CcWords.Names.{is_name, is_identifier, is_letter_or_digit}
use Rattle.cc_program.specs.CcWords.Words.{word_of, is_outside}
use Rattle.cc_lex.specs.declared.token.Kind.{Kind}
use Rattle.cc_lex.specs.declared.token.Kind.TheVariants as kind
use Rattle.cc_lex.specs.declared.token.Suffix.{Suffix}
use Rattle.cc_lex.specs.declared.token.Token.{Token}
use Rattle.cc_lex.specs.Bytes.{is_blank, line_feed, begins_with}
use Rattle.cc_lex.specs.Identifiers.{IsIdentifier, named}
use Rattle.cc_lex.specs.Separators.{Separates, ABlank, ALineFeed}
use Rattle.cc_lex.specs.Tokens.{Spells, AName, AMark, TokensFrom, NoToken, Separated, Spelled}
use Rattle.cc_lex.proofs.Booleans.{not-true, eq-true, and-true}
use Rattle.cc_pieces.specs.Pieces.{Pieces, Gap, Token as AToken, spelled, flat}
use Rattle.cc_expression_trees.specs.Laid.{laid}
use Rattle.cc_expression_trees.specs.Parts.{IsPrinted, parts, is_apart, is_gap, Fits}
use Rattle.cc_expression_trees.proofs.Numerals.{constant}
use Rattle.cc_expression_trees.proofs.LongestMarks.{longest, no-number, no-comment}

pub record NameParts (x : List ℕ) : Type 0 where
  pub form : IsIdentifier x
  pub no_word : word_of x ≡ None
  pub inside : is_outside x ≡ false

is-none : (o : Option Word) → is_none o ≡ true → o ≡ None
is-none None h = refl
is-none (Some w) h = absurd (cc)

-- what a name is
pub name-parts : (x : List ℕ) → is_name x ≡ true → NameParts x
unfolding is_name
name-parts x h =
    let e = and-true (is_identifier x && is_none (word_of x)) (not (is_outside x)) h in
    let f = and-true (is_identifier x) (is_none (word_of x)) e.0 in
    record { form = f.0; no_word = is-none (word_of x) f.1; inside = not-true (is_outside x) e.1 }

keyword-is : (w : Word) → IsIdentifier (spelled (kind.Keyword w)) × (word_of (spelled (kind.Keyword w)) ≡ Some w)
unfolding word_of
keyword-is word.Auto = (refl, refl)
keyword-is _ = (refl, refl)

name-behind : (k : Kind) (rest : List ℕ) → ((b : ℕ) → parts k b ≡ not (is_letter_or_digit b)) → is_apart k rest ≡ true → begins_with is_letter_or_digit rest ≡ false
name-behind k [] e h = refl
name-behind k (b ∷ rest) e h = not-true (is_letter_or_digit b) (sym (e b) ∙ h)

number-behind : (n : ℕ) (s : Suffix) (rest : List ℕ) → is_apart (kind.Number n s) rest ≡ true → begins_with (λ b. is_letter_or_digit b || eqb b 46) rest ≡ false
number-behind n s [] h = refl
number-behind n s (b ∷ rest) h = not-true (is_letter_or_digit b || eqb b 46) h

pub spells : (k : Kind) (rest : List ℕ) → IsPrinted k → is_apart k rest ≡ true → Spells (spelled k) rest k
spells (kind.Ident x) rest h e =
    let n = name-parts x h in
    subst (λ o. Spells x rest (named o x)) n.no_word (AName x rest n.form (name-behind (kind.Ident x) rest (λ b. refl) e))
spells (kind.Keyword w) rest h e =
    let k = keyword-is w in
    subst (λ o. Spells (spelled (kind.Keyword w)) rest (named o (spelled (kind.Keyword w)))) k.1 (AName (spelled (kind.Keyword w)) rest k.0 (name-behind (kind.Keyword w) rest (λ b. refl) e))
spells (kind.Number n s) rest h e = constant n s rest h.0 h.1 h.2 (number-behind n s rest e)
spells (kind.Punct o) rest h e = AMark o rest (longest o rest e) (no-number o rest e) (no-comment o rest e)
spells (kind.Character v) rest h e = absurd h
spells (kind.Text vs) rest h e = absurd h

-- ---- gaps

gap-byte : (fresh : Bool) (b : ℕ) (rest : List ℕ) → (is_blank b || eqb b line_feed) ≡ true → (after : Bool) × Separates fresh (b ∷ []) rest after
gap-byte fresh b rest h = by (is_blank b) refl where
  by : (t : Bool) → is_blank b ≡ t → (after : Bool) × Separates fresh (b ∷ []) rest after
  by true e = (fresh, ABlank fresh b rest e)
  by false e = let f : b ≡ line_feed = eq-true b line_feed (subst (λ (x : Bool). (x || eqb b line_feed) ≡ true) e h) in (true, subst (λ x. Separates fresh (x ∷ []) rest true) (sym f) (ALineFeed fresh rest))

gap-tokens : (g rest : List ℕ) (ts : List Token) (at : ℕ) → is_gap g ≡ true → ((fresh : Bool) → TokensFrom fresh (at + length g) rest ts) → (fresh : Bool) → TokensFrom fresh at (g ++ rest) ts
gap-tokens [] rest ts at h k fresh = subst (λ n. TokensFrom fresh n rest ts) (omega arith) (k fresh)
gap-tokens (b ∷ g) rest ts at h k fresh =
    let e = and-true (is_blank b || eqb b line_feed) (is_gap g) h in
    let s = gap-byte fresh b (g ++ rest) e.0 in
    Separated fresh s.0 at (b ∷ []) (g ++ rest) ts s.1 (gap-tokens g rest ts (at + 1) e.1 (λ f. subst (λ n. TokensFrom f n rest ts) (omega arith) (k f)) s.0)

-- ---- the law

pub pieces-tokens : (ps : Pieces) → Fits ps → (fresh : Bool) (at : ℕ) → TokensFrom fresh at (flat ps) (laid at ps)
pieces-tokens [] h fresh at = NoToken fresh at
pieces-tokens (Gap g ∷ ps) h fresh at = gap-tokens g (flat ps) (laid (at + length g) ps) at h.0 (λ f. pieces-tokens ps h.1 f (at + length g)) fresh
pieces-tokens (AToken k ∷ ps) h fresh at = Spelled fresh at (spelled k) (flat ps) k (laid (at + length (spelled k)) ps) (spells k (flat ps) h.0 h.1) (pieces-tokens ps h.2 false (at + length (spelled k)))
