-- Specifiers that are words: they are read one behind another, and part from one another.
use Rattle.std.proofs.Common.{◌≡◌, ℕ, ◌+◌, Bool, true, false, ◌&&◌, not, List, [], ◌∷◌, ◌++◌, length, refl, ap, sym, subst, append_assoc, append-nil}
use Rattle.std.specs.List.{list_all}
use Rattle.cc_program.specs.CcNum.declared.int_type.IntType.{IntType}
use Rattle.cc_program.specs.CcNum.declared.int_type.IntType.TheVariants as int
use Rattle.cc_program.specs.CcWords.declared.word.Word.{Word}
use Rattle.cc_lex.specs.declared.token.Kind.TheVariants as kind
use Rattle.cc_lex.proofs.Booleans.{and-true, both-true, not-true}
use Rattle.cc_tree.specs.declared.at.At.{At}
use Rattle.cc_tree.specs.declared.tree.Spec as spec
use Rattle.cc_tree.specs.declared.tree.Spec.{Spec}
use Rattle.cc_tree.specs.declared.tree.Spec.TheVariants as spec_rolls
use Rattle.cc_tree.specs.Scopes.{is_typedef_word, declares_types}
use Rattle.cc_tree.specs.Terms.{IsSpecList, MoreSpecs, AWord, AttrsApart, is_spec_word, is_extension, have_word, ends_open, ends_structure}
use Rattle.cc_tree.specs.Tokens.{Tokens}
use Rattle.cc_pieces.specs.Pieces.{Pieces, keyword, space, spelled, flat}
use Rattle.cc_pieces.specs.Declarators.{int_name, qualifiers}
use Rattle.cc_expression_trees.specs.Laid.{laid}
use Rattle.cc_expression_trees.specs.Parts.{Fits}
use Rattle.cc_expression_trees.specs.Types.{ShowsWords, NoWord, MoreWords, qualifier_words, int_words}
use Rattle.cc_expression_trees.specs.Soft.{IsSoft}
use Rattle.cc_expression_trees.proofs.TypeFitting.{word-apart}

-- ---- the pieces

-- each with a space behind it
abbrev pub leading : List Word → Pieces → Pieces
leading [] ps = ps
leading (x ∷ xs) ps = keyword x ∷ space ∷ leading xs ps

-- with a space between them
abbrev pub spaced : List Word → Pieces → Pieces
spaced [] ps = ps
spaced (x ∷ []) ps = keyword x ∷ ps
spaced (x ∷ y ∷ xs) ps = keyword x ∷ space ∷ spaced (y ∷ xs) ps

pub qualifiers-are : (c v : Bool) (ps : Pieces) → qualifiers c v ps ≡ leading (qualifier_words c v) ps
qualifiers-are true true ps = refl
qualifiers-are true false ps = refl
qualifiers-are false true ps = refl
qualifiers-are false false ps = refl

pub int-is : (i : IntType) (ps : Pieces) → int_name i ps ≡ spaced (int_words i) ps
int-is int.Bool ps = refl
int-is _ ps = refl

-- ---- specifiers that are no attribute's neighbour: words of types and qualifiers, and no structure that is defined

abbrev pub is_plain_word : Word → Bool
is_plain_word x = is_spec_word x && (not (is_extension (spec.Word x)) && not (is_typedef_word (spec.Word x)))

pub qualifiers-plain : (c v : Bool) → list_all is_plain_word (qualifier_words c v) ≡ true
qualifiers-plain true true = refl
qualifiers-plain true false = refl
qualifiers-plain false true = refl
qualifiers-plain false false = refl

pub int-plain : (i : IntType) → list_all is_plain_word (int_words i) ≡ true
int-plain int.Bool = refl
int-plain _ = refl

-- what holds of each of such specifiers
abbrev pub is_closed : At Spec → Bool
is_closed s = not (ends_structure s.node) && not (is_typedef_word s.node)

pub ends-word : (x : Word) → ends_structure (spec.Word x) ≡ false
ends-word x = ap (λ y. ends_open y) (spec_rolls.outs-Word x)

pub words-closed : {xs : List Word} {ss : List (At Spec)} → ShowsWords xs ss → list_all is_plain_word xs ≡ true → list_all is_closed ss ≡ true
words-closed NoWord e = refl
words-closed (MoreWords x xs at ss h) e =
    let f = and-true (is_plain_word x) (list_all is_plain_word xs) e in
    let g = and-true (is_spec_word x) _ f.0 in
    let k = and-true (not (is_extension (spec.Word x))) _ g.1 in
    both-true (is_closed (record { at = at; node = spec.Word x })) (list_all is_closed ss) (rw (ends-word x, k.1) refl) (words-closed h f.1)

pub words-have : {x : Word} {xs : List Word} {ss : List (At Spec)} → ShowsWords (x ∷ xs) ss → list_all is_plain_word (x ∷ xs) ≡ true → have_word ss ≡ true
words-have (MoreWords x xs at ss h) e =
    let f = and-true (is_plain_word x) (list_all is_plain_word xs) e in
    let g = and-true (is_spec_word x) _ f.0 in
    let k = and-true (not (is_extension (spec.Word x))) _ g.1 in
    rw k.0 refl

ends-none : (before behind : List (At Spec)) (s t : At Spec) → list_all is_closed (before ++ s ∷ t ∷ behind) ≡ true → ends_structure s.node ≡ false
ends-none [] behind s t h =
    not-true (ends_structure s.node) (and-true (not (ends_structure s.node)) (not (is_typedef_word s.node)) (and-true (is_closed s) (list_all is_closed (t ∷ behind)) h).0).0
ends-none (x ∷ before) behind s t h = ends-none before behind s t (and-true (is_closed x) (list_all is_closed (before ++ s ∷ t ∷ behind)) h).1

clash : {b : Bool} → b ≡ true → b ≡ false → ⊥
clash h k = cc

pub closed-apart : (specs : List (At Spec)) → list_all is_closed specs ≡ true → AttrsApart specs
closed-apart specs h before behind s t e ends = absurd (clash ends (ends-none before behind s t (subst (λ x. list_all is_closed x ≡ true) e h)))

pub closed-types : (specs : List (At Spec)) → list_all is_closed specs ≡ true → declares_types specs ≡ false
closed-types [] h = refl
closed-types (s ∷ ss) h =
    let f = and-true (is_closed s) (list_all is_closed ss) h in
    let g = and-true (not (ends_structure s.node)) (not (is_typedef_word s.node)) f.0 in
    rw (not-true (is_typedef_word s.node) g.1) (closed-types ss f.1)

-- ---- reading

pub record ReadsWords (xs : List Word) (done : List (At Spec)) (all : Tokens) (ps : Pieces) : Type 0 where
  pub specs : List (At Spec)
  pub shows : ShowsWords xs specs
  pub next : ℕ
  pub is : IsSpecList [] (done ++ specs) all (laid next ps)

none-read : (done : List (At Spec)) (all : Tokens) (at : ℕ) (ps : Pieces) → IsSpecList [] done all (laid at ps) → ReadsWords [] done all ps
none-read done all at ps h = record { specs = []; shows = NoWord; next = at; is = subst (λ ss. IsSpecList [] ss all (laid at ps)) (sym (append-nil done)) h }

-- one more
word-done : (x : Word) (done : List (At Spec)) (all : Tokens) (at : ℕ) (ps : Pieces) → is_plain_word x ≡ true → IsSpecList [] done all (laid at (keyword x ∷ ps)) →
    IsSpecList [] (done ++ record { at = at; node = spec.Word x } ∷ []) all (laid (at + length (spelled (kind.Keyword x))) ps)
word-done x done all at ps e h = MoreSpecs [] done _ all _ _ h (AWord [] x (at, length (spelled (kind.Keyword x))) _ (and-true (is_spec_word x) _ e).0)

more-read : (x : Word) (xs : List Word) (done : List (At Spec)) (all : Tokens) (at : ℕ) (ps : Pieces) → ReadsWords xs (done ++ record { at = at; node = spec.Word x } ∷ []) all ps → ReadsWords (x ∷ xs) done all ps
more-read x xs done all at ps r = record {
  specs = record { at = at; node = spec.Word x } ∷ r.specs;
  shows = MoreWords x xs at r.specs r.shows;
  next = r.next;
  is = subst (λ ss. IsSpecList [] ss all (laid r.next ps)) (append_assoc done (record { at = at; node = spec.Word x } ∷ []) r.specs) r.is;
}

pub leading-read : (xs : List Word) (done : List (At Spec)) (all : Tokens) (at : ℕ) (ps : Pieces) → list_all is_plain_word xs ≡ true → IsSpecList [] done all (laid at (leading xs ps)) → ReadsWords xs done all ps
leading-read [] done all at ps e h = none-read done all at ps h
leading-read (x ∷ xs) done all at ps e h =
    let f = and-true (is_plain_word x) (list_all is_plain_word xs) e in
    more-read x xs done all at ps (leading-read xs _ all (at + length (spelled (kind.Keyword x)) + 1) ps f.1 (word-done x done all at (space ∷ leading xs ps) f.0 h))

pub spaced-read : (xs : List Word) (done : List (At Spec)) (all : Tokens) (at : ℕ) (ps : Pieces) → list_all is_plain_word xs ≡ true → IsSpecList [] done all (laid at (spaced xs ps)) → ReadsWords xs done all ps
spaced-read [] done all at ps e h = none-read done all at ps h
spaced-read (x ∷ []) done all at ps e h =
    let f = and-true (is_plain_word x) true e in
    more-read x [] done all at ps (none-read _ all (at + length (spelled (kind.Keyword x))) ps (word-done x done all at ps f.0 h))
spaced-read (x ∷ y ∷ xs) done all at ps e h =
    let f = and-true (is_plain_word x) (list_all is_plain_word (y ∷ xs)) e in
    more-read x (y ∷ xs) done all at ps (spaced-read (y ∷ xs) _ all (at + length (spelled (kind.Keyword x)) + 1) ps f.1 (word-done x done all at (space ∷ spaced (y ∷ xs) ps) f.0 h))

-- ---- they part

pub leading-fits : (xs : List Word) (ps : Pieces) → Fits ps → Fits (leading xs ps)
leading-fits [] ps f = f
leading-fits (x ∷ xs) ps f = (tt, refl, (refl, leading-fits xs ps f))

pub spaced-fits : (xs : List Word) (ps : Pieces) → IsSoft (flat ps) → Fits ps → Fits (spaced xs ps)
spaced-fits [] ps s f = f
spaced-fits (x ∷ []) ps s f = (tt, word-apart x (flat ps) s, f)
spaced-fits (x ∷ y ∷ xs) ps s f = (tt, refl, (refl, spaced-fits (y ∷ xs) ps s f))
