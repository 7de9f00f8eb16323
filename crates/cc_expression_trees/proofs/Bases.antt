-- The specifiers of a type that is not derived from others are read, and part from one another.
use Rattle.std.proofs.Common.{◌≡◌, ℕ, ◌+◌, Bool, true, false, ◌||◌, not, List, [], ◌∷◌, ◌++◌, length, Some, None, refl, ap, sym, ◌∙◌, subst, append_assoc, slice_get}
use Rattle.std.specs.List.{list_all}
use Rattle.std.proofs.lemmas.List.Folds.{list_all-append, list_any-append}
use Rattle.cc_program.specs.CcNum.declared.int_type.IntType.{IntType}
use Rattle.cc_program.specs.CcNum.declared.int_type.IntType.TheVariants as int
use Rattle.cc_program.specs.CcWords.declared.word.Word.{Word}
use Rattle.cc_program.specs.CcWords.declared.word.Word.TheVariants as w
use Rattle.cc_program.specs.CcWords.Names.{is_name}
use Rattle.cc_lex.proofs.Booleans.{or-true, both-true}
use Rattle.cc_program.specs.declared.types.CType.{CType}
use Rattle.cc_program.specs.declared.types.Shape.{roll-Shape, out-roll-Shape}
use Rattle.cc_program.specs.declared.types.Shape.TheOpen as shape
use Rattle.cc_program.specs.declared.types.Structure.{Structure}
use Rattle.cc_program.proofs.TypeInduction.{with_shape}
use Rattle.cc_tree.specs.declared.at.At.{At}
use Rattle.cc_tree.specs.declared.tree.Spec as spec
use Rattle.cc_tree.specs.declared.tree.Spec.{Spec}
use Rattle.cc_tree.specs.declared.tree.Spec.TheVariants as spec_rolls
use Rattle.cc_tree.specs.Terms.{IsSpecList, MoreSpecs, ANamedStructure, is_extension, have_word, ends_open}
use Rattle.cc_tree.specs.Tokens.{Tokens, Name}
use Rattle.cc_pieces.specs.Pieces.{Pieces, keyword, ident, space, flat}
use Rattle.cc_pieces.specs.Declarators.{int_name, qualifiers}
use Rattle.cc_expression_trees.specs.Laid.{laid}
use Rattle.cc_expression_trees.specs.Parts.{Fits}
use Rattle.cc_expression_trees.specs.Types.{ShowsWords, qualifier_words, int_words, ShowsBase, ShowsVoid, ShowsInt, ShowsStructure}
use Rattle.cc_expression_trees.specs.Soft.{IsSoft}
use Rattle.cc_expression_trees.proofs.TypeFitting.{name-apart}
use Rattle.cc_expression_trees.proofs.Words.{leading, spaced, qualifiers-are, int-is, is_plain_word, qualifiers-plain, int-plain, is_closed, words-closed, words-have, leading-read, spaced-read, leading-fits, spaced-fits}

-- ---- the pieces of words, with qualifiers in front

abbrev pub word_pieces : Bool → Bool → List Word → Pieces → Pieces
word_pieces c v ws ps = leading (qualifier_words c v) (spaced ws ps)

pub void-pieces : (c v : Bool) (ps : Pieces) → qualifiers c v (keyword w.Void ∷ ps) ≡ word_pieces c v (w.Void ∷ []) ps
void-pieces c v ps = qualifiers-are c v (keyword w.Void ∷ ps)

pub int-pieces : (c v : Bool) (i : IntType) (ps : Pieces) → qualifiers c v (int_name i ps) ≡ word_pieces c v (int_words i) ps
int-pieces c v i ps = qualifiers-are c v (int_name i ps) ∙ ap (leading (qualifier_words c v)) (int-is i ps)

abbrev pub is_some_words : List Word → Bool
is_some_words [] = false
is_some_words (x ∷ xs) = true

pub int-some : (i : IntType) → is_some_words (int_words i) ≡ true
int-some int.Bool = refl
int-some _ = refl

some-have : (ws : List Word) (ss : List (At Spec)) → ShowsWords ws ss → is_some_words ws ≡ true → list_all is_plain_word ws ≡ true → have_word ss ≡ true
some-have [] ss h n e = absurd (cc)
some-have (x ∷ xs) ss h n e = words-have h e

or-right : (a b : Bool) → b ≡ true → (a || b) ≡ true
or-right a b h = rw h (or-true a)

pub behind-have : (done ss : List (At Spec)) → have_word ss ≡ true → have_word (done ++ ss) ≡ true
behind-have done ss h = list_any-append (λ s. not (is_extension s.node)) done ss ∙ or-right (have_word done) (have_word ss) h

pub both-closed : (done ss : List (At Spec)) → list_all is_closed done ≡ true → list_all is_closed ss ≡ true → list_all is_closed (done ++ ss) ≡ true
both-closed done ss h k = list_all-append is_closed done ss ∙ both-true (list_all is_closed done) (list_all is_closed ss) h k

-- ---- reading

pub record ReadsPlain (c v : Bool) (ws : List Word) (done : List (At Spec)) (all : Tokens) (ps : Pieces) : Type 0 where
  pub before : List (At Spec)
  pub words : List (At Spec)
  pub shows_before : ShowsWords (qualifier_words c v) before
  pub shows_words : ShowsWords ws words
  pub have : have_word (before ++ words) ≡ true
  pub closed : list_all is_closed (before ++ words) ≡ true
  pub next : ℕ
  pub is : IsSpecList [] (done ++ (before ++ words)) all (laid next ps)

pub plain-read : (c v : Bool) (ws : List Word) (done : List (At Spec)) (all : Tokens) (at : ℕ) (ps : Pieces) → is_some_words ws ≡ true → list_all is_plain_word ws ≡ true →
    IsSpecList [] done all (laid at (word_pieces c v ws ps)) → ReadsPlain c v ws done all ps
plain-read c v ws done all at ps n e h =
    let q = leading-read (qualifier_words c v) done all at (spaced ws ps) (qualifiers-plain c v) h in
    let r = spaced-read ws (done ++ q.specs) all q.next ps e q.is in
    record {
      before = q.specs;
      words = r.specs;
      shows_before = q.shows;
      shows_words = r.shows;
      have = behind-have q.specs r.specs (some-have ws r.specs r.shows n e);
      closed = both-closed q.specs r.specs (words-closed q.shows (qualifiers-plain c v)) (words-closed r.shows e);
      next = r.next;
      is = subst (λ ss. IsSpecList [] ss all (laid r.next ps)) (append_assoc done q.specs r.specs) r.is;
    }

module _ (structures : List Structure) where
  pub record ReadsBase (t : CType) (done : List (At Spec)) (all : Tokens) (ps : Pieces) : Type 0 where
    pub specs : List (At Spec)
    pub shows : ShowsBase structures t specs
    pub have : have_word specs ≡ true
    pub closed : list_all is_closed specs ≡ true
    pub next : ℕ
    pub is : IsSpecList [] (done ++ specs) all (laid next ps)

  pub void-read : (c v : Bool) (done : List (At Spec)) (all : Tokens) (at : ℕ) (ps : Pieces) → IsSpecList [] done all (laid at (qualifiers c v (keyword w.Void ∷ ps))) →
      ReadsBase (with_shape c v (roll-Shape shape.Void)) done all ps
  void-read c v done all at ps h =
      let r = plain-read c v (w.Void ∷ []) done all at ps refl refl (subst (λ qs. IsSpecList [] done all (laid at qs)) (void-pieces c v ps) h) in
      record { specs = r.before ++ r.words; shows = ShowsVoid _ r.before r.words (out-roll-Shape shape.Void) r.shows_before r.shows_words; have = r.have; closed = r.closed; next = r.next; is = r.is }

  pub int-read : (c v : Bool) (i : IntType) (done : List (At Spec)) (all : Tokens) (at : ℕ) (ps : Pieces) → IsSpecList [] done all (laid at (qualifiers c v (int_name i ps))) →
      ReadsBase (with_shape c v (roll-Shape (shape.Int i))) done all ps
  int-read c v i done all at ps h =
      let r = plain-read c v (int_words i) done all at ps (int-some i) (int-plain i) (subst (λ qs. IsSpecList [] done all (laid at qs)) (int-pieces c v i ps) h) in
      record { specs = r.before ++ r.words; shows = ShowsInt _ i r.before r.words (out-roll-Shape (shape.Int i)) r.shows_before r.shows_words; have = r.have; closed = r.closed; next = r.next; is = r.is }

  abbrev pub named_structure : ℕ → Name → At Spec
  named_structure at x = record { at = at; node = spec.Struct (Some x) None [] [] }

  pub structure-closed : (at : ℕ) (x : Name) → is_closed (named_structure at x) ≡ true
  structure-closed at x = rw (ap (λ y. ends_open y) (spec_rolls.outs-Struct (Some x) None [] [])) refl

  pub structure-read : (c v : Bool) (i : ℕ) (s : Structure) (done : List (At Spec)) (all : Tokens) (at : ℕ) (ps : Pieces) → slice_get structures i ≡ Some s →
      IsSpecList [] done all (laid at (qualifiers c v (keyword w.Struct ∷ space ∷ ident s.tag ∷ ps))) → ReadsBase (with_shape c v (roll-Shape (shape.Struct i))) done all ps
  structure-read c v i s done all at ps g h =
      let q = leading-read (qualifier_words c v) done all at (keyword w.Struct ∷ space ∷ ident s.tag ∷ ps) (qualifiers-plain c v)
      (subst (λ qs. IsSpecList [] done all (laid at qs)) (qualifiers-are c v (keyword w.Struct ∷ space ∷ ident s.tag ∷ ps)) h) in
      record {
        specs = q.specs ++ named_structure q.next s.tag ∷ [];
        shows = ShowsStructure _ i s q.specs q.next (out-roll-Shape (shape.Struct i)) g q.shows;
        have = behind-have q.specs (named_structure q.next s.tag ∷ []) refl;
        closed = both-closed q.specs (named_structure q.next s.tag ∷ []) (words-closed q.shows (qualifiers-plain c v)) (both-true (is_closed (named_structure q.next s.tag)) true (structure-closed q.next s.tag) refl);
        next = q.next + 6 + 1 + length s.tag;
        is = subst (λ ss. IsSpecList [] ss all (laid (q.next + 6 + 1 + length s.tag) ps)) (append_assoc done q.specs (named_structure q.next s.tag ∷ []))
            (MoreSpecs [] (done ++ q.specs) _ all _ _ q.is (ANamedStructure [] s.tag (q.next, 6) (q.next + 6 + 1, length s.tag) _));
      }

-- ---- they part

pub void-fits : (c v : Bool) (ps : Pieces) → IsSoft (flat ps) → Fits ps → Fits (qualifiers c v (keyword w.Void ∷ ps))
void-fits c v ps s f = subst Fits (sym (void-pieces c v ps)) (leading-fits (qualifier_words c v) _ (spaced-fits (w.Void ∷ []) ps s f))

pub int-fits : (c v : Bool) (i : IntType) (ps : Pieces) → IsSoft (flat ps) → Fits ps → Fits (qualifiers c v (int_name i ps))
int-fits c v i ps s f = subst Fits (sym (int-pieces c v i ps)) (leading-fits (qualifier_words c v) _ (spaced-fits (int_words i) ps s f))

pub structure-fits : (c v : Bool) (x : Name) (ps : Pieces) → is_name x ≡ true → IsSoft (flat ps) → Fits ps → Fits (qualifiers c v (keyword w.Struct ∷ space ∷ ident x ∷ ps))
structure-fits c v x ps n s f = subst Fits (sym (qualifiers-are c v (keyword w.Struct ∷ space ∷ ident x ∷ ps))) (leading-fits (qualifier_words c v) _ (tt, refl, (refl, (n, name-apart x (flat ps) s, f))))
