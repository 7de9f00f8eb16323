-- What constructs begin with.
use Rattle.std.proofs.Common.{◌≡◌, ◌≤◌, ℕ, Bool, true, false, ◌||◌, ◌&&◌, not, List, [], ◌∷◌, ◌++◌, Option, Some, None, refl, ap, sym, ◌∙◌, arith, is_some, true≢false}
use Rattle.cc_lex.specs.declared.token.Kind.{Kind}
use Rattle.cc_lex.specs.declared.token.Kind.TheVariants as kind
use Rattle.cc_lex.specs.declared.token.Mark.{Mark}
use Rattle.cc_lex.specs.declared.token.Mark.TheVariants as m
use Rattle.cc_words.specs.declared.word.Word.{Word}
use Rattle.cc_words.specs.declared.word.Word.TheVariants as w
use Rattle.cc_tree.specs.declared.at.At.{At}
use Rattle.cc_tree.specs.declared.tree.Attr.{Attr}
use Rattle.cc_tree.specs.declared.tree.Declr as declr
use Rattle.cc_tree.specs.declared.tree.Declr.{Declr, fold-roll-Declr}
use Rattle.cc_tree.specs.declared.tree.Declr.TheOpen as one
use Rattle.cc_tree.specs.declared.tree.Declr.TheVariants as declr_rolls
use Rattle.cc_tree.specs.declared.tree.Enumr.{Enumr}
use Rattle.cc_tree.specs.declared.tree.MemberDecl.{MemberDecl}
use Rattle.cc_tree.specs.declared.tree.Param.{Param}
use Rattle.cc_tree.specs.declared.tree.Spec as spec
use Rattle.cc_tree.specs.declared.tree.Spec.TheVariants as spec_rolls
use Rattle.cc_tree.specs.declared.tree.Spec.{Spec}
use Rattle.cc_tree.specs.declared.tree.Tree.{Tree}
use Rattle.cc_tree.specs.Operators.{operand_level}
use Rattle.cc_tree.specs.Reading.{after, after_at, mark_of, same_mark, begins_with}
use Rattle.cc_tree.specs.ReadTypes.{begins_spec, begins_specs, begins_attr, kind_begins_spec, is_keyword_attribute, is_spec_start}
use Rattle.cc_tree.specs.Scopes.{Scope, is_typedef, name_of, declr_name}
use Rattle.cc_tree.specs.Terms.{IsTexts, LastText, MoreText, IsAttr, AttrOf, AttrOfNone, IsTree, AName, ANumber, ACharacter, AText, InParens, ASubscript, ACall, ACallOfNone, AMember, AnArrow, APostfix, APrefix, ASizeOf, ASizeOfType, AnExtension, ACast, ABinary, AChoice, AnAssignment, AComma, IsArgs, FirstArg, MoreArgs, IsSpecs, Specs, IsSpecList, NoSpec, MoreSpecs, IsSpec, AWord, ATypedefName, AnAttr, AStructure, ANamedStructure, AnEnumeration, ANamedEnumeration, IsMembers, FirstMember, MoreMembers, IsMember, AMemberDecl, IsEnumr, AnEnumr, AValuedEnumr, IsDeclrs, FirstDeclr, MoreDeclrs, IsLastComma, NoComma, AComma, IsDeclr, NoName, DeclaredName, DeclrInParens, APointer, AnArray, AnOpenArray, AFunction, IsParamList, FirstParam, MoreParams, IsParam, AParam, is_spec_word, is_extension, is_attr, is_nothing, have_word, ends_structure, ends_open}
use Rattle.cc_tree.specs.Tokens.{Tokens, Name, Span, mark, word, ident, offset}
use Rattle.cc_tree.proofs.CompleteTrees.{type_in_parens}
use Rattle.cc_tree.proofs.GoesOn.{goes_on, goes_on_specs, kind_goes_on_specs, goes_on_declr, kind_goes_on_declr, closes}
use Rattle.cc_tree.specs.TurnTypes.{attrs_apart, no_member}
use Rattle.cc_tree.proofs.Leading.{begins_qualifier, is_qualifier_kind}
use Rattle.cc_tree.proofs.NewNames.{name_of-Nothing}
use Rattle.cc_tree.proofs.ReadingBasics.{same_mark-is}

-- expressions

-- where an expression begins
pub starts : {scope : Scope} {l : ℕ} {e : At Tree} {ts us : Tokens} → IsTree scope l e ts us → e.at ≡ offset ts
starts (AName scope l x s us h) = refl
starts (ANumber scope l n f s us) = refl
starts (ACharacter scope l c s us) = refl
starts (AText scope l b ts us d) = refl
starts (InParens scope l e p q ts us d) = refl
starts (ASubscript scope l a i p q ts us vs h d k) = refl
starts (ACall scope l f es p q ts us vs h d k) = refl
starts (ACallOfNone scope l f p q ts us h d) = refl
starts (AMember scope l e x p s ts us h d) = refl
starts (AnArrow scope l e x p s ts us h d) = refl
starts (APostfix scope l e o p ts us h i d) = refl
starts (APrefix scope l k o e p ts us h i d) = refl
starts (ASizeOf scope l e p ts us h d) = refl
starts (ASizeOfType scope l t s p q ts us h d) = refl
starts (AnExtension scope l e p ts us h d) = refl
starts (ACast scope l t e p q ts us vs h d k) = refl
starts (ABinary scope l k o a b p ts us vs h i d f) = refl
starts (AChoice scope l c a b p q ts us vs ws h d f g) = refl
starts (AnAssignment scope l o a b p ts us vs h i d f) = refl
starts (AComma scope a b p ts us vs d f) = refl

-- the tokens that an expression may begin with
abbrev pub mark_begins_tree : Mark → Bool
mark_begins_tree m.LParen = true
mark_begins_tree o = is_some (operand_level o)

abbrev pub word_begins_tree : Word → Bool
word_begins_tree w.Sizeof = true
word_begins_tree w.Extension = true
word_begins_tree _ = false

abbrev pub kind_begins_tree : Kind → Bool
kind_begins_tree (kind.Punct o) = mark_begins_tree o
kind_begins_tree (kind.Keyword x) = word_begins_tree x
kind_begins_tree _ = true

abbrev pub begins_tree : Tokens → Bool
begins_tree [] = false
begins_tree (t ∷ ts) = kind_begins_tree t.kind

text-begins : {b : List ℕ} {ts us : Tokens} → IsTexts b ts us → begins_tree ts ≡ true
text-begins (LastText b s us) = refl
text-begins (MoreText b c s ts us d) = refl

operand-begins : (o : Mark) (k : ℕ) → operand_level o ≡ Some k → mark_begins_tree o ≡ true
operand-begins m.LParen k e = refl
operand-begins o k e = ap is_some e

pub tree-start : {scope : Scope} {l : ℕ} {e : At Tree} {ts us : Tokens} → IsTree scope l e ts us → begins_tree ts ≡ true
tree-start (AName scope l x s us h) = refl
tree-start (ANumber scope l n f s us) = refl
tree-start (ACharacter scope l c s us) = refl
tree-start (AText scope l b ts us d) = text-begins d
tree-start (InParens scope l e p q ts us d) = refl
tree-start (ASubscript scope l a i p q ts us vs h d k) = tree-start d
tree-start (ACall scope l f es p q ts us vs h d k) = tree-start d
tree-start (ACallOfNone scope l f p q ts us h d) = tree-start d
tree-start (AMember scope l e x p s ts us h d) = tree-start d
tree-start (AnArrow scope l e x p s ts us h d) = tree-start d
tree-start (APostfix scope l e o p ts us h i d) = tree-start d
tree-start (APrefix scope l k o e p ts us h i d) = operand-begins o k i
tree-start (ASizeOf scope l e p ts us h d) = refl
tree-start (ASizeOfType scope l t s p q ts us h d) = refl
tree-start (AnExtension scope l e p ts us h d) = refl
tree-start (ACast scope l t e p q ts us vs h d k) = refl
tree-start (ABinary scope l k o a b p ts us vs h i d f) = tree-start d
tree-start (AChoice scope l c a b p q ts us vs ws h d f g) = tree-start d
tree-start (AnAssignment scope l o a b p ts us vs h i d f) = tree-start d
tree-start (AComma scope a b p ts us vs d f) = tree-start d

-- so another mark doesn't stand there
opens-apart : (n o : Mark) → mark_begins_tree o ≡ false → mark_begins_tree n ≡ true → (b : Bool) → same_mark n o ≡ b → b ≡ false
opens-apart n o h i true e = absurd (true≢false (sym i ∙ ap mark_begins_tree (same_mark-is n o e) ∙ h))
opens-apart n o h i false e = refl

not_after_kind : (o : Mark) (ts : Tokens) (k : Kind) → mark_begins_tree o ≡ false → kind_begins_tree k ≡ true → after_at ts o (mark_of k) ≡ None
not_after_kind o ts (kind.Punct n) h i = rw (opens-apart n o h i (same_mark n o) refl) refl
not_after_kind o ts _ h i = refl

pub not-after : (o : Mark) (ts : Tokens) → mark_begins_tree o ≡ false → begins_tree ts ≡ true → after o ts ≡ None
unfolding after
not-after o [] h i = refl
not-after o (t ∷ ts) h i = not_after_kind o ts t.kind h i

text-specs : {b : List ℕ} {ts us : Tokens} (scope : Scope) → IsTexts b ts us → begins_specs scope ts ≡ false
text-specs scope (LastText b s us) = refl
text-specs scope (MoreText b c s ts us d) = refl

pub tree-begins : {scope : Scope} {l : ℕ} {e : At Tree} {ts us : Tokens} → IsTree scope l e ts us → begins_specs scope ts ≡ false
tree-begins (AName scope l x s us h) = h
tree-begins (ANumber scope l n f s us) = refl
tree-begins (ACharacter scope l c s us) = refl
tree-begins (AText scope l b ts us d) = text-specs scope d
tree-begins (InParens scope l e p q ts us d) = refl
tree-begins (ASubscript scope l a i p q ts us vs h d k) = tree-begins d
tree-begins (ACall scope l f es p q ts us vs h d k) = tree-begins d
tree-begins (ACallOfNone scope l f p q ts us h d) = tree-begins d
tree-begins (AMember scope l e x p s ts us h d) = tree-begins d
tree-begins (AnArrow scope l e x p s ts us h d) = tree-begins d
tree-begins (APostfix scope l e o p ts us h i d) = tree-begins d
tree-begins (APrefix scope l k o e p ts us h i d) = refl
tree-begins (ASizeOf scope l e p ts us h d) = refl
tree-begins (ASizeOfType scope l t s p q ts us h d) = refl
tree-begins (AnExtension scope l e p ts us h d) = tree-begins d
tree-begins (ACast scope l t e p q ts us vs h d k) = refl
tree-begins (ABinary scope l k o a b p ts us vs h i d f) = tree-begins d
tree-begins (AChoice scope l c a b p q ts us vs ws h d f g) = tree-begins d
tree-begins (AnAssignment scope l o a b p ts us vs h i d f) = tree-begins d
tree-begins (AComma scope a b p ts us vs d f) = tree-begins d

-- a unary expression doesn't begin with a type name in parentheses

text-parens : {b : List ℕ} {ts us : Tokens} → IsTexts b ts us → after m.LParen ts ≡ None
unfolding after
text-parens (LastText b s us) = refl
text-parens (MoreText b c s ts us d) = refl

prefix-parens : (scope : Scope) (o : Mark) (k : ℕ) (p : Span) (ts : Tokens) → operand_level o ≡ Some k → type_in_parens scope (after m.LParen (mark o p ∷ ts)) ≡ false
unfolding after same_mark
prefix-parens scope m.LParen k p ts e = absurd (true≢false (sym (ap is_some e)))
prefix-parens scope _ k p ts e = refl

pub parens-apart : {scope : Scope} {l : ℕ} {e : At Tree} {ts us : Tokens} → IsTree scope l e ts us → 14 ≤ l → type_in_parens scope (after m.LParen ts) ≡ false
unfolding after same_mark
parens-apart (AName scope l x s us h) g = refl
parens-apart (ANumber scope l n f s us) g = refl
parens-apart (ACharacter scope l c s us) g = refl
parens-apart (AText scope l b ts us d) g = ap (type_in_parens scope) (text-parens d)
parens-apart (InParens scope l e p q ts us d) g = tree-begins d
parens-apart (ASubscript scope l a i p q ts us vs h d k) g = parens-apart d (omega arith)
parens-apart (ACall scope l f es p q ts us vs h d k) g = parens-apart d (omega arith)
parens-apart (ACallOfNone scope l f p q ts us h d) g = parens-apart d (omega arith)
parens-apart (AMember scope l e x p s ts us h d) g = parens-apart d (omega arith)
parens-apart (AnArrow scope l e x p s ts us h d) g = parens-apart d (omega arith)
parens-apart (APostfix scope l e o p ts us h i d) g = parens-apart d (omega arith)
parens-apart (APrefix scope l k o e p ts us h i d) g = prefix-parens scope o k p ts i
parens-apart (ASizeOf scope l e p ts us h d) g = refl
parens-apart (ASizeOfType scope l t s p q ts us h d) g = refl
parens-apart (AnExtension scope l e p ts us h d) g = refl
parens-apart (ACast scope l t e p q ts us vs h d k) g = absurd (omega (arith, g, h))
parens-apart (ABinary scope l k o a b p ts us vs h i d f) g = parens-apart d (omega (arith, g, h))
parens-apart (AChoice scope l c a b p q ts us vs ws h d f n) g = absurd (omega (arith, g, h))
parens-apart (AnAssignment scope l o a b p ts us vs h i d f) g = absurd (omega (arith, g, h))
parens-apart (AComma scope a b p ts us vs d f) g = absurd (omega (arith, g))

-- arguments
pub args-start : {scope : Scope} {es : List (At Tree)} {ts us : Tokens} → IsArgs scope es ts us → begins_tree ts ≡ true
args-start (FirstArg scope e ts us d) = tree-start d
args-start (MoreArgs scope es e c ts us vs ds d) = args-start ds

-- specifiers

spec_kind_apart : (scope : Scope) (o : Mark) (ts : Tokens) (k : Kind) → kind_begins_spec scope k ≡ true → after_at ts o (mark_of k) ≡ None
spec_kind_apart scope o ts (kind.Punct n) h = absurd (true≢false (sym h))
spec_kind_apart scope o ts _ h = refl

-- a mark doesn't stand where a specifier begins
pub spec-not-after : (scope : Scope) (o : Mark) (ts : Tokens) → begins_spec scope ts ≡ true → after o ts ≡ None
unfolding begins_spec after
spec-not-after scope o [] h = refl
spec-not-after scope o (t ∷ ts) h = spec_kind_apart scope o ts t.kind h

spec_word_starts : (x : Word) → is_spec_word x ≡ true → is_spec_start x ≡ true
spec_word_starts w.Struct h = refl
spec_word_starts w.Enum h = refl
spec_word_starts w.Attribute h = refl
spec_word_starts _ h = h

pub spec-begins : {scope : Scope} {s : At Spec} {ts us : Tokens} → IsSpec scope s ts us → begins_spec scope ts ≡ true
unfolding begins_spec
spec-begins (AWord scope x s us h) = spec_word_starts x h
spec-begins (ATypedefName scope x s us h) = h
spec-begins (AnAttr scope a ts us d) = attribute-begins scope d
  where
    attribute-begins : (scope : Scope) {a : At Attr} {ts us : Tokens} → IsAttr a ts us → begins_spec scope ts ≡ true
    attribute-begins scope (AttrOfNone s p q r t us) = refl
    attribute-begins scope (AttrOf words s p q r t ts us d) = refl
spec-begins (AStructure scope tag ms a b s p q t0 t1 t2 t3 t4 da dt dm db) = refl
spec-begins (ANamedStructure scope x s p us) = refl
spec-begins (AnEnumeration scope tag es s p q ts us vs ws dt de dl) = refl
spec-begins (ANamedEnumeration scope x s p us) = refl

-- no attribute stands where another specifier begins
pub attr-apart : {scope : Scope} {s : At Spec} {ts us : Tokens} → IsSpec scope s ts us → is_attr s.node ≡ false → begins_attr ts ≡ false
unfolding begins_attr
attr-apart (AWord scope x s us h) n = word-apart x h
  where
    word-apart : (x : Word) → is_spec_word x ≡ true → is_keyword_attribute (kind.Keyword x) ≡ false
    word-apart w.Attribute h = absurd (true≢false (sym h))
    word-apart _ h = refl
attr-apart (ATypedefName scope x s us h) n = refl
attr-apart (AnAttr scope a ts us d) n = absurd (true≢false n)
attr-apart (AStructure scope tag ms a b s p q t0 t1 t2 t3 t4 da dt dm db) n = refl
attr-apart (ANamedStructure scope x s p us) n = refl
attr-apart (AnEnumeration scope tag es s p q ts us vs ws dt de dl) n = refl
attr-apart (ANamedEnumeration scope x s p us) n = refl

extension-both : (scope : Scope) (k : Kind) (ts : Tokens) → begins_specs scope (record { at = 0; len = 0; kind = k } ∷ ts) ≡ true → kind_begins_spec scope k ≡ true
extension-both scope (kind.Keyword w.Extension) ts h = refl
extension-both scope (kind.Keyword _) ts h = h
extension-both scope (kind.Ident x) ts h = h
extension-both scope _ ts h = h

pub specs-spec : (scope : Scope) (ts : Tokens) → begins_specs scope ts ≡ true → begins_spec scope ts ≡ true
unfolding begins_spec
specs-spec scope [] h = h
specs-spec scope (t ∷ ts) h = extension-both scope t.kind ts h

word-specs : (scope : Scope) (x : Word) (s : Span) (vs : Tokens) → is_spec_word x ≡ true → (not (is_extension (spec.Word x)) || begins_specs scope vs) ≡ true → begins_specs scope (word x s ∷ vs) ≡ true
word-specs scope w.Extension s vs h i = i
word-specs scope w.Struct s vs h i = absurd (true≢false (sym h))
word-specs scope w.Enum s vs h i = absurd (true≢false (sym h))
word-specs scope w.Attribute s vs h i = absurd (true≢false (sym h))
word-specs scope _ s vs h i = h

attr-specs : (scope : Scope) {a : At Attr} {ts us : Tokens} → IsAttr a ts us → begins_specs scope ts ≡ true
attr-specs scope (AttrOfNone s p q r t us) = refl
attr-specs scope (AttrOf words s p q r t ts us d) = refl

spec-specs : {scope : Scope} {s : At Spec} {ts us : Tokens} → IsSpec scope s ts us → (not (is_extension s.node) || begins_specs scope us) ≡ true → begins_specs scope ts ≡ true
spec-specs (AWord scope x s us h) i = word-specs scope x s us h i
spec-specs (ATypedefName scope x s us h) i = h
spec-specs (AnAttr scope a ts us d) i = attr-specs scope d
spec-specs (AStructure scope tag ms a b s p q t0 t1 t2 t3 t4 da dt dm db) i = refl
spec-specs (ANamedStructure scope x s p us) i = refl
spec-specs (AnEnumeration scope tag es s p q ts us vs ws dt de dl) i = refl
spec-specs (ANamedEnumeration scope x s p us) i = refl

or_assoc : (a b c : Bool) → ((a || b) || c) ≡ (a || (b || c))
or_assoc true b c = refl
or_assoc false b c = refl

or_none : (a : Bool) → (a || false) ≡ a
or_none true = refl
or_none false = refl

have_word-behind : (ss : List (At Spec)) (s : At Spec) → have_word (ss ++ s ∷ []) ≡ (have_word ss || not (is_extension s.node))
have_word-behind [] s = or_none (not (is_extension s.node))
have_word-behind (x ∷ ss) s = ap (λ b. not (is_extension x.node) || b) (have_word-behind ss s) ∙ sym (or_assoc (not (is_extension x.node)) (have_word ss) (not (is_extension s.node)))

-- a word among them, or specifiers behind them
list-specs : {scope : Scope} {ss : List (At Spec)} {ts us : Tokens} → IsSpecList scope ss ts us → (have_word ss || begins_specs scope us) ≡ true → begins_specs scope ts ≡ true
list-specs (NoSpec scope ts) h = h
list-specs (MoreSpecs scope ss s ts us vs dl ds) h = list-specs dl (either (have_word ss) (not (is_extension s.node) || begins_specs scope vs) (begins_specs scope us)
    (sym (or_assoc (have_word ss) (not (is_extension s.node)) (begins_specs scope vs)) ∙ ap (λ b. b || begins_specs scope vs) (sym (have_word-behind ss s)) ∙ h) (spec-specs ds))
  where
    either : (a b c : Bool) → (a || b) ≡ true → (b ≡ true → c ≡ true) → (a || c) ≡ true
    either true b c h k = refl
    either false b c h k = k h

pub specs-begin : {scope : Scope} {ss : List (At Spec)} {ts us : Tokens} → IsSpecs scope ss ts us → begins_specs scope ts ≡ true
specs-begin (Specs scope ss ts us d h a) = list-specs d (ap (λ b. b || begins_specs scope us) h)

pub specs-start : {scope : Scope} {ss : List (At Spec)} {ts us : Tokens} → IsSpecs scope ss ts us → begins_spec scope ts ≡ true
specs-start {scope = scope} {ts = ts} d = specs-spec scope ts (specs-begin d)

-- declarators: what doesn't stand where one begins, given that it doesn't behind it, or that one is there

module _ (P : Scope → Tokens → Bool)
    (star : (scope : Scope) (p : Span) (ts : Tokens) → P scope (mark m.Star p ∷ ts) ≡ false)
    (paren : (scope : Scope) (p : Span) (ts : Tokens) → P scope (mark m.LParen p ∷ ts) ≡ false)
    (bracket : (scope : Scope) (p : Span) (ts : Tokens) → P scope (mark m.LBracket p ∷ ts) ≡ false)
    (name : (scope : Scope) (x : Name) (s : Span) (ts : Tokens) → is_typedef scope x ≡ false → P scope (ident x s ∷ ts) ≡ false) where
  declr_keeps : {scope : Scope} {b : Bool} {d : At Declr} {ts us : Tokens} → IsDeclr scope b d ts us → P scope us ≡ false → P scope ts ≡ false
  declr_keeps (NoName scope b ts) h = h
  declr_keeps (DeclaredName scope b x s us i) h = name scope x s us i
  declr_keeps (DeclrInParens scope b d p q ts us n k) h = paren scope p ts
  declr_keeps (APointer scope qs d p ts us vs q k) h = star scope p ts
  declr_keeps (AnArray scope b d i p q ts us vs k t) h = declr_keeps k (bracket scope p us)
  declr_keeps (AnOpenArray scope b d p q ts us k) h = declr_keeps k (bracket scope p (mark m.RBracket q ∷ us))
  declr_keeps (AFunction scope b d ps p q ts us vs k t) h = declr_keeps k (paren scope p us)

  declr_apart : {scope : Scope} {b : Bool} {d : At Declr} {ts us : Tokens} → IsDeclr scope b d ts us → is_nothing d.node ≡ false → P scope ts ≡ false
  declr_apart (NoName scope b ts) h = absurd (true≢false h)
  declr_apart (DeclaredName scope b x s us i) h = name scope x s us i
  declr_apart (DeclrInParens scope b d p q ts us n k) h = paren scope p ts
  declr_apart (APointer scope qs d p ts us vs q k) h = star scope p ts
  declr_apart (AnArray scope b d i p q ts us vs k t) h = declr_keeps k (bracket scope p us)
  declr_apart (AnOpenArray scope b d p q ts us k) h = declr_keeps k (bracket scope p (mark m.RBracket q ∷ us))
  declr_apart (AFunction scope b d ps p q ts us vs k t) h = declr_keeps k (paren scope p us)

closes-mark : (scope : Scope) (o : Mark) (p : Span) (ts : Tokens) → same_mark o m.RParen ≡ false → closes scope (mark o p ∷ ts) ≡ false
unfolding after begins_spec
closes-mark scope o p ts h = rw h refl

closes-name : (scope : Scope) (x : Name) (s : Span) (ts : Tokens) → is_typedef scope x ≡ false → closes scope (ident x s ∷ ts) ≡ false
unfolding after begins_spec
closes-name scope x s ts h = h

closes-star : (scope : Scope) (p : Span) (ts : Tokens) → closes scope (mark m.Star p ∷ ts) ≡ false
unfolding same_mark
closes-star scope p ts = closes-mark scope m.Star p ts refl

closes-paren : (scope : Scope) (p : Span) (ts : Tokens) → closes scope (mark m.LParen p ∷ ts) ≡ false
unfolding same_mark
closes-paren scope p ts = closes-mark scope m.LParen p ts refl

closes-bracket : (scope : Scope) (p : Span) (ts : Tokens) → closes scope (mark m.LBracket p ∷ ts) ≡ false
unfolding same_mark
closes-bracket scope p ts = closes-mark scope m.LBracket p ts refl

pub declr-closes : {scope : Scope} {b : Bool} {d : At Declr} {ts us : Tokens} → IsDeclr scope b d ts us → is_nothing d.node ≡ false → closes scope ts ≡ false
declr-closes = declr_apart closes closes-star closes-paren closes-bracket closes-name

pub declr-specs : {scope : Scope} {b : Bool} {d : At Declr} {ts us : Tokens} → IsDeclr scope b d ts us → is_nothing d.node ≡ false → goes_on_specs scope ts ≡ false
declr-specs = declr_apart goes_on_specs (λ scope p ts. refl) (λ scope p ts. refl) (λ scope p ts. refl) (λ scope x s ts h. h)

pub declr-specs-kept : {scope : Scope} {b : Bool} {d : At Declr} {ts us : Tokens} → IsDeclr scope b d ts us → goes_on_specs scope us ≡ false → goes_on_specs scope ts ≡ false
declr-specs-kept = declr_keeps goes_on_specs (λ scope p ts. refl) (λ scope p ts. refl) (λ scope p ts. refl) (λ scope x s ts h. h)

pub declr-qualifiers : {scope : Scope} {b : Bool} {d : At Declr} {ts us : Tokens} → IsDeclr scope b d ts us → begins_qualifier us ≡ false → begins_qualifier ts ≡ false
declr-qualifiers = declr_keeps (λ scope ts. begins_qualifier ts) (λ scope p ts. refl) (λ scope p ts. refl) (λ scope p ts. refl) (λ scope x s ts h. refl)

-- where a declarator begins
pub declr-starts : {scope : Scope} {b : Bool} {d : At Declr} {ts us : Tokens} → IsDeclr scope b d ts us → d.at ≡ offset ts
declr-starts (NoName scope b ts) = refl
declr-starts (DeclaredName scope b x s us i) = refl
declr-starts (DeclrInParens scope b d p q ts us n k) = refl
declr-starts (APointer scope qs d p ts us vs q k) = refl
declr-starts (AnArray scope b d i p q ts us vs k t) = refl
declr-starts (AnOpenArray scope b d p q ts us k) = refl
declr-starts (AFunction scope b d ps p q ts us vs k t) = refl

pub named : {scope : Scope} {b : Bool} {d : At Declr} {ts us : Tokens} (x : Name) → IsDeclr scope b d ts us → name_of d.node ≡ Some x → is_nothing d.node ≡ false
named x (NoName scope b ts) e = absurd (true≢false (sym (ap is_some (sym name_of-Nothing ∙ e))))
named x (DeclaredName scope b y s us i) e = refl
named x (DeclrInParens scope b d p q ts us n k) e = refl
named x (APointer scope qs d p ts us vs q k) e = refl
named x (AnArray scope b d i p q ts us vs k t) e = refl
named x (AnOpenArray scope b d p q ts us k) e = refl
named x (AFunction scope b d ps p q ts us vs k t) e = refl

-- parameters, members and enumeration constants

param-begins : {scope : Scope} {p : At Param} {ts us : Tokens} → IsParam scope p ts us → begins_spec scope ts ≡ true
param-begins (AParam scope ss d ts us vs k n) = specs-start k

pub params-begin : {scope : Scope} {ps : List (At Param)} {ts us : Tokens} → IsParamList scope ps ts us → begins_spec scope ts ≡ true
params-begin (FirstParam scope p ts us d) = param-begins d
params-begin (MoreParams scope ps p c ts us vs ds d) = params-begin ds

pub member-begins : {scope : Scope} {d : At MemberDecl} {ts us : Tokens} → IsMember scope d ts us → begins_spec scope ts ≡ true
member-begins (AMemberDecl scope ss ds q ts us vs k n) = specs-start k

pub no-brace-enumr : {scope : Scope} {e : At Enumr} {ts us : Tokens} → IsEnumr scope e ts us → after m.RBrace ts ≡ None
unfolding after
no-brace-enumr (AnEnumr scope x s us h) = refl
no-brace-enumr (AValuedEnumr scope x e s p ts us h d) = refl

no_member-behind : (ds : List (At MemberDecl)) (d : At MemberDecl) → no_member (ds ++ d ∷ []) ≡ false
no_member-behind [] d = refl
no_member-behind (x ∷ ds) d = refl

pub some-members : {scope : Scope} {ds : List (At MemberDecl)} {ts us : Tokens} → IsMembers scope ds ts us → no_member ds ≡ false
some-members (FirstMember scope d ts us k) = refl
some-members (MoreMembers scope ds d ts us vs k n) = no_member-behind ds d

-- attributes behind the brace of a structure

abbrev pub ends_last : Bool → List (At Spec) → Bool
ends_last b [] = b
ends_last b (s ∷ ss) = ends_last (ends_structure s.node) ss

pub ends-behind : (b : Bool) (ss : List (At Spec)) (s : At Spec) → ends_last b (ss ++ s ∷ []) ≡ ends_structure s.node
ends-behind b [] s = refl
ends-behind b (x ∷ ss) s = ends-behind (ends_structure x.node) ss s

both : (a b : Bool) → (a && b) ≡ true → (a ≡ true) × (b ≡ true)
both true b h = (refl, h)
both false b h = absurd (true≢false (sym h))

pub apart-behind : (b : Bool) (ss : List (At Spec)) (s : At Spec) → attrs_apart b (ss ++ s ∷ []) ≡ true → (attrs_apart b ss ≡ true) × (not (ends_last b ss && is_attr s.node) ≡ true)
apart-behind b [] s h = (refl, (both (not (b && is_attr s.node)) true h).0)
apart-behind b (x ∷ ss) s h =
    let c : (not (b && is_attr x.node) ≡ true) × (attrs_apart (ends_structure x.node) (ss ++ s ∷ []) ≡ true) = both (not (b && is_attr x.node)) (attrs_apart (ends_structure x.node) (ss ++ s ∷ [])) h in
    let r : (attrs_apart (ends_structure x.node) ss ≡ true) × (not (ends_last (ends_structure x.node) ss && is_attr s.node) ≡ true) = apart-behind (ends_structure x.node) ss s c.1 in
    (rw (c.0, r.0) refl, r.1)

not-true : (b : Bool) → not b ≡ true → b ≡ false
not-true true h = absurd (true≢false (sym h))
not-true false h = refl

pub attr-between : {scope : Scope} {s : At Spec} {ts us : Tokens} (b : Bool) → IsSpec scope s ts us → not (b && is_attr s.node) ≡ true → b ≡ true → begins_attr ts ≡ false
attr-between {s = s} true d h e = attr-apart d (not-true (is_attr s.node) h)
attr-between false d h e = absurd (true≢false (sym e))

pub declrs-specs : {scope : Scope} {ds : List (At Declr)} {ts us : Tokens} → IsDeclrs scope ds ts us → goes_on_specs scope ts ≡ false
declrs-specs (FirstDeclr scope d x ts us k e) = declr-specs k (named x k e)
declrs-specs (MoreDeclrs scope ds d x c ts us vs ks k e) = declrs-specs ks

-- what doesn't stand where specifiers and declarators don't go on

keyword_no_attr : (x : Word) → is_spec_start x ≡ false → is_keyword_attribute (kind.Keyword x) ≡ false
keyword_no_attr w.Attribute h = absurd (true≢false h)
keyword_no_attr _ h = refl

kind_no_attr : (scope : Scope) (k : Kind) → kind_goes_on_specs scope k ≡ false → is_keyword_attribute k ≡ false
kind_no_attr scope (kind.Keyword x) h = keyword_no_attr x h
kind_no_attr scope _ h = refl

pub no-attr : (scope : Scope) (us : Tokens) → goes_on_specs scope us ≡ false → begins_attr us ≡ false
unfolding begins_attr
no-attr scope [] h = refl
no-attr scope (t ∷ ts) h = kind_no_attr scope t.kind h

kind_no_qualifier : (scope : Scope) (k : Kind) → kind_goes_on_declr scope k ≡ false → is_qualifier_kind k ≡ false
kind_no_qualifier scope (kind.Keyword q) h = h
kind_no_qualifier scope _ h = refl

pub no-qualifier : (scope : Scope) (us : Tokens) → goes_on_declr scope us ≡ false → begins_qualifier us ≡ false
no-qualifier scope [] h = refl
no-qualifier scope (t ∷ ts) h = kind_no_qualifier scope t.kind h

or_true : (a b : Bool) → b ≡ true → (a || b) ≡ true
or_true true b h = refl
or_true false b h = h

pub closes-spec : (scope : Scope) (ts : Tokens) → begins_spec scope ts ≡ true → closes scope ts ≡ true
closes-spec scope ts h = or_true (begins_with m.RParen ts) (begins_spec scope ts) h

pub last-ends : {q : Span} {vs ws : Tokens} → IsLastComma vs (mark m.RBrace q ∷ ws) → goes_on 2 vs ≡ false
last-ends (NoComma _) = refl
last-ends (AComma s _) = refl

pub comma-unassigned : (c : Span) (us : Tokens) → after m.Assign (mark m.Comma c ∷ us) ≡ None
unfolding after same_mark
comma-unassigned c us = refl

pub last-unassigned : {q : Span} {vs ws : Tokens} → IsLastComma vs (mark m.RBrace q ∷ ws) → after m.Assign vs ≡ None
unfolding after same_mark
last-unassigned (NoComma _) = refl
last-unassigned (AComma s _) = refl

pub structure-ends : (tag : Option Name) (ms : List (At MemberDecl)) (a b : List (At Attr)) → ends_structure (spec.Struct tag (Some ms) a b) ≡ true
structure-ends tag ms a b = ap (λ x. ends_open x) (spec_rolls.outs-Struct tag (Some ms) a b)
