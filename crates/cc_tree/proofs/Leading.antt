-- How turns compose, and what the readers of small pieces answer to what stands there.
use Rattle.std.proofs.Common.{◌≡◌, ◌<◌, ◌≤◌, ◌-◌, ℕ, Bool, true, false, List, [], ◌∷◌, Option, Some, None, Result, Ok, refl, ap, ◌∙◌, length, arith, is_some, true≢false}
use Rattle.std.proofs.lemmas.List.{append-nil}
use Rattle.cc_lex.specs.declared.token.Kind.{Kind}
use Rattle.cc_lex.specs.declared.token.Kind.TheVariants as kind
use Rattle.cc_lex.specs.declared.token.Mark.{Mark}
use Rattle.cc_lex.specs.declared.token.Mark.TheVariants as m
use Rattle.cc_words.specs.declared.word.Word.{Word}
use Rattle.cc_tree.specs.declared.at.At.{At}
use Rattle.cc_tree.specs.declared.state.Control.{Control}
use Rattle.cc_tree.specs.declared.state.Frame.{Frame}
use Rattle.cc_tree.specs.declared.stop.Stop.{Stop}
use Rattle.cc_tree.specs.declared.tree.Attr.{Attr}
use Rattle.cc_tree.specs.Machine.{State, Leads, Here, There, turn, turned, stays, hands, state_after, height_of}
use Rattle.cc_tree.specs.Reading.{after, eat, begins_with, name, repeated, separated, in_front, same_mark, ◌>>=◌}
use Rattle.cc_tree.specs.ReadTypes.{attr, attrs, attr_word, attr_argument, attr_words, turns, texts, texts_at, qualifiers, qualifiers_at, tag, begins_attr}
use Rattle.cc_tree.specs.Scopes.{Scope}
use Rattle.cc_tree.specs.Terms.{IsTexts, LastText, MoreText, IsQualifiers, NoQualifier, MoreQualifiers, IsAttrWord, AttrName, AttrCall, IsAttrWords, LastAttrWord, MoreAttrWords, IsAttr, AttrOfNone, AttrOf, IsAttrs, NoAttr, MoreAttrs, IsTag, NoTag, ATag, is_qualifier}
use Rattle.cc_tree.specs.Tokens.{Tokens, Name, Span, mark}
use Rattle.cc_tree.specs.Turns.{Turn, Went}
use Rattle.cc_tree.proofs.ReadingBasics.{after-complete, eat-complete}
use Rattle.cc_tree.proofs.LoopSteps.{repeated-end, repeated-more, separated-last, separated-more}

abbrev pub state : Scope → List Frame → Control → Tokens → State
state scope fs c ts = record { scope = scope; frames = fs; control = c; rest = ts }

module _ (limit : ℕ) where
  pub one : (s t : State) → turn s ≡ Ok t → height_of t.control ≤ limit → Leads limit s t
  one s t e h = There s t t e h (Here t)

  pub then : {s t u : State} → Leads limit s t → Leads limit t u → Leads limit s u
  then (Here s) k = k
  then (There s t u e h more) k = There s t _ e h (then more k)

  -- one turn, given what it leaves
  pub step : (scope : Scope) (fs gs : List Frame) (c : Control) (ts : Tokens) (w : Went) → turned scope fs ts c ≡ Ok (gs, w) → height_of w.control ≤ limit →
      Leads limit (state scope fs c ts) (state_after scope (gs, w))
  unfolding turn
  step scope fs gs c ts w e h = one (state scope fs c ts) (state_after scope (gs, w)) (ap (λ r. r >>= λ x. Ok (state_after scope x)) e) h

-- what a turn leaves, where the frames stay and where one takes what is handed over
pub staying : (fs : List Frame) (r : Turn) (w : Went) → r ≡ Ok w → stays fs r ≡ Ok (fs, w)
staying fs r w e = ap (stays fs) e

pub handing : (give : Frame → Turn) (f : Frame) (fs : List Frame) (ts : Tokens) (w : Went) → give f ≡ Ok w → hands give (f ∷ fs) ts ≡ Ok (fs, w)
handing give f fs ts w e = ap (λ r. r >>= λ t. Ok (fs, t)) e

-- marks

pub after-other : (o n : Mark) (s : Span) (ts : Tokens) → same_mark n o ≡ false → after o (mark n s ∷ ts) ≡ None
unfolding after
after-other o n s ts h = rw h refl

pub eat-complete-in : {A : Type 0} (o : Mark) (s : Span) (ts : Tokens) (f : Tokens → Result A Stop) → (eat o (mark o s ∷ ts) >>= f) ≡ f ts
eat-complete-in o s ts f = rw (eat-complete o s ts) refl

pub begins_with-self : (o : Mark) (s : Span) (ts : Tokens) → begins_with o (mark o s ∷ ts) ≡ true
begins_with-self o s ts = rw (after-complete o s ts) refl

-- literals

abbrev pub is_text : Kind → Bool
is_text (kind.Text b) = true
is_text _ = false

abbrev pub begins_text : Tokens → Bool
begins_text [] = false
begins_text (t ∷ ts) = is_text t.kind

texts_kind : (k : Kind) (all : Tokens) (r : List ℕ × Tokens) → is_text k ≡ false → texts_at all k r ≡ ([], all)
texts_kind (kind.Text b) all r h = absurd (true≢false h)
texts_kind _ all r h = refl

pub no-texts : (ts : Tokens) → begins_text ts ≡ false → texts ts ≡ ([], ts)
no-texts [] h = refl
no-texts (t ∷ ts) h = texts_kind t.kind (t ∷ ts) (texts ts) h

pub texts-complete : {b : List ℕ} {ts us : Tokens} → IsTexts b ts us → begins_text us ≡ false → texts ts ≡ (b, us)
texts-complete (LastText b s us) h = rw (no-texts us h) (ap (λ (c : List ℕ). (c, us)) (append-nil b))
texts-complete (MoreText b c s ts us r) h = rw (texts-complete r h) refl

-- qualifiers

abbrev pub is_qualifier_kind : Kind → Bool
is_qualifier_kind (kind.Keyword q) = is_qualifier q
is_qualifier_kind _ = false

abbrev pub begins_qualifier : Tokens → Bool
begins_qualifier [] = false
begins_qualifier (t ∷ ts) = is_qualifier_kind t.kind

qualifiers_kind : (k : Kind) (all : Tokens) (r : List Word × Tokens) → is_qualifier_kind k ≡ false → qualifiers_at k all r ≡ ([], all)
qualifiers_kind (kind.Keyword q) all r h = rw h refl
qualifiers_kind _ all r h = refl

pub no-qualifiers : (ts : Tokens) → begins_qualifier ts ≡ false → qualifiers ts ≡ ([], ts)
no-qualifiers [] h = refl
no-qualifiers (t ∷ ts) h = qualifiers_kind t.kind (t ∷ ts) (qualifiers ts) h

pub qualifiers-complete : {qs : List Word} {ts us : Tokens} → IsQualifiers qs ts us → begins_qualifier us ≡ false → qualifiers ts ≡ (qs, us)
qualifiers-complete (NoQualifier ts) h = no-qualifiers ts h
qualifiers-complete (MoreQualifiers q qs s ts us e r) h = rw (e, qualifiers-complete r h) refl

-- tags

pub tag-complete : {x : Option Name} {ts : Tokens} {p : Span} {us : Tokens} → IsTag x ts (mark m.LBrace p ∷ us) → tag ts ≡ (x, mark m.LBrace p ∷ us)
unfolding tag
tag-complete {p = p} {us = us} (NoTag _) = refl
tag-complete (ATag x s _) = refl

-- attributes

pub nothing : {A : Type 0} (r : Option A) → is_some r ≡ false → r ≡ None
nothing None h = refl
nothing (Some x) h = absurd (true≢false h)

pub attr_word-complete : {a : Name × Option Name} {ts us : Tokens} → IsAttrWord a ts us → begins_with m.LParen us ≡ false → attr_word ts ≡ Ok (a, us)
unfolding attr_word name after same_mark
attr_word-complete (AttrName x s us) h = ap (attr_argument x us) (nothing (after m.LParen us) h)
attr_word-complete (AttrCall x y s p r q us) h = refl

attr_word-shorter : {a : Name × Option Name} {ts us : Tokens} → IsAttrWord a ts us → length us < length ts
attr_word-shorter (AttrName x s us) = omega arith
attr_word-shorter (AttrCall x y s p r q us) = omega arith

attr_word-begins : {a : Name × Option Name} {ts us : Tokens} → IsAttrWord a ts us → begins_with m.RParen ts ≡ false
unfolding after
attr_word-begins (AttrName x s us) = refl
attr_word-begins (AttrCall x y s p r q us) = refl

attr_words-begin : {ws : List (Name × Option Name)} {ts us : Tokens} → IsAttrWords ws ts us → begins_with m.RParen ts ≡ false
attr_words-begin (LastAttrWord a ts us d) = attr_word-begins d
attr_words-begin (MoreAttrWords a more c ts us vs d r) = attr_word-begins d

attr_words-shorter : {ws : List (Name × Option Name)} {ts us : Tokens} → IsAttrWords ws ts us → length us < length ts
attr_words-shorter (LastAttrWord a ts us d) = attr_word-shorter d
attr_words-shorter (MoreAttrWords a more c ts us vs d r) = omega (arith, attr_word-shorter d, attr_words-shorter r)

comma-opens : (c : Span) (us : Tokens) → begins_with m.LParen (mark m.Comma c ∷ us) ≡ false
unfolding after same_mark
comma-opens c us = refl

attr_words-by : {ws : List (Name × Option Name)} {ts us : Tokens} → IsAttrWords ws ts us → after m.Comma us ≡ None → begins_with m.LParen us ≡ false → (n : ℕ) → length ts < n →
    separated attr_word n ts ≡ Ok (ws, us)
attr_words-by (LastAttrWord a ts us d) c h n e = separated-last attr_word n ts a us (omega (arith, e)) (attr_word-complete d h) c
attr_words-by (MoreAttrWords a more c ts us vs d r) e h n k =
    separated-more attr_word n ts a (mark m.Comma c ∷ us) us (omega (arith, k)) (attr_word-complete d (comma-opens c us)) (after-complete m.Comma c us)
    ∙ ap (in_front a) (attr_words-by r e h (n - 1) (omega (arith, k, attr_word-shorter d)))

attr_words-complete : {ws : List (Name × Option Name)} {ts us : Tokens} (r : Span) → IsAttrWords ws ts (mark m.RParen r ∷ us) → attr_words ts ≡ Ok (ws, mark m.RParen r ∷ us)
unfolding attr_words after same_mark
attr_words-complete {ts = ts} r d = attr_words-by d refl refl (turns ts) (omega arith)

pub attr-complete : {a : At Attr} {ts us : Tokens} → IsAttr a ts us → attr ts ≡ Ok (a, us)
unfolding attr after same_mark
attr-complete (AttrOfNone s p q r t us) = refl
attr-complete (AttrOf words s p q r t ts us d) = rw (attr_words-begin d, attr_words-complete r d) refl

attr-shorter : {a : At Attr} {ts us : Tokens} → IsAttr a ts us → length us < length ts
attr-shorter (AttrOfNone s p q r t us) = omega arith
attr-shorter (AttrOf words s p q r t ts us d) = omega (arith, attr_words-shorter d)

pub attr-begins : {a : At Attr} {ts us : Tokens} → IsAttr a ts us → begins_attr ts ≡ true
unfolding begins_attr
attr-begins (AttrOfNone s p q r t us) = refl
attr-begins (AttrOf words s p q r t ts us d) = refl

attrs-by : {found : List (At Attr)} {ts us : Tokens} → IsAttrs found ts us → begins_attr us ≡ false → (n : ℕ) → length ts < n → repeated begins_attr attr n ts ≡ Ok (found, us)
attrs-by (NoAttr ts) h n k = repeated-end begins_attr attr n ts (omega (arith, k)) h
attrs-by (MoreAttrs a more ts us vs d r) h n k =
    repeated-more begins_attr attr n ts a us (omega (arith, k)) (attr-begins d) (attr-complete d) ∙ ap (in_front a) (attrs-by r h (n - 1) (omega (arith, k, attr-shorter d)))

pub attrs-complete : {found : List (At Attr)} {ts us : Tokens} → IsAttrs found ts us → begins_attr us ≡ false → attrs ts ≡ Ok (found, us)
unfolding attrs
attrs-complete {ts = ts} d h = attrs-by d h (turns ts) (omega arith)
