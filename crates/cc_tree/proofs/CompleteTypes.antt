-- The machine reads what the productions of type names, specifiers and declarators spell: a lemma for each
-- production, over what its parts lead to.
use Rattle.std.proofs.Common.{◌≡◌, ◌≤◌, ℕ, suc, Bool, true, false, not, List, [], ◌∷◌, ◌++◌, Option, Some, None, Ok, refl, ap, sym, ◌∙◌, arith, max, is_some, true≢false, append_assoc}
use Rattle.cc_lex.specs.declared.token.Kind.{Kind}
use Rattle.cc_lex.specs.declared.token.Kind.TheVariants as kind
use Rattle.cc_lex.specs.declared.token.Mark.{Mark}
use Rattle.cc_lex.specs.declared.token.Mark.TheVariants as m
use Rattle.cc_words.specs.declared.word.Word.{Word}
use Rattle.cc_words.specs.declared.word.Word.TheVariants as w
use Rattle.cc_tree.specs.declared.at.At.{At}
use Rattle.cc_tree.specs.declared.state.Control.TheVariants as control
use Rattle.cc_tree.specs.declared.state.DeclrFrame.TheVariants as for_declr
use Rattle.cc_tree.specs.declared.state.Enumeration.{Enumeration}
use Rattle.cc_tree.specs.declared.state.Frame.{Frame}
use Rattle.cc_tree.specs.declared.state.Frame.TheVariants as frame
use Rattle.cc_tree.specs.declared.state.Function.{Function}
use Rattle.cc_tree.specs.declared.state.Members.{Members}
use Rattle.cc_tree.specs.declared.state.PartFrame.TheVariants as for_part
use Rattle.cc_tree.specs.declared.state.Scoping.TheVariants as scoping
use Rattle.cc_tree.specs.declared.state.SpecsFrame.TheVariants as for_specs
use Rattle.cc_tree.specs.declared.state.Structure.{Structure}
use Rattle.cc_tree.specs.declared.state.Tall.{Tall}
use Rattle.cc_tree.specs.declared.tree.Attr.{Attr}
use Rattle.cc_tree.specs.declared.tree.Declr as declr
use Rattle.cc_tree.specs.declared.tree.Declr.{Declr}
use Rattle.cc_tree.specs.declared.tree.Enumr.{Enumr}
use Rattle.cc_tree.specs.declared.tree.MemberDecl.{MemberDecl}
use Rattle.cc_tree.specs.declared.tree.Param.{Param}
use Rattle.cc_tree.specs.declared.tree.Params as params
use Rattle.cc_tree.specs.declared.tree.Params.{Params}
use Rattle.cc_tree.specs.declared.tree.Spec as spec
use Rattle.cc_tree.specs.declared.tree.Spec.{Spec}
use Rattle.cc_tree.specs.declared.tree.Tree.{Tree}
use Rattle.cc_tree.specs.Height.{height, heights, height_of_declr, height_of_spec, height_of_param, height_of_params, height_of_member, height_of_enumr, specs_height}
use Rattle.cc_tree.specs.Machine.{Leads, Here, turned, stays, state_after, height_of}
use Rattle.cc_tree.specs.Reading.{after, after_at, first_mark, mark_before, mark_of, name, same_mark}
use Rattle.cc_tree.specs.ReadTypes.{begins_spec, is_spec_start, begins_attr, qualifiers, tag}
use Rattle.cc_tree.specs.Scopes.{Scope, is_typedef, name_of}
use Rattle.cc_tree.specs.Terms.{IsQualifiers, IsAttr, AttrOf, AttrOfNone, IsAttrs, NoAttr, IsTag, NoTag, ATag, IsLastComma, NoComma, AComma, is_spec_word, have_word, is_nothing}
use Rattle.cc_tree.specs.Tokens.{Tokens, Name, Span, mark, word, ident, at, offset}
use Rattle.cc_tree.specs.Turns.{Went, on, opens, tall}
use Rattle.cc_tree.specs.TurnTypes as types
use Rattle.cc_tree.specs.TurnTypes.{attrs_apart}
use Rattle.cc_tree.proofs.CompleteTrees.{◌▹◌, turns, Reads, Handed, handed, ReadsType}
use Rattle.cc_tree.proofs.GoesOn.{goes_on, goes_on_declr, kind_goes_on_declr, goes_on_specs, kind_goes_on_specs, closes, begins_declr, kind_begins_declr, mark_begins_declr}
use Rattle.cc_tree.proofs.HeightSteps as high
use Rattle.cc_tree.proofs.Leading.{state, begins_qualifier, qualifiers-complete, tag-complete, attr-complete, attrs-complete}

-- declarators

-- a declarator is read where one is wanted, and handed over
abbrev pub ReadsDeclr : ℕ → Scope → At Declr → Tokens → Tokens → Type 0
ReadsDeclr limit scope d ts us = (fs : List Frame) → Leads limit (state scope fs control.Declr ts) (state scope fs (control.HaveDeclr (tall d (height_of_declr d.node))) us)

-- a direct declarator is read up to where something may stand behind it, and one that begins with `*` to its end
pub data DeclrRead (limit : ℕ) (scope : Scope) (direct : Bool) (d : At Declr) (ts us : Tokens) : Type 0 where
  Direct : ((fs : List Frame) → begins_declr scope us ≡ false → Leads limit (state scope fs control.Declr ts) (state scope fs (control.Suffix (tall d (height_of_declr d.node))) us)) →
      DeclrRead limit scope direct d ts us
  Pointed : direct ≡ false → ((fs : List Frame) → goes_on_declr scope us ≡ false → Leads limit (state scope fs control.Declr ts) (state scope fs (control.HaveDeclr (tall d (height_of_declr d.node))) us)) →
      DeclrRead limit scope direct d ts us

-- specifiers are read up to where others may follow, and to their end
abbrev pub ReadsSpecList : ℕ → Scope → List (At Spec) → Tokens → Tokens → Type 0
ReadsSpecList limit scope ss ts us = (fs : List Frame) → Leads limit (state scope fs (control.Specs (tall [] 0)) ts) (state scope fs (control.Specs (tall ss (specs_height ss))) us)

abbrev pub ReadsSpecs : ℕ → Scope → List (At Spec) → Tokens → Tokens → Type 0
ReadsSpecs limit scope ss ts us = (fs : List Frame) → Leads limit (state scope fs (control.Specs (tall [] 0)) ts) (state scope fs (control.HaveSpecs (tall ss (specs_height ss))) us)

-- a specifier is read behind any others
abbrev pub ReadsSpec : ℕ → Scope → At Spec → Tokens → Tokens → Type 0
ReadsSpec limit scope s ts us = (outer : List (At Spec)) (h : ℕ) (fs : List Frame) →
    Leads limit (state scope fs (control.Specs (tall outer h)) ts) (state scope fs (control.Specs (tall (outer ++ s ∷ []) (max h (height_of_spec s.node)))) us)

-- parameters are read behind others, whatever stands behind them
abbrev pub ReadsParam : ℕ → Scope → At Param → Tokens → Tokens → Type 0
ReadsParam limit scope p ts us = (f : Function) (fs : List Frame) (w : Went) →
    types.param_at (record { declr = f.declr; params = f.params ++ p ∷ []; height = max f.height (height_of_param p.node) }) us (after m.Comma us) ≡ Ok w → height_of w.control ≤ limit →
    Leads limit (state scope (frame.Specs (for_specs.Param f (offset ts)) ∷ fs) (control.Specs (tall [] 0)) ts) (state_after scope (fs, w))

abbrev pub ReadsParams : ℕ → Scope → List (At Param) → Tokens → Tokens → Type 0
ReadsParams limit scope ps ts us = (d : At Declr) (h : ℕ) (fs : List Frame) (w : Went) →
    types.param_at (record { declr = d; params = ps; height = max h (heights height_of_param ps) }) us (after m.Comma us) ≡ Ok w → height_of w.control ≤ limit →
    Leads limit (state scope (frame.Specs (for_specs.Param (record { declr = d; params = []; height = h }) (offset ts)) ∷ fs) (control.Specs (tall [] 0)) ts) (state_after scope (fs, w))

-- members are read behind others
abbrev pub with_all : Structure → List (At MemberDecl) → ℕ → Structure
with_all st ds h = record { outer = st.outer; at = st.at; tag = st.tag; attrs = st.attrs; members = st.members ++ ds; height = max st.height h }

abbrev pub ReadsMembers : ℕ → Scope → List (At MemberDecl) → Tokens → Tokens → Type 0
ReadsMembers limit scope ds ts us = (st : Structure) (fs : List Frame) →
    Leads limit (state scope fs (control.Structure st) ts) (state scope fs (control.Structure (with_all st ds (heights height_of_member ds))) us)

abbrev pub ReadsMember : ℕ → Scope → At MemberDecl → Tokens → Tokens → Type 0
ReadsMember limit scope d ts us = (st : Structure) (fs : List Frame) →
    Leads limit (state scope fs (control.Structure st) ts) (state scope fs (control.Structure (with_all st (d ∷ []) (height_of_member d.node))) us)

-- the declarators of a member are read, whatever stands behind them
abbrev pub ReadsDeclrs : ℕ → Scope → List (At Declr) → Tokens → Tokens → Type 0
ReadsDeclrs limit scope ds ts us = (st : Structure) (n : ℕ) (ss : List (At Spec)) (h : ℕ) (fs : List Frame) (w : Went) →
    types.members_at (record { structure = st; at = n; specs = ss; declrs = ds; height = max h (heights height_of_declr ds) }) us (after m.Comma us) ≡ Ok w → height_of w.control ≤ limit →
    Leads limit (state scope (frame.Declr (for_declr.Member (record { structure = st; at = n; specs = ss; declrs = []; height = h })) ∷ fs) control.Declr ts) (state_after scope (fs, w))

-- enumeration constants are read behind others
abbrev pub with_enumrs : Enumeration → List (At Enumr) → ℕ → Enumeration
with_enumrs e es h = record { outer = e.outer; at = e.at; tag = e.tag; enumrs = e.enumrs ++ es; height = max e.height h }

abbrev pub ReadsEnumrs : ℕ → Scope → List (At Enumr) → Tokens → Tokens → Type 0
ReadsEnumrs limit scope es ts us = (e : Enumeration) (fs : List Frame) →
    Leads limit (state scope fs (control.Enumr e) ts) (state scope fs (control.Enumeration (with_enumrs e es (heights height_of_enumr es))) us)

abbrev pub ReadsEnumr : ℕ → Scope → At Enumr → Tokens → Tokens → Type 0
ReadsEnumr limit scope x ts us = (e : Enumeration) (fs : List Frame) →
    Leads limit (state scope fs (control.Enumr e) ts) (state scope fs (control.Enumeration (with_enumrs e (x ∷ []) (height_of_enumr x.node))) us)

-- what specifiers don't go on with

module _ (scope : Scope) (s : types.Specs) (all ts : Tokens) (n : ℕ) where
  plain-word : (x : Word) → is_spec_word x ≡ true → types.specs_word s all ts n x ≡ types.behind_spec s.node n (spec.Word x) s.height ts
  plain-word w.Struct h = absurd (true≢false (sym h))
  plain-word w.Enum h = absurd (true≢false (sym h))
  plain-word w.Attribute h = absurd (true≢false (sym h))
  plain-word x h = ap (types.specs_plain s all ts n x) h

  ends_specs_word : (x : Word) → is_spec_start x ≡ false → types.specs_word s all ts n x ≡ types.specs_done s all
  ends_specs_word w.Struct h = absurd (true≢false h)
  ends_specs_word w.Enum h = absurd (true≢false h)
  ends_specs_word w.Attribute h = absurd (true≢false h)
  ends_specs_word x h = ap (types.specs_plain s all ts n x) h

  ends_specs_kind : (k : Kind) → kind_goes_on_specs scope k ≡ false → types.specs_at scope s all ts n k ≡ types.specs_done s all
  ends_specs_kind (kind.Keyword x) h = ends_specs_word x h
  ends_specs_kind (kind.Ident x) h = rw h refl
  ends_specs_kind _ h = refl

no_brace_mark : (scope : Scope) (ts : Tokens) (o : Mark) → kind_goes_on_specs scope (kind.Punct o) ≡ false → after_at ts m.LBrace (Some o) ≡ None
unfolding same_mark
no_brace_mark scope ts m.LBrace h = absurd (true≢false h)
no_brace_mark scope ts _ h = refl

no_brace_kind : (scope : Scope) (ts : Tokens) (k : Kind) → kind_goes_on_specs scope k ≡ false → after_at ts m.LBrace (mark_of k) ≡ None
no_brace_kind scope ts (kind.Punct o) h = no_brace_mark scope ts o h
no_brace_kind scope ts _ h = refl

pub no-brace : (scope : Scope) (us : Tokens) → goes_on_specs scope us ≡ false → after m.LBrace us ≡ None
unfolding after
no-brace scope [] h = refl
no-brace scope (t ∷ ts) h = no_brace_kind scope ts t.kind h

tag-apart : {x : Option Name} {ts : Tokens} {p : Span} {us : Tokens} → IsTag x ts (mark m.LBrace p ∷ us) → begins_attr ts ≡ false
unfolding begins_attr
tag-apart (NoTag _) = refl
tag-apart (ATag x s _) = refl

ends-specs : (scope : Scope) (s : types.Specs) (us : Tokens) → goes_on_specs scope us ≡ false → types.specifiers scope s us ≡ types.specs_done s us
unfolding types.specifiers
ends-specs scope s [] h = refl
ends-specs scope s (t ∷ ts) h = ends_specs_kind scope s (t ∷ ts) ts t.at t.kind h

-- what a declarator doesn't go on with

max_none : (a : ℕ) → max a 0 ≡ a
max_none a = omega arith

max_assoc : (a b c : ℕ) → max (max a b) c ≡ max a (max b c)
max_assoc a b c = omega arith

not-false : (b : Bool) → not b ≡ false → b ≡ true
not-false true h = refl
not-false false h = absurd (true≢false h)

module _ (scope : Scope) (ts : Tokens) where
  ends_begin_mark : (o : Mark) → kind_goes_on_declr scope (kind.Punct o) ≡ false → mark_begins_declr scope ts o ≡ false
  ends_begin_mark m.Star h = h
  ends_begin_mark m.LParen h = absurd (true≢false h)
  ends_begin_mark _ h = refl

  ends_begin_kind : (k : Kind) → kind_goes_on_declr scope k ≡ false → kind_begins_declr scope ts k ≡ false
  ends_begin_kind (kind.Ident x) h = h
  ends_begin_kind (kind.Punct o) h = ends_begin_mark o h
  ends_begin_kind _ h = refl

  ends_suffix_mark : (d : Tall (At Declr)) (all : Tokens) (o : Mark) → kind_goes_on_declr scope (kind.Punct o) ≡ false → types.suffix_by d all ts o ≡ on (control.HaveDeclr d) all
  ends_suffix_mark d all m.LBracket h = absurd (true≢false h)
  ends_suffix_mark d all m.LParen h = absurd (true≢false h)
  ends_suffix_mark d all _ h = refl

  ends_suffix_kind : (d : Tall (At Declr)) (all : Tokens) (k : Kind) → kind_goes_on_declr scope k ≡ false → types.suffix_at d all (mark_before ts (mark_of k)) ≡ on (control.HaveDeclr d) all
  ends_suffix_kind d all (kind.Punct o) h = ends_suffix_mark d all o h
  ends_suffix_kind d all _ h = refl

  no_name_mark : (all : Tokens) (n : ℕ) (o : Mark) → mark_begins_declr scope ts o ≡ false → types.declr_mark scope all ts n o ≡ types.no_name all
  no_name_mark all n m.Star h = absurd (true≢false h)
  no_name_mark all n m.LParen h = rw (not-false (closes scope ts) h) refl
  no_name_mark all n _ h = refl

  no_name_kind : (all : Tokens) (n : ℕ) (k : Kind) → kind_begins_declr scope ts k ≡ false → types.declr_at scope all ts n k ≡ types.no_name all
  no_name_kind all n (kind.Ident x) h = rw (not-false (is_typedef scope x) h) refl
  no_name_kind all n (kind.Punct o) h = no_name_mark all n o h
  no_name_kind all n _ h = refl

ends-begin : (scope : Scope) (us : Tokens) → goes_on_declr scope us ≡ false → begins_declr scope us ≡ false
ends-begin scope [] h = refl
ends-begin scope (t ∷ ts) h = ends_begin_kind scope ts t.kind h

ends-suffix : (scope : Scope) (d : Tall (At Declr)) (us : Tokens) → goes_on_declr scope us ≡ false → types.suffix d us ≡ on (control.HaveDeclr d) us
unfolding types.suffix first_mark
ends-suffix scope d [] h = refl
ends-suffix scope d (t ∷ ts) h = ends_suffix_kind scope ts d (t ∷ ts) t.kind h

no-declr : (scope : Scope) (us : Tokens) → begins_declr scope us ≡ false → types.declarator scope us ≡ types.no_name us
unfolding types.declarator
no-declr scope [] h = refl
no-declr scope (t ∷ ts) h = no_name_kind scope ts (t ∷ ts) t.at t.kind h

attr-turn : (scope : Scope) (s : types.Specs) {a : At Attr} {ts us : Tokens} → IsAttr a ts us → types.specifiers scope s ts ≡ types.behind_spec s.node a.at (spec.Attr a.node) s.height us
unfolding types.specifiers
attr-turn scope s (AttrOfNone b p q r t us) = rw (attr-complete (AttrOfNone b p q r t us)) refl
attr-turn scope s (AttrOf words b p q r t ts us d) = rw (attr-complete (AttrOf words b p q r t ts us d)) refl

last-turn : (e : Enumeration) {q : Span} {vs ws : Tokens} → IsLastComma vs (mark m.RBrace q ∷ ws) → types.enumeration e vs ≡ types.behind_spec e.outer e.at (spec.Enum e.tag (Some e.enumrs)) e.height ws
unfolding types.enumeration same_mark after
last-turn e (NoComma _) = refl
last-turn e (AComma c _) = refl

abbrev the_void : Span → At Spec
the_void s = record { at = s.0; node = spec.Word w.Void }

abbrev void_param : Span → Tokens → At Param
void_param s us = record { at = s.0; node = record { specs = the_void s ∷ []; declr = at us declr.Nothing } }

void-height : (s : Span) (us : Tokens) → heights height_of_param (void_param s us ∷ []) ≡ 0
void-height s us = rw (high.height_of_param-Param (the_void s ∷ []) (at us declr.Nothing), high.height_of_spec-Word w.Void, high.height_of_declr-Nothing) refl

module _ {limit : ℕ} {scope : Scope} where
  pub reads-declr : {direct : Bool} {d : At Declr} {ts us : Tokens} → DeclrRead limit scope direct d ts us → goes_on_declr scope us ≡ false → height_of_declr d.node ≤ limit → ReadsDeclr limit scope d ts us
  reads-declr {d = d} {us = us} (Direct p) g h fs = p fs (ends-begin scope us g) ▹ turns (ap (stays fs) (ends-suffix scope (tall d (height_of_declr d.node)) us g)) h
  reads-declr (Pointed e p) g h fs = p fs g

  direct : {d : At Declr} {ts us : Tokens} → DeclrRead limit scope true d ts us → begins_declr scope us ≡ false → (fs : List Frame) →
      Leads limit (state scope fs control.Declr ts) (state scope fs (control.Suffix (tall d (height_of_declr d.node))) us)
  direct (Direct p) b fs = p fs b
  direct (Pointed e p) b fs = absurd (true≢false e)

  pub reads-NoName : (b : Bool) (ts : Tokens) → DeclrRead limit scope b (at ts declr.Nothing) ts ts
  reads-NoName b ts = Direct (λ fs n. rw high.height_of_declr-Nothing (turns (ap (stays fs) (no-declr scope ts n)) (omega arith)))

  pub reads-DeclaredName : (b : Bool) (x : Name) (s : Span) (us : Tokens) → is_typedef scope x ≡ false → DeclrRead limit scope b (record { at = s.0; node = declr.Named x }) (ident x s ∷ us) us
  unfolding types.declarator
  reads-DeclaredName b x s us e = Direct (λ fs n. rw (high.height_of_declr-Named x) (turns (ap (λ c. stays fs (types.declr_name (ident x s ∷ us) us s.0 x c)) e) (omega arith)))

  pub reads-DeclrInParens : (b : Bool) (d : At Declr) (p q : Span) (ts us : Tokens) → is_nothing d.node ≡ false → closes scope ts ≡ false → ReadsDeclr limit scope d ts (mark m.RParen q ∷ us) →
      suc (height_of_declr d.node) ≤ limit → DeclrRead limit scope b (record { at = p.0; node = declr.Paren d }) (mark m.LParen p ∷ ts) us
  unfolding types.declarator same_mark after
  reads-DeclrInParens b d p q ts us n c r h = Direct (λ fs e. rw (high.height_of_declr-Paren d) (turns (ap (λ x. stays fs (types.declr_paren (mark m.LParen p ∷ ts) ts p.0 x)) c) (omega arith)
      ▹ r (frame.Declr (for_declr.Paren p.0) ∷ fs) ▹ turns (ap (λ x. stays fs (types.paren_declr p.0 (tall d (height_of_declr d.node)) (mark m.RParen q ∷ us) x)) n) h))

  pub reads-Pointer : (qs : List Word) (d : At Declr) (p : Span) (ts us vs : Tokens) → IsQualifiers qs ts us → (goes_on_declr scope vs ≡ false → begins_qualifier us ≡ false) →
      (goes_on_declr scope vs ≡ false → ReadsDeclr limit scope d us vs) → suc (height_of_declr d.node) ≤ limit →
      DeclrRead limit scope false (record { at = p.0; node = declr.Pointer qs d }) (mark m.Star p ∷ ts) vs
  unfolding types.declarator
  reads-Pointer qs d p ts us vs q n r h = Pointed refl (λ fs g. rw (high.height_of_declr-Pointer qs d) (turns (opened fs (qualifiers-complete q (n g))) (omega arith)
      ▹ r g (frame.Declr (for_declr.Pointer p.0 qs) ∷ fs) ▹ turns refl h))
    where
      opened : (fs : List Frame) → qualifiers ts ≡ (qs, us) → turned scope fs (mark m.Star p ∷ ts) control.Declr ≡
          Ok (fs, record { frame = Some (frame.Declr (for_declr.Pointer p.0 qs)); control = control.Declr; rest = us; scoping = scoping.Same })
      opened fs e = ap (λ (x : List Word × Tokens). stays fs (opens (frame.Declr (for_declr.Pointer p.0 x.0)) control.Declr x.1)) e

  pub reads-OpenArray : (b : Bool) (d : At Declr) (p q : Span) (ts us : Tokens) → d.at ≡ offset ts → DeclrRead limit scope true d ts (mark m.LBracket p ∷ mark m.RBracket q ∷ us) →
      suc (height_of_declr d.node) ≤ limit → DeclrRead limit scope b (at ts (declr.Array d None)) ts us
  unfolding types.suffix first_mark same_mark after
  reads-OpenArray b d p q ts us e r h = Direct (λ fs n. rw (high.height_of_declr-OpenArray d, ← e) (direct r refl fs ▹ turns refl h))

  pub reads-Array : (b : Bool) (d : At Declr) (i : At Tree) (p q : Span) (ts us vs : Tokens) → d.at ≡ offset ts → after m.RBracket us ≡ None → DeclrRead limit scope true d ts (mark m.LBracket p ∷ us) →
      Reads limit scope 2 i us (mark m.RBracket q ∷ vs) → suc (max (height_of_declr d.node) (height i.node)) ≤ limit → DeclrRead limit scope b (at ts (declr.Array d (Some i))) ts vs
  unfolding types.suffix first_mark same_mark after
  reads-Array b d i p q ts us vs e c r t h = Direct (λ fs n. rw (high.height_of_declr-Array d i, ← e) (direct r refl fs
      ▹ turns (ap (λ x. stays fs (types.array (tall d (height_of_declr d.node)) us x)) c) (omega arith)
      ▹ closed fs (handed (frame.Part (for_part.Bound (tall d (height_of_declr d.node))) ∷ fs) t (omega (arith, h)) (omega arith) refl)))
    where
      closed : (fs : List Frame) → Handed limit scope 2 (frame.Part (for_part.Bound (tall d (height_of_declr d.node))) ∷ fs) i us (mark m.RBracket q ∷ vs) →
          Leads limit (state scope (frame.Part (for_part.Bound (tall d (height_of_declr d.node))) ∷ fs) (control.Expr 2) us)
          (state scope fs (control.Suffix (tall (record { at = d.at; node = declr.Array d (Some i) }) (suc (max (height_of_declr d.node) (height i.node))))) vs)
      closed fs k = k.1 ▹ turns refl h

  pub reads-EmptyFunction : (b : Bool) (d : At Declr) (p q : Span) (ts us : Tokens) → d.at ≡ offset ts → DeclrRead limit scope true d ts (mark m.LParen p ∷ mark m.RParen q ∷ us) →
      suc (height_of_declr d.node) ≤ limit → DeclrRead limit scope b (at ts (declr.Func d params.Empty)) ts us
  unfolding types.suffix first_mark same_mark after
  reads-EmptyFunction b d p q ts us e r h = Direct (λ fs n. rw (high.height_of_declr-Func d params.Empty, high.height_of_params-Empty, max_none (height_of_declr d.node), ← e) (direct r refl fs ▹ turns refl h))

  -- parameters

  pub reads-Param : (ss : List (At Spec)) (d : At Declr) (ts us vs : Tokens) → ReadsSpecs limit scope ss ts us → ReadsDeclr limit scope d us vs →
      ReadsParam limit scope (at ts (record { specs = ss; declr = d })) ts vs
  reads-Param ss d ts us vs r q f fs w i j =
      let i1 : types.param f (offset ts) (tall ss (specs_height ss)) (tall d (height_of_declr d.node)) vs ≡ Ok w = rw (← high.height_of_param-Param ss d) i in
      r (frame.Specs (for_specs.Param f (offset ts)) ∷ fs) ▹ turns refl (omega arith) ▹ q (frame.Declr (for_declr.Param f (offset ts) (tall ss (specs_height ss))) ∷ fs)
      ▹ turns (ap (stays fs) i1) j

  pub reads-FirstParam : (p : At Param) (ts us : Tokens) → ReadsParam limit scope p ts us → ReadsParams limit scope (p ∷ []) ts us
  reads-FirstParam p ts us r d h fs w i j = r (record { declr = d; params = []; height = h }) fs w (rw (← high.heights-first height_of_param p) i) j

  pub reads-MoreParams : (ps : List (At Param)) (p : At Param) (c : Span) (ts us vs : Tokens) → ReadsParams limit scope ps ts (mark m.Comma c ∷ us) → ReadsParam limit scope p us vs →
      ReadsParams limit scope (ps ++ p ∷ []) ts vs
  unfolding same_mark after
  reads-MoreParams ps p c ts us vs more r d h fs w i j =
      let f : Function = record { declr = d; params = ps; height = max h (heights height_of_param ps) } in
      more d h fs (record { frame = Some (frame.Specs (for_specs.Param f (offset us))); control = control.Specs (tall [] 0); rest = us; scoping = scoping.Same }) refl (omega arith)
      ▹ r f fs w (rw (max_assoc h (heights height_of_param ps) (height_of_param p.node), ← high.heights-behind height_of_param ps p) i) j

  pub reads-Function : (b : Bool) (d : At Declr) (ps : List (At Param)) (qs : Params) (p q : Span) (ts us vs : Tokens) → d.at ≡ offset ts → closes scope us ≡ true → after m.RParen us ≡ None →
      DeclrRead limit scope true d ts (mark m.LParen p ∷ us) → ReadsParams limit scope ps us (mark m.RParen q ∷ vs) → types.params_of ps ≡ qs → height_of_params qs ≡ heights height_of_param ps →
      suc (max (height_of_declr d.node) (heights height_of_param ps)) ≤ limit → DeclrRead limit scope b (at ts (declr.Func d qs)) ts vs
  unfolding types.suffix first_mark same_mark after
  reads-Function b d ps qs p q ts us vs e c n r more is t h = Direct (λ fs k. rw (high.height_of_declr-Func d qs, t, ← e, ← is) (direct r (ap not c) fs
      ▹ turns (ap (λ x. stays fs (types.function (tall d (height_of_declr d.node)) us x)) n) (omega arith) ▹ more d (height_of_declr d.node) fs
      (record { frame = None; control = control.Suffix (tall (record { at = d.at; node = declr.Func d (types.params_of ps) }) (suc (max (height_of_declr d.node) (heights height_of_param ps)))); rest = vs; scoping = scoping.Same })
      refl h))

  -- specifiers

  pub reads-Specs : (ss : List (At Spec)) (ts us : Tokens) → ReadsSpecList limit scope ss ts us → have_word ss ≡ true → attrs_apart false ss ≡ true → goes_on_specs scope us ≡ false → ReadsSpecs limit scope ss ts us
  reads-Specs ss ts us r h a g fs =
      let ended : types.specs_done (tall ss (specs_height ss)) us ≡ on (control.HaveSpecs (tall ss (specs_height ss))) us = rw (h, a) refl in
      r fs ▹ turns (ap (stays fs) (ends-specs scope (tall ss (specs_height ss)) us g ∙ ended)) (omega arith)

  pub reads-NoSpec : (ts : Tokens) → ReadsSpecList limit scope [] ts ts
  reads-NoSpec ts fs = Here (state scope fs (control.Specs (tall [] 0)) ts)

  pub reads-MoreSpecs : (ss : List (At Spec)) (s : At Spec) (ts us vs : Tokens) → ReadsSpecList limit scope ss ts us → ReadsSpec limit scope s us vs → ReadsSpecList limit scope (ss ++ s ∷ []) ts vs
  reads-MoreSpecs ss s ts us vs more r fs = rw (high.heights-behind height_of_spec ss s) (more fs ▹ r ss (specs_height ss) fs)

  pub reads-Word : (x : Word) (s : Span) (us : Tokens) → is_spec_word x ≡ true → ReadsSpec limit scope (record { at = s.0; node = spec.Word x }) (word x s ∷ us) us
  unfolding types.specifiers
  reads-Word x s us e outer h fs = rw (high.height_of_spec-Word x, max_none h) (turns (ap (stays fs) (plain-word scope (tall outer h) (word x s ∷ us) us s.0 x e)) (omega arith))

  pub reads-TypedefName : (x : Name) (s : Span) (us : Tokens) → is_typedef scope x ≡ true → ReadsSpec limit scope (record { at = s.0; node = spec.Named x }) (ident x s ∷ us) us
  unfolding types.specifiers
  reads-TypedefName x s us e outer h fs = rw (high.height_of_spec-Named x, max_none h) (turns (ap (λ b. stays fs (types.specs_name (tall outer h) (ident x s ∷ us) us s.0 x b)) e) (omega arith))

  -- `void` alone
  pub reads-VoidParams : (b : Bool) (d : At Declr) (p s q : Span) (ts vs : Tokens) → d.at ≡ offset ts → DeclrRead limit scope true d ts (mark m.LParen p ∷ word w.Void s ∷ mark m.RParen q ∷ vs) →
      suc (height_of_declr d.node) ≤ limit → DeclrRead limit scope b (at ts (declr.Func d params.Void)) ts vs
  unfolding begins_spec after
  reads-VoidParams b d p s q ts vs e r h =
      let us : Tokens = mark m.RParen q ∷ vs in
      reads-Function b d (void_param s us ∷ []) params.Void p q ts (word w.Void s ∷ us) vs e refl refl r
      (reads-FirstParam (void_param s us) (word w.Void s ∷ us) us (reads-Param (the_void s ∷ []) (at us declr.Nothing) (word w.Void s ∷ us) us us
      (reads-Specs (the_void s ∷ []) (word w.Void s ∷ us) us (reads-MoreSpecs [] (the_void s) (word w.Void s ∷ us) (word w.Void s ∷ us) us (reads-NoSpec (word w.Void s ∷ us)) (reads-Word w.Void s us refl)) refl refl refl)
      (reads-declr (reads-NoName false us) refl (rw high.height_of_declr-Nothing (omega arith)))))
      refl (high.height_of_params-Void ∙ sym (void-height s us)) (rw (void-height s us) (omega (arith, h)))

  -- type names

  pub reads-TypeName : (ss : List (At Spec)) (d : At Declr) (q : Span) (ts us vs : Tokens) → ReadsSpecs limit scope ss ts us → ReadsDeclr limit scope d us (mark m.RParen q ∷ vs) → name_of d.node ≡ None →
      ReadsType limit scope (record { specs = ss; declr = d }) ts vs
  unfolding same_mark after
  reads-TypeName ss d q ts us vs r k n u at fs w i j =
      let s : types.Specs = tall ss (specs_height ss) in
      let e : Tall (At Declr) = tall d (height_of_declr d.node) in
      let i1 : types.use_type u at (tall (record { specs = ss; declr = d }) (max (specs_height ss) (height_of_declr d.node))) vs ≡ Ok w = rw (← high.height_of_type-TypeName ss d) i in
      let closed : types.close_type u at s e (mark m.RParen q ∷ vs) (is_some (name_of d.node)) ≡ Ok w = ap (λ x. types.close_type u at s e (mark m.RParen q ∷ vs) (is_some x)) n ∙ i1 in
      r (frame.Specs (for_specs.TypeName u at) ∷ fs) ▹ turns refl (omega arith) ▹ k (frame.Declr (for_declr.TypeName u at s) ∷ fs) ▹ turns (ap (stays fs) closed) j

  -- specifiers with parts

  pub reads-Attr : (a : At Attr) (ts us : Tokens) → IsAttr a ts us → ReadsSpec limit scope (record { at = a.at; node = spec.Attr a.node }) ts us
  reads-Attr a ts us d outer h fs = rw (high.height_of_spec-Attr a.node, max_none h) (turns (ap (stays fs) (attr-turn scope (tall outer h) d)) (omega arith))

  pub reads-NamedStructure : (x : Name) (s p : Span) (us : Tokens) → after m.LBrace us ≡ None → ReadsSpec limit scope (record { at = s.0; node = spec.Struct (Some x) None [] [] }) (word w.Struct s ∷ ident x p ∷ us) us
  unfolding types.specifiers tag begins_attr
  reads-NamedStructure x s p us b outer h fs = rw (high.height_of_spec-NamedStruct (Some x) [] [], max_none h) (turns (ap (stays fs) found) (omega arith))
    where
      found : types.structure_spec (tall outer h) s.0 (ident x p ∷ us) ≡ types.behind_spec outer s.0 (spec.Struct (Some x) None [] []) h us
      found = rw (attrs-complete (NoAttr (ident x p ∷ us)) refl, b) refl

  pub reads-NamedEnumeration : (x : Name) (s p : Span) (us : Tokens) → after m.LBrace us ≡ None → ReadsSpec limit scope (record { at = s.0; node = spec.Enum (Some x) None }) (word w.Enum s ∷ ident x p ∷ us) us
  unfolding types.specifiers tag
  reads-NamedEnumeration x s p us b outer h fs = rw (high.height_of_spec-NamedEnum (Some x), max_none h) (turns (ap (λ r. stays fs (types.enumeration_at (tall outer h) s.0 (Some x) us r)) b) (omega arith))

  pub reads-Structure : (tag : Option Name) (ms : List (At MemberDecl)) (a b : List (At Attr)) (s p q : Span) (t0 t1 t2 t3 t4 : Tokens) → IsAttrs a t0 t1 → IsTag tag t1 (mark m.LBrace p ∷ t2) →
      ReadsMembers limit scope ms t2 (mark m.RBrace q ∷ t3) → types.no_member ms ≡ false → IsAttrs b t3 t4 → begins_attr t4 ≡ false →
      ReadsSpec limit scope (record { at = s.0; node = spec.Struct tag (Some ms) a b }) (word w.Struct s ∷ t0) t4
  unfolding types.specifiers types.structure same_mark after
  reads-Structure tag ms a b s p q t0 t1 t2 t3 t4 da dt r n db e outer h fs =
      let st : Structure = record { outer = outer; at = s.0; tag = tag; attrs = a; members = []; height = h } in
      rw (high.height_of_spec-Struct tag ms a b) (turns (ap (stays fs) opened) (omega arith) ▹ r st fs ▹ turns (ap (stays fs) closed) (omega arith))
    where
      opened : types.structure_spec (tall outer h) s.0 t0 ≡ types.open_structure (tall outer h) s.0 tag a t2
      opened = rw (attrs-complete da (tag-apart dt), tag-complete dt) refl

      closed : types.close_structure (record { outer = outer; at = s.0; tag = tag; attrs = a; members = ms; height = max h (heights height_of_member ms) }) (mark m.RBrace q ∷ t3) t3 (types.no_member ms) ≡
          types.behind_spec outer s.0 (spec.Struct tag (Some ms) a b) (max h (heights height_of_member ms)) t4
      closed = rw (n, attrs-complete db e) refl

  pub reads-Enumeration : (tag : Option Name) (es : List (At Enumr)) (s p q : Span) (ts us vs ws : Tokens) → IsTag tag ts (mark m.LBrace p ∷ us) → ReadsEnumrs limit scope es us vs →
      IsLastComma vs (mark m.RBrace q ∷ ws) → ReadsSpec limit scope (record { at = s.0; node = spec.Enum tag (Some es) }) (word w.Enum s ∷ ts) ws
  unfolding types.specifiers same_mark after
  reads-Enumeration tag es s p q ts us vs ws dt r last outer h fs =
      let e : Enumeration = record { outer = outer; at = s.0; tag = tag; enumrs = []; height = h } in
      rw (high.height_of_spec-Enum tag es) (turns (ap (stays fs) opened) (omega arith) ▹ r e fs ▹ turns (ap (stays fs) (last-turn (record { outer = outer; at = s.0; tag = tag; enumrs = es; height = max h (heights height_of_enumr es) }) last)) (omega arith))
    where
      opened : types.enumeration_spec (tall outer h) s.0 ts ≡ on (control.Enumr (record { outer = outer; at = s.0; tag = tag; enumrs = []; height = h })) us
      opened = rw (tag-complete dt) refl

  -- members of structures

  pub reads-Member : (ss : List (At Spec)) (ds : List (At Declr)) (q : Span) (ts us vs : Tokens) → after m.RBrace ts ≡ None → ReadsSpecs limit scope ss ts us → ReadsDeclrs limit scope ds us (mark m.Semi q ∷ vs) →
      ReadsMember limit scope (at ts (record { specs = ss; declrs = ds })) ts vs
  unfolding types.structure same_mark after
  reads-Member ss ds q ts us vs n r k st fs =
      let h : ℕ = max (max st.height (specs_height ss)) (heights height_of_declr ds) in
      let e : max st.height (height_of_member (record { specs = ss; declrs = ds })) ≡ h = ap (max st.height) (high.height_of_member-MemberDecl ss ds) ∙ sym (max_assoc st.height (specs_height ss) (heights height_of_declr ds)) in
      rw e (turns (ap (λ x. stays fs (types.structure_by st ts x)) n) (omega arith) ▹ r (frame.Specs (for_specs.Member st (offset ts)) ∷ fs) ▹ turns refl (omega arith)
      ▹ k st (offset ts) ss (max st.height (specs_height ss)) fs
      (record { frame = None; control = control.Structure (types.with_members (record { structure = st; at = offset ts; specs = ss; declrs = ds; height = h })); rest = vs; scoping = scoping.Same }) refl (omega arith))

  pub reads-FirstMember : (d : At MemberDecl) (ts us : Tokens) → ReadsMember limit scope d ts us → ReadsMembers limit scope (d ∷ []) ts us
  reads-FirstMember d ts us r st fs = rw (high.heights-first height_of_member d) (r st fs)

  pub reads-MoreMembers : (ds : List (At MemberDecl)) (d : At MemberDecl) (ts us vs : Tokens) → ReadsMembers limit scope ds ts us → ReadsMember limit scope d us vs → ReadsMembers limit scope (ds ++ d ∷ []) ts vs
  reads-MoreMembers ds d ts us vs more r st fs =
      rw (high.heights-behind height_of_member ds d, ← max_assoc st.height (heights height_of_member ds) (height_of_member d.node), ← append_assoc st.members ds (d ∷ []))
      (more st fs ▹ r (with_all st ds (heights height_of_member ds)) fs)

  -- declarators of members
  pub reads-FirstDeclr : (d : At Declr) (x : Name) (ts us : Tokens) → ReadsDeclr limit scope d ts us → name_of d.node ≡ Some x → ReadsDeclrs limit scope (d ∷ []) ts us
  reads-FirstDeclr d x ts us r e st n ss h fs w i j = r (frame.Declr (for_declr.Member ms) ∷ fs) ▹ turns (ap (stays fs) (ap (λ y. types.member_declr ms (tall d (height_of_declr d.node)) us (is_some y)) e ∙ i1)) j
    where
      ms : Members
      ms = record { structure = st; at = n; specs = ss; declrs = []; height = h }

      i1 : types.members_at (types.with_declr ms (tall d (height_of_declr d.node))) us (after m.Comma us) ≡ Ok w
      i1 = rw (← high.heights-first height_of_declr d) i

  pub reads-MoreDeclrs : (ds : List (At Declr)) (d : At Declr) (x : Name) (c : Span) (ts us vs : Tokens) → ReadsDeclrs limit scope ds ts (mark m.Comma c ∷ us) → ReadsDeclr limit scope d us vs →
      name_of d.node ≡ Some x → ReadsDeclrs limit scope (ds ++ d ∷ []) ts vs
  unfolding same_mark after
  reads-MoreDeclrs ds d x c ts us vs more r e st n ss h fs w i j =
      more st n ss h fs (record { frame = Some (frame.Declr (for_declr.Member ms)); control = control.Declr; rest = us; scoping = scoping.Same }) refl (omega arith)
      ▹ r (frame.Declr (for_declr.Member ms) ∷ fs) ▹ turns (ap (stays fs) (ap (λ y. types.member_declr ms (tall d (height_of_declr d.node)) vs (is_some y)) e ∙ i1)) j
    where
      ms : Members
      ms = record { structure = st; at = n; specs = ss; declrs = ds; height = max h (heights height_of_declr ds) }

      i1 : types.members_at (types.with_declr ms (tall d (height_of_declr d.node))) vs (after m.Comma vs) ≡ Ok w
      i1 = rw (max_assoc h (heights height_of_declr ds) (height_of_declr d.node), ← high.heights-behind height_of_declr ds d) i

  -- enumeration constants

  pub reads-Enumr : (x : Name) (s : Span) (us : Tokens) → is_typedef scope x ≡ false → after m.Assign us ≡ None →
      ReadsEnumr limit scope (record { at = s.0; node = record { name = x; value = None } }) (ident x s ∷ us) us
  unfolding types.enumr name
  reads-Enumr x s us e n en fs = rw (high.height_of_enumr-Enumr x None) (turns (ap (stays fs) named) (omega arith))
    where
      named : types.enumr_name en (ident x s ∷ us) us x (is_typedef scope x) ≡ on (control.Enumeration (types.with_enumr en s.0 x None 0)) us
      named = rw (e, n) refl

  pub reads-ValuedEnumr : (x : Name) (i : At Tree) (s p : Span) (ts us : Tokens) → is_typedef scope x ≡ false → Reads limit scope 2 i ts us → goes_on 2 us ≡ false → height i.node ≤ limit →
      ReadsEnumr limit scope (record { at = s.0; node = record { name = x; value = Some i } }) (ident x s ∷ mark m.Assign p ∷ ts) us
  unfolding types.enumr name same_mark after
  reads-ValuedEnumr x i s p ts us e r g h en fs = rw (high.height_of_enumr-Enumr x (Some i)) (turns (ap (stays fs) named) (omega arith) ▹ closed (handed (frame.Part (for_part.Enumr en s.0 x) ∷ fs) r h (omega arith) g))
    where
      named : types.enumr_name en (ident x s ∷ mark m.Assign p ∷ ts) (mark m.Assign p ∷ ts) x (is_typedef scope x) ≡ opens (frame.Part (for_part.Enumr en s.0 x)) (control.Expr 2) ts
      named = rw e refl

      closed : Handed limit scope 2 (frame.Part (for_part.Enumr en s.0 x) ∷ fs) i ts us →
          Leads limit (state scope (frame.Part (for_part.Enumr en s.0 x) ∷ fs) (control.Expr 2) ts) (state scope fs (control.Enumeration (types.with_enumr en s.0 x (Some i) (height i.node))) us)
      closed d = d.1 ▹ turns refl (omega arith)

  pub reads-FirstEnumr : (x : At Enumr) (ts us : Tokens) → ReadsEnumr limit scope x ts us → ReadsEnumrs limit scope (x ∷ []) ts us
  reads-FirstEnumr x ts us r e fs = rw (high.heights-first height_of_enumr x) (r e fs)

  pub reads-MoreEnumrs : (es : List (At Enumr)) (x : At Enumr) (c : Span) (ts us vs : Tokens) → ReadsEnumrs limit scope es ts (mark m.Comma c ∷ us) → ReadsEnumr limit scope x us vs →
      after m.RBrace us ≡ None → ReadsEnumrs limit scope (es ++ x ∷ []) ts vs
  unfolding types.enumeration same_mark after
  reads-MoreEnumrs es x c ts us vs more r n e fs =
      let f : Enumeration = with_enumrs e es (heights height_of_enumr es) in
      let found : types.behind_comma f us (is_some (after m.RBrace us)) ≡ on (control.Enumr f) us = ap (λ y. types.behind_comma f us (is_some y)) n in
      rw (high.heights-behind height_of_enumr es x, ← max_assoc e.height (heights height_of_enumr es) (height_of_enumr x.node), ← append_assoc e.enumrs es (x ∷ []))
      (more e fs ▹ turns (ap (stays fs) found) (omega arith) ▹ r f fs)
