-- Declarations lead the machine to where they are read (C99 6.7).
use Rattle.std.proofs.Common.{◌≡◌, ◌≤◌, ℕ, Bool, true, false, List, [], ◌∷◌, ◌++◌, Option, Some, None, Ok, refl, ap, sym, ◌∙◌, subst, max, arith}
use Rattle.cc_lex.specs.declared.token.Mark.TheVariants as m
use Rattle.cc_tree.specs.declared.at.At.{At}
use Rattle.cc_tree.specs.declared.state.Control.TheVariants as control
use Rattle.cc_tree.specs.declared.state.Declaration.{Declaration}
use Rattle.cc_tree.specs.declared.state.DeclrFrame.TheVariants as for_declr
use Rattle.cc_tree.specs.declared.state.Frame.{Frame}
use Rattle.cc_tree.specs.declared.state.Frame.TheVariants as frame
use Rattle.cc_tree.specs.declared.state.SpecsFrame.TheVariants as for_specs
use Rattle.cc_tree.specs.declared.state.ValueFrame.TheVariants as for_value
use Rattle.cc_tree.specs.declared.tree.Attr.{Attr}
use Rattle.cc_tree.specs.declared.tree.Declr.{Declr}
use Rattle.cc_tree.specs.declared.tree.Spec.{Spec}
use Rattle.cc_tree.specs.declared.unit.Decl.{Decl}
use Rattle.cc_tree.specs.declared.unit.Given.{Given}
use Rattle.cc_tree.specs.declared.unit.Init.{Init}
use Rattle.cc_tree.specs.Height.{height_of_declr, specs_height, heights, given_height, init_height, decl_height}
use Rattle.cc_tree.specs.Machine.{State, turn, scope_after, Leads, Here}
use Rattle.cc_tree.specs.Operators.{assignment_level}
use Rattle.cc_tree.specs.Reading.{after, same_mark}
use Rattle.cc_tree.specs.ReadTypes.{begins_attr, attrs}
use Rattle.cc_tree.specs.Scopes.{Scope, name_of, declares_types, behind_declr, is_typedef}
use Rattle.cc_tree.specs.Statements.{NoValue, AValue, IsInit, AnInit, IsInits, FirstInit, MoreInits, IsDecl, DeclaresNothing, Declares}
use Rattle.cc_tree.specs.Terms
use Rattle.cc_tree.specs.Terms.{IsDeclr, IsSpecs, IsAttrs, NoAttr, MoreAttrs, IsAttr, AttrOfNone, AttrOf}
use Rattle.cc_tree.specs.Tokens.{Tokens, Name, Span, mark, at, offset}
use Rattle.cc_tree.specs.Turns.{tall}
use Rattle.cc_tree.specs.TurnLines.{declared, inits}
use Rattle.cc_tree.proofs.Firsts.{starts_declr, declr-starts, declr-no_spec, declr-no_semi}
use Rattle.cc_tree.proofs.GoesOn.{goes_on, goes_on_declr, goes_on_specs}
use Rattle.cc_tree.proofs.HeightSteps.{heights-behind, heights-first}
use Rattle.cc_tree.proofs.Leading.{state, then, attrs-complete}
use Rattle.cc_tree.proofs.NewNames.{declares-new}
use Rattle.cc_tree.proofs.ReadingBasics.{after-complete}
use Rattle.cc_tree.proofs.ValuesLead.{value-leads}
use Rattle.cc_tree.proofs.Wanted.{SpecsLead, DeclrLeads, ValueLeads, InitLeads, InitsLead, DeclLeads, Parts, decls, turns, lower, left, right}

-- a declarator's offset is that of its first token
pub declr-at : {scope : Scope} {direct : Bool} {d : At Declr} {ts us : Tokens} → IsDeclr scope direct d ts us → d.at ≡ offset ts
declr-at (Terms.NoName scope direct ts) = refl
declr-at (Terms.DeclaredName scope direct x s us h) = refl
declr-at (Terms.DeclrInParens scope direct d p q ts us h k) = refl
declr-at (Terms.APointer scope qs d p ts us vs h k) = refl
declr-at (Terms.AnArray scope direct d bound p q ts us vs h k) = refl
declr-at (Terms.AnOpenArray scope direct d p q ts us h) = refl
declr-at (Terms.AFunction scope direct d ps p q ts us vs h k) = refl

-- attributes behind a declarator, or what stands there without them
pub attrs-end_declr : (scope : Scope) {a : List (At Attr)} {ts us : Tokens} → IsAttrs a ts us → goes_on_declr scope us ≡ false → goes_on_declr scope ts ≡ false
attrs-end_declr scope (NoAttr ts) h = h
attrs-end_declr scope (MoreAttrs _ more _ us vs (AttrOfNone s p q r t _) d) h = refl
attrs-end_declr scope (MoreAttrs _ more _ us vs (AttrOf words s p q r t ts _ w) d) h = refl

-- what may stand behind a declarator with its value, in a declaration: a comma or a semicolon
record Ends (ts : Tokens) : Type 0 where
  no_declr : (scope : Scope) → goes_on_declr scope ts ≡ false
  no_attr : begins_attr ts ≡ false
  no_brace : after m.LBrace ts ≡ None
  no_value : after m.Assign ts ≡ None
  no_more : goes_on assignment_level ts ≡ false

comma-ends : (s : Span) (ts : Tokens) → Ends (mark m.Comma s ∷ ts)
unfolding after same_mark begins_attr
comma-ends s ts = record { no_declr = λ scope. refl; no_attr = refl; no_brace = refl; no_value = refl; no_more = refl }

semicolon-ends : (s : Span) (ts : Tokens) → Ends (mark m.Semi s ∷ ts)
unfolding after same_mark begins_attr
semicolon-ends s ts = record { no_declr = λ scope. refl; no_attr = refl; no_brace = refl; no_value = refl; no_more = refl }

-- the scope behind a declarator, as the machine makes it
declared-scope : (types : Bool) (x : Name) (d : Declr) (scope : Scope) → name_of d ≡ Some x → is_typedef scope x ≡ false → scope_after (declared types x) scope ≡ behind_declr types d scope
declared-scope false x d scope h k = refl
declared-scope true x d scope h k = rw (h, k) refl

max_assoc : (a b c : ℕ) → max (max a b) c ≡ max a (max b c)
max_assoc a b c = omega arith

-- What follows a declarator: its attributes, and no body of a function. Its offset is that of its first token.
module _ (scope behind : Scope) (outside : Bool) (n k start : ℕ) (ss : List (At Spec)) (is : List (At Init)) (fs : List Frame) (d : At Declr) (x : Name) (a : List (At Attr))
    (named : name_of d.node ≡ Some x) (scopes : scope_after (declared (declares_types ss) x) scope ≡ behind) (begin : d.at ≡ start) where
  -- the declaration with this declarator more
  abbrev with_value : Option (At Given) → ℕ → Declaration
  with_value v height = decls outside n ss (is ++ record { at = start; node = record { declr = d; attrs = a; value = v } } ∷ []) height

  module _ (h : ℕ) (ts us : Tokens) (read : attrs ts ≡ Ok (a, us)) (no_body : after m.LBrace us ≡ None) where
    no_value-at : after m.Assign us ≡ None → turn (state scope (frame.Declr (for_declr.Init (decls outside n ss is k)) ∷ fs) (control.HaveDeclr (tall d h)) ts)
        ≡ Ok (state (scope_after (declared (declares_types ss) x) scope) fs (control.Inits (decls outside n ss (is ++ record { at = d.at; node = record { declr = d; attrs = a; value = None } } ∷ []) (max k h))) us)
    unfolding turn
    no_value-at e = rw (named, read, no_body, e) refl

    no_value-turn : after m.Assign us ≡ None →
        turn (state scope (frame.Declr (for_declr.Init (decls outside n ss is k)) ∷ fs) (control.HaveDeclr (tall d h)) ts) ≡ Ok (state behind fs (control.Inits (with_value None (max k h))) us)
    no_value-turn e = (no_value-at e
        ∙ ap (λ (sc : Scope). Ok (state sc fs (control.Inits (decls outside n ss (is ++ record { at = d.at; node = record { declr = d; attrs = a; value = None } } ∷ []) (max k h))) us)) scopes)
        ∙ ap (λ (p : ℕ). Ok (state behind fs (control.Inits (decls outside n ss (is ++ record { at = p; node = record { declr = d; attrs = a; value = None } } ∷ []) (max k h))) us)) begin

    value-at : (vs : Tokens) → after m.Assign us ≡ Some vs → turn (state scope (frame.Declr (for_declr.Init (decls outside n ss is k)) ∷ fs) (control.HaveDeclr (tall d h)) ts)
        ≡ Ok (state (scope_after (declared (declares_types ss) x) scope) (frame.Value (for_value.Init (decls outside n ss is (max k h)) d a) ∷ fs) control.Value vs)
    unfolding turn
    value-at vs e = rw (named, read, no_body, e) refl

    value-turn : (vs : Tokens) → after m.Assign us ≡ Some vs → turn (state scope (frame.Declr (for_declr.Init (decls outside n ss is k)) ∷ fs) (control.HaveDeclr (tall d h)) ts)
        ≡ Ok (state behind (frame.Value (for_value.Init (decls outside n ss is (max k h)) d a) ∷ fs) control.Value vs)
    value-turn vs e = value-at vs e ∙ ap (λ (sc : Scope). Ok (state sc (frame.Value (for_value.Init (decls outside n ss is (max k h)) d a) ∷ fs) control.Value vs)) scopes

  given-at : (g : At Given) (h j : ℕ) (us : Tokens) → turn (state behind (frame.Value (for_value.Init (decls outside n ss is h) d a) ∷ fs) (control.HaveValue (tall g j)) us)
      ≡ Ok (state behind fs (control.Inits (decls outside n ss (is ++ record { at = d.at; node = record { declr = d; attrs = a; value = Some g } } ∷ []) (max h j))) us)
  unfolding turn
  given-at g h j us = refl

  given-turn : (g : At Given) (h j l : ℕ) (us : Tokens) → max h j ≡ l →
      turn (state behind (frame.Value (for_value.Init (decls outside n ss is h) d a) ∷ fs) (control.HaveValue (tall g j)) us) ≡ Ok (state behind fs (control.Inits (with_value (Some g) l)) us)
  given-turn g h j l us e = (given-at g h j us
      ∙ ap (λ (p : ℕ). Ok (state behind fs (control.Inits (decls outside n ss (is ++ record { at = p; node = record { declr = d; attrs = a; value = Some g } } ∷ []) (max h j))) us)) begin)
      ∙ ap (λ (p : ℕ). Ok (state behind fs (control.Inits (with_value (Some g) p)) us)) e

made-scope : (ss : List (At Spec)) (types : Bool) (x : Name) (d : Declr) (scope : Scope) → declares_types ss ≡ types → name_of d ≡ Some x → is_typedef scope x ≡ false →
    scope_after (declared (declares_types ss) x) scope ≡ behind_declr types d scope
made-scope ss types x d scope e n k = declared-scope (declares_types ss) x d scope n k ∙ ap (λ (b : Bool). behind_declr b d scope) e

zero_max : (a : ℕ) → a ≡ max a 0
zero_max a = omega arith

init-starts : {types : Bool} {scope behind : Scope} {i : At Init} {ts us : Tokens} → IsInit types scope behind i ts us → starts_declr scope ts ≡ true
init-starts (AnInit types scope d x a v ts us vs ws h n q e) = declr-starts h x n

inits-start : {types : Bool} {scope behind : Scope} {is : List (At Init)} {ts us : Tokens} → IsInits types scope behind is ts us → starts_declr scope ts ≡ true
inits-start (FirstInit types scope behind i ts us d) = init-starts d
inits-start (MoreInits types scope between behind is i c ts us vs d e) = inits-start d

semicolon-no_spec : (scope : Scope) (q : Span) (us : Tokens) → goes_on_specs scope (mark m.Semi q ∷ us) ≡ false
semicolon-no_spec scope q us = refl

value-no_declr : (scope : Scope) (p : Span) (ts : Tokens) → goes_on_declr scope (mark m.Assign p ∷ ts) ≡ false
value-no_declr scope p ts = refl

value-no_attr : (p : Span) (ts : Tokens) → begins_attr (mark m.Assign p ∷ ts) ≡ false
unfolding begins_attr
value-no_attr p ts = refl

value-no_brace : (p : Span) (ts : Tokens) → after m.LBrace (mark m.Assign p ∷ ts) ≡ None
unfolding after same_mark
value-no_brace p ts = refl

-- the turns of a declaration

pub opens-specs : (scope : Scope) (outside : Bool) (fs : List Frame) (ts : Tokens) →
    turn (state scope fs (control.Decl outside) ts) ≡ Ok (state scope (frame.Specs (for_specs.Decl outside (offset ts)) ∷ fs) (control.Specs (tall [] 0)) ts)
unfolding turn
opens-specs scope outside fs ts = refl

pub opens-declr : (scope : Scope) (outside : Bool) (fs : List Frame) (ss : List (At Spec)) (h n : ℕ) (us : Tokens) → after m.Semi us ≡ None →
    turn (state scope (frame.Specs (for_specs.Decl outside n) ∷ fs) (control.HaveSpecs (tall ss h)) us) ≡ Ok (state scope (frame.Declr (for_declr.Init (decls outside n ss [] h)) ∷ fs) control.Declr us)
unfolding turn
opens-declr scope outside fs ss h n us e = rw e refl

closes-decl : (scope : Scope) (outside : Bool) (fs : List Frame) (ss : List (At Spec)) (is : List (At Init)) (h n : ℕ) (q : Span) (us : Tokens) →
    turn (state scope fs (control.Inits (decls outside n ss is h)) (mark m.Semi q ∷ us)) ≡ Ok (state scope fs (control.HaveDecl n (tall (record { specs = ss; inits = is }) h)) us)
unfolding turn inits after same_mark
closes-decl scope outside fs ss is h n q us = refl

module _ (limit : ℕ) where
  module _ (scope behind : Scope) (ss : List (At Spec)) (d : At Declr) (h : ℕ) (x : Name) (a : List (At Attr)) (ts us vs : Tokens) (way : DeclrLeads limit scope d h ts us)
      (named : name_of d.node ≡ Some x) (scopes : scope_after (declared (declares_types ss) x) scope ≡ behind) (begin : d.at ≡ offset ts) (read : attrs us ≡ Ok (a, vs)) (no_body : after m.LBrace vs ≡ None) where
    plain-init : after m.Assign vs ≡ None → InitLeads limit ss scope behind (at ts (record { declr = d; attrs = a; value = None })) h ts vs
    plain-init e outside n k is fs = then limit (way (frame.Declr (for_declr.Init (decls outside n ss is k)) ∷ fs))
        (turns limit _ _ _ (no_value-turn scope behind outside n k (offset ts) ss is fs d x a named scopes begin h us vs read no_body e) refl (Here _))

    valued-init : (g : At Given) (j : ℕ) (ws xs : Tokens) → after m.Assign vs ≡ Some ws → ValueLeads limit behind g j ws xs →
        InitLeads limit ss scope behind (at ts (record { declr = d; attrs = a; value = Some g })) (max h j) ts xs
    valued-init g j ws xs e r outside n k is fs = then limit (way (frame.Declr (for_declr.Init (decls outside n ss is k)) ∷ fs))
        (turns limit _ _ _ (value-turn scope behind outside n k (offset ts) ss is fs d x a named scopes begin h us vs read no_body ws e) refl
        (then limit (r (frame.Value (for_value.Init (decls outside n ss is (max k h)) d a) ∷ fs))
        (turns limit _ _ _ (given-turn scope behind outside n k (offset ts) ss is fs d x a named scopes begin g (max k h) j (max k (max h j)) xs (max_assoc k h j)) refl (Here _))))

  init-height : (ss : List (At Spec)) (scope behind : Scope) (i : At Init) (h k : ℕ) (ts us : Tokens) → h ≡ k → InitLeads limit ss scope behind i h ts us → InitLeads limit ss scope behind i k ts us
  init-height ss scope behind i h k ts us e r = subst (λ (n : ℕ). InitLeads limit ss scope behind i n ts us) e r

  inits-height : (ss : List (At Spec)) (scope behind : Scope) (is : List (At Init)) (h k : ℕ) (ts us : Tokens) → h ≡ k → InitsLead limit ss scope behind is h ts us → InitsLead limit ss scope behind is k ts us
  inits-height ss scope behind is h k ts us e r = subst (λ (n : ℕ). InitsLead limit ss scope behind is n ts us) e r

  first-init : (ss : List (At Spec)) (scope after : Scope) (i : At Init) (h : ℕ) (ts us : Tokens) → InitLeads limit ss scope after i h ts us → InitsLead limit ss scope after (i ∷ []) h ts us
  first-init ss scope after i h ts us r outside n k fs = r outside n k [] fs

  height-here : (s : State) (behind : Scope) (fs : List Frame) (outside : Bool) (n h k : ℕ) (ss : List (At Spec)) (is : List (At Init)) (us : Tokens) → h ≡ k →
      Leads limit s (state behind fs (control.Inits (decls outside n ss is h)) us) → Leads limit s (state behind fs (control.Inits (decls outside n ss is k)) us)
  height-here s behind fs outside n h k ss is us e r = subst (λ (x : ℕ). Leads limit s (state behind fs (control.Inits (decls outside n ss is x)) us)) e r

  more-inits : (ss : List (At Spec)) (scope between behind : Scope) (is : List (At Init)) (i : At Init) (h j : ℕ) (c : Span) (ts us vs : Tokens) → InitsLead limit ss scope between is h ts (mark m.Comma c ∷ us) →
      InitLeads limit ss between behind i j us vs → InitsLead limit ss scope behind (is ++ i ∷ []) (max h j) ts vs
  unfolding turn inits after same_mark
  more-inits ss scope between behind is i h j c ts us vs r q outside n k fs = then limit (r outside n k fs)
      (turns limit _ (state between (frame.Declr (for_declr.Init (decls outside n ss is (max k h))) ∷ fs) control.Declr us) _ refl refl
      (height-here _ behind fs outside n (max (max k h) j) (max k (max h j)) ss (is ++ i ∷ []) vs (max_assoc k h j) (q outside n (max k h) is fs)))

  no-declarators : (scope : Scope) (ss : List (At Spec)) (h : ℕ) (q : Span) (ts us : Tokens) → SpecsLead limit scope ss h ts (mark m.Semi q ∷ us) →
      DeclLeads limit scope scope (record { specs = ss; inits = [] }) h ts us
  unfolding turn after same_mark
  no-declarators scope ss h q ts us r outside fs = turns limit _ (state scope (frame.Specs (for_specs.Decl outside (offset ts)) ∷ fs) (control.Specs (tall [] 0)) ts) _ refl refl
      (then limit (r (frame.Specs (for_specs.Decl outside (offset ts)) ∷ fs)) (turns limit _ _ _ refl refl (Here _)))

  declarators : (scope behind : Scope) (ss : List (At Spec)) (is : List (At Init)) (h j : ℕ) (q : Span) (ts us vs : Tokens) → SpecsLead limit scope ss h ts us → after m.Semi us ≡ None →
      InitsLead limit ss scope behind is j us (mark m.Semi q ∷ vs) → DeclLeads limit scope behind (record { specs = ss; inits = is }) (max h j) ts vs
  declarators scope behind ss is h j q ts us vs r e d outside fs = turns limit _ (state scope (frame.Specs (for_specs.Decl outside (offset ts)) ∷ fs) (control.Specs (tall [] 0)) ts) _ (opens-specs scope outside fs ts) refl
      (then limit (r (frame.Specs (for_specs.Decl outside (offset ts)) ∷ fs))
      (turns limit _ _ _ (opens-declr scope outside fs ss h (offset ts) us e) refl (then limit (d outside (offset ts) h fs) (turns limit _ _ _ (closes-decl behind outside fs ss is (max h j) (offset ts) q vs) refl (Here _)))))

  decl-height : (scope behind : Scope) (d : Decl) (h k : ℕ) (ts us : Tokens) → h ≡ k → DeclLeads limit scope behind d h ts us → DeclLeads limit scope behind d k ts us
  decl-height scope behind d h k ts us e r = subst (λ (n : ℕ). DeclLeads limit scope behind d n ts us) e r

  module _ (parts : Parts limit) where
    init-leads : {types : Bool} {scope behind : Scope} {i : At Init} {ts us : Tokens} → IsInit types scope behind i ts us → (ss : List (At Spec)) → declares_types ss ≡ types → init_height i.node ≤ limit → Ends us →
        InitLeads limit ss scope behind i (init_height i.node) ts us
    init-leads (AnInit types scope d x a _ ts us vs _ h n q (NoValue _ _)) ss e k c =
        let way : DeclrLeads limit scope d (height_of_declr d.node) ts us = parts.declr scope d ts us h (left (height_of_declr d.node) 0 k) (attrs-end_declr scope q (c.no_declr scope)) in
        init-height ss scope (behind_declr types d.node scope) (at ts (record { declr = d; attrs = a; value = None })) (height_of_declr d.node) (max (height_of_declr d.node) 0) ts vs (zero_max (height_of_declr d.node))
        (plain-init scope (behind_declr types d.node scope) ss d (height_of_declr d.node) x a ts us vs way n (made-scope ss types x d.node scope e n (declares-new h x n)) (declr-at h) (attrs-complete q c.no_attr) c.no_brace c.no_value)
    init-leads (AnInit types scope d x a _ ts us _ ws h n q (AValue _ g p vs _ v)) ss e k c =
        valued-init scope (behind_declr types d.node scope) ss d (height_of_declr d.node) x a ts us (mark m.Assign p ∷ vs)
        (parts.declr scope d ts us h (left (height_of_declr d.node) (given_height g.node) k) (attrs-end_declr scope q (value-no_declr scope p vs))) n (made-scope ss types x d.node scope e n (declares-new h x n)) (declr-at h)
        (attrs-complete q (value-no_attr p vs)) (value-no_brace p vs) g (given_height g.node) vs ws (after-complete m.Assign p vs)
        (value-leads limit parts v (right (height_of_declr d.node) (given_height g.node) k) c.no_more)

    inits-lead : {types : Bool} {scope behind : Scope} {is : List (At Init)} {ts us : Tokens} → IsInits types scope behind is ts us → (ss : List (At Spec)) → declares_types ss ≡ types → heights init_height is ≤ limit → Ends us →
        InitsLead limit ss scope behind is (heights init_height is) ts us
    inits-lead (FirstInit types scope behind i ts us d) ss e h c = inits-height ss scope behind (i ∷ []) (init_height i.node) (heights init_height (i ∷ [])) ts us (sym (heights-first init_height i))
        (first-init ss scope behind i (init_height i.node) ts us (init-leads d ss e (lower (heights-first init_height i) h) c))
    inits-lead (MoreInits types scope between behind is i c ts us vs d q) ss e h k = inits-height ss scope behind (is ++ i ∷ []) (max (heights init_height is) (init_height i.node)) (heights init_height (is ++ i ∷ [])) ts vs (sym (heights-behind init_height is i))
        (more-inits ss scope between behind is i (heights init_height is) (init_height i.node) c ts us vs
        (inits-lead d ss e (left (heights init_height is) (init_height i.node) (lower (heights-behind init_height is i) h)) (comma-ends c us))
        (init-leads q ss e (right (heights init_height is) (init_height i.node) (lower (heights-behind init_height is i) h)) k))

    pub decl-leads : {scope behind : Scope} {d : Decl} {ts us : Tokens} → IsDecl scope behind d ts us → decl_height d ≤ limit → DeclLeads limit scope behind d (decl_height d) ts us
    decl-leads (DeclaresNothing scope ss q ts us d) h = decl-height scope scope (record { specs = ss; inits = [] }) (specs_height ss) (max (specs_height ss) 0) ts us (zero_max (specs_height ss))
        (no-declarators scope ss (specs_height ss) q ts us (parts.specs scope ss ts (mark m.Semi q ∷ us) d (left (specs_height ss) 0 h) (semicolon-no_spec scope q us)))
    decl-leads (Declares scope behind ss is q ts us vs d e) h =
        declarators scope behind ss is (specs_height ss) (heights init_height is) q ts us vs
        (parts.specs scope ss ts us d (left (specs_height ss) (heights init_height is) h) (declr-no_spec scope us (inits-start e))) (declr-no_semi scope us (inits-start e))
        (inits-lead e ss refl (right (specs_height ss) (heights init_height is) h) (semicolon-ends q vs))
