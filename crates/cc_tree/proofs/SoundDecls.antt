-- The turns on declarations, initialisers and translation units: what a turn leaves is again a state of an
-- unfinished sentence.
use Rattle.std.proofs.Common.{◌≡◌, ℕ, suc, Bool, true, false, ◌&&◌, List, [], ◌∷◌, ◌++◌, Option, Some, None, IfSome, refl, ap, sym, ◌∙◌, arith, max, subst}
use Rattle.cc_lex.specs.declared.token.Mark.TheVariants as m
use Rattle.cc_tree.specs.declared.at.At.{At}
use Rattle.cc_tree.specs.declared.state.Block.{Block}
use Rattle.cc_tree.specs.declared.state.Control.TheVariants as control
use Rattle.cc_tree.specs.declared.state.Declaration.{Declaration}
use Rattle.cc_tree.specs.declared.state.DeclrFrame.TheVariants as for_declr
use Rattle.cc_tree.specs.declared.state.Frame.{Frame}
use Rattle.cc_tree.specs.declared.state.Frame.TheVariants as frame
use Rattle.cc_tree.specs.declared.state.Head.{Head}
use Rattle.cc_tree.specs.declared.state.Items.{Items}
use Rattle.cc_tree.specs.declared.state.SpecsFrame.TheVariants as for_specs
use Rattle.cc_tree.specs.declared.state.Tall.{Tall}
use Rattle.cc_tree.specs.declared.state.ValueFrame.TheVariants as for_value
use Rattle.cc_tree.specs.declared.tree.Attr.{Attr}
use Rattle.cc_tree.specs.declared.tree.Declr.{Declr}
use Rattle.cc_tree.specs.declared.tree.Spec.{Spec}
use Rattle.cc_tree.specs.declared.unit.Decl.{Decl}
use Rattle.cc_tree.specs.declared.unit.Given.{Given}
use Rattle.cc_tree.specs.declared.unit.Init.{Init}
use Rattle.cc_tree.specs.declared.unit.Item.{Item}
use Rattle.cc_tree.specs.declared.unit.Item.TheVariants as item
use Rattle.cc_tree.specs.declared.unit.Line as line
use Rattle.cc_tree.specs.declared.unit.Line.{Line}
use Rattle.cc_tree.specs.Height.{height_of_declr, heights, specs_height, given_height, init_height, value_height, line_height, item_height}
use Rattle.cc_tree.specs.Machine.{scope_after, with_typedef}
use Rattle.cc_tree.specs.Operators.{assignment_level}
use Rattle.cc_tree.specs.Reading.{after, begins_with}
use Rattle.cc_tree.specs.ReadTypes.{attrs}
use Rattle.cc_tree.specs.Scopes.{Scope, name_of, with_name, declares_types, behind_declr, is_typedef}
use Rattle.cc_tree.specs.Sentences.{IsItem, ADeclItem, AFunc, IsItems, MoreItems}
use Rattle.cc_tree.specs.Statements.{ManyValues, IsGivens, FirstValue, MoreValues, IsValue, NoValue, AValue, IsInit, AnInit, IsInits, FirstInit, MoreInits, DeclaresNothing, Declares, FirstDecl, IsLines, NoLine, AStatement, ADeclaration}
use Rattle.cc_tree.specs.Terms.{IsSpecs, NoSpec, IsDeclr, IsAttrs, IsLastComma, NoComma, AComma}
use Rattle.cc_tree.specs.Tokens.{Tokens, Name, Span, mark, offset}
use Rattle.cc_tree.specs.TurnLines.{value, value_by, close_values, behind_comma, values_by, declaration, with_init, with_height, init_value, declared, no_init, body, init_or_body, declr_done, inits, inits_by, decl_by, with_line, with_item, items, give_specs, give_declr, give_value, to_decl, to_line, to_body, to_item, scoped}
use Rattle.cc_tree.specs.Turns.{tall}
use Rattle.cc_tree.proofs.HeightSteps.{heights-behind, heights-first, given_height-Many, line_height-Decl}
use Rattle.cc_tree.proofs.Inside.{TheSpecs, ADeclr, AGiven, ADecl, ALine, NeedSpecs, NeedDeclr, NeedValue, NeedDecl, NeedLine, NeedBody, declared_in, Inside, InValue, InFirstValue, InMoreValues, InInitValue, InDeclSpecs, InInit, InBody, InItems, InForDecl, InBlockLine, InBlockDecl, InDeclaration, FirstDeclarator, NextDeclarator, TestWanted, InBlock, OfStatement, OfFunction, Good, GoodExpr, GoodSpecs, GoodDeclr, GoodValue, GoodHaveValue, GoodDecl, GoodInits, GoodHaveDecl, GoodBlock, GoodTest, GoodItems, GoodHaveItem, GoodDone, GoodTurn}
use Rattle.cc_tree.proofs.ReadingBasics.{ok_bind, Behind, after-sound}
use Rattle.cc_tree.proofs.NewNames.{declares-new}
use Rattle.cc_tree.proofs.SoundParts.{declr_begins}
use Rattle.cc_tree.proofs.SoundTokens.{eat_from, attrs-sound}

-- what is in scope behind a declarator
scope_declared : (types : Bool) (x : Name) (scope : Scope) → is_typedef scope x ≡ false → scope_after (declared types x) scope ≡ declared_in types x scope
scope_declared true x scope h = ap (with_typedef x scope) h
scope_declared false x scope h = refl

both_true : (a b : Bool) → (a && b) ≡ true → (a ≡ true) × (b ≡ true)
both_true true b h = (refl, h)
both_true false b h = cc

declared-behind : (types : Bool) (d : Declr) (x : Name) (scope : Scope) → name_of d ≡ Some x → behind_declr types d scope ≡ declared_in types x scope
declared-behind false d x scope h = refl
declared-behind true d x scope h = ap (λ (n : Option Name). with_name n scope) h

-- a declarator with what stands behind it
abbrev pub init_of : At Declr → List (At Attr) → Option (At Given) → At Init
init_of e a v = record { at = e.at; node = record { declr = e; attrs = a; value = v } }

init_read : {types : Bool} {scope after : Scope} {e : At Declr} {x : Name} {a : List (At Attr)} {v : Option (At Given)} {ts us vs ws : Tokens} → IsDeclr scope false e ts us → name_of e.node ≡ Some x → IsAttrs a us vs →
    after ≡ declared_in types x scope → IsValue after v vs ws → IsInit types scope after (init_of e a v) ts ws
init_read {types} {scope} {after} {e} {x} {a} {v} {ts} {us} {vs} {ws} declr named words as_declared behind =
    let same : after ≡ behind_declr types e.node scope = as_declared ∙ sym (declared-behind types e.node x scope named) in
    subst (λ (y : Scope). IsInit types scope y (init_of e a v) ts ws) (sym same)
    (subst (λ (n : ℕ). IsInit types scope (behind_declr types e.node scope) (record { at = n; node = record { declr = e; attrs = a; value = v } }) ts ws) (sym (declr_begins declr))
    (AnInit types scope e x a v ts us vs ws declr named words (subst (λ (y : Scope). IsValue y v vs ws) same behind)))

not_none : {A : Type 0} (is : List (At Init)) (i : At Init) → no_init (is ++ i ∷ []) ≡ true → A
not_none [] i h = cc
not_none (j ∷ is) i h = cc

some_inits : {A : Type 0} {types : Bool} {before after : Scope} {is : List (At Init)} {ts us : Tokens} → IsInits types before after is ts us → no_init is ≡ true → A
some_inits (FirstInit types before after i ts us h) n = cc
some_inits (MoreInits types before between after is i c ts us vs h k) n = not_none is i n

module _ {all : Tokens} where
  -- initialisers

  value_begins : {scope : Scope} {fs : List Frame} (ts : Tokens) (r : Option Tokens) → IfSome r (Behind m.LBrace ts) → Inside all scope fs NeedValue ts → GoodTurn all scope fs (value_by ts r)
  value_begins {scope} {fs} ts None h i = GoodExpr scope _ assignment_level ts (InValue scope fs ts i) (omega arith)
  value_begins {scope} {fs} ts (Some us) h i = subst (λ (x : Tokens). GoodTurn all scope fs (value_by x (Some us))) (sym h.1)
      (GoodValue scope _ us (InFirstValue scope fs h.0 us (subst (λ (x : Tokens). Inside all scope fs NeedValue x) h.1 i)))

  pub value_good : {scope : Scope} {fs : List Frame} (ts : Tokens) → Inside all scope fs NeedValue ts → GoodTurn all scope fs (value ts)
  unfolding value
  value_good ts i = value_begins ts (after m.LBrace ts) (after-sound m.LBrace ts) i

  values_end : {scope : Scope} {fs : List Frame} (p : Span) (gs : Tall (List (At Given))) (ts us vs : Tokens) → Inside all scope fs NeedValue (mark m.LBrace p ∷ ts) → IsGivens scope gs.node ts us → gs.height ≡ heights given_height gs.node →
      IsLastComma us vs → GoodTurn all scope fs (close_values p.0 gs vs)
  values_end {scope} {fs} p gs ts us vs i are high last = eat_from m.RBrace vs _ (IsLastComma us) _ last (λ q ws c.
      GoodHaveValue scope fs _ (mark m.LBrace p ∷ ts) ws i (record { spelled = ManyValues scope gs.node p q ts us ws are c; high = ap suc high ∙ sym (given_height-Many gs.node) }))

  comma_behind : {scope : Scope} {fs : List Frame} (p c : Span) (gs : Tall (List (At Given))) (ts us : Tokens) (b : Bool) → Inside all scope fs NeedValue (mark m.LBrace p ∷ ts) → IsGivens scope gs.node ts (mark m.Comma c ∷ us) →
      gs.height ≡ heights given_height gs.node → GoodTurn all scope fs (behind_comma p.0 gs us b)
  comma_behind {scope} {fs} p c gs ts us true i are high = values_end p gs ts (mark m.Comma c ∷ us) us i are high (AComma c us)
  comma_behind {scope} {fs} p c gs ts us false i are high = GoodValue scope _ us (InMoreValues scope fs gs p c ts us i are high)

  values_go : {scope : Scope} {fs : List Frame} (p : Span) (gs : Tall (List (At Given))) (ts us : Tokens) (r : Option Tokens) → IfSome r (Behind m.Comma us) → Inside all scope fs NeedValue (mark m.LBrace p ∷ ts) → IsGivens scope gs.node ts us →
      gs.height ≡ heights given_height gs.node → GoodTurn all scope fs (values_by p.0 gs us r)
  values_go p gs ts us None h i are high = values_end p gs ts us us i are high (NoComma us)
  values_go {scope} p gs ts us (Some vs) h i are high = comma_behind p h.0 gs ts vs (begins_with m.RBrace vs) i (subst (λ (x : Tokens). IsGivens scope gs.node ts x) h.1 are) high

  pub many_value : {scope : Scope} {fs : List Frame} {n : ℕ} {gs : Tall (List (At Given))} {g : Tall (At Given)} {ts us : Tokens} → Inside all scope (frame.Value (for_value.Many n gs) ∷ fs) NeedValue ts → AGiven scope g ts us →
      GoodTurn all scope fs (give_value g us (for_value.Many n gs))
  many_value {g = g} {us = us} (InFirstValue scope fs p ts i) a =
      values_go p (tall (g.node ∷ []) (max 0 g.height)) ts us (after m.Comma us) (after-sound m.Comma us) i (FirstValue scope g.node ts us a.spelled) (omega (arith, heights-first given_height g.node, a.high))
  many_value {g = g} {us = us} (InMoreValues scope fs gs p c ts vs i are high) a =
      values_go p (tall (gs.node ++ g.node ∷ []) (max gs.height g.height)) ts us (after m.Comma us) (after-sound m.Comma us) i (MoreValues scope gs.node g.node c ts vs us are a.spelled)
      (omega (arith, heights-behind given_height gs.node g.node, a.high))

  -- declarations

  pub declaration_good : {scope : Scope} {fs : List Frame} (outside : Bool) (ts : Tokens) → Inside all scope fs (NeedDecl outside) ts → GoodTurn all scope fs (declaration outside ts)
  declaration_good {scope} {fs} outside ts i = GoodSpecs scope _ _ ts ts (InDeclSpecs scope fs outside ts i) (record { spelled = NoSpec scope ts; high = refl })

  specs_go : {scope : Scope} {fs : List Frame} (outside : Bool) (s : Tall (List (At Spec))) (ts us : Tokens) (r : Option Tokens) → IfSome r (Behind m.Semi us) → Inside all scope fs (NeedDecl outside) ts → TheSpecs scope s ts us →
      GoodTurn all scope fs (decl_by (record { outside = outside; at = offset ts; specs = s.node; inits = []; height = s.height }) us r)
  specs_go {scope} {fs} outside s ts us None h i a = GoodDeclr scope _ us (InInit scope fs _ us (FirstDeclarator scope fs _ 0 ts us i a.spelled refl refl (omega (arith, a.high))))
  specs_go {scope} {fs} outside s ts us (Some vs) h i a = GoodHaveDecl scope scope fs outside (offset ts) _ ts vs i refl
      (record { spelled = DeclaresNothing scope s.node h.0 ts vs (subst (λ (x : Tokens). IsSpecs scope s.node ts x) h.1 a.spelled); high = omega (arith, a.high) })

  pub decl_specs_good : {scope : Scope} {fs : List Frame} {outside : Bool} {n : ℕ} {s : Tall (List (At Spec))} {ts us : Tokens} → Inside all scope (frame.Specs (for_specs.Decl outside n) ∷ fs) NeedSpecs ts → TheSpecs scope s ts us →
      GoodTurn all scope fs (give_specs s us (for_specs.Decl outside n))
  decl_specs_good {s = s} {us = us} (InDeclSpecs scope fs outside ts i) a = specs_go outside s ts us (after m.Semi us) (after-sound m.Semi us) i a

  inits_go : {before scope : Scope} {fs : List Frame} (d : Declaration) (ts us vs : Tokens) (r : Option Tokens) → IfSome r (Behind m.Comma vs) → Inside all before fs (NeedDecl d.outside) ts → IsSpecs before d.specs ts us → d.at ≡ offset ts →
      IsInits (declares_types d.specs) before scope d.inits us vs → d.height ≡ max (specs_height d.specs) (heights init_height d.inits) → GoodTurn all scope fs (inits_by d vs r)
  inits_go {before} {scope} {fs} d ts us vs None h i specs n are high = eat_from m.Semi vs _ (IsInits (declares_types d.specs) before scope d.inits us) _ are (λ q ws c.
      GoodHaveDecl before scope fs d.outside d.at _ ts ws i n (record { spelled = Declares before scope d.specs d.inits q ts us ws specs c; high = high }))
  inits_go {before} {scope} {fs} d ts us vs (Some ws) h i specs n are high =
      GoodDeclr scope _ ws (InInit scope fs d ws (NextDeclarator before scope fs d 0 h.0 ts us ws i specs n (subst (IsInits (declares_types d.specs) before scope d.inits us) h.1 are) (omega arith)))

  pub inits_good : {before scope : Scope} {fs : List Frame} (d : Declaration) (ts us vs : Tokens) → Inside all before fs (NeedDecl d.outside) ts → IsSpecs before d.specs ts us → d.at ≡ offset ts →
      IsInits (declares_types d.specs) before scope d.inits us vs → d.height ≡ max (specs_height d.specs) (heights init_height d.inits) → GoodTurn all scope fs (inits d vs)
  unfolding inits
  inits_good d ts us vs i specs n are high = inits_go d ts us vs (after m.Comma vs) (after-sound m.Comma vs) i specs n are high

  -- a declarator is handed over

  -- a height beside those of the parts so far
  higher : {scope : Scope} {fs : List Frame} {d : Declaration} {us : Tokens} (k h : ℕ) → k ≡ h → InDeclaration all scope fs d 0 us → InDeclaration all scope fs (with_height d k) h us
  higher k h e (FirstDeclarator scope fs d _ ts us i specs n none high) = FirstDeclarator scope fs (with_height d k) h ts us i specs n none (omega arith)
  higher k h e (NextDeclarator before scope fs d _ c ts us vs i specs n are high) = NextDeclarator before scope fs (with_height d k) h c ts us vs i specs n are (omega arith)

  one_init : {scope after : Scope} {fs : List Frame} {d : Declaration} {h : ℕ} {us : Tokens} (e : At Declr) (a : List (At Attr)) (v : Option (At Given)) (k : ℕ) (vs : Tokens) → InDeclaration all scope fs d h us →
      IsInit (declares_types d.specs) scope after (init_of e a v) us vs → max h k ≡ max (height_of_declr e.node) (value_height v) → Good all after fs (control.Inits (with_init d e a v k)) vs
  one_init {after = after} e a v k vs (FirstDeclarator scope fs d h ts us i specs n none high) one tall_as = GoodInits scope after fs (with_init d e a v k) ts us vs i specs n
      (subst (λ (is : List (At Init)). IsInits (declares_types d.specs) scope after (is ++ init_of e a v ∷ []) us vs) (sym none) (FirstInit (declares_types d.specs) scope after (init_of e a v) us vs one))
      (omega (arith, heights-behind init_height d.inits (init_of e a v), ap (heights init_height) none))
  one_init {after = after} e a v k vs (NextDeclarator before scope fs d h c ts us ws i specs n are high) one tall_as = GoodInits before after fs (with_init d e a v k) ts us vs i specs n
      (MoreInits (declares_types d.specs) before scope after d.inits (init_of e a v) c us ws vs are one) (omega (arith, heights-behind init_height d.inits (init_of e a v)))

  init_follows : {scope : Scope} {fs : List Frame} (d : Declaration) (e : Tall (At Declr)) (a : List (At Attr)) (x : Name) (ts us vs : Tokens) (r : Option Tokens) → IfSome r (Behind m.Assign vs) →
      InDeclaration all scope fs d 0 ts → ADeclr scope false e ts us → name_of e.node.node ≡ Some x → IsAttrs a us vs → GoodTurn all scope fs (scoped (declared (declares_types d.specs) x) (init_value d e a vs r))
  init_follows {scope} {fs} d e a x ts us vs None h i declr named words =
      let inner = scope_after (declared (declares_types d.specs) x) scope in
      one_init e.node a None e.height vs i (init_read declr.spelled named words (scope_declared (declares_types d.specs) x scope (declares-new declr.spelled x named)) (NoValue inner vs)) (omega (arith, declr.high))
  init_follows {scope} {fs} d e a x ts us vs (Some ws) h i declr named words =
      let inner = scope_after (declared (declares_types d.specs) x) scope in
      GoodValue inner _ ws (InInitValue scope inner fs (with_height d e.height) e.node x a h.0 ts us ws (higher e.height (height_of_declr e.node.node) declr.high i) declr.spelled named (subst (IsAttrs a us) h.1 words)
      (scope_declared (declares_types d.specs) x scope (declares-new declr.spelled x named)))

  body_follows : {scope : Scope} {fs : List Frame} {d : Declaration} {ts : Tokens} (e : Tall (At Declr)) (a : List (At Attr)) (x : Name) (p : Span) (us vs : Tokens) → (d.outside && no_init d.inits) ≡ true →
      InDeclaration all scope fs d 0 ts → ADeclr scope false e ts us → name_of e.node.node ≡ Some x → IsAttrs a us (mark m.LBrace p ∷ vs) → GoodTurn all scope fs (body scope d e a vs)
  body_follows e a x p us vs alone (FirstDeclarator scope fs d _ t0 t1 i specs n none high) declr named words =
      let both = both_true d.outside (no_init d.inits) alone in
      GoodBlock scope _ _ vs (OfFunction scope scope _ _ vs vs
      (InBody scope fs _ x p t0 t1 us vs (subst (λ (b : Bool). Inside all scope fs (NeedDecl b) t0) both.0 i) specs declr.spelled named words n (omega (arith, declr.high))) refl refl (NoLine scope vs) refl)
  body_follows e a x p us vs alone (NextDeclarator before scope fs d _ c ts t1 t2 i specs n are high) declr named words = some_inits are (both_true d.outside (no_init d.inits) alone).1

  either_follows : {scope : Scope} {fs : List Frame} (d : Declaration) (e : Tall (At Declr)) (a : List (At Attr)) (x : Name) (ts us vs : Tokens) (r : Option Tokens) (b : Bool) → IfSome r (Behind m.LBrace vs) →
      (d.outside && no_init d.inits) ≡ b → InDeclaration all scope fs d 0 ts → ADeclr scope false e ts us → name_of e.node.node ≡ Some x → IsAttrs a us vs → GoodTurn all scope fs (init_or_body scope d e a x vs r b)
  either_follows {scope} {fs} d e a x ts us vs (Some ws) true h k i declr named words = body_follows e a x h.0 us ws k i declr named (subst (IsAttrs a us) h.1 words)
  either_follows {scope} {fs} d e a x ts us vs (Some ws) false h k i declr named words = init_follows d e a x ts us vs (after m.Assign vs) (after-sound m.Assign vs) i declr named words
  either_follows {scope} {fs} d e a x ts us vs None b h k i declr named words = init_follows d e a x ts us vs (after m.Assign vs) (after-sound m.Assign vs) i declr named words

  declr_ends : {scope : Scope} {fs : List Frame} (d : Declaration) (e : Tall (At Declr)) (ts us : Tokens) (r : Option Name) → name_of e.node.node ≡ r → InDeclaration all scope fs d 0 ts → ADeclr scope false e ts us →
      GoodTurn all scope fs (declr_done scope d e us r)
  declr_ends d e ts us None named i declr = tt
  declr_ends d e ts us (Some x) named i declr = ok_bind (attrs us) _ _ _ (attrs-sound us) (λ a h.
      either_follows d e a.0 x ts us a.1 (after m.LBrace a.1) (d.outside && no_init d.inits) (after-sound m.LBrace a.1) refl i declr named h)

  pub init_declr : {scope : Scope} {fs : List Frame} {d : Declaration} {e : Tall (At Declr)} {ts us : Tokens} → Inside all scope (frame.Declr (for_declr.Init d) ∷ fs) NeedDeclr ts → ADeclr scope false e ts us →
      GoodTurn all scope fs (give_declr scope e us (for_declr.Init d))
  init_declr {e = e} {us = us} (InInit scope fs d ts i) declr = declr_ends d e ts us (name_of e.node.node) refl i declr

  pub init_given : {scope : Scope} {fs : List Frame} {d : Declaration} {e : At Declr} {a : List (At Attr)} {g : Tall (At Given)} {ts us : Tokens} → Inside all scope (frame.Value (for_value.Init d e a) ∷ fs) NeedValue ts →
      AGiven scope g ts us → GoodTurn all scope fs (give_value g us (for_value.Init d e a))
  init_given {g = g} {us = ws} (InInitValue before scope fs d e x a p ts us vs i declr named words same) given =
      one_init e a (Some g.node) g.height ws i (init_read declr named words same (AValue scope g.node p vs ws given.spelled)) (omega (arith, given.high))

  -- a declaration, a statement, a body or an item is handed over

  more_lines : {between scope : Scope} {fs : List Frame} {b : Block} {ts us : Tokens} (l : At Line) (k : ℕ) → InBlock all between fs b ts →
      ((before : Scope) (t0 : Tokens) → IsLines before between b.lines t0 ts → IsLines before scope (b.lines ++ l ∷ []) t0 us) → k ≡ line_height l.node → InBlock all scope fs (with_line b l k) us
  more_lines {scope = scope} {us = us} l k (OfStatement before between fs b p ts _ i body n count lines high) grow e =
      OfStatement before scope fs (with_line b l k) p ts us i body n count (grow before ts lines) (omega (arith, heights-behind line_height b.lines l))
  more_lines {scope = scope} {us = us} l k (OfFunction before between fs b ts _ i body count lines high) grow e =
      OfFunction before scope fs (with_line b l k) ts us i body count (grow before ts lines) (omega (arith, heights-behind line_height b.lines l))

  pub line_in_block : {scope : Scope} {fs : List Frame} {b : Block} {a : Tall (At Line)} {ts us : Tokens} → Inside all scope (frame.Block b ∷ fs) NeedLine ts → ALine scope a ts us → GoodTurn all scope fs (to_line a us (frame.Block b))
  line_in_block {a = a} {us = us} (InBlockLine scope fs b ts i) l =
      GoodBlock scope fs _ us (more_lines a.node a.height i (λ before t0 lines. AStatement before scope b.lines a.node t0 ts us lines l.spelled) l.high)

  pub decl_in_block : {before scope : Scope} {fs : List Frame} {b : Block} {outside : Bool} {n : ℕ} {d : Tall Decl} {ts us : Tokens} → Inside all before (frame.Block b ∷ fs) (NeedDecl outside) ts → n ≡ offset ts →
      ADecl before scope d ts us → GoodTurn all scope fs (to_decl n d us (frame.Block b))
  decl_in_block {scope = scope} {n = n} {d = d} {us = us} (InBlockDecl before fs b ts i) e a =
      GoodBlock scope fs _ us (more_lines (record { at = n; node = line.Decl d.node }) d.height i (λ first t0 lines. subst (λ (x : ℕ). IsLines first scope (b.lines ++ record { at = x; node = line.Decl d.node } ∷ []) t0 us) (sym e)
      (ADeclaration first before scope b.lines d.node t0 ts us lines a.spelled)) (a.high ∙ sym (line_height-Decl d.node)))

  pub decl_in_for : {before scope : Scope} {fs : List Frame} {outside : Bool} {k count : ℕ} {d : Tall Decl} {ts us : Tokens} (n : ℕ) → Inside all before (frame.First k count ∷ fs) (NeedDecl outside) ts → ADecl before scope d ts us →
      GoodTurn all scope fs (to_decl n d us (frame.First k count))
  decl_in_for {scope = scope} {d = d} {us = us} n (InForDecl before fs s p ts i) a = GoodTest scope fs _ us (TestWanted before scope fs _ s p ts us i refl refl (FirstDecl before scope d.node ts us a.spelled) refl refl a.high)

  one_item : {before scope : Scope} {is : Items} {ts us : Tokens} (i : At Item) (k : ℕ) → IsItems [] before is.items all ts → is.height ≡ heights item_height is.items → i.at ≡ offset ts → IsItem before scope i.node ts us →
      k ≡ item_height i.node → Good all scope [] (control.Items (with_item is i k)) us
  one_item {before} {scope} {is} {ts} {us} i k are high n one e = GoodItems scope (with_item is i k) us
      (subst (λ (x : ℕ). IsItems [] scope (is.items ++ record { at = x; node = i.node } ∷ []) all us) (sym n) (MoreItems [] before scope is.items i.node all ts us are one)) (omega (arith, heights-behind item_height is.items i))

  pub decl_in_items : {before scope : Scope} {fs : List Frame} {is : Items} {outside : Bool} {n : ℕ} {d : Tall Decl} {ts us : Tokens} → Inside all before (frame.Items is ∷ fs) (NeedDecl outside) ts → n ≡ offset ts →
      ADecl before scope d ts us → GoodTurn all scope fs (to_decl n d us (frame.Items is))
  decl_in_items {scope = scope} {n = n} {d = d} {us = us} (InItems before is ts are high) e a = one_item (record { at = n; node = item.Decl d.node }) d.height are high e (ADeclItem before scope d.node ts us a.spelled) a.high

  pub item_in_items : {scope : Scope} {fs : List Frame} {is : Items} {i : Tall (At Item)} {ts us : Tokens} → Inside all scope (frame.Items is ∷ fs) (NeedDecl true) ts → IsItem scope scope i.node.node ts us → i.node.at ≡ offset ts →
      i.height ≡ item_height i.node.node → GoodTurn all scope fs (to_item i us (frame.Items is))
  item_in_items {i = i} {us = us} (InItems scope is ts are high) one n e = one_item i.node i.height are high n one e

  pub body_in_head : {scope inner : Scope} {fs : List Frame} {h : Head} {b : Tall (List (At Line))} {q : Span} {ts us : Tokens} → Inside all scope (frame.Body h ∷ fs) NeedBody ts → IsLines scope inner b.node ts (mark m.RBrace q ∷ us) →
      b.height ≡ heights line_height b.node → GoodTurn all scope fs (to_body b us (frame.Body h))
  body_in_head {inner = inner} {b = b} {q = q} {us = us} (InBody scope fs h x p t0 t1 t2 t3 i specs declr named words n high) lines e =
      GoodHaveItem scope fs _ t0 us i (AFunc scope inner h.specs h.declr x h.attrs b.node p q t0 t1 t2 t3 us specs declr named words lines) n (omega arith)

  pub items_good : {scope : Scope} (is : Items) (ts : Tokens) → IsItems [] scope is.items all ts → is.height ≡ heights item_height is.items → GoodTurn all scope [] (items is ts)
  unfolding items
  items_good {scope} is [] are high = GoodDone scope [] _ [] are high
  items_good {scope} is (t ∷ ts) are high = GoodDecl scope _ true (t ∷ ts) (InItems scope is (t ∷ ts) are high)
