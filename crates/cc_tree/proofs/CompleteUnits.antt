-- A translation unit leads the machine from its first state to where it is done, given that expressions,
-- specifiers and declarators lead to where they are read.
use Rattle.std.proofs.Common.{◌≡◌, ◌≤◌, ℕ, true, false, List, [], ◌∷◌, ◌++◌, Some, None, Ok, refl, ap, sym, ◌∙◌, subst, length, take, max, arith}
use Rattle.cc_lex.specs.declared.token.Mark.TheVariants as m
use Rattle.cc_tree.specs.declared.at.At.{At}
use Rattle.cc_tree.specs.declared.state.Control.TheVariants as control
use Rattle.cc_tree.specs.declared.state.DeclrFrame.TheVariants as for_declr
use Rattle.cc_tree.specs.declared.state.Frame.{Frame}
use Rattle.cc_tree.specs.declared.state.Frame.TheVariants as frame
use Rattle.cc_tree.specs.declared.state.Head.{Head}
use Rattle.cc_tree.specs.declared.state.Items.{Items}
use Rattle.cc_tree.specs.declared.state.SpecsFrame.TheVariants as for_specs
use Rattle.cc_tree.specs.declared.tree.Attr.{Attr}
use Rattle.cc_tree.specs.declared.tree.Declr.{Declr}
use Rattle.cc_tree.specs.declared.tree.Spec.{Spec}
use Rattle.cc_tree.specs.declared.unit.Decl.{Decl}
use Rattle.cc_tree.specs.declared.unit.Item.{Item}
use Rattle.cc_tree.specs.declared.unit.Item.TheVariants as item
use Rattle.cc_tree.specs.declared.unit.Line.{Line}
use Rattle.cc_tree.specs.declared.unit.Unit.{Unit as UnitTree}
use Rattle.cc_tree.specs.Height.{height_of_declr, specs_height, heights, decl_height, line_height, item_height, unit_height}
use Rattle.cc_tree.specs.Machine.{turn, start, Leads, Here}
use Rattle.cc_tree.specs.Reading.{after, same_mark}
use Rattle.cc_tree.specs.ReadTypes.{begins_attr, begins_specs, attrs}
use Rattle.cc_tree.specs.Scopes.{Scope, name_of}
use Rattle.cc_tree.specs.Sentences.{IsItem, ADeclItem, AFunc, IsItems, NoItem, MoreItems}
use Rattle.cc_tree.specs.Statements.{DeclaresNothing, Declares}
use Rattle.cc_tree.specs.Tokens.{Tokens, Name, Span, mark, at, offset}
use Rattle.cc_tree.specs.Turns.{tall}
use Rattle.cc_tree.specs.TurnLines.{items, block}
use Rattle.cc_tree.proofs.CompleteLines.{lines-lead, brace-no_else}
use Rattle.cc_tree.proofs.DeclsLead.{decl-leads, attrs-end_declr, opens-specs, opens-declr}
use Rattle.cc_tree.proofs.Firsts.{declr-starts, declr-no_spec, declr-no_semi}
use Rattle.cc_tree.proofs.GoesOn.{goes_on_declr}
use Rattle.cc_tree.proofs.HeightSteps.{heights-behind}
use Rattle.cc_tree.proofs.Leading.{state, one, then, attrs-complete}
use Rattle.cc_tree.proofs.ScopeGrows.{lines-grow, grown-left}
use Rattle.cc_tree.proofs.Wanted.{SpecsLead, DeclrLeads, DeclLeads, LinesLead, Parts, decls, blocks, turns, lower, left, right}

abbrev item_list : List (At Item) → ℕ → Items
item_list is height = record { items = is; height = height }

abbrev head_of : ℕ → List (At Spec) → At Declr → List (At Attr) → ℕ → Head
head_of n ss d a height = record { at = n; specs = ss; declr = d; attrs = a; height = height }

-- the turns of a function's definition

opens-body : (scope : Scope) (n k : ℕ) (ss : List (At Spec)) (fs : List Frame) (d : At Declr) (h : ℕ) (x : Name) (a : List (At Attr)) (ts : Tokens) (p : Span) (us : Tokens) → name_of d.node ≡ Some x →
    attrs ts ≡ Ok (a, mark m.LBrace p ∷ us) →
    turn (state scope (frame.Declr (for_declr.Init (decls true n ss [] k)) ∷ fs) (control.HaveDeclr (tall d h)) ts)
    ≡ Ok (state scope (frame.Body (head_of n ss d a (max k h)) ∷ fs) (control.Block (blocks true (length scope) (offset us) [] 0)) us)
unfolding turn after same_mark
opens-body scope n k ss fs d h x a ts p us e g = rw (e, g) refl

closes-body : (scope : Scope) (count n : ℕ) (ls : List (At Line)) (h : ℕ) (fs : List Frame) (q : Span) (us : Tokens) →
    turn (state scope fs (control.Block (blocks true count n ls h)) (mark m.RBrace q ∷ us)) ≡ Ok (state (take count scope) fs (control.HaveBody (tall ls h)) us)
unfolding turn block after same_mark
closes-body scope count n ls h fs q us = refl

have-body : (scope : Scope) (n k : ℕ) (ss : List (At Spec)) (d : At Declr) (a : List (At Attr)) (ls : List (At Line)) (h : ℕ) (fs : List Frame) (us : Tokens) →
    turn (state scope (frame.Body (head_of n ss d a k) ∷ fs) (control.HaveBody (tall ls h)) us)
    ≡ Ok (state scope fs (control.HaveItem (tall (record { at = n; node = item.Func ss d a ls }) (max k h))) us)
unfolding turn
have-body scope n k ss d a ls h fs us = refl

have-item : (scope : Scope) (is : List (At Item)) (k : ℕ) (i : At Item) (h : ℕ) (fs : List Frame) (us : Tokens) →
    turn (state scope (frame.Items (item_list is k) ∷ fs) (control.HaveItem (tall i h)) us) ≡ Ok (state scope fs (control.Items (item_list (is ++ i ∷ []) (max k h))) us)
unfolding turn
have-item scope is k i h fs us = refl

have-decl : (scope : Scope) (is : List (At Item)) (k n : ℕ) (d : Decl) (h : ℕ) (fs : List Frame) (us : Tokens) →
    turn (state scope (frame.Items (item_list is k) ∷ fs) (control.HaveDecl n (tall d h)) us)
    ≡ Ok (state scope fs (control.Items (item_list (is ++ record { at = n; node = item.Decl d } ∷ []) (max k h))) us)
unfolding turn
have-decl scope is k n d h fs us = refl

another-item : (scope : Scope) (is : Items) (fs : List Frame) (us : Tokens) → begins_specs scope us ≡ true →
    turn (state scope fs (control.Items is) us) ≡ Ok (state scope (frame.Items is ∷ fs) (control.Decl true) us)
unfolding turn items
another-item scope is fs [] e = absurd (empty e)
  where
    empty : false ≡ true → ⊥
    empty h = cc
another-item scope is fs (t ∷ ts) e = refl

all-read : (u : UnitTree) (scope : Scope) (h : ℕ) → turn (state scope [] (control.Items (item_list u.items h)) []) ≡ Ok (state scope [] (control.Done (tall u h)) [])
unfolding turn items
all-read u scope h = refl

brace-no_declr : (scope : Scope) (p : Span) (ts : Tokens) → goes_on_declr scope (mark m.LBrace p ∷ ts) ≡ false
brace-no_declr scope p ts = refl

brace-no_attr : (p : Span) (ts : Tokens) → begins_attr (mark m.LBrace p ∷ ts) ≡ false
unfolding begins_attr
brace-no_attr p ts = refl

func_heights : (a b c : ℕ) → max a (max b c) ≡ max (max a b) c
func_heights a b c = omega arith

module _ (limit : ℕ) where
  abbrev ItemLeads : Scope → Scope → Item → ℕ → Tokens → Tokens → Type 0
  ItemLeads scope behind i h ts us = (is : List (At Item)) (k : ℕ) (fs : List Frame) →
      Leads limit (state scope (frame.Items (item_list is k) ∷ fs) (control.Decl true) ts) (state behind fs (control.Items (item_list (is ++ at ts i ∷ []) (max k h))) us)

  abbrev ItemsLead : Scope → Scope → List (At Item) → ℕ → Tokens → Tokens → Type 0
  ItemsLead scope behind is h ts us = (fs : List Frame) → Leads limit (state scope fs (control.Items (item_list [] 0)) ts) (state behind fs (control.Items (item_list is h)) us)

  decl_item : (scope behind : Scope) (d : Decl) (h : ℕ) (ts us : Tokens) → DeclLeads limit scope behind d h ts us → ItemLeads scope behind (item.Decl d) h ts us
  decl_item scope behind d h ts us r is k fs = then limit (r true (frame.Items (item_list is k) ∷ fs)) (turns limit _ _ _ (have-decl behind is k (offset ts) d h fs us) refl (Here _))

  func_item : (scope inner : Scope) (ss : List (At Spec)) (d : At Declr) (x : Name) (a : List (At Attr)) (ls : List (At Line)) (hs hd hl : ℕ) (p q : Span) (t0 t1 t2 t3 t4 : Tokens) →
      SpecsLead limit scope ss hs t0 t1 → after m.Semi t1 ≡ None → DeclrLeads limit scope d hd t1 t2 → name_of d.node ≡ Some x → attrs t2 ≡ Ok (a, mark m.LBrace p ∷ t3) →
      LinesLead limit scope inner ls hl t3 (mark m.RBrace q ∷ t4) → take (length scope) inner ≡ scope → ItemLeads scope scope (item.Func ss d a ls) (max (max hs hd) hl) t0 t4
  func_item scope inner ss d x a ls hs hd hl p q t0 t1 t2 t3 t4 r e y n g z c is k fs =
      turns limit _ _ _ (opens-specs scope true (frame.Items (item_list is k) ∷ fs) t0) refl (then limit (r (frame.Specs (for_specs.Decl true (offset t0)) ∷ frame.Items (item_list is k) ∷ fs))
      (turns limit _ _ _ (opens-declr scope true (frame.Items (item_list is k) ∷ fs) ss hs (offset t0) t1 e) refl (then limit (y (frame.Declr (for_declr.Init (decls true (offset t0) ss [] hs)) ∷ frame.Items (item_list is k) ∷ fs))
      (turns limit _ _ _ (opens-body scope (offset t0) hs ss (frame.Items (item_list is k) ∷ fs) d hd x a t2 p t3 n g) refl
      (then limit (z true (length scope) (offset t3) (frame.Body (head_of (offset t0) ss d a (max hs hd)) ∷ frame.Items (item_list is k) ∷ fs))
      (turns limit _ _ _ (closes-body inner (length scope) (offset t3) ls hl (frame.Body (head_of (offset t0) ss d a (max hs hd)) ∷ frame.Items (item_list is k) ∷ fs) q t4
      ∙ ap (λ (sc : Scope). Ok (state sc (frame.Body (head_of (offset t0) ss d a (max hs hd)) ∷ frame.Items (item_list is k) ∷ fs) (control.HaveBody (tall ls hl)) t4)) c) refl
      (turns limit _ _ _ (have-body scope (offset t0) (max hs hd) ss d a ls hl (frame.Items (item_list is k) ∷ fs) t4) refl
      (turns limit _ _ _ (have-item scope is k (at t0 (item.Func ss d a ls)) (max (max hs hd) hl) fs t4) refl (Here _)))))))))

  more_items : (scope between behind : Scope) (is : List (At Item)) (i : Item) (h k : ℕ) (ts us vs : Tokens) → ItemsLead scope between is h ts us → ItemLeads between behind i k us vs →
      begins_specs between us ≡ true → ItemsLead scope behind (is ++ at us i ∷ []) (max h k) ts vs
  more_items scope between behind is i h k ts us vs r d e fs = then limit (r fs) (turns limit _ _ _ (another-item between (item_list is h) fs us e) refl (d is h fs))

  item-height : (scope behind : Scope) (i : Item) (h k : ℕ) (ts us : Tokens) → k ≡ h → ItemLeads scope behind i h ts us → ItemLeads scope behind i k ts us
  item-height scope behind i h k ts us e r = subst (λ (n : ℕ). ItemLeads scope behind i n ts us) (sym e) r

  items-height : (scope behind : Scope) (is : List (At Item)) (h k : ℕ) (ts us : Tokens) → k ≡ h → ItemsLead scope behind is h ts us → ItemsLead scope behind is k ts us
  items-height scope behind is h k ts us e r = subst (λ (n : ℕ). ItemsLead scope behind is n ts us) (sym e) r

  module _ (parts : Parts limit) where
    item-begins : {scope behind : Scope} {i : Item} {ts us : Tokens} → IsItem scope behind i ts us → begins_specs scope ts ≡ true
    item-begins (ADeclItem _ _ _ _ _ (DeclaresNothing scope ss q ts us d)) = parts.specs-begin scope ss ts (mark m.Semi q ∷ us) d
    item-begins (ADeclItem _ _ _ _ _ (Declares scope behind ss is q ts us vs d e)) = parts.specs-begin scope ss ts us d
    item-begins (AFunc scope inner ss d x a ls p q t0 t1 t2 t3 t4 r y n g z) = parts.specs-begin scope ss t0 t1 r

    item-leads : {scope behind : Scope} {i : Item} {ts us : Tokens} → IsItem scope behind i ts us → item_height i ≤ limit → ItemLeads scope behind i (item_height i) ts us
    item-leads (ADeclItem scope behind d ts us x) h = decl_item scope behind d (decl_height d) ts us (decl-leads limit parts x h)
    item-leads (AFunc scope inner ss d x a ls p q t0 t1 t2 t3 t4 r y n g z) h =
        let e = func_heights (specs_height ss) (height_of_declr d.node) (heights line_height ls) in
        let l = lower e h in
        item-height scope scope (item.Func ss d a ls) (max (max (specs_height ss) (height_of_declr d.node)) (heights line_height ls)) (item_height (item.Func ss d a ls)) t0 t4 e
        (func_item scope inner ss d x a ls (specs_height ss) (height_of_declr d.node) (heights line_height ls) p q t0 t1 t2 t3 t4
        (parts.specs scope ss t0 t1 r (left (specs_height ss) (height_of_declr d.node) (left (max (specs_height ss) (height_of_declr d.node)) (heights line_height ls) l)) (declr-no_spec scope t1 (declr-starts y x n)))
        (declr-no_semi scope t1 (declr-starts y x n))
        (parts.declr scope d t1 t2 y (right (specs_height ss) (height_of_declr d.node) (left (max (specs_height ss) (height_of_declr d.node)) (heights line_height ls) l)) (attrs-end_declr scope g (brace-no_declr scope p t3)))
        n (attrs-complete g (brace-no_attr p t3)) (lines-lead limit parts z (right (max (specs_height ss) (height_of_declr d.node)) (heights line_height ls) l) (brace-no_else q t4)) (grown-left scope inner (lines-grow z)))

    items-lead : {scope behind : Scope} {is : List (At Item)} {ts us : Tokens} → IsItems scope behind is ts us → heights item_height is ≤ limit → ItemsLead scope behind is (heights item_height is) ts us
    items-lead (NoItem scope ts) h = λ fs. Here _
    items-lead (MoreItems scope between behind is i ts us vs d x) h =
        let e = heights-behind item_height is (at us i) in
        items-height scope behind (is ++ at us i ∷ []) (max (heights item_height is) (item_height i)) (heights item_height (is ++ at us i ∷ [])) ts vs e
        (more_items scope between behind is i (heights item_height is) (item_height i) ts us vs (items-lead d (left (heights item_height is) (item_height i) (lower e h)))
        (item-leads x (right (heights item_height is) (item_height i) (lower e h))) (item-begins x))

    -- a sentence of at most this height is read to its end
    pub complete : (u : UnitTree) (behind : Scope) (ts : Tokens) → IsItems [] behind u.items ts [] → unit_height u ≤ limit → Leads limit (start ts) (state behind [] (control.Done (tall u (unit_height u))) [])
    complete u behind ts d h = then limit (items-lead d h []) (one limit _ _ (all-read u behind (unit_height u)) h)
