-- Initialisers lead the machine to where they are read (C99 6.7.8).
use Rattle.std.proofs.Common.{◌≡◌, ◌≤◌, ℕ, suc, false, List, [], ◌∷◌, ◌++◌, None, Ok, refl, sym, subst, max, arith}
use Rattle.cc_lex.specs.declared.token.Mark.TheVariants as m
use Rattle.cc_tree.specs.declared.at.At.{At}
use Rattle.cc_tree.specs.declared.state.Control.TheVariants as control
use Rattle.cc_tree.specs.declared.state.Frame.{Frame}
use Rattle.cc_tree.specs.declared.state.Frame.TheVariants as frame
use Rattle.cc_tree.specs.declared.state.PartFrame.TheVariants as for_part
use Rattle.cc_tree.specs.declared.state.ValueFrame.TheVariants as for_value
use Rattle.cc_tree.specs.declared.tree.Tree.{Tree}
use Rattle.cc_tree.specs.declared.unit.Given as given
use Rattle.cc_tree.specs.declared.unit.Given.{Given}
use Rattle.cc_tree.specs.Height.{height, heights, given_height}
use Rattle.cc_tree.specs.Machine.{State, turn, stays, state_after, height_of, Leads, Here, There}
use Rattle.cc_tree.specs.Operators.{assignment_level}
use Rattle.cc_tree.specs.Reading.{◌>>=◌, after, same_mark}
use Rattle.cc_tree.specs.Scopes.{Scope}
use Rattle.cc_tree.specs.Statements.{IsGiven, OneValue, ManyValues, IsGivens, FirstValue, MoreValues}
use Rattle.cc_tree.specs.Terms.{IsLastComma, NoComma, AComma}
use Rattle.cc_tree.specs.Tokens.{Tokens, Span, mark}
use Rattle.cc_tree.specs.Turns.{tall}
use Rattle.cc_tree.specs.TurnLines.{value, values_by}
use Rattle.cc_tree.proofs.Firsts.{tree-starts, tree-no_mark}
use Rattle.cc_tree.proofs.GoesOn.{goes_on}
use Rattle.cc_tree.proofs.HeightSteps.{heights-behind, given_height-One, given_height-Many}
use Rattle.cc_tree.proofs.Leading.{state, then}
use Rattle.cc_tree.proofs.Wanted.{TreeLeads, ValueLeads, Parts, low, turns, part, lower, under, left, right, max_zero}

-- a value doesn't begin with the brace that closes a list
given-no_brace : {scope : Scope} {g : At Given} {ts us : Tokens} → IsGiven scope g ts us → after m.RBrace ts ≡ None
unfolding after same_mark
given-no_brace (OneValue scope e ts us d) = tree-no_mark m.RBrace ts refl (tree-starts d)
given-no_brace (ManyValues scope gs p q ts us vs d c) = refl

-- behind the last value, with a comma or without, the list ends
list-closes : (scope : Scope) (fs : List Frame) (n : ℕ) (gs : List (At Given)) (h : ℕ) (us : Tokens) (q : Span) (vs : Tokens) → IsLastComma us (mark m.RBrace q ∷ vs) →
    (stays fs (values_by n (tall gs h) us (after m.Comma us)) >>= λ r. Ok (state_after scope r)) ≡ Ok (state scope fs (control.HaveValue (tall (record { at = n; node = given.Many gs }) (suc h))) vs)
unfolding after same_mark
list-closes scope fs n gs h us q vs (NoComma _) = refl
list-closes scope fs n gs h us q vs (AComma s _) = refl

list-ends : (us : Tokens) (q : Span) (vs : Tokens) → IsLastComma us (mark m.RBrace q ∷ vs) → goes_on assignment_level us ≡ false
list-ends us q vs (NoComma _) = refl
list-ends us q vs (AComma s _) = refl

module _ (limit : ℕ) where
  -- the values of a list in braces, and what follows them
  abbrev ValuesLead : Scope → List (At Given) → ℕ → Tokens → Tokens → Type 0
  ValuesLead scope gs h ts us = (n : ℕ) (fs : List Frame) (t u : State) → (stays fs (values_by n (tall gs h) us (after m.Comma us)) >>= λ r. Ok (state_after scope r)) ≡ Ok t → height_of t.control ≤ limit →
      Leads limit t u → Leads limit (state scope (frame.Value (for_value.Many n (tall [] 0)) ∷ fs) control.Value ts) u

  value-height : (scope : Scope) (g : At Given) (h k : ℕ) (ts us : Tokens) → h ≡ k → ValueLeads limit scope g h ts us → ValueLeads limit scope g k ts us
  value-height scope g h k ts us e r = subst (λ (n : ℕ). ValueLeads limit scope g n ts us) e r

  values-height : (scope : Scope) (gs : List (At Given)) (h k : ℕ) (ts us : Tokens) → h ≡ k → ValuesLead scope gs h ts us → ValuesLead scope gs k ts us
  values-height scope gs h k ts us e r = subst (λ (n : ℕ). ValuesLead scope gs n ts us) e r

  one-value : (scope : Scope) (e : At Tree) (h : ℕ) (ts us : Tokens) → TreeLeads limit scope assignment_level e h ts us → after m.LBrace ts ≡ None → h ≤ limit →
      ValueLeads limit scope (record { at = e.at; node = given.One e }) h ts us
  unfolding turn value
  one-value scope e h ts us r n k fs = turns limit _ (state scope (frame.Part for_part.Value ∷ fs) (control.Expr assignment_level) ts) _ (rw n refl) refl
      (part limit scope assignment_level e h ts us r for_part.Value fs _ _ (λ level. refl) k (Here _))

  -- the first token behind the values ends the list, or one behind it does
  many-values : (scope : Scope) (gs : List (At Given)) (h : ℕ) (p q : Span) (ts us vs : Tokens) → ValuesLead scope gs h ts us → IsLastComma us (mark m.RBrace q ∷ vs) → suc h ≤ limit →
      ValueLeads limit scope (record { at = p.0; node = given.Many gs }) (suc h) (mark m.LBrace p ∷ ts) vs
  unfolding turn value after same_mark
  many-values scope gs h p q ts us vs r c k fs = turns limit _ (state scope (frame.Value (for_value.Many p.0 (tall [] 0)) ∷ fs) control.Value ts) _ refl refl
      (r p.0 fs (state scope fs (control.HaveValue (tall (record { at = p.0; node = given.Many gs }) (suc h))) vs) _ (list-closes scope fs p.0 gs h us q vs c) k (Here _))

  first-value : (scope : Scope) (g : At Given) (h : ℕ) (ts us : Tokens) → ValueLeads limit scope g h ts us → ValuesLead scope (g ∷ []) (max 0 h) ts us
  unfolding turn
  first-value scope g h ts us r n fs t u e k more = then limit (r (frame.Value (for_value.Many n (tall [] 0)) ∷ fs)) (There _ t u e k more)

  next-value : (n : ℕ) (gs : List (At Given)) (h : ℕ) (scope : Scope) (fs : List Frame) (c : Span) (us : Tokens) → after m.RBrace us ≡ None →
      (stays fs (values_by n (tall gs h) (mark m.Comma c ∷ us) (after m.Comma (mark m.Comma c ∷ us))) >>= λ r. Ok (state_after scope r)) ≡ Ok (state scope (frame.Value (for_value.Many n (tall gs h)) ∷ fs) control.Value us)
  unfolding after same_mark
  next-value n gs h scope fs c us e = rw e refl

  more-values : (scope : Scope) (gs : List (At Given)) (g : At Given) (h k : ℕ) (c : Span) (ts us vs : Tokens) → ValuesLead scope gs h ts (mark m.Comma c ∷ us) → ValueLeads limit scope g k us vs →
      after m.RBrace us ≡ None → ValuesLead scope (gs ++ g ∷ []) (max h k) ts vs
  unfolding turn
  more-values scope gs g h k c ts us vs r d n' n fs t u e l more =
      r n fs (state scope (frame.Value (for_value.Many n (tall gs h)) ∷ fs) control.Value us) u (next-value n gs h scope fs c us n') (low limit)
      (then limit (d (frame.Value (for_value.Many n (tall gs h)) ∷ fs)) (There _ t u e l more))

  module _ (parts : Parts limit) where
    mutual
      pub value-leads : {scope : Scope} {g : At Given} {ts us : Tokens} → IsGiven scope g ts us → given_height g.node ≤ limit → goes_on assignment_level us ≡ false →
          ValueLeads limit scope g (given_height g.node) ts us
      value-leads (OneValue scope e ts us d) h k =
          value-height scope (record { at = e.at; node = given.One e }) (height e.node) (given_height (given.One e)) ts us (sym (given_height-One e))
          (one-value scope e (height e.node) ts us (parts.tree scope assignment_level e ts us d (omega arith) (lower (given_height-One e) h) k) (tree-no_mark m.LBrace ts refl (tree-starts d)) (lower (given_height-One e) h))
      value-leads (ManyValues scope gs p q ts us vs d c) h k =
          value-height scope (record { at = p.0; node = given.Many gs }) (suc (heights given_height gs)) (given_height (given.Many gs)) (mark m.LBrace p ∷ ts) vs (sym (given_height-Many gs))
          (many-values scope gs (heights given_height gs) p q ts us vs (values-lead d (under (lower (given_height-Many gs) h)) (list-ends us q vs c)) c (lower (given_height-Many gs) h))

      values-lead : {scope : Scope} {gs : List (At Given)} {ts us : Tokens} → IsGivens scope gs ts us → heights given_height gs ≤ limit → goes_on assignment_level us ≡ false →
          ValuesLead scope gs (heights given_height gs) ts us
      values-lead (FirstValue scope g ts us d) h k =
          values-height scope (g ∷ []) (max 0 (given_height g.node)) (heights given_height (g ∷ [])) ts us (max_zero (given_height g.node)) (first-value scope g (given_height g.node) ts us (value-leads d (left (given_height g.node) 0 h) k))
      values-lead (MoreValues scope gs g c ts us vs d e) h k =
          values-height scope (gs ++ g ∷ []) (max (heights given_height gs) (given_height g.node)) (heights given_height (gs ++ g ∷ [])) ts vs (sym (heights-behind given_height gs g))
          (more-values scope gs g (heights given_height gs) (given_height g.node) c ts us vs (values-lead d (left (heights given_height gs) (given_height g.node) (lower (heights-behind given_height gs g) h)) refl)
          (value-leads e (right (heights given_height gs) (given_height g.node) (lower (heights-behind given_height gs g) h)) k) (given-no_brace e))
