-- A `for` leads the machine from where it is wanted to where it is read, given that its parts do (C99 6.8.5.3).
use Rattle.std.proofs.Common.{◌≡◌, ◌≤◌, ℕ, suc, true, false, List, ◌∷◌, Option, Some, None, Ok, refl, ap, ◌∙◌, subst, length, take, max, arith}
use Rattle.cc_lex.specs.declared.token.Mark.TheVariants as m
use Rattle.cc_words.specs.declared.word.Word.TheVariants as w
use Rattle.cc_tree.specs.declared.at.At.{At}
use Rattle.cc_tree.specs.declared.state.Control.TheVariants as control
use Rattle.cc_tree.specs.declared.state.Frame.{Frame}
use Rattle.cc_tree.specs.declared.state.Frame.TheVariants as frame
use Rattle.cc_tree.specs.declared.state.LineFrame.TheVariants as for_line
use Rattle.cc_tree.specs.declared.state.PartFrame.TheVariants as for_part
use Rattle.cc_tree.specs.declared.tree.Tree.{Tree}
use Rattle.cc_tree.specs.declared.unit.Decl.{Decl}
use Rattle.cc_tree.specs.declared.unit.First.{First}
use Rattle.cc_tree.specs.declared.unit.First.TheVariants as first
use Rattle.cc_tree.specs.declared.unit.Line as line
use Rattle.cc_tree.specs.declared.unit.Line.{Line}
use Rattle.cc_tree.specs.Machine.{turn, Leads, Here}
use Rattle.cc_tree.specs.Operators.{comma_level}
use Rattle.cc_tree.specs.Reading.{after, same_mark}
use Rattle.cc_tree.specs.ReadTypes.{begins_specs}
use Rattle.cc_tree.specs.Scopes.{Scope}
use Rattle.cc_tree.specs.Tokens.{Tokens, Span, mark, word}
use Rattle.cc_tree.specs.Turns.{tall}
use Rattle.cc_tree.specs.TurnLines.{statement, for_test, for_step}
use Rattle.cc_tree.proofs.Leading.{state, one, then}
use Rattle.cc_tree.proofs.Wanted.{TreeLeads, DeclLeads, LineLeads, fors, low, turns, part}

-- the turns of a `for`

module _ (scope : Scope) (fs : List Frame) where
  declares_first : (s p : Span) (ts : Tokens) → begins_specs scope ts ≡ true →
      turn (state scope fs control.Statement (word w.For s ∷ mark m.LParen p ∷ ts)) ≡ Ok (state scope (frame.First s.0 (length scope) ∷ fs) (control.Decl false) ts)
  unfolding turn statement after same_mark
  declares_first s p ts e = rw e refl

  opens_first : (s p : Span) (ts : Tokens) → begins_specs scope ts ≡ false → after m.Semi ts ≡ None →
      turn (state scope fs control.Statement (word w.For s ∷ mark m.LParen p ∷ ts)) ≡ Ok (state scope (frame.Part (for_part.First s.0 (length scope)) ∷ fs) (control.Expr comma_level) ts)
  unfolding turn statement after same_mark
  opens_first s p ts e g = rw (e, g) refl

  no_first : (s p q : Span) (us : Tokens) →
      turn (state scope fs control.Statement (word w.For s ∷ mark m.LParen p ∷ mark m.Semi q ∷ us)) ≡ Ok (state scope fs (control.Test (fors s.0 (length scope) (first.Expr None) None None 0)) us)
  unfolding turn statement after same_mark
  no_first s p q us = refl

  closes_first : (n count : ℕ) (e : At Tree) (h : ℕ) (q : Span) (us : Tokens) (level : ℕ) →
      turn (state scope (frame.Part (for_part.First n count) ∷ fs) (control.Tree level (tall e h)) (mark m.Semi q ∷ us)) ≡ Ok (state scope fs (control.Test (fors n count (first.Expr (Some e)) None None h)) us)
  unfolding turn after same_mark
  closes_first n count e h q us level = refl

  no_test : (n count : ℕ) (f : First) (k : ℕ) (q : Span) (us : Tokens) →
      turn (state scope fs (control.Test (fors n count f None None k)) (mark m.Semi q ∷ us)) ≡ Ok (state scope fs (control.Step (fors n count f None None k)) us)
  unfolding turn for_test after same_mark
  no_test n count f k q us = refl

  opens_test : (n count : ℕ) (f : First) (k : ℕ) (ts : Tokens) → after m.Semi ts ≡ None →
      turn (state scope fs (control.Test (fors n count f None None k)) ts) ≡ Ok (state scope (frame.Part (for_part.Test (fors n count f None None k)) ∷ fs) (control.Expr comma_level) ts)
  unfolding turn for_test
  opens_test n count f k ts e = rw e refl

  closes_test : (n count : ℕ) (f : First) (k : ℕ) (e : At Tree) (h : ℕ) (q : Span) (us : Tokens) (level : ℕ) →
      turn (state scope (frame.Part (for_part.Test (fors n count f None None k)) ∷ fs) (control.Tree level (tall e h)) (mark m.Semi q ∷ us)) ≡ Ok (state scope fs (control.Step (fors n count f (Some e) None (max k h))) us)
  unfolding turn after same_mark
  closes_test n count f k e h q us level = refl

  no_step : (n count : ℕ) (f : First) (t : Option (At Tree)) (k : ℕ) (q : Span) (us : Tokens) →
      turn (state scope fs (control.Step (fors n count f t None k)) (mark m.RParen q ∷ us)) ≡ Ok (state scope (frame.Line (for_line.For (fors n count f t None k)) ∷ fs) control.Statement us)
  unfolding turn for_step after same_mark
  no_step n count f t k q us = refl

  opens_step : (n count : ℕ) (f : First) (t : Option (At Tree)) (k : ℕ) (ts : Tokens) → after m.RParen ts ≡ None →
      turn (state scope fs (control.Step (fors n count f t None k)) ts) ≡ Ok (state scope (frame.Part (for_part.Step (fors n count f t None k)) ∷ fs) (control.Expr comma_level) ts)
  unfolding turn for_step
  opens_step n count f t k ts e = rw e refl

  closes_step : (n count : ℕ) (f : First) (t : Option (At Tree)) (k : ℕ) (e : At Tree) (h : ℕ) (q : Span) (us : Tokens) (level : ℕ) →
      turn (state scope (frame.Part (for_part.Step (fors n count f t None k)) ∷ fs) (control.Tree level (tall e h)) (mark m.RParen q ∷ us))
      ≡ Ok (state scope (frame.Line (for_line.For (fors n count f t (Some e) (max k h))) ∷ fs) control.Statement us)
  unfolding turn after same_mark
  closes_step n count f t k e h q us level = refl

  closes_for : (n count : ℕ) (f : First) (t e : Option (At Tree)) (k : ℕ) (a : At Line) (h : ℕ) (us : Tokens) →
      turn (state scope (frame.Line (for_line.For (fors n count f t e k)) ∷ fs) (control.HaveLine (tall a h)) us)
      ≡ Ok (state (take count scope) fs (control.HaveLine (tall (record { at = n; node = line.For f t e a }) (suc (max k h)))) us)
  unfolding turn
  closes_for n count f t e k a h us = refl

max_none : (k : ℕ) → k ≡ max k 0
max_none k = omega arith

module _ (limit : ℕ) where
  -- the parts of a `for`, from its word on
  abbrev pub FirstLeads : Scope → Scope → First → ℕ → Tokens → Tokens → Type 0
  FirstLeads scope inner f h ts us = (s p : Span) (fs : List Frame) →
      Leads limit (state scope fs control.Statement (word w.For s ∷ mark m.LParen p ∷ ts)) (state inner fs (control.Test (fors s.0 (length scope) f None None h)) us)

  abbrev pub TestLeads : Scope → Option (At Tree) → ℕ → Tokens → Tokens → Type 0
  TestLeads scope t h ts us = (n count : ℕ) (f : First) (k : ℕ) (fs : List Frame) →
      Leads limit (state scope fs (control.Test (fors n count f None None k)) ts) (state scope fs (control.Step (fors n count f t None (max k h))) us)

  abbrev pub StepLeads : Scope → Option (At Tree) → ℕ → Tokens → Tokens → Type 0
  StepLeads scope e h ts us = (n count : ℕ) (f : First) (t : Option (At Tree)) (k : ℕ) (fs : List Frame) →
      Leads limit (state scope fs (control.Step (fors n count f t None k)) ts) (state scope (frame.Line (for_line.For (fors n count f t e (max k h))) ∷ fs) control.Statement us)

  pub first-decl : (scope inner : Scope) (d : Decl) (h : ℕ) (ts us : Tokens) → DeclLeads limit scope inner d h ts us → begins_specs scope ts ≡ true → FirstLeads scope inner (first.Decl d) h ts us
  unfolding turn
  first-decl scope inner d h ts us r e s p fs = turns limit _ _ _ (declares_first scope fs s p ts e) refl
      (then limit (r false (frame.First s.0 (length scope) ∷ fs)) (turns limit _ _ _ refl refl (Here _)))

  pub first-none : (scope : Scope) (q : Span) (us : Tokens) → FirstLeads scope scope (first.Expr None) 0 (mark m.Semi q ∷ us) us
  first-none scope q us s p fs = turns limit _ _ _ (no_first scope fs s p q us) refl (Here _)

  pub first-expr : (scope : Scope) (e : At Tree) (h : ℕ) (q : Span) (ts us : Tokens) → TreeLeads limit scope comma_level e h ts (mark m.Semi q ∷ us) → begins_specs scope ts ≡ false → after m.Semi ts ≡ None →
      FirstLeads scope scope (first.Expr (Some e)) h ts us
  first-expr scope e h q ts us r b n s p fs = turns limit _ _ _ (opens_first scope fs s p ts b n) refl
      (part limit scope comma_level e h ts (mark m.Semi q ∷ us) r (for_part.First s.0 (length scope)) fs _ _ (closes_first scope fs s.0 (length scope) e h q us) (low limit) (Here _))

  pub test-none : (scope : Scope) (q : Span) (us : Tokens) → TestLeads scope None 0 (mark m.Semi q ∷ us) us
  test-none scope q us n count f k fs = subst (λ (h : ℕ). Leads limit (state scope fs (control.Test (fors n count f None None k)) (mark m.Semi q ∷ us)) (state scope fs (control.Step (fors n count f None None h)) us))
      (max_none k) (turns limit _ _ _ (no_test scope fs n count f k q us) refl (Here _))

  pub test-expr : (scope : Scope) (e : At Tree) (h : ℕ) (q : Span) (ts us : Tokens) → TreeLeads limit scope comma_level e h ts (mark m.Semi q ∷ us) → after m.Semi ts ≡ None → TestLeads scope (Some e) h ts us
  test-expr scope e h q ts us r b n count f k fs = turns limit _ _ _ (opens_test scope fs n count f k ts b) refl
      (part limit scope comma_level e h ts (mark m.Semi q ∷ us) r (for_part.Test (fors n count f None None k)) fs _ _ (closes_test scope fs n count f k e h q us) (low limit) (Here _))

  pub step-none : (scope : Scope) (q : Span) (us : Tokens) → StepLeads scope None 0 (mark m.RParen q ∷ us) us
  step-none scope q us n count f t k fs = subst (λ (h : ℕ). Leads limit (state scope fs (control.Step (fors n count f t None k)) (mark m.RParen q ∷ us)) (state scope (frame.Line (for_line.For (fors n count f t None h)) ∷ fs) control.Statement us))
      (max_none k) (turns limit _ _ _ (no_step scope fs n count f t k q us) refl (Here _))

  pub step-expr : (scope : Scope) (e : At Tree) (h : ℕ) (q : Span) (ts us : Tokens) → TreeLeads limit scope comma_level e h ts (mark m.RParen q ∷ us) → after m.RParen ts ≡ None → StepLeads scope (Some e) h ts us
  step-expr scope e h q ts us r b n count f t k fs = turns limit _ _ _ (opens_step scope fs n count f t k ts b) refl
      (part limit scope comma_level e h ts (mark m.RParen q ∷ us) r (for_part.Step (fors n count f t None k)) fs _ _ (closes_step scope fs n count f t k e h q us) (low limit) (Here _))

  -- the scope around a `for` is what it was
  pub for_statement : (scope inner : Scope) (f : First) (t e : Option (At Tree)) (a : At Line) (hf ht he ha : ℕ) (s p : Span) (t0 t1 t2 t3 t4 : Tokens) → FirstLeads scope inner f hf t0 t1 → TestLeads inner t ht t1 t2 →
      StepLeads inner e he t2 t3 → LineLeads limit inner a ha t3 t4 → take (length scope) inner ≡ scope → suc (max (max (max hf ht) he) ha) ≤ limit →
      LineLeads limit scope (record { at = s.0; node = line.For f t e a }) (suc (max (max (max hf ht) he) ha)) (word w.For s ∷ mark m.LParen p ∷ t0) t4
  for_statement scope inner f t e a hf ht he ha s p t0 t1 t2 t3 t4 x y z d g l fs = then limit (x s p fs) (then limit (y s.0 (length scope) f hf fs) (then limit (z s.0 (length scope) f t (max hf ht) fs)
      (then limit (d (frame.Line (for_line.For (fors s.0 (length scope) f t e (max (max hf ht) he))) ∷ fs))
      (one limit _ _ (closes_for inner fs s.0 (length scope) f t e (max (max hf ht) he) a ha t4
      ∙ ap (λ (sc : Scope). Ok (state sc fs (control.HaveLine (tall (record { at = s.0; node = line.For f t e a }) (suc (max (max (max hf ht) he) ha)))) t4)) g) l))))
