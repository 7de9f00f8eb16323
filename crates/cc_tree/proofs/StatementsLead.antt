-- Each statement leads the machine from where it is wanted to where it is read, given that its parts do (C99 6.8).
use Rattle.std.proofs.Common.{◌≡◌, ◌≤◌, ℕ, suc, true, false, List, [], ◌∷◌, ◌++◌, Some, None, Ok, refl, ap, ◌∙◌, length, take, max}
use Rattle.cc_lex.specs.declared.token.Mark.TheVariants as m
use Rattle.cc_words.specs.declared.word.Word.TheVariants as w
use Rattle.cc_tree.specs.declared.at.At.{At}
use Rattle.cc_tree.specs.declared.state.Block.{Block}
use Rattle.cc_tree.specs.declared.state.Control.TheVariants as control
use Rattle.cc_tree.specs.declared.state.Frame.{Frame}
use Rattle.cc_tree.specs.declared.state.Frame.TheVariants as frame
use Rattle.cc_tree.specs.declared.state.LineFrame.TheVariants as for_line
use Rattle.cc_tree.specs.declared.state.PartFrame.TheVariants as for_part
use Rattle.cc_tree.specs.declared.tree.Tree.{Tree}
use Rattle.cc_tree.specs.declared.unit.Decl.{Decl}
use Rattle.cc_tree.specs.declared.unit.Line as line
use Rattle.cc_tree.specs.declared.unit.Line.{Line}
use Rattle.cc_tree.specs.Machine.{turn, Here}
use Rattle.cc_tree.specs.Operators.{comma_level, conditional_level}
use Rattle.cc_tree.specs.Reading.{after, same_mark}
use Rattle.cc_tree.specs.ReadTypes.{begins_specs}
use Rattle.cc_tree.specs.Scopes.{Scope}
use Rattle.cc_tree.specs.Tokens.{Tokens, Span, mark, word, at, offset}
use Rattle.cc_tree.specs.Turns.{tall}
use Rattle.cc_tree.specs.TurnLines.{statement, after_else, do_done, block}
use Rattle.cc_tree.proofs.Firsts.{starts_tree, tree-statement}
use Rattle.cc_tree.proofs.Leading.{state, one, then}
use Rattle.cc_tree.proofs.Wanted.{TreeLeads, DeclLeads, LineLeads, LinesLead, blocks, low, turns, part}

-- the turn of what ends with a semicolon behind an expression

returned : (scope : Scope) (e : At Tree) (h n : ℕ) (q : Span) (us : Tokens) (fs : List Frame) (level : ℕ) →
    turn (state scope (frame.Part (for_part.Return n) ∷ fs) (control.Tree level (tall e h)) (mark m.Semi q ∷ us)) ≡ Ok (state scope fs (control.HaveLine (tall (record { at = n; node = line.Return (Some e) }) (suc h))) us)
unfolding turn after same_mark
returned scope e h n q us fs level = refl

ended : (scope : Scope) (e : At Tree) (h n : ℕ) (q : Span) (us : Tokens) (fs : List Frame) (level : ℕ) →
    turn (state scope (frame.Part (for_part.Expr n) ∷ fs) (control.Tree level (tall e h)) (mark m.Semi q ∷ us)) ≡ Ok (state scope fs (control.HaveLine (tall (record { at = n; node = line.Expr (Some e) }) (suc h))) us)
unfolding turn after same_mark
ended scope e h n q us fs level = refl

-- the turns of a block

closed : (scope : Scope) (count n : ℕ) (ls : List (At Line)) (h : ℕ) (fs : List Frame) (q : Span) (us : Tokens) →
    turn (state scope fs (control.Block (blocks false count n ls h)) (mark m.RBrace q ∷ us)) ≡ Ok (state (take count scope) fs (control.HaveLine (tall (record { at = n; node = line.Block ls }) (suc h))) us)
unfolding turn block after same_mark
closed scope count n ls h fs q us = refl

another : (scope : Scope) (b : Block) (fs : List Frame) (us : Tokens) → after m.RBrace us ≡ None → begins_specs scope us ≡ false →
    turn (state scope fs (control.Block b) us) ≡ Ok (state scope (frame.Block b ∷ fs) control.Statement us)
unfolding turn block
another scope b fs us e g = rw (e, g) refl

declares : (scope : Scope) (b : Block) (fs : List Frame) (us : Tokens) → after m.RBrace us ≡ None → begins_specs scope us ≡ true →
    turn (state scope fs (control.Block b) us) ≡ Ok (state scope (frame.Block b ∷ fs) (control.Decl false) us)
unfolding turn block
declares scope b fs us e g = rw (e, g) refl

module _ (limit : ℕ) where
  -- a word, an expression in parentheses, and a statement

  pub if_line : (scope : Scope) (c : At Tree) (h : ℕ) (a : At Line) (k : ℕ) (s p q : Span) (ts us vs : Tokens) → TreeLeads limit scope comma_level c h ts (mark m.RParen q ∷ us) → LineLeads limit scope a k us vs →
      after_else vs ≡ None → suc (max h k) ≤ limit → LineLeads limit scope (record { at = s.0; node = line.If c a None }) (suc (max h k)) (word w.If s ∷ mark m.LParen p ∷ ts) vs
  unfolding turn statement after same_mark
  if_line scope c h a k s p q ts us vs r d e l fs = turns limit _ (state scope (frame.Part (for_part.If s.0) ∷ fs) (control.Expr comma_level) ts) _ refl refl
      (part limit scope comma_level c h ts (mark m.RParen q ∷ us) r (for_part.If s.0) fs (state scope (frame.Line (for_line.Then s.0 (tall c h)) ∷ fs) control.Statement us) _ (λ level. refl) (low limit)
      (then limit (d (frame.Line (for_line.Then s.0 (tall c h)) ∷ fs)) (one limit _ _ (rw e refl) l)))

  pub if_else_line : (scope : Scope) (c : At Tree) (h : ℕ) (a b : At Line) (k j : ℕ) (s p q r : Span) (ts us vs ws : Tokens) → TreeLeads limit scope comma_level c h ts (mark m.RParen q ∷ us) →
      LineLeads limit scope a k us (word w.Else r ∷ vs) → LineLeads limit scope b j vs ws → suc (max h (max k j)) ≤ limit →
      LineLeads limit scope (record { at = s.0; node = line.If c a (Some b) }) (suc (max h (max k j))) (word w.If s ∷ mark m.LParen p ∷ ts) ws
  unfolding turn statement after same_mark after_else
  if_else_line scope c h a b k j s p q r ts us vs ws x d e l fs = turns limit _ (state scope (frame.Part (for_part.If s.0) ∷ fs) (control.Expr comma_level) ts) _ refl refl
      (part limit scope comma_level c h ts (mark m.RParen q ∷ us) x (for_part.If s.0) fs (state scope (frame.Line (for_line.Then s.0 (tall c h)) ∷ fs) control.Statement us) _ (λ level. refl) (low limit)
      (then limit (d (frame.Line (for_line.Then s.0 (tall c h)) ∷ fs))
      (turns limit _ (state scope (frame.Line (for_line.Else s.0 (tall c h) (tall a k)) ∷ fs) control.Statement vs) _ refl refl
      (then limit (e (frame.Line (for_line.Else s.0 (tall c h) (tall a k)) ∷ fs)) (one limit _ _ refl l)))))

  pub while_line : (scope : Scope) (c : At Tree) (h : ℕ) (a : At Line) (k : ℕ) (s p q : Span) (ts us vs : Tokens) → TreeLeads limit scope comma_level c h ts (mark m.RParen q ∷ us) → LineLeads limit scope a k us vs →
      suc (max h k) ≤ limit → LineLeads limit scope (record { at = s.0; node = line.While c a }) (suc (max h k)) (word w.While s ∷ mark m.LParen p ∷ ts) vs
  unfolding turn statement after same_mark
  while_line scope c h a k s p q ts us vs r d l fs = turns limit _ (state scope (frame.Part (for_part.While s.0) ∷ fs) (control.Expr comma_level) ts) _ refl refl
      (part limit scope comma_level c h ts (mark m.RParen q ∷ us) r (for_part.While s.0) fs (state scope (frame.Line (for_line.While s.0 (tall c h)) ∷ fs) control.Statement us) _ (λ level. refl) (low limit)
      (then limit (d (frame.Line (for_line.While s.0 (tall c h)) ∷ fs)) (one limit _ _ refl l)))

  pub switch_line : (scope : Scope) (c : At Tree) (h : ℕ) (a : At Line) (k : ℕ) (s p q : Span) (ts us vs : Tokens) → TreeLeads limit scope comma_level c h ts (mark m.RParen q ∷ us) → LineLeads limit scope a k us vs →
      suc (max h k) ≤ limit → LineLeads limit scope (record { at = s.0; node = line.Switch c a }) (suc (max h k)) (word w.Switch s ∷ mark m.LParen p ∷ ts) vs
  unfolding turn statement after same_mark
  switch_line scope c h a k s p q ts us vs r d l fs = turns limit _ (state scope (frame.Part (for_part.Switch s.0) ∷ fs) (control.Expr comma_level) ts) _ refl refl
      (part limit scope comma_level c h ts (mark m.RParen q ∷ us) r (for_part.Switch s.0) fs (state scope (frame.Line (for_line.Switch s.0 (tall c h)) ∷ fs) control.Statement us) _ (λ level. refl) (low limit)
      (then limit (d (frame.Line (for_line.Switch s.0 (tall c h)) ∷ fs)) (one limit _ _ refl l)))

  pub do_line : (scope : Scope) (a : At Line) (k : ℕ) (c : At Tree) (h : ℕ) (s r p q t : Span) (ts us vs : Tokens) → LineLeads limit scope a k ts (word w.While r ∷ mark m.LParen p ∷ us) →
      TreeLeads limit scope comma_level c h us (mark m.RParen q ∷ mark m.Semi t ∷ vs) → suc (max k h) ≤ limit →
      LineLeads limit scope (record { at = s.0; node = line.DoWhile a c }) (suc (max k h)) (word w.Do s ∷ ts) vs
  unfolding turn statement after same_mark do_done
  do_line scope a k c h s r p q t ts us vs d x l fs = turns limit _ (state scope (frame.Line (for_line.Do s.0) ∷ fs) control.Statement ts) _ refl refl
      (then limit (d (frame.Line (for_line.Do s.0) ∷ fs))
      (turns limit _ (state scope (frame.Part (for_part.Do s.0 (tall a k)) ∷ fs) (control.Expr comma_level) us) _ refl refl
      (part limit scope comma_level c h us (mark m.RParen q ∷ mark m.Semi t ∷ vs) x (for_part.Do s.0 (tall a k)) fs _ _ (λ level. refl) l (Here _))))

  -- labels

  pub case_line : (scope : Scope) (c : At Tree) (h : ℕ) (a : At Line) (k : ℕ) (s q : Span) (ts us vs : Tokens) → TreeLeads limit scope conditional_level c h ts (mark m.Colon q ∷ us) → LineLeads limit scope a k us vs →
      suc (max h k) ≤ limit → LineLeads limit scope (record { at = s.0; node = line.Case c a }) (suc (max h k)) (word w.Case s ∷ ts) vs
  unfolding turn statement after same_mark
  case_line scope c h a k s q ts us vs r d l fs = turns limit _ (state scope (frame.Part (for_part.Case s.0) ∷ fs) (control.Expr conditional_level) ts) _ refl refl
      (part limit scope conditional_level c h ts (mark m.Colon q ∷ us) r (for_part.Case s.0) fs (state scope (frame.Line (for_line.Case s.0 (tall c h)) ∷ fs) control.Statement us) _ (λ level. refl) (low limit)
      (then limit (d (frame.Line (for_line.Case s.0 (tall c h)) ∷ fs)) (one limit _ _ refl l)))

  pub default_line : (scope : Scope) (a : At Line) (k : ℕ) (s q : Span) (ts us : Tokens) → LineLeads limit scope a k ts us → suc k ≤ limit →
      LineLeads limit scope (record { at = s.0; node = line.Default a }) (suc k) (word w.Default s ∷ mark m.Colon q ∷ ts) us
  unfolding turn statement after same_mark
  default_line scope a k s q ts us d l fs = turns limit _ (state scope (frame.Line (for_line.Default s.0) ∷ fs) control.Statement ts) _ refl refl
      (then limit (d (frame.Line (for_line.Default s.0) ∷ fs)) (one limit _ _ refl l))

  -- what ends with a semicolon

  pub break_line : (scope : Scope) (s q : Span) (us : Tokens) → 1 ≤ limit → LineLeads limit scope (record { at = s.0; node = line.Break }) 1 (word w.Break s ∷ mark m.Semi q ∷ us) us
  unfolding turn statement after same_mark
  break_line scope s q us l fs = one limit _ _ refl l

  pub continue_line : (scope : Scope) (s q : Span) (us : Tokens) → 1 ≤ limit → LineLeads limit scope (record { at = s.0; node = line.Continue }) 1 (word w.Continue s ∷ mark m.Semi q ∷ us) us
  unfolding turn statement after same_mark
  continue_line scope s q us l fs = one limit _ _ refl l

  pub return_nothing : (scope : Scope) (s q : Span) (us : Tokens) → 1 ≤ limit → LineLeads limit scope (record { at = s.0; node = line.Return None }) 1 (word w.Return s ∷ mark m.Semi q ∷ us) us
  unfolding turn statement after same_mark
  return_nothing scope s q us l fs = one limit _ _ refl l

  pub return_line : (scope : Scope) (e : At Tree) (h : ℕ) (s q : Span) (ts us : Tokens) → TreeLeads limit scope comma_level e h ts (mark m.Semi q ∷ us) → after m.Semi ts ≡ None → suc h ≤ limit →
      LineLeads limit scope (record { at = s.0; node = line.Return (Some e) }) (suc h) (word w.Return s ∷ ts) us
  unfolding turn statement
  return_line scope e h s q ts us r n l fs = turns limit _ (state scope (frame.Part (for_part.Return s.0) ∷ fs) (control.Expr comma_level) ts) _ (rw n refl) refl
      (part limit scope comma_level e h ts (mark m.Semi q ∷ us) r (for_part.Return s.0) fs _ _ (returned scope e h s.0 q us fs) l (Here _))

  pub empty_line : (scope : Scope) (q : Span) (us : Tokens) → 1 ≤ limit → LineLeads limit scope (record { at = q.0; node = line.Expr None }) 1 (mark m.Semi q ∷ us) us
  unfolding turn statement
  empty_line scope q us l fs = one limit _ _ refl l

  pub expr_line : (scope : Scope) (e : At Tree) (h : ℕ) (q : Span) (ts us : Tokens) → TreeLeads limit scope comma_level e h ts (mark m.Semi q ∷ us) → starts_tree ts ≡ true → suc h ≤ limit →
      LineLeads limit scope (at ts (line.Expr (Some e))) (suc h) ts us
  unfolding turn
  expr_line scope e h q ts us r n l fs = turns limit _ (state scope (frame.Part (for_part.Expr (offset ts)) ∷ fs) (control.Expr comma_level) ts) _ (rw (tree-statement scope ts n) refl) refl
      (part limit scope comma_level e h ts (mark m.Semi q ∷ us) r (for_part.Expr (offset ts)) fs _ _ (ended scope e h (offset ts) q us fs) l (Here _))

  -- blocks

  pub block_line : (scope behind : Scope) (ls : List (At Line)) (h : ℕ) (p q : Span) (ts us : Tokens) → LinesLead limit scope behind ls h ts (mark m.RBrace q ∷ us) → take (length scope) behind ≡ scope → suc h ≤ limit →
      LineLeads limit scope (record { at = p.0; node = line.Block ls }) (suc h) (mark m.LBrace p ∷ ts) us
  unfolding turn statement
  block_line scope behind ls h p q ts us r e l fs = turns limit _ (state scope fs (control.Block (blocks false (length scope) p.0 [] 0)) ts) _ refl refl
      (then limit (r false (length scope) p.0 fs)
      (one limit _ _ (closed behind (length scope) p.0 ls h fs q us ∙ ap (λ (sc : Scope). Ok (state sc fs (control.HaveLine (tall (record { at = p.0; node = line.Block ls }) (suc h))) us)) e) l))

  pub line_of_lines : (scope behind : Scope) (ls : List (At Line)) (a : At Line) (h k : ℕ) (ts us vs : Tokens) → LinesLead limit scope behind ls h ts us → LineLeads limit behind a k us vs → after m.RBrace us ≡ None →
      begins_specs behind us ≡ false → LinesLead limit scope behind (ls ++ a ∷ []) (max h k) ts vs
  unfolding turn
  line_of_lines scope behind ls a h k ts us vs r d e g body count n fs = then limit (r body count n fs)
      (turns limit _ _ _ (another behind (blocks body count n ls h) fs us e g) refl (then limit (d (frame.Block (blocks body count n ls h) ∷ fs)) (turns limit _ _ _ refl refl (Here _))))

  pub decl_of_lines : (scope between behind : Scope) (ls : List (At Line)) (d : Decl) (h k : ℕ) (ts us vs : Tokens) → LinesLead limit scope between ls h ts us → DeclLeads limit between behind d k us vs →
      after m.RBrace us ≡ None → begins_specs between us ≡ true → LinesLead limit scope behind (ls ++ at us (line.Decl d) ∷ []) (max h k) ts vs
  unfolding turn
  decl_of_lines scope between behind ls d h k ts us vs r x e g body count n fs = then limit (r body count n fs)
      (turns limit _ _ _ (declares between (blocks body count n ls h) fs us e g) refl (then limit (x false (frame.Block (blocks body count n ls h) ∷ fs)) (turns limit _ _ _ refl refl (Here _))))
