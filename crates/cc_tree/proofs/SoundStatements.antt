-- The turns on statements: what a turn leaves is again a state of an unfinished sentence.
use Rattle.std.proofs.Common.{◌≡◌, ℕ, suc, Bool, true, false, List, [], ◌∷◌, Option, Some, None, IfSome, refl, ap, sym, ◌∙◌, arith, max, length, take, subst}
use Rattle.cc_lex.specs.declared.token.Kind.{Kind}
use Rattle.cc_lex.specs.declared.token.Kind.TheVariants as kind
use Rattle.cc_lex.specs.declared.token.Mark.{Mark}
use Rattle.cc_lex.specs.declared.token.Mark.TheVariants as m
use Rattle.cc_words.specs.declared.word.Word.{Word}
use Rattle.cc_words.specs.declared.word.Word.TheVariants as w
use Rattle.cc_tree.specs.declared.at.At.{At}
use Rattle.cc_tree.specs.declared.state.Block.{Block}
use Rattle.cc_tree.specs.declared.state.Control.TheVariants as control
use Rattle.cc_tree.specs.declared.state.Frame.{Frame}
use Rattle.cc_tree.specs.declared.state.Frame.TheVariants as frame
use Rattle.cc_tree.specs.declared.state.For.{For}
use Rattle.cc_tree.specs.declared.state.LineFrame.TheVariants as for_line
use Rattle.cc_tree.specs.declared.state.PartFrame.TheVariants as for_part
use Rattle.cc_tree.specs.declared.state.Scoping.TheVariants as scoping
use Rattle.cc_tree.specs.declared.state.Tall.{Tall}
use Rattle.cc_tree.specs.declared.tree.Tree.{Tree}
use Rattle.cc_tree.specs.declared.unit.Line as line
use Rattle.cc_tree.specs.declared.unit.Line.{Line}
use Rattle.cc_tree.specs.Height.{maybe_height}
use Rattle.cc_tree.specs.Operators.{comma_level}
use Rattle.cc_tree.specs.Reading.{after}
use Rattle.cc_tree.specs.ReadTypes.{begins_specs}
use Rattle.cc_tree.specs.Scopes.{Scope}
use Rattle.cc_tree.specs.Statements.{FirstExpr, IsMaybe, NoExpr, IsStatement, ABlock, AnExprStatement, AnIf, AnIfElse, AWhile, AFor, ASwitch, ACase, ADefault, ABreak, AContinue, AReturn, NoLine, awaits_else}
use Rattle.cc_tree.specs.Tokens.{Tokens, Span, mark, word, offset}
use Rattle.cc_tree.specs.TurnLines.{statement, statement_at, statement_word, statement_mark, expr_statement, maybe_expr, for_first, block, block_by, block_line, close_by, close_block, scoped, for_test, for_test_by, for_step, for_step_by, give_line, then_done, after_else, do_done, do_while, is_while}
use Rattle.cc_tree.specs.Turns.{made, tall}
use Rattle.cc_tree.proofs.HeightSteps.{line_height-If, line_height-IfElse, line_height-While, line_height-Switch, line_height-Case, line_height-Default, line_height-For, line_height-Expr, line_height-Return, line_height-Break, line_height-Continue, line_height-Block}
use Rattle.cc_tree.proofs.Inside.{ATree, ALine, NeedLine, Inside, InTest, InThen, InElse, InWhileTest, InWhile, InSwitchTest, InSwitch, InDo, InDoTest, InForDecl, InForExpr, InForTest, InForStep, InForBody, InCaseTest, InCase, InDefault, InReturn, InExpr, InBlockLine, InBlockDecl, InFor, TestWanted, InTested, StepWanted, InBlock, OfStatement, OfFunction, Good, GoodExpr, GoodDecl, GoodStatement, GoodBlock, GoodHaveLine, GoodHaveBody, GoodTest, GoodStep, GoodTurn}
use Rattle.cc_tree.proofs.ReadingBasics.{Behind, after-sound}
use Rattle.cc_tree.proofs.ScopeGrows.{Grows, grown-left, lines-grow, first-grows}
use Rattle.cc_tree.proofs.SoundTokens.{eat_from}
use Rattle.cc_tree.proofs.SoundElse.{Else, else-sound, while-is, awaits-none, awaits-IfElse, awaits-While, awaits-Switch, awaits-Case, awaits-Default, awaits-For, awaits-Expr, awaits-Return, awaits-Break, awaits-Continue, awaits-Block}

-- how many names were in scope before tells which they were
left-scope : {before scope : Scope} (n : ℕ) → n ≡ length before → Grows before scope → take n scope ≡ before
left-scope {before} {scope} n e h = ap (λ (x : ℕ). take x scope) e ∙ grown-left before scope h

-- an expression that is left out
none_read : {scope : Scope} {e : Option (At Tree)} {ts us : Tokens} → e ≡ None → ts ≡ us → IsMaybe scope e ts us
none_read {scope} {e} {ts} {us} h k = subst (λ (x : Option (At Tree)). IsMaybe scope x ts us) (sym h) (subst (λ (x : Tokens). IsMaybe scope None ts x) k (NoExpr scope ts))

module _ {all : Tokens} where
  -- a statement begins

  expr_begins : {scope : Scope} {fs : List Frame} (ts : Tokens) → Inside all scope fs NeedLine ts → GoodTurn all scope fs (expr_statement ts (offset ts))
  expr_begins {scope} {fs} ts i = GoodExpr scope _ comma_level ts (InExpr scope fs ts i) (omega arith)

  for_begins : {scope : Scope} {fs : List Frame} (s p : Span) (ts : Tokens) (specs : Bool) (r : Option Tokens) → IfSome r (Behind m.Semi ts) → Inside all scope fs NeedLine (word w.For s ∷ mark m.LParen p ∷ ts) →
      GoodTurn all scope fs (for_first scope s.0 ts specs r)
  for_begins {scope} {fs} s p ts true r h i = GoodDecl scope _ false ts (InForDecl scope fs s p ts i)
  for_begins {scope} {fs} s p ts false None h i = GoodExpr scope _ comma_level ts (InForExpr scope fs s p ts i) (omega arith)
  for_begins {scope} {fs} s p ts false (Some us) h i = GoodTest scope fs _ us (TestWanted scope scope fs _ s p ts us i refl refl
      (FirstExpr scope None h.0 ts us (none_read refl h.1)) refl refl refl)

  return_begins : {scope : Scope} {fs : List Frame} (s : Span) (ts : Tokens) (r : Option Tokens) → IfSome r (Behind m.Semi ts) → Inside all scope fs NeedLine (word w.Return s ∷ ts) →
      GoodTurn all scope fs (maybe_expr (for_part.Return s.0) s.0 (line.Return None) ts r)
  return_begins {scope} {fs} s ts None h i = GoodExpr scope _ comma_level ts (InReturn scope fs s ts i) (omega arith)
  return_begins {scope} {fs} s ts (Some us) h i = GoodHaveLine scope fs _ (word w.Return s ∷ ts) us i (record {
    spelled = AReturn scope None s h.0 ts us (none_read refl h.1);
    high = sym (line_height-Return None);
    apart = awaits-none (awaits-Return None);
  })

  word_begins : {scope : Scope} {fs : List Frame} (s : Span) (x : Word) (ts : Tokens) → Inside all scope fs NeedLine (word x s ∷ ts) → GoodTurn all scope fs (statement_word scope (word x s ∷ ts) ts s.0 x)
  word_begins {scope} {fs} s w.If ts i = eat_from m.LParen ts _ (λ x. Inside all scope fs NeedLine (word w.If s ∷ x)) _ i (λ q us j. GoodExpr scope _ comma_level us (InTest scope fs s q us j) (omega arith))
  word_begins {scope} {fs} s w.While ts i = eat_from m.LParen ts _ (λ x. Inside all scope fs NeedLine (word w.While s ∷ x)) _ i (λ q us j. GoodExpr scope _ comma_level us (InWhileTest scope fs s q us j) (omega arith))
  word_begins {scope} {fs} s w.Switch ts i = eat_from m.LParen ts _ (λ x. Inside all scope fs NeedLine (word w.Switch s ∷ x)) _ i (λ q us j. GoodExpr scope _ comma_level us (InSwitchTest scope fs s q us j) (omega arith))
  word_begins {scope} {fs} s w.Do ts i = GoodStatement scope _ ts (InDo scope fs s ts i)
  word_begins {scope} {fs} s w.For ts i = eat_from m.LParen ts _ (λ x. Inside all scope fs NeedLine (word w.For s ∷ x)) _ i (λ p us j.
      for_begins s p us (begins_specs scope us) (after m.Semi us) (after-sound m.Semi us) j)
  word_begins {scope} {fs} s w.Case ts i = GoodExpr scope _ _ ts (InCaseTest scope fs s ts i) (omega arith)
  word_begins {scope} {fs} s w.Default ts i = eat_from m.Colon ts _ (λ x. Inside all scope fs NeedLine (word w.Default s ∷ x)) _ i (λ q us j. GoodStatement scope _ us (InDefault scope fs s q us j))
  word_begins {scope} {fs} s w.Break ts i = eat_from m.Semi ts _ (λ x. Inside all scope fs NeedLine (word w.Break s ∷ x)) _ i (λ q us j. GoodHaveLine scope fs _ (word w.Break s ∷ mark m.Semi q ∷ us) us j
      (record { spelled = ABreak scope s q us; high = sym line_height-Break; apart = awaits-none awaits-Break }))
  word_begins {scope} {fs} s w.Continue ts i = eat_from m.Semi ts _ (λ x. Inside all scope fs NeedLine (word w.Continue s ∷ x)) _ i (λ q us j. GoodHaveLine scope fs _ (word w.Continue s ∷ mark m.Semi q ∷ us) us j
      (record { spelled = AContinue scope s q us; high = sym line_height-Continue; apart = awaits-none awaits-Continue }))
  word_begins {scope} {fs} s w.Return ts i = return_begins s ts (after m.Semi ts) (after-sound m.Semi ts) i
  word_begins {scope} {fs} s x ts i = expr_begins (word x s ∷ ts) i

  mark_begins : {scope : Scope} {fs : List Frame} (s : Span) (o : Mark) (ts : Tokens) → Inside all scope fs NeedLine (mark o s ∷ ts) → GoodTurn all scope fs (statement_mark scope (mark o s ∷ ts) ts s.0 o)
  mark_begins {scope} {fs} s m.LBrace ts i = GoodBlock scope fs _ ts (OfStatement scope scope fs _ s ts ts i refl refl refl (NoLine scope ts) refl)
  mark_begins {scope} {fs} s m.Semi ts i = GoodHaveLine scope fs _ (mark m.Semi s ∷ ts) ts i (record {
    spelled = AnExprStatement scope None s (mark m.Semi s ∷ ts) ts (NoExpr scope (mark m.Semi s ∷ ts));
    high = sym (line_height-Expr None);
    apart = awaits-none (awaits-Expr None);
  })
  mark_begins {scope} {fs} s o ts i = expr_begins (mark o s ∷ ts) i

  kind_begins : {scope : Scope} {fs : List Frame} (n len : ℕ) (k : Kind) (ts : Tokens) → Inside all scope fs NeedLine (record { at = n; len = len; kind = k } ∷ ts) →
      GoodTurn all scope fs (statement_at scope (record { at = n; len = len; kind = k } ∷ ts) ts n k)
  kind_begins n len (kind.Keyword x) ts i = word_begins (n, len) x ts i
  kind_begins n len (kind.Punct o) ts i = mark_begins (n, len) o ts i
  kind_begins n len k ts i = expr_begins (record { at = n; len = len; kind = k } ∷ ts) i

  pub statement_good : {scope : Scope} {fs : List Frame} (ts : Tokens) → Inside all scope fs NeedLine ts → GoodTurn all scope fs (statement scope ts)
  unfolding statement
  statement_good [] i = tt
  statement_good (t ∷ ts) i = kind_begins t.at t.len t.kind ts i

  -- blocks

  line_begins : {scope : Scope} {fs : List Frame} {b : Block} (ts : Tokens) (specs : Bool) → InBlock all scope fs b ts → GoodTurn all scope fs (block_line b ts specs)
  line_begins {scope} {fs} {b} ts true i = GoodDecl scope _ false ts (InBlockDecl scope fs b ts i)
  line_begins {scope} {fs} {b} ts false i = GoodStatement scope _ ts (InBlockLine scope fs b ts i)

  block_ends : {scope : Scope} {fs : List Frame} {b : Block} {q : Span} {us : Tokens} → InBlock all scope fs b (mark m.RBrace q ∷ us) → GoodTurn all scope fs (close_block b us)
  block_ends {q = q} {us = us} (OfStatement before scope fs b p ts _ i body n count lines high) =
      subst (λ (x : Bool). GoodTurn all scope fs (scoped (scoping.Leaves b.scope) (close_by x b us))) (sym body)
      (subst (λ (x : Scope). Good all x fs (control.HaveLine (made b.at (line.Block b.lines) (suc b.height))) us) (sym (left-scope b.scope count (lines-grow lines)))
      (GoodHaveLine before fs _ (mark m.LBrace p ∷ ts) us i (record {
        spelled = subst (λ (x : ℕ). IsStatement before (record { at = x; node = line.Block b.lines }) (mark m.LBrace p ∷ ts) us) (sym n) (ABlock before scope b.lines p q ts us lines);
        high = ap suc high ∙ sym (line_height-Block b.lines);
        apart = awaits-none (awaits-Block b.lines);
      })))
  block_ends {q = q} {us = us} (OfFunction before scope fs b ts _ i body count lines high) =
      subst (λ (x : Bool). GoodTurn all scope fs (scoped (scoping.Leaves b.scope) (close_by x b us))) (sym body)
      (subst (λ (x : Scope). Good all x fs (control.HaveBody (tall b.lines b.height)) us) (sym (left-scope b.scope count (lines-grow lines))) (GoodHaveBody before scope fs _ q ts us i lines high))

  block_goes : {scope : Scope} {fs : List Frame} {b : Block} (ts : Tokens) (r : Option Tokens) → IfSome r (Behind m.RBrace ts) → InBlock all scope fs b ts → GoodTurn all scope fs (block_by scope b ts r)
  block_goes {scope} {fs} {b} ts None h i = line_begins ts (begins_specs scope ts) i
  block_goes {scope} {fs} {b} ts (Some us) h i = block_ends (subst (λ (x : Tokens). InBlock all scope fs b x) h.1 i)

  pub block_good : {scope : Scope} {fs : List Frame} {b : Block} (ts : Tokens) → InBlock all scope fs b ts → GoodTurn all scope fs (block scope b ts)
  unfolding block
  block_good ts i = block_goes ts (after m.RBrace ts) (after-sound m.RBrace ts) i

  -- the parts of a `for`

  test_goes : {scope : Scope} {fs : List Frame} {f : For} (ts : Tokens) (r : Option Tokens) → IfSome r (Behind m.Semi ts) → InFor all scope fs f ts → GoodTurn all scope fs (for_test_by f ts r)
  test_goes {scope} {fs} {f} ts None h i = GoodExpr scope _ comma_level ts (InForTest scope fs f ts i) (omega arith)
  test_goes ts (Some us) h (TestWanted before scope fs f s p t0 _ i n count first test step high) =
      GoodStep scope fs f us (StepWanted before scope fs f s p h.0 t0 ts us i n count first (none_read test h.1) step (omega (arith, ap maybe_height test)))

  pub for_test_good : {scope : Scope} {fs : List Frame} {f : For} (ts : Tokens) → InFor all scope fs f ts → GoodTurn all scope fs (for_test f ts)
  unfolding for_test
  for_test_good ts i = test_goes ts (after m.Semi ts) (after-sound m.Semi ts) i

  step_goes : {scope : Scope} {fs : List Frame} {f : For} (ts : Tokens) (r : Option Tokens) → IfSome r (Behind m.RParen ts) → InTested all scope fs f ts → GoodTurn all scope fs (for_step_by f ts r)
  step_goes {scope} {fs} {f} ts None h i = GoodExpr scope _ comma_level ts (InForStep scope fs f ts i) (omega arith)
  step_goes ts (Some us) h (StepWanted before scope fs f s p q t0 t1 _ i n count first test step high) =
      GoodStatement scope _ us (InForBody before scope fs f s p q h.0 t0 t1 ts us i n count first test (none_read step h.1) (omega (arith, ap maybe_height step)))

  pub for_step_good : {scope : Scope} {fs : List Frame} {f : For} (ts : Tokens) → InTested all scope fs f ts → GoodTurn all scope fs (for_step f ts)
  unfolding for_step
  for_step_good ts i = step_goes ts (after m.RParen ts) (after-sound m.RParen ts) i

  -- a statement is handed over

  then_goes : {scope : Scope} {fs : List Frame} (c : Tall (At Tree)) (a : Tall (At Line)) (s p q : Span) (ts us vs : Tokens) (r : Option Tokens) → after_else vs ≡ r → IfSome r (Else vs) →
      Inside all scope fs NeedLine (word w.If s ∷ mark m.LParen p ∷ ts) → ATree scope comma_level c ts (mark m.RParen q ∷ us) → ALine scope a us vs → GoodTurn all scope fs (then_done s.0 c a vs r)
  then_goes {scope} {fs} c a s p q ts us vs None e h i t l = GoodHaveLine scope fs _ (word w.If s ∷ mark m.LParen p ∷ ts) vs i (record {
    spelled = AnIf scope c.node a.node s p q ts us vs t.spelled l.spelled;
    high = omega (arith, line_height-If c.node a.node, t.high, l.high);
    apart = λ _. e;
  })
  then_goes {scope} {fs} c a s p q ts us vs (Some ws) e h i t l = GoodStatement scope _ ws
      (InElse scope fs c a s p q h.0 ts us ws i t (subst (λ (x : Tokens). IsStatement scope a.node us x) h.1 l.spelled) l.high (closed (awaits_else a.node.node) l.apart))
    where
      closed : (b : Bool) → (b ≡ true → after_else vs ≡ None) → b ≡ false
      closed false g = refl
      closed true g = let k : after_else vs ≡ None = g refl in cc

  pub then_line : {scope : Scope} {fs : List Frame} {n : ℕ} {c : Tall (At Tree)} {a : Tall (At Line)} {ts us : Tokens} → Inside all scope (frame.Line (for_line.Then n c) ∷ fs) NeedLine ts → ALine scope a ts us →
      GoodTurn all scope fs (give_line a us (for_line.Then n c))
  then_line {a = a} {us = vs} (InThen scope fs c s p q ts us i t) l = then_goes c a s p q ts us vs (after_else vs) refl (else-sound vs) i t l

  pub else_line : {scope : Scope} {fs : List Frame} {n : ℕ} {c : Tall (At Tree)} {b a : Tall (At Line)} {ts us : Tokens} → Inside all scope (frame.Line (for_line.Else n c b) ∷ fs) NeedLine ts → ALine scope a ts us →
      GoodTurn all scope fs (give_line a us (for_line.Else n c b))
  else_line {a = a} {us = ws} (InElse scope fs c b s p q r ts us vs i t st high waits) l = GoodHaveLine scope fs _ (word w.If s ∷ mark m.LParen p ∷ ts) ws i (record {
    spelled = AnIfElse scope c.node b.node a.node s p q r ts us vs ws t.spelled st waits l.spelled;
    high = omega (arith, line_height-IfElse c.node b.node a.node, t.high, l.high);
    apart = λ e. l.apart (sym (awaits-IfElse c.node b.node a.node) ∙ e);
  })

  pub while_line : {scope : Scope} {fs : List Frame} {n : ℕ} {c : Tall (At Tree)} {a : Tall (At Line)} {ts us : Tokens} → Inside all scope (frame.Line (for_line.While n c) ∷ fs) NeedLine ts → ALine scope a ts us →
      GoodTurn all scope fs (give_line a us (for_line.While n c))
  while_line {a = a} {us = vs} (InWhile scope fs c s p q ts us i t) l = GoodHaveLine scope fs _ (word w.While s ∷ mark m.LParen p ∷ ts) vs i (record {
    spelled = AWhile scope c.node a.node s p q ts us vs t.spelled l.spelled;
    high = omega (arith, line_height-While c.node a.node, t.high, l.high);
    apart = λ e. l.apart (sym (awaits-While c.node a.node) ∙ e);
  })

  pub switch_line : {scope : Scope} {fs : List Frame} {n : ℕ} {c : Tall (At Tree)} {a : Tall (At Line)} {ts us : Tokens} → Inside all scope (frame.Line (for_line.Switch n c) ∷ fs) NeedLine ts → ALine scope a ts us →
      GoodTurn all scope fs (give_line a us (for_line.Switch n c))
  switch_line {a = a} {us = vs} (InSwitch scope fs c s p q ts us i t) l = GoodHaveLine scope fs _ (word w.Switch s ∷ mark m.LParen p ∷ ts) vs i (record {
    spelled = ASwitch scope c.node a.node s p q ts us vs t.spelled l.spelled;
    high = omega (arith, line_height-Switch c.node a.node, t.high, l.high);
    apart = λ e. l.apart (sym (awaits-Switch c.node a.node) ∙ e);
  })

  pub case_line : {scope : Scope} {fs : List Frame} {n : ℕ} {c : Tall (At Tree)} {a : Tall (At Line)} {ts us : Tokens} → Inside all scope (frame.Line (for_line.Case n c) ∷ fs) NeedLine ts → ALine scope a ts us →
      GoodTurn all scope fs (give_line a us (for_line.Case n c))
  case_line {a = a} {us = vs} (InCase scope fs c s q ts us i t) l = GoodHaveLine scope fs _ (word w.Case s ∷ ts) vs i (record {
    spelled = ACase scope c.node a.node s q ts us vs t.spelled l.spelled;
    high = omega (arith, line_height-Case c.node a.node, t.high, l.high);
    apart = λ e. l.apart (sym (awaits-Case c.node a.node) ∙ e);
  })

  pub default_line : {scope : Scope} {fs : List Frame} {n : ℕ} {a : Tall (At Line)} {ts us : Tokens} → Inside all scope (frame.Line (for_line.Default n) ∷ fs) NeedLine ts → ALine scope a ts us →
      GoodTurn all scope fs (give_line a us (for_line.Default n))
  default_line {a = a} {us = vs} (InDefault scope fs s q ts i) l = GoodHaveLine scope fs _ (word w.Default s ∷ mark m.Colon q ∷ ts) vs i (record {
    spelled = ADefault scope a.node s q ts vs l.spelled;
    high = ap suc l.high ∙ sym (line_height-Default a.node);
    apart = λ e. l.apart (sym (awaits-Default a.node) ∙ e);
  })

  do_goes : {scope : Scope} {fs : List Frame} (a : Tall (At Line)) (s : Span) (n len : ℕ) (k : Kind) (ts us : Tokens) (b : Bool) → is_while k ≡ b → Inside all scope fs NeedLine (word w.Do s ∷ ts) →
      ALine scope a ts (record { at = n; len = len; kind = k } ∷ us) → GoodTurn all scope fs (do_while s.0 a (record { at = n; len = len; kind = k } ∷ us) us b)
  do_goes a s n len k ts us false e i l = tt
  do_goes {scope} {fs} a s n len k ts us true e i l = eat_from m.LParen us _ (λ x. IsStatement scope a.node ts (word w.While (n, len) ∷ x)) _
      (subst (λ (x : Kind). IsStatement scope a.node ts (record { at = n; len = len; kind = x } ∷ us)) (while-is k e) l.spelled) (λ p vs st.
      GoodExpr scope _ comma_level vs (InDoTest scope fs a s (n, len) p ts vs i st l.high) (omega arith))

  do_ends : {scope : Scope} {fs : List Frame} (a : Tall (At Line)) (s : Span) (ts us : Tokens) → Inside all scope fs NeedLine (word w.Do s ∷ ts) → ALine scope a ts us → GoodTurn all scope fs (do_done s.0 a us)
  unfolding do_done
  do_ends a s ts [] i l = tt
  do_ends a s ts (u ∷ us) i l = do_goes a s u.at u.len u.kind ts us (is_while u.kind) refl i l

  pub do_line : {scope : Scope} {fs : List Frame} {n : ℕ} {a : Tall (At Line)} {ts us : Tokens} → Inside all scope (frame.Line (for_line.Do n) ∷ fs) NeedLine ts → ALine scope a ts us →
      GoodTurn all scope fs (give_line a us (for_line.Do n))
  do_line {a = a} {us = us} (InDo scope fs s ts i) l = do_ends a s ts us i l

  pub loop_line : {scope : Scope} {fs : List Frame} {f : For} {a : Tall (At Line)} {ts us : Tokens} → Inside all scope (frame.Line (for_line.For f) ∷ fs) NeedLine ts → ALine scope a ts us →
      GoodTurn all scope fs (give_line a us (for_line.For f))
  loop_line {a = a} {us = us} (InForBody before scope fs f s p q r t0 t1 t2 t3 i n count first test step high) l =
      subst (λ (x : Scope). Good all x fs (control.HaveLine (made f.at (line.For f.first f.test f.step a.node) (suc (max f.height a.height)))) us) (sym (left-scope f.scope count (first-grows first)))
      (GoodHaveLine before fs _ (word w.For s ∷ mark m.LParen p ∷ t0) us i (record {
        spelled = subst (λ (x : ℕ). IsStatement before (record { at = x; node = line.For f.first f.test f.step a.node }) (word w.For s ∷ mark m.LParen p ∷ t0) us) (sym n)
            (AFor before scope f.first f.test f.step a.node s p q r t0 t1 t2 t3 us first test step l.spelled);
        high = omega (arith, line_height-For f.first f.test f.step a.node, l.high);
        apart = λ e. l.apart (sym (awaits-For f.first f.test f.step a.node) ∙ e);
      }))
