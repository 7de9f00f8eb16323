-- Expressions that are handed over to the statements around them: what a turn leaves is again a state of an
-- unfinished sentence.
use Rattle.std.proofs.Common.{◌≡◌, ◌≤◌, ℕ, suc, List, ◌∷◌, Some, refl, ap, sym, ◌∙◌, arith, max}
use Rattle.cc_lex.specs.declared.token.Mark.TheVariants as m
use Rattle.cc_words.specs.declared.word.Word.TheVariants as w
use Rattle.cc_tree.specs.declared.at.At.{At}
use Rattle.cc_tree.specs.declared.state.Frame.{Frame}
use Rattle.cc_tree.specs.declared.state.Frame.TheVariants as frame
use Rattle.cc_tree.specs.declared.state.For.{For}
use Rattle.cc_tree.specs.declared.state.PartFrame.TheVariants as for_part
use Rattle.cc_tree.specs.declared.state.Tall.{Tall}
use Rattle.cc_tree.specs.declared.tree.Tree.{Tree}
use Rattle.cc_tree.specs.declared.unit.Line.{Line}
use Rattle.cc_tree.specs.declared.unit.Line as line
use Rattle.cc_tree.specs.Height.{height, line_height}
use Rattle.cc_tree.specs.Operators.{comma_level}
use Rattle.cc_tree.specs.Scopes.{Scope}
use Rattle.cc_tree.specs.Statements.{OneValue, AnExpr, FirstExpr, AnExprStatement, ADoWhile, AReturn}
use Rattle.cc_tree.specs.Tokens.{Tokens, mark, word}
use Rattle.cc_tree.specs.TurnLines.{give_part, with_test, with_step}
use Rattle.cc_tree.proofs.HeightSteps.{given_height-One, line_height-DoWhile, line_height-Return, line_height-Expr}
use Rattle.cc_tree.proofs.Inside.{ATree, NeedTree, Inside, InValue, InTest, InThen, InWhileTest, InWhile, InSwitchTest, InSwitch, InDoTest, InForExpr, InForTest, InForStep, InForBody, InCaseTest, InCase, InReturn, InExpr, TestWanted, StepWanted, GoodHaveValue, GoodStatement, GoodHaveLine, GoodTest, GoodStep, GoodTurn}
use Rattle.cc_tree.proofs.SoundParts.{looser, looser_tree}
use Rattle.cc_tree.proofs.SoundTokens.{eat_from}
use Rattle.cc_tree.proofs.SoundElse.{awaits-none, awaits-DoWhile, awaits-Return, awaits-Expr}

do_high : (a : Tall (At Line)) (e : Tall (At Tree)) → a.height ≡ line_height a.node.node → e.height ≡ height e.node.node → suc (max a.height e.height) ≡ line_height (line.DoWhile a.node e.node)
do_high a e h k = omega (arith, line_height-DoWhile a.node e.node)

module _ {all : Tokens} where
  pub value_part : {scope : Scope} {fs : List Frame} {l k : ℕ} {e : Tall (At Tree)} {ts us : Tokens} → Inside all scope (frame.Part for_part.Value ∷ fs) (NeedTree l) ts → ATree scope k e ts us → l ≤ k →
      GoodTurn all scope fs (give_part e us for_part.Value)
  value_part {e = e} {us = us} (InValue scope fs ts i) a le = GoodHaveValue scope fs _ ts us i (record { spelled = OneValue scope e.node ts us (looser _ le a.spelled); high = a.high ∙ sym (given_height-One e.node) })

  pub if_part : {scope : Scope} {fs : List Frame} {n l k : ℕ} {e : Tall (At Tree)} {ts us : Tokens} → Inside all scope (frame.Part (for_part.If n) ∷ fs) (NeedTree l) ts → ATree scope k e ts us → l ≤ k →
      GoodTurn all scope fs (give_part e us (for_part.If n))
  if_part {e = e} {us = us} (InTest scope fs p q ts i) a le =
      eat_from m.RParen us _ (ATree scope _ e ts) _ (looser_tree _ le a) (λ r vs b. GoodStatement scope _ vs (InThen scope fs e p q r ts vs i b))

  pub while_part : {scope : Scope} {fs : List Frame} {n l k : ℕ} {e : Tall (At Tree)} {ts us : Tokens} → Inside all scope (frame.Part (for_part.While n) ∷ fs) (NeedTree l) ts → ATree scope k e ts us → l ≤ k →
      GoodTurn all scope fs (give_part e us (for_part.While n))
  while_part {e = e} {us = us} (InWhileTest scope fs p q ts i) a le =
      eat_from m.RParen us _ (ATree scope _ e ts) _ (looser_tree _ le a) (λ r vs b. GoodStatement scope _ vs (InWhile scope fs e p q r ts vs i b))

  pub switch_part : {scope : Scope} {fs : List Frame} {n l k : ℕ} {e : Tall (At Tree)} {ts us : Tokens} → Inside all scope (frame.Part (for_part.Switch n) ∷ fs) (NeedTree l) ts → ATree scope k e ts us → l ≤ k →
      GoodTurn all scope fs (give_part e us (for_part.Switch n))
  switch_part {e = e} {us = us} (InSwitchTest scope fs p q ts i) a le =
      eat_from m.RParen us _ (ATree scope _ e ts) _ (looser_tree _ le a) (λ r vs b. GoodStatement scope _ vs (InSwitch scope fs e p q r ts vs i b))

  pub do_part : {scope : Scope} {fs : List Frame} {n l k : ℕ} {b : Tall (At Line)} {e : Tall (At Tree)} {ts us : Tokens} → Inside all scope (frame.Part (for_part.Do n b) ∷ fs) (NeedTree l) ts → ATree scope k e ts us → l ≤ k →
      GoodTurn all scope fs (give_part e us (for_part.Do n b))
  do_part {b = b} {e = e} {us = us} (InDoTest scope fs _ s r p t0 ts i st high) a le =
      eat_from m.RParen us _ (ATree scope _ e ts) _ (looser_tree _ le a) (λ q vs c. eat_from m.Semi vs _ (λ x. ATree scope comma_level e ts (mark m.RParen q ∷ x)) _ c (λ t ws d.
      GoodHaveLine scope fs _ (word w.Do s ∷ t0) ws i (record { spelled = ADoWhile scope b.node e.node s r p q t t0 ts ws st d.spelled; high = do_high b e high d.high; apart = awaits-none (awaits-DoWhile b.node e.node) })))

  pub first_part : {scope : Scope} {fs : List Frame} {n c l k : ℕ} {e : Tall (At Tree)} {ts us : Tokens} → Inside all scope (frame.Part (for_part.First n c) ∷ fs) (NeedTree l) ts → ATree scope k e ts us → l ≤ k →
      GoodTurn all scope fs (give_part e us (for_part.First n c))
  first_part {e = e} {us = us} (InForExpr scope fs s p ts i) a le = eat_from m.Semi us _ (ATree scope _ e ts) _ (looser_tree _ le a) (λ q vs b.
      GoodTest scope fs _ vs (TestWanted scope scope fs _ s p ts vs i refl refl (FirstExpr scope (Some e.node) q ts vs (AnExpr scope e.node ts (mark m.Semi q ∷ vs) b.spelled)) refl refl b.high))

  pub test_part : {scope : Scope} {fs : List Frame} {f : For} {l k : ℕ} {e : Tall (At Tree)} {ts us : Tokens} → Inside all scope (frame.Part (for_part.Test f) ∷ fs) (NeedTree l) ts → ATree scope k e ts us → l ≤ k →
      GoodTurn all scope fs (give_part e us (for_part.Test f))
  test_part {e = e} {us = us} (InForTest scope fs f ts (TestWanted before _ _ _ s p t0 _ i at count first test step high)) a le = eat_from m.Semi us _ (ATree scope _ e ts) _ (looser_tree _ le a) (λ q vs b.
      GoodStep scope fs _ vs (StepWanted before scope fs (with_test f (Some e.node) e.height) s p q t0 ts vs i at count first (AnExpr scope e.node ts (mark m.Semi q ∷ vs) b.spelled) step (omega arith)))

  pub step_part : {scope : Scope} {fs : List Frame} {f : For} {l k : ℕ} {e : Tall (At Tree)} {ts us : Tokens} → Inside all scope (frame.Part (for_part.Step f) ∷ fs) (NeedTree l) ts → ATree scope k e ts us → l ≤ k →
      GoodTurn all scope fs (give_part e us (for_part.Step f))
  step_part {e = e} {us = us} (InForStep scope fs f ts (StepWanted before _ _ _ s p q t0 t1 _ i at count first test step high)) a le = eat_from m.RParen us _ (ATree scope _ e ts) _ (looser_tree _ le a) (λ r vs b.
      GoodStatement scope _ vs (InForBody before scope fs (with_step f (Some e.node) e.height) s p q r t0 t1 ts vs i at count first test (AnExpr scope e.node ts (mark m.RParen r ∷ vs) b.spelled) (omega arith)))

  pub case_part : {scope : Scope} {fs : List Frame} {n l k : ℕ} {e : Tall (At Tree)} {ts us : Tokens} → Inside all scope (frame.Part (for_part.Case n) ∷ fs) (NeedTree l) ts → ATree scope k e ts us → l ≤ k →
      GoodTurn all scope fs (give_part e us (for_part.Case n))
  case_part {e = e} {us = us} (InCaseTest scope fs s ts i) a le =
      eat_from m.Colon us _ (ATree scope _ e ts) _ (looser_tree _ le a) (λ q vs b. GoodStatement scope _ vs (InCase scope fs e s q ts vs i b))

  pub return_part : {scope : Scope} {fs : List Frame} {n l k : ℕ} {e : Tall (At Tree)} {ts us : Tokens} → Inside all scope (frame.Part (for_part.Return n) ∷ fs) (NeedTree l) ts → ATree scope k e ts us → l ≤ k →
      GoodTurn all scope fs (give_part e us (for_part.Return n))
  return_part {e = e} {us = us} (InReturn scope fs s ts i) a le = eat_from m.Semi us _ (ATree scope _ e ts) _ (looser_tree _ le a) (λ q vs b.
      GoodHaveLine scope fs _ (word w.Return s ∷ ts) vs i
      (record { spelled = AReturn scope (Some e.node) s q ts vs (AnExpr scope e.node ts (mark m.Semi q ∷ vs) b.spelled); high = ap suc b.high ∙ sym (line_height-Return (Some e.node)); apart = awaits-none (awaits-Return (Some e.node)) }))

  pub expr_part : {scope : Scope} {fs : List Frame} {n l k : ℕ} {e : Tall (At Tree)} {ts us : Tokens} → Inside all scope (frame.Part (for_part.Expr n) ∷ fs) (NeedTree l) ts → ATree scope k e ts us → l ≤ k →
      GoodTurn all scope fs (give_part e us (for_part.Expr n))
  expr_part {e = e} {us = us} (InExpr scope fs ts i) a le = eat_from m.Semi us _ (ATree scope _ e ts) _ (looser_tree _ le a) (λ q vs b.
      GoodHaveLine scope fs _ ts vs i
      (record { spelled = AnExprStatement scope (Some e.node) q ts vs (AnExpr scope e.node ts (mark m.Semi q ∷ vs) b.spelled); high = ap suc b.high ∙ sym (line_height-Expr (Some e.node)); apart = awaits-none (awaits-Expr (Some e.node)) }))
