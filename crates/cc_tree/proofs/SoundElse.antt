-- What an `else` or a `while` in front says, and whether an `else` behind a statement would belong to it.
use Rattle.std.proofs.Common.{◌≡◌, ℕ, Bool, true, false, List, [], ◌∷◌, Option, Some, IfSome, refl, ap, sym, ◌∙◌}
use Rattle.cc_lex.specs.declared.token.Kind.{Kind}
use Rattle.cc_lex.specs.declared.token.Kind.TheVariants as kind
use Rattle.cc_words.specs.declared.word.Word.TheVariants as w
use Rattle.cc_tree.specs.declared.at.At.{At}
use Rattle.cc_tree.specs.declared.tree.Tree.{Tree}
use Rattle.cc_tree.specs.declared.unit.Line as line
use Rattle.cc_tree.specs.declared.unit.Line.{Line, fold-roll-Line}
use Rattle.cc_tree.specs.declared.unit.Line.TheOpen as one_line
use Rattle.cc_tree.specs.declared.unit.Line.TheVariants as line_rolls
use Rattle.cc_tree.specs.declared.unit.First.{First}
use Rattle.cc_tree.specs.Statements.{awaits_else, else_awaited}
use Rattle.cc_tree.specs.Tokens.{Tokens, Span, word}
use Rattle.cc_tree.specs.TurnLines.{begins_else, behind_else, after_else, is_while}

-- `else` and `while`
abbrev pub Else : Tokens → Tokens → Type 0
Else ts us = (s : Span) × (ts ≡ word w.Else s ∷ us)

else_kind : (at len : ℕ) (k : Kind) (ts : Tokens) → IfSome (behind_else ts (begins_else k)) (Else (record { at = at; len = len; kind = k } ∷ ts))
else_kind at len (kind.Keyword w.Else) ts = ((at, len), refl)
else_kind at len _ ts = tt

pub else-sound : (ts : Tokens) → IfSome (after_else ts) (Else ts)
unfolding after_else
else-sound [] = tt
else-sound (t ∷ ts) = else_kind t.at t.len t.kind ts

pub while-is : (k : Kind) → is_while k ≡ true → k ≡ kind.Keyword w.While
while-is (kind.Keyword w.While) h = refl
while-is _ h = cc

-- whether an `else` behind a statement would belong to it

pub awaits-none : {A : Type 0} {b : Bool} → b ≡ false → b ≡ true → A
awaits-none h k = cc

pub awaits-Expr : (e : Option (At Tree)) → awaits_else (line.Expr e) ≡ false
awaits-Expr e = ap awaits_else (sym (line_rolls.rolls-Expr e)) ∙ fold-roll-Line Bool else_awaited (one_line.Expr e)

pub awaits-Return : (e : Option (At Tree)) → awaits_else (line.Return e) ≡ false
awaits-Return e = ap awaits_else (sym (line_rolls.rolls-Return e)) ∙ fold-roll-Line Bool else_awaited (one_line.Return e)

pub awaits-Block : (ls : List (At Line)) → awaits_else (line.Block ls) ≡ false
awaits-Block ls = ap awaits_else (sym (line_rolls.rolls-Block ls)) ∙ fold-roll-Line Bool else_awaited (one_line.Block ls)

pub awaits-DoWhile : (a : At Line) (c : At Tree) → awaits_else (line.DoWhile a c) ≡ false
awaits-DoWhile a c = ap awaits_else (sym (line_rolls.rolls-DoWhile a c)) ∙ fold-roll-Line Bool else_awaited (one_line.DoWhile a c)

pub awaits-Break : awaits_else line.Break ≡ false
awaits-Break = ap awaits_else (sym line_rolls.rolls-Break) ∙ fold-roll-Line Bool else_awaited one_line.Break

pub awaits-Continue : awaits_else line.Continue ≡ false
awaits-Continue = ap awaits_else (sym line_rolls.rolls-Continue) ∙ fold-roll-Line Bool else_awaited one_line.Continue

pub awaits-IfElse : (c : At Tree) (a b : At Line) → awaits_else (line.If c a (Some b)) ≡ awaits_else b.node
awaits-IfElse c a b = ap awaits_else (sym (line_rolls.rolls-If c a (Some b))) ∙ fold-roll-Line Bool else_awaited (one_line.If c a (Some b))

pub awaits-While : (c : At Tree) (a : At Line) → awaits_else (line.While c a) ≡ awaits_else a.node
awaits-While c a = ap awaits_else (sym (line_rolls.rolls-While c a)) ∙ fold-roll-Line Bool else_awaited (one_line.While c a)

pub awaits-Switch : (c : At Tree) (a : At Line) → awaits_else (line.Switch c a) ≡ awaits_else a.node
awaits-Switch c a = ap awaits_else (sym (line_rolls.rolls-Switch c a)) ∙ fold-roll-Line Bool else_awaited (one_line.Switch c a)

pub awaits-Case : (c : At Tree) (a : At Line) → awaits_else (line.Case c a) ≡ awaits_else a.node
awaits-Case c a = ap awaits_else (sym (line_rolls.rolls-Case c a)) ∙ fold-roll-Line Bool else_awaited (one_line.Case c a)

pub awaits-Default : (a : At Line) → awaits_else (line.Default a) ≡ awaits_else a.node
awaits-Default a = ap awaits_else (sym (line_rolls.rolls-Default a)) ∙ fold-roll-Line Bool else_awaited (one_line.Default a)

pub awaits-For : (f : First) (t s : Option (At Tree)) (a : At Line) → awaits_else (line.For f t s a) ≡ awaits_else a.node
awaits-For f t s a = ap awaits_else (sym (line_rolls.rolls-For f t s a)) ∙ fold-roll-Line Bool else_awaited (one_line.For f t s a)
