-- Turns on expressions: what they leave reaches as high as what they were given, or one higher for a token.
use Rattle.std.proofs.Common.{◌<◌, ◌≤◌, ◌+◌, ℕ, suc, Bool, true, false, ◌&&◌, nat_le, List, [], ◌∷◌, ◌++◌, Option, Some, None, IfSome, length, max, arith}
use Rattle.cc_lex.specs.declared.token.Kind.{Kind}
use Rattle.cc_lex.specs.declared.token.Kind.TheVariants as kind
use Rattle.cc_lex.specs.declared.token.Mark.{Mark}
use Rattle.cc_lex.specs.declared.token.Mark.TheVariants as m
use Rattle.cc_words.specs.declared.word.Word.{Word}
use Rattle.cc_words.specs.declared.word.Word.TheVariants as w
use Rattle.cc_tree.specs.declared.at.At.{At}
use Rattle.cc_tree.specs.declared.state.Control.TheVariants as control
use Rattle.cc_tree.specs.declared.state.Frame.TheVariants as frame
use Rattle.cc_tree.specs.declared.state.Tall.{Tall}
use Rattle.cc_tree.specs.declared.state.TreeFrame.{TreeFrame}
use Rattle.cc_tree.specs.declared.state.TreeFrame.TheVariants as for_tree
use Rattle.cc_tree.specs.declared.tree.Tree as tree
use Rattle.cc_tree.specs.declared.tree.Tree.{Tree}
use Rattle.cc_tree.specs.Operators.{comma_level, assignment_level, conditional_level, cast_level, unary_level, binary_level, is_assignment, operand_level}
use Rattle.cc_tree.specs.Reading.{after, first_mark, same_mark}
use Rattle.cc_tree.specs.ReadTypes.{begins_specs}
use Rattle.cc_tree.specs.Scopes.{Scope, is_typedef}
use Rattle.cc_tree.specs.Tokens.{Tokens, Name}
use Rattle.cc_tree.specs.Turns.{on, opens, made, tall}
use Rattle.cc_tree.specs.TurnTrees.{expr, operand_name, in_parens, operand_paren, operand_mark, size_of_type, size_of, operand_word, operand_at, operand, grows, call, member, arrow, postfix_by, postfix_at, postfix, binary, choice, comma, assign, other, operators_by, operators_at, operators, chosen, paren, subscript, argument_at, argument, give_tree}
use Rattle.cc_tree.proofs.MeasureTokens.{after-fewer, eat-fewer, name-fewer, first_mark-fewer, texts-fewer}
use Rattle.cc_tree.proofs.ReachSteps.{over, Climb, Climbs, same}

pub expr-climbs : (l : ℕ) (ts : Tokens) → Climbs 0 (length ts) (expr l ts)
expr-climbs l ts = (omega arith, omega arith, omega arith)

-- operands

module _ (scope : Scope) (level n : ℕ) (all : Tokens) where
  name-climbs : (ts : Tokens) (at : ℕ) (x : Name) (b : Bool) → length ts < n → Climbs 0 n (operand_name all ts at x b)
  name-climbs ts at x true h = tt
  name-climbs ts at x false h = (omega arith, omega arith, omega arith)

  in_parens-climbs : (ts : Tokens) (at : ℕ) (b : Bool) → length ts < n → Climbs 0 n (in_parens ts at b)
  in_parens-climbs ts at true h = (omega arith, omega arith, omega arith)
  in_parens-climbs ts at false h = (omega arith, omega arith, omega arith)

  paren-climbs : (ts : Tokens) (at : ℕ) (b : Bool) → length ts < n → Climbs 0 n (operand_paren scope level all ts at b)
  paren-climbs ts at true h = in_parens-climbs ts at (nat_le level cast_level && begins_specs scope ts) h
  paren-climbs ts at false h = tt

  mark-climbs : (ts : Tokens) (at : ℕ) (o : Mark) (k : Option ℕ) → length ts < n → Climbs 0 n (operand_mark scope level all ts at o k)
  mark-climbs ts at o None h = paren-climbs ts at (same_mark o m.LParen) h
  mark-climbs ts at o (Some k) h = (omega arith, omega arith, omega arith)

  size_of_type-climbs : (ts us : Tokens) (at : ℕ) (b : Bool) → length ts < n → length us < n → Climbs 0 n (size_of_type ts us at b)
  size_of_type-climbs ts us at true h k = (omega arith, omega arith, omega arith)
  size_of_type-climbs ts us at false h k = (omega arith, omega arith, omega arith)

  size_of-climbs : (ts : Tokens) (at : ℕ) (r : Option Tokens) → length ts < n → IfSome r (λ us. length us < n) → Climbs 0 n (size_of scope ts at r)
  size_of-climbs ts at None h k = (omega arith, omega arith, omega arith)
  size_of-climbs ts at (Some us) h k = size_of_type-climbs ts us at (begins_specs scope us) h k

  word-climbs : (ts : Tokens) (at : ℕ) (x : Word) → length ts < n → Climbs 0 n (operand_word scope all ts at x)
  word-climbs ts at w.Sizeof h = size_of-climbs ts at (after m.LParen ts) h (after-fewer m.LParen ts n (omega arith))
  word-climbs ts at w.Extension h = (omega arith, omega arith, omega arith)
  word-climbs ts at x h = tt

at-climbs : (scope : Scope) (level n len : ℕ) (k : Kind) (ts : Tokens) → Climbs 0 (suc (length ts)) (operand_at scope level (record { at = n; len = len; kind = k } ∷ ts) ts n k)
at-climbs scope level n len (kind.Ident x) ts = name-climbs scope level (suc (length ts)) (record { at = n; len = len; kind = kind.Ident x } ∷ ts) ts n x (is_typedef scope x) (omega arith)
at-climbs scope level n len (kind.Number k f) ts = (omega arith, omega arith, omega arith)
at-climbs scope level n len (kind.Character c) ts = (omega arith, omega arith, omega arith)
at-climbs scope level n len (kind.Text b) ts = (omega arith, omega arith, omega (arith, texts-fewer ts))
at-climbs scope level n len (kind.Punct o) ts = mark-climbs scope level (suc (length ts)) (record { at = n; len = len; kind = kind.Punct o } ∷ ts) ts n o (operand_level o) (omega arith)
at-climbs scope level n len (kind.Keyword x) ts = word-climbs scope level (suc (length ts)) (record { at = n; len = len; kind = kind.Keyword x } ∷ ts) ts n x (omega arith)

pub operand-climbs : (scope : Scope) (level : ℕ) (ts : Tokens) → Climbs 0 (length ts) (operand scope level ts)
unfolding operand
operand-climbs scope level [] = tt
operand-climbs scope level (t ∷ ts) = at-climbs scope level t.at t.len t.kind ts

-- what stands behind a postfix expression

module _ (e : Tall (At Tree)) (n : ℕ) where
  call-climbs : (ts : Tokens) (r : Option Tokens) → length ts < n → IfSome r (λ us. length us < n) → Climbs e.height n (call e ts r)
  call-climbs ts None h k = (omega arith, omega arith, omega arith)
  call-climbs ts (Some us) h k = (omega arith, omega arith, omega arith)

  member-climbs : (ts : Tokens) → length ts < n → Climbs e.height n (member e ts)
  member-climbs ts h = name-fewer ts (λ x. on (control.Postfix (grows e (tree.Member e.node x.0) e.height)) x.1) n (Climb e.height n) (omega arith) (λ x us g. (omega arith, omega arith, omega arith))

  arrow-climbs : (ts : Tokens) → length ts < n → Climbs e.height n (arrow e ts)
  arrow-climbs ts h = name-fewer ts (λ x. on (control.Postfix (grows e (tree.Arrow e.node x.0) e.height)) x.1) n (Climb e.height n) (omega arith) (λ x us g. (omega arith, omega arith, omega arith))

module _ (e : Tall (At Tree)) where
  postfix_by-climbs : (all ts : Tokens) (o : Mark) → length ts < length all → Climbs e.height (length all) (postfix_by e all ts o)
  postfix_by-climbs all ts m.LBracket h = (omega arith, omega arith, omega arith)
  postfix_by-climbs all ts m.LParen h = call-climbs e (length all) ts (after m.RParen ts) h (after-fewer m.RParen ts (length all) (omega arith))
  postfix_by-climbs all ts m.Dot h = member-climbs e (length all) ts h
  postfix_by-climbs all ts m.Arrow h = arrow-climbs e (length all) ts h
  postfix_by-climbs all ts m.PlusPlus h = (omega arith, omega arith, omega arith)
  postfix_by-climbs all ts m.MinusMinus h = (omega arith, omega arith, omega arith)
  postfix_by-climbs all ts o h = (omega arith, omega arith, omega arith)

  postfix_at-climbs : (all : Tokens) (r : Option (Mark × Tokens)) → IfSome r (λ o. length o.1 < length all) → Climbs e.height (length all) (postfix_at e all r)
  postfix_at-climbs all None h = (omega arith, omega arith, omega arith)
  postfix_at-climbs all (Some o) h = postfix_by-climbs all o.1 o.0 h

  pub postfix-climbs : (ts : Tokens) → Climbs e.height (length ts) (postfix e ts)
  unfolding postfix
  postfix-climbs ts = postfix_at-climbs ts (first_mark ts) (first_mark-fewer ts)

-- operators

module _ (least level : ℕ) (e : Tall (At Tree)) (all ts : Tokens) (h : length ts < length all) where
  binary-climbs : (o : Mark) (k : ℕ) (b : Bool) → Climbs e.height (length all) (binary least level e all ts o k b)
  binary-climbs o k true = (omega arith, omega arith, omega arith)
  binary-climbs o k false = (omega arith, omega arith, omega arith)

  choice-climbs : (b : Bool) → Climbs e.height (length all) (choice least level e all ts b)
  choice-climbs true = (omega arith, omega arith, omega arith)
  choice-climbs false = (omega arith, omega arith, omega arith)

  comma-climbs : (b : Bool) → Climbs e.height (length all) (comma least level e all ts b)
  comma-climbs true = (omega arith, omega arith, omega arith)
  comma-climbs false = (omega arith, omega arith, omega arith)

  assign-climbs : (o : Mark) (b : Bool) → Climbs e.height (length all) (assign least level e all ts o b)
  assign-climbs o true = (omega arith, omega arith, omega arith)
  assign-climbs o false = (omega arith, omega arith, omega arith)

  other-climbs : (o : Mark) → Climbs e.height (length all) (other least level e all ts o)
  other-climbs m.Question = choice-climbs (nat_le least conditional_level && nat_le (suc conditional_level) level)
  other-climbs m.Comma = comma-climbs (nat_le least comma_level)
  other-climbs o = assign-climbs o (is_assignment o && (nat_le least assignment_level && nat_le unary_level level))

  operators_by-climbs : (o : Mark) (k : Option ℕ) → Climbs e.height (length all) (operators_by least level e all ts o k)
  operators_by-climbs o (Some k) = binary-climbs o k (nat_le least k && nat_le k level)
  operators_by-climbs o None = other-climbs o

operators_at-climbs : (least level : ℕ) (e : Tall (At Tree)) (all : Tokens) (r : Option (Mark × Tokens)) → IfSome r (λ o. length o.1 < length all) → Climbs e.height (length all) (operators_at least level e all r)
operators_at-climbs least level e all None h = (omega arith, omega arith, omega arith)
operators_at-climbs least level e all (Some o) h = operators_by-climbs least level e all o.1 h o.0 (binary_level o.0)

pub operators-climbs : (least level : ℕ) (e : Tall (At Tree)) (ts : Tokens) → Climbs e.height (length ts) (operators least level e ts)
unfolding operators
operators-climbs least level e ts = operators_at-climbs least level e ts (first_mark ts) (first_mark-fewer ts)

-- what waits for an expression gets it

argument_at-climbs : (f : Tall (At Tree)) (es : List (At Tree)) (ts : Tokens) (r : Option Tokens) → IfSome r (λ us. length us < length ts) → Climbs (suc f.height) (length ts) (argument_at f es ts r)
argument_at-climbs f es ts (Some us) h = (omega arith, omega arith, omega arith)
argument_at-climbs f es ts None h = eat-fewer m.RParen ts (λ us. on (control.Postfix (grows f (tree.Call f.node es) f.height)) us) (length ts) (Climb (suc f.height) (length ts)) (omega arith) (λ us g. (omega arith, omega arith, omega arith))

module _ (level : ℕ) (e : Tall (At Tree)) (ts : Tokens) where
  chosen-climbs : (least : ℕ) (c : Tall (At Tree)) → Climbs (suc (max c.height e.height)) (length ts) (chosen least c e ts)
  chosen-climbs least c = eat-fewer m.Colon ts (λ us. opens (frame.Tree (for_tree.Otherwise least c e)) (control.Expr conditional_level) us) (length ts) (Climb (suc (max c.height e.height)) (length ts)) (omega arith)
      (λ us g. (omega arith, omega arith, omega arith))

  closed-climbs : (n : ℕ) → Climbs (suc e.height) (length ts) (paren n e ts)
  closed-climbs n = eat-fewer m.RParen ts (λ us. on (control.Postfix (made n (tree.Paren e.node) (suc e.height))) us) (length ts) (Climb (suc e.height) (length ts)) (omega arith) (λ us g. (omega arith, omega arith, omega arith))

  subscript-climbs : (a : Tall (At Tree)) → Climbs (suc (max a.height e.height)) (length ts) (subscript a e ts)
  subscript-climbs a = eat-fewer m.RBracket ts (λ us. on (control.Postfix (grows a (tree.Subscript a.node e.node) (max a.height e.height))) us) (length ts) (Climb (suc (max a.height e.height)) (length ts)) (omega arith)
      (λ us g. (omega arith, omega arith, omega arith))

  argument-climbs : (f : Tall (At Tree)) (es : List (At Tree)) → Climbs (suc (max f.height e.height)) (length ts) (argument f es e ts)
  argument-climbs f es = argument_at-climbs (tall f.node (max f.height e.height)) (es ++ e.node ∷ []) ts (after m.Comma ts) (after-fewer m.Comma ts (length ts) (omega arith))

  pub give_tree-climbs : (f : TreeFrame) → Climbs (over (frame.Tree f) e.height) (length ts) (give_tree level e ts f)
  give_tree-climbs (for_tree.Operators least) = (omega arith, omega arith, omega arith)
  give_tree-climbs (for_tree.Binary least o k a) = (omega arith, omega arith, omega arith)
  give_tree-climbs (for_tree.Choice least c) = same (over (frame.Tree (for_tree.Choice least c)) e.height) (suc (max c.height e.height)) (length ts) (omega arith) (chosen least c e ts) (chosen-climbs least c)
  give_tree-climbs (for_tree.Otherwise least c a) = (omega arith, omega arith, omega arith)
  give_tree-climbs (for_tree.Assign least o a) = (omega arith, omega arith, omega arith)
  give_tree-climbs (for_tree.Comma least a) = (omega arith, omega arith, omega arith)
  give_tree-climbs (for_tree.Paren n) = same (over (frame.Tree (for_tree.Paren n)) e.height) (suc e.height) (length ts) (omega arith) (paren n e ts) (closed-climbs n)
  give_tree-climbs (for_tree.Subscript a) = same (over (frame.Tree (for_tree.Subscript a)) e.height) (suc (max a.height e.height)) (length ts) (omega arith) (subscript a e ts) (subscript-climbs a)
  give_tree-climbs (for_tree.Call f es) = same (over (frame.Tree (for_tree.Call f es)) e.height) (suc (max f.height e.height)) (length ts) (omega arith) (argument f es e ts) (argument-climbs f es)
  give_tree-climbs (for_tree.Prefix n o) = (omega arith, omega arith, omega arith)
  give_tree-climbs (for_tree.SizeOf n) = (omega arith, omega arith, omega arith)
  give_tree-climbs (for_tree.Extension n) = (omega arith, omega arith, omega arith)
  give_tree-climbs (for_tree.Cast n t) = (omega arith, omega arith, omega arith)
