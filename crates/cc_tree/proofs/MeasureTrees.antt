-- Turns on expressions: what they leave weighs less than what they were given.
use Rattle.std.proofs.Common.{◌<◌, ◌+◌, ◌*◌, ℕ, suc, Bool, true, false, ◌&&◌, nat_le, List, [], ◌∷◌, ◌++◌, Option, Some, None, IfSome, length, max, arith}
use Rattle.cc_lex.specs.declared.token.Kind.{Kind}
use Rattle.cc_lex.specs.declared.token.Kind.TheVariants as kind
use Rattle.cc_lex.specs.declared.token.Mark.{Mark}
use Rattle.cc_lex.specs.declared.token.Mark.TheVariants as m
use Rattle.cc_words.specs.declared.word.Word.{Word}
use Rattle.cc_words.specs.declared.word.Word.TheVariants as w
use Rattle.cc_tree.specs.declared.at.At.{At}
use Rattle.cc_tree.specs.declared.state.Control.TheVariants as control
use Rattle.cc_tree.specs.declared.state.Frame.TheVariants as frame
use Rattle.cc_tree.specs.declared.state.Tall.{Tall}
use Rattle.cc_tree.specs.declared.state.TreeFrame.{TreeFrame}
use Rattle.cc_tree.specs.declared.state.TreeFrame.TheVariants as for_tree
use Rattle.cc_tree.specs.declared.tree.Tree as tree
use Rattle.cc_tree.specs.declared.tree.Tree.{Tree}
use Rattle.cc_tree.specs.Operators.{comma_level, assignment_level, conditional_level, cast_level, unary_level, binary_level, is_assignment, operand_level}
use Rattle.cc_tree.specs.Reading.{after, first_mark, same_mark}
use Rattle.cc_tree.specs.ReadTypes.{begins_specs}
use Rattle.cc_tree.specs.Scopes.{Scope, is_typedef}
use Rattle.cc_tree.specs.Tokens.{Tokens, Name}
use Rattle.cc_tree.specs.Turns.{on, opens, made, tall}
use Rattle.cc_tree.specs.TurnTrees.{expr, operand_name, in_parens, operand_paren, operand_mark, size_of_type, size_of, operand_word, operand_at, operand, grows, call, member, arrow, postfix_by, postfix_at, postfix, binary, choice, comma, assign, other, operators_by, operators_at, operators, chosen, paren, subscript, argument_at, argument, give_tree}
use Rattle.cc_tree.proofs.MeasureTokens.{weight, Falls, heavier, after-fewer, eat-fewer, name-fewer, first_mark-fewer, texts-fewer}

pub expr-falls : (l : ℕ) (ts : Tokens) → Falls (16 * length ts + 3) (expr l ts)
expr-falls l ts = omega arith

-- operands

module _ (scope : Scope) (level n : ℕ) (all : Tokens) where
  name-falls : (ts : Tokens) (at : ℕ) (x : Name) (b : Bool) → length ts < n → Falls (16 * n) (operand_name all ts at x b)
  name-falls ts at x true h = tt
  name-falls ts at x false h = omega arith

  in_parens-falls : (ts : Tokens) (at : ℕ) (b : Bool) → length ts < n → Falls (16 * n) (in_parens ts at b)
  in_parens-falls ts at true h = omega arith
  in_parens-falls ts at false h = omega arith

  paren-falls : (ts : Tokens) (at : ℕ) (b : Bool) → length ts < n → Falls (16 * n) (operand_paren scope level all ts at b)
  paren-falls ts at true h = in_parens-falls ts at (nat_le level cast_level && begins_specs scope ts) h
  paren-falls ts at false h = tt

  mark-falls : (ts : Tokens) (at : ℕ) (o : Mark) (k : Option ℕ) → length ts < n → Falls (16 * n) (operand_mark scope level all ts at o k)
  mark-falls ts at o None h = paren-falls ts at (same_mark o m.LParen) h
  mark-falls ts at o (Some k) h = omega arith

  size_of_type-falls : (ts us : Tokens) (at : ℕ) (b : Bool) → length ts < n → length us < n → Falls (16 * n) (size_of_type ts us at b)
  size_of_type-falls ts us at true h k = omega arith
  size_of_type-falls ts us at false h k = omega arith

  size_of-falls : (ts : Tokens) (at : ℕ) (r : Option Tokens) → length ts < n → IfSome r (λ us. length us < n) → Falls (16 * n) (size_of scope ts at r)
  size_of-falls ts at None h k = omega arith
  size_of-falls ts at (Some us) h k = size_of_type-falls ts us at (begins_specs scope us) h k

  word-falls : (ts : Tokens) (at : ℕ) (x : Word) → length ts < n → Falls (16 * n) (operand_word scope all ts at x)
  word-falls ts at w.Sizeof h = size_of-falls ts at (after m.LParen ts) h (after-fewer m.LParen ts n (omega arith))
  word-falls ts at w.Extension h = omega arith
  word-falls ts at x h = tt

at-falls : (scope : Scope) (level n len : ℕ) (k : Kind) (ts : Tokens) → Falls (16 * suc (length ts)) (operand_at scope level (record { at = n; len = len; kind = k } ∷ ts) ts n k)
at-falls scope level n len (kind.Ident x) ts = name-falls scope level (suc (length ts)) (record { at = n; len = len; kind = kind.Ident x } ∷ ts) ts n x (is_typedef scope x) (omega arith)
at-falls scope level n len (kind.Number k f) ts = omega arith
at-falls scope level n len (kind.Character c) ts = omega arith
at-falls scope level n len (kind.Text b) ts = omega (arith, texts-fewer ts)
at-falls scope level n len (kind.Punct o) ts = mark-falls scope level (suc (length ts)) (record { at = n; len = len; kind = kind.Punct o } ∷ ts) ts n o (operand_level o) (omega arith)
at-falls scope level n len (kind.Keyword x) ts = word-falls scope level (suc (length ts)) (record { at = n; len = len; kind = kind.Keyword x } ∷ ts) ts n x (omega arith)

pub operand-falls : (scope : Scope) (level : ℕ) (ts : Tokens) → Falls (16 * length ts) (operand scope level ts)
unfolding operand
operand-falls scope level [] = tt
operand-falls scope level (t ∷ ts) = at-falls scope level t.at t.len t.kind ts

-- what stands behind a postfix expression

module _ (e : Tall (At Tree)) (n : ℕ) where
  call-falls : (ts : Tokens) (r : Option Tokens) → length ts < n → IfSome r (λ us. length us < n) → Falls (16 * n) (call e ts r)
  call-falls ts None h k = omega arith
  call-falls ts (Some us) h k = omega arith

  member-falls : (ts : Tokens) → length ts < n → Falls (16 * n) (member e ts)
  member-falls ts h = name-fewer ts (λ x. on (control.Postfix (grows e (tree.Member e.node x.0) e.height)) x.1) n (λ t. weight t < 16 * n) (omega arith) (λ x us g. omega arith)

  arrow-falls : (ts : Tokens) → length ts < n → Falls (16 * n) (arrow e ts)
  arrow-falls ts h = name-fewer ts (λ x. on (control.Postfix (grows e (tree.Arrow e.node x.0) e.height)) x.1) n (λ t. weight t < 16 * n) (omega arith) (λ x us g. omega arith)

module _ (e : Tall (At Tree)) where
  postfix_by-falls : (all ts : Tokens) (o : Mark) → length ts < length all → Falls (16 * length all + 1) (postfix_by e all ts o)
  postfix_by-falls all ts m.LBracket h = omega arith
  postfix_by-falls all ts m.LParen h = heavier (16 * length all) (16 * length all + 1) (call e ts (after m.RParen ts)) (call-falls e (length all) ts (after m.RParen ts) h (after-fewer m.RParen ts (length all) (omega arith))) (omega arith)
  postfix_by-falls all ts m.Dot h = heavier (16 * length all) (16 * length all + 1) (member e ts) (member-falls e (length all) ts h) (omega arith)
  postfix_by-falls all ts m.Arrow h = heavier (16 * length all) (16 * length all + 1) (arrow e ts) (arrow-falls e (length all) ts h) (omega arith)
  postfix_by-falls all ts m.PlusPlus h = omega arith
  postfix_by-falls all ts m.MinusMinus h = omega arith
  postfix_by-falls all ts o h = omega arith

  postfix_at-falls : (all : Tokens) (r : Option (Mark × Tokens)) → IfSome r (λ o. length o.1 < length all) → Falls (16 * length all + 1) (postfix_at e all r)
  postfix_at-falls all None h = omega arith
  postfix_at-falls all (Some o) h = postfix_by-falls all o.1 o.0 h

  pub postfix-falls : (ts : Tokens) → Falls (16 * length ts + 1) (postfix e ts)
  unfolding postfix
  postfix-falls ts = postfix_at-falls ts (first_mark ts) (first_mark-fewer ts)

-- operators

module _ (least level : ℕ) (e : Tall (At Tree)) (all ts : Tokens) (h : length ts < length all) where
  binary-falls : (o : Mark) (k : ℕ) (b : Bool) → Falls (16 * length all + 1) (binary least level e all ts o k b)
  binary-falls o k true = omega arith
  binary-falls o k false = omega arith

  choice-falls : (b : Bool) → Falls (16 * length all + 1) (choice least level e all ts b)
  choice-falls true = omega arith
  choice-falls false = omega arith

  comma-falls : (b : Bool) → Falls (16 * length all + 1) (comma least level e all ts b)
  comma-falls true = omega arith
  comma-falls false = omega arith

  assign-falls : (o : Mark) (b : Bool) → Falls (16 * length all + 1) (assign least level e all ts o b)
  assign-falls o true = omega arith
  assign-falls o false = omega arith

  other-falls : (o : Mark) → Falls (16 * length all + 1) (other least level e all ts o)
  other-falls m.Question = choice-falls (nat_le least conditional_level && nat_le (suc conditional_level) level)
  other-falls m.Comma = comma-falls (nat_le least comma_level)
  other-falls o = assign-falls o (is_assignment o && (nat_le least assignment_level && nat_le unary_level level))

  operators_by-falls : (o : Mark) (k : Option ℕ) → Falls (16 * length all + 1) (operators_by least level e all ts o k)
  operators_by-falls o (Some k) = binary-falls o k (nat_le least k && nat_le k level)
  operators_by-falls o None = other-falls o

operators_at-falls : (least level : ℕ) (e : Tall (At Tree)) (all : Tokens) (r : Option (Mark × Tokens)) → IfSome r (λ o. length o.1 < length all) → Falls (16 * length all + 1) (operators_at least level e all r)
operators_at-falls least level e all None h = omega arith
operators_at-falls least level e all (Some o) h = operators_by-falls least level e all o.1 h o.0 (binary_level o.0)

pub operators-falls : (least level : ℕ) (e : Tall (At Tree)) (ts : Tokens) → Falls (16 * length ts + 1) (operators least level e ts)
unfolding operators
operators-falls least level e ts = operators_at-falls least level e ts (first_mark ts) (first_mark-fewer ts)

-- what waits for an expression gets it

argument_at-falls : (f : Tall (At Tree)) (es : List (At Tree)) (ts : Tokens) (r : Option Tokens) → IfSome r (λ us. length us < length ts) → Falls (16 * length ts + 2) (argument_at f es ts r)
argument_at-falls f es ts (Some us) h = omega arith
argument_at-falls f es ts None h = eat-fewer m.RParen ts (λ us. on (control.Postfix (grows f (tree.Call f.node es) f.height)) us) (length ts) (λ t. weight t < 16 * length ts + 2) (omega arith) (λ us g. omega arith)

module _ (level : ℕ) (e : Tall (At Tree)) (ts : Tokens) where
  chosen-falls : (least : ℕ) (c : Tall (At Tree)) → Falls (16 * length ts + 2) (chosen least c e ts)
  chosen-falls least c = eat-fewer m.Colon ts (λ us. opens (frame.Tree (for_tree.Otherwise least c e)) (control.Expr conditional_level) us) (length ts) (λ t. weight t < 16 * length ts + 2) (omega arith) (λ us g. omega arith)

  closed-falls : (n : ℕ) → Falls (16 * length ts + 2) (paren n e ts)
  closed-falls n = eat-fewer m.RParen ts (λ us. on (control.Postfix (made n (tree.Paren e.node) (suc e.height))) us) (length ts) (λ t. weight t < 16 * length ts + 2) (omega arith) (λ us g. omega arith)

  subscript-falls : (a : Tall (At Tree)) → Falls (16 * length ts + 2) (subscript a e ts)
  subscript-falls a = eat-fewer m.RBracket ts (λ us. on (control.Postfix (grows a (tree.Subscript a.node e.node) (max a.height e.height))) us) (length ts) (λ t. weight t < 16 * length ts + 2) (omega arith) (λ us g. omega arith)

  argument-falls : (f : Tall (At Tree)) (es : List (At Tree)) → Falls (16 * length ts + 2) (argument f es e ts)
  argument-falls f es = argument_at-falls (tall f.node (max f.height e.height)) (es ++ e.node ∷ []) ts (after m.Comma ts) (after-fewer m.Comma ts (length ts) (omega arith))

  pub give_tree-falls : (f : TreeFrame) → Falls (16 * length ts + 2) (give_tree level e ts f)
  give_tree-falls (for_tree.Operators least) = omega arith
  give_tree-falls (for_tree.Binary least o k a) = omega arith
  give_tree-falls (for_tree.Choice least c) = chosen-falls least c
  give_tree-falls (for_tree.Otherwise least c a) = omega arith
  give_tree-falls (for_tree.Assign least o a) = omega arith
  give_tree-falls (for_tree.Comma least a) = omega arith
  give_tree-falls (for_tree.Paren n) = closed-falls n
  give_tree-falls (for_tree.Subscript a) = subscript-falls a
  give_tree-falls (for_tree.Call f es) = argument-falls f es
  give_tree-falls (for_tree.Prefix n o) = omega arith
  give_tree-falls (for_tree.SizeOf n) = omega arith
  give_tree-falls (for_tree.Extension n) = omega arith
  give_tree-falls (for_tree.Cast n t) = omega arith
