-- The turns on expressions keep the parser's state one of an unfinished sentence.
use Rattle.std.proofs.Common.{◌≡◌, ◌≤◌, ℕ, suc, Bool, true, false, ◌&&◌, nat_le, List, [], ◌∷◌, ◌++◌, Option, Some, None, IfSome, refl, sym, subst, max, arith}
use Rattle.std.proofs.lemmas.Bool.{leb-true, and_parts}
use Rattle.cc_lex.specs.declared.token.Kind.{Kind}
use Rattle.cc_lex.specs.declared.token.Kind.TheVariants as kind
use Rattle.cc_lex.specs.declared.token.Mark.{Mark}
use Rattle.cc_lex.specs.declared.token.Mark.TheVariants as m
use Rattle.cc_words.specs.declared.word.Word.{Word}
use Rattle.cc_words.specs.declared.word.Word.TheVariants as w
use Rattle.cc_tree.specs.declared.at.At.{At}
use Rattle.cc_tree.specs.declared.state.Control.TheVariants as control
use Rattle.cc_tree.specs.declared.state.Frame.{Frame}
use Rattle.cc_tree.specs.declared.state.Frame.TheVariants as frame
use Rattle.cc_tree.specs.declared.state.SpecsFrame.TheVariants as for_specs
use Rattle.cc_tree.specs.declared.state.Tall.{Tall}
use Rattle.cc_tree.specs.declared.state.TreeFrame.{TreeFrame}
use Rattle.cc_tree.specs.declared.state.TreeFrame.TheVariants as for_tree
use Rattle.cc_tree.specs.declared.state.Use.TheVariants as used
use Rattle.cc_tree.specs.declared.tree.Tree as tree
use Rattle.cc_tree.specs.declared.tree.Tree.{Tree}
use Rattle.cc_tree.specs.Height.{height, heights}
use Rattle.cc_tree.specs.Operators.{comma_level, assignment_level, conditional_level, cast_level, unary_level, postfix_level, binary_level, is_assignment, operand_level, is_postfix}
use Rattle.cc_tree.specs.Reading.{after, first_mark, same_mark}
use Rattle.cc_tree.specs.ReadTypes.{begins_specs, texts}
use Rattle.cc_tree.specs.Scopes.{Scope, is_typedef}
use Rattle.cc_tree.specs.Terms.{IsTree, AName, ANumber, ACharacter, AText, InParens, ASubscript, ACall, ACallOfNone, AMember, AnArrow, APostfix, APrefix, ASizeOf, AnExtension, ACast, ABinary, AChoice, AnAssignment, AComma, IsArgs, FirstArg, MoreArgs, NoSpec}
use Rattle.cc_tree.specs.Tokens.{Tokens, Name, Span, mark, word, ident, number, character, text, at, offset}
use Rattle.cc_tree.specs.Turns.{on, opens, made, tall}
use Rattle.cc_tree.specs.TurnTrees.{expr, operand_name, in_parens, operand_paren, operand_mark, size_of_type, size_of, operand_word, operand_at, operand, grows, call, member, arrow, postfix_by, postfix_at, postfix, binary, choice, comma, assign, other, operators_by, operators_at, operators, operation, chosen, paren, subscript, argument_at, argument, unary, give_tree}
use Rattle.cc_tree.proofs.HeightSteps.{heights-behind, height-Named, height-Number, height-Character, height-Text, height-Paren, height-Comma, height-Assign, height-Choose, height-Binary, height-Prefix, height-Postfix, height-SizeOf, height-Extension, height-Cast, height-Subscript, height-Member, height-Arrow, height-Call}
use Rattle.cc_tree.proofs.Inside.{ATree, SomeSpecs, NeedTree, Inside, InOperators, InBinary, InChoice, InOtherwise, InAssign, InComma, InParen, InSubscript, InFirstArg, InMoreArgs, InPrefix, InSizeOf, InExtension, InCast, InTypeSpecs, ForCast, ForSizeOf, GoodExpr, GoodOperand, GoodPostfix, GoodOperators, GoodTree, GoodSpecs, GoodTurn}
use Rattle.cc_tree.proofs.ReadingBasics.{same_mark-is}
use Rattle.cc_tree.proofs.SoundParts.{looser, looser_tree, tree_from}
use Rattle.cc_tree.proofs.SoundTokens.{after_from, eat_from, name_from, FirstMark, first_mark_from, texts-sound}

level_test : (a b : ℕ) → nat_le a b ≡ true → a ≤ b
level_test a b e = leb-true a b e

-- the operators' levels are below that of a unary operand

below_unary : Option ℕ → Bool
below_unary None = true
below_unary (Some k) = nat_le (suc k) unary_level

binary_below : (o : Mark) → below_unary (binary_level o) ≡ true
unfolding below_unary
binary_below m.OrOr = refl
binary_below _ = refl

binary_bound : (o : Mark) (k : ℕ) → binary_level o ≡ Some k → suc k ≤ unary_level
unfolding below_unary
binary_bound o k e = level_test (suc k) unary_level (subst (λ n. below_unary n ≡ true) e (binary_below o))

upto_unary : Option ℕ → Bool
upto_unary None = true
upto_unary (Some k) = nat_le k unary_level

operand_below : (o : Mark) → upto_unary (operand_level o) ≡ true
unfolding upto_unary
operand_below m.PlusPlus = refl
operand_below _ = refl

operand_bound : (o : Mark) (k : ℕ) → operand_level o ≡ Some k → k ≤ unary_level
unfolding upto_unary
operand_bound o k e = level_test k unary_level (subst (λ n. upto_unary n ≡ true) e (operand_below o))

module _ (all : Tokens) (scope : Scope) (fs : List Frame) where
  pub expr-good : (l : ℕ) (ts : Tokens) → Inside all scope fs (NeedTree l) ts → l ≤ unary_level → GoodTurn all scope fs (expr l ts)
  expr-good l ts i h = GoodOperand scope (frame.Tree (for_tree.Operators l) ∷ fs) l ts (InOperators scope fs l ts i) h

  -- operators

  module _ (least level : ℕ) (e : Tall (At Tree)) (ts us : Tokens) (i : Inside all scope fs (NeedTree least) ts) (t : ATree scope level e ts us) (le : least ≤ level) where
    over : GoodTurn all scope fs (on (control.Tree level e) us)
    over = GoodTree scope fs least level e ts us i t le

    binary-good : (o : Mark) (vs : Tokens) (p : Span) → ATree scope level e ts (mark o p ∷ vs) → (k : ℕ) → binary_level o ≡ Some k → (b : Bool) → nat_le least k && nat_le k level ≡ b →
        GoodTurn all scope fs (binary least level e us vs o k b)
    binary-good o vs p g k r false f = over
    binary-good o vs p g k r true f = let a = and_parts (nat_le least k) (nat_le k level) f in
        GoodExpr scope (frame.Tree (for_tree.Binary least o k e) ∷ fs) (suc k) vs (InBinary scope fs least k o e p ts vs i (level_test least k a.0) r (looser_tree k (level_test k level a.1) g)) (binary_bound o k r)

    choice-good : (vs : Tokens) (p : Span) → ATree scope level e ts (mark m.Question p ∷ vs) → (b : Bool) → nat_le least conditional_level && nat_le (suc conditional_level) level ≡ b →
        GoodTurn all scope fs (choice least level e us vs b)
    choice-good vs p g false f = over
    choice-good vs p g true f = let a = and_parts (nat_le least conditional_level) (nat_le (suc conditional_level) level) f in
        GoodExpr scope (frame.Tree (for_tree.Choice least e) ∷ fs) comma_level vs
        (InChoice scope fs least e p ts vs i (level_test least conditional_level a.0) (looser_tree (suc conditional_level) (level_test (suc conditional_level) level a.1) g)) (omega arith)

    comma-good : (vs : Tokens) (p : Span) → ATree scope level e ts (mark m.Comma p ∷ vs) → (b : Bool) → nat_le least comma_level ≡ b → GoodTurn all scope fs (comma least level e us vs b)
    comma-good vs p g false f = over
    comma-good vs p g true f = GoodExpr scope (frame.Tree (for_tree.Comma least e) ∷ fs) assignment_level vs
        (InComma scope fs least e p ts vs i (level_test least comma_level f) (looser_tree comma_level (omega arith) g)) (omega arith)

    assign-good : (o : Mark) (vs : Tokens) (p : Span) → ATree scope level e ts (mark o p ∷ vs) → (b : Bool) → is_assignment o && (nat_le least assignment_level && nat_le unary_level level) ≡ b →
        GoodTurn all scope fs (assign least level e us vs o b)
    assign-good o vs p g false f = over
    assign-good o vs p g true f = let a = and_parts (is_assignment o) (nat_le least assignment_level && nat_le unary_level level) f in
        let c = and_parts (nat_le least assignment_level) (nat_le unary_level level) a.1 in
        GoodExpr scope (frame.Tree (for_tree.Assign least o e) ∷ fs) assignment_level vs
        (InAssign scope fs least o e p ts vs i (level_test least assignment_level c.0) a.0 (looser_tree unary_level (level_test unary_level level c.1) g)) (omega arith)

    other-good : (o : Mark) (vs : Tokens) (p : Span) → ATree scope level e ts (mark o p ∷ vs) → GoodTurn all scope fs (other least level e us vs o)
    other-good m.Question vs p g = choice-good vs p g (nat_le least conditional_level && nat_le (suc conditional_level) level) refl
    other-good m.Comma vs p g = comma-good vs p g (nat_le least comma_level) refl
    other-good o vs p g = assign-good o vs p g (is_assignment o && (nat_le least assignment_level && nat_le unary_level level)) refl

    operators_by-good : (o : Mark) (vs : Tokens) (p : Span) → ATree scope level e ts (mark o p ∷ vs) → (k : Option ℕ) → binary_level o ≡ k → GoodTurn all scope fs (operators_by least level e us vs o k)
    operators_by-good o vs p g (Some k) r = binary-good o vs p g k r (nat_le least k && nat_le k level) refl
    operators_by-good o vs p g None r = other-good o vs p g

    operators_at-good : (r : Option (Mark × Tokens)) → IfSome r (FirstMark (ATree scope level e ts)) → GoodTurn all scope fs (operators_at least level e us r)
    operators_at-good None h = over
    operators_at-good (Some o) h = operators_by-good o.0 o.1 h.0 h.1 (binary_level o.0) refl

    pub operators-good : GoodTurn all scope fs (operators least level e us)
    unfolding operators
    operators-good = operators_at-good (first_mark us) (first_mark_from us (ATree scope level e ts) t)

  -- operands

  no_specs : (ts : Tokens) → SomeSpecs scope (tall [] 0) ts ts
  no_specs ts = record { spelled = NoSpec scope ts; high = refl }

  module _ (l : ℕ) (h : l ≤ unary_level) where
    name_good : (x : Name) (s : Span) (ts : Tokens) → Inside all scope fs (NeedTree l) (ident x s ∷ ts) → (b : Bool) → is_typedef scope x ≡ b → GoodTurn all scope fs (operand_name (ident x s ∷ ts) ts s.0 x b)
    name_good x s ts i true e = tt
    name_good x s ts i false e = GoodPostfix scope fs l (made s.0 (tree.Named x) 0) (ident x s ∷ ts) ts i h (record { spelled = AName scope postfix_level x s ts e; high = sym (height-Named x) })

    in_parens-good : (p : Span) (ts : Tokens) → Inside all scope fs (NeedTree l) (mark m.LParen p ∷ ts) → (b : Bool) → nat_le l cast_level && begins_specs scope ts ≡ b → GoodTurn all scope fs (in_parens ts p.0 b)
    in_parens-good p ts i true e = GoodSpecs scope (frame.Specs (for_specs.TypeName used.Cast p.0) ∷ fs) (tall [] 0) ts ts
        (InTypeSpecs scope fs used.Cast p.0 ts (ForCast scope fs l p ts i (level_test l cast_level (and_parts (nat_le l cast_level) (begins_specs scope ts) e).0))) (no_specs ts)
    in_parens-good p ts i false e = GoodExpr scope (frame.Tree (for_tree.Paren p.0) ∷ fs) comma_level ts (InParen scope fs l p ts i h) (omega arith)

    operand_paren-good : (o : Mark) (p : Span) (ts : Tokens) → Inside all scope fs (NeedTree l) (mark o p ∷ ts) → (b : Bool) → same_mark o m.LParen ≡ b →
        GoodTurn all scope fs (operand_paren scope l (mark o p ∷ ts) ts p.0 b)
    operand_paren-good o p ts i true e = in_parens-good p ts (subst (λ x. Inside all scope fs (NeedTree l) (mark x p ∷ ts)) (same_mark-is o m.LParen e) i) (nat_le l cast_level && begins_specs scope ts) refl
    operand_paren-good o p ts i false e = tt

    operand_mark-good : (o : Mark) (p : Span) (ts : Tokens) → Inside all scope fs (NeedTree l) (mark o p ∷ ts) → (k : Option ℕ) → operand_level o ≡ k →
        GoodTurn all scope fs (operand_mark scope l (mark o p ∷ ts) ts p.0 o k)
    operand_mark-good o p ts i None e = operand_paren-good o p ts i (same_mark o m.LParen) refl
    operand_mark-good o p ts i (Some k) e = GoodExpr scope (frame.Tree (for_tree.Prefix p.0 o) ∷ fs) k ts (InPrefix scope fs l k o p ts i h e) (operand_bound o k e)

    of_expression : (s : Span) (ts : Tokens) → Inside all scope fs (NeedTree l) (word w.Sizeof s ∷ ts) → GoodTurn all scope fs (opens (frame.Tree (for_tree.SizeOf s.0)) (control.Expr unary_level) ts)
    of_expression s ts i = GoodExpr scope (frame.Tree (for_tree.SizeOf s.0) ∷ fs) unary_level ts (InSizeOf scope fs l s ts i h) (omega arith)

    size_of_type-good : (s p : Span) (ts us : Tokens) → Inside all scope fs (NeedTree l) (word w.Sizeof s ∷ ts) → Inside all scope fs (NeedTree l) (word w.Sizeof s ∷ mark m.LParen p ∷ us) → (b : Bool) →
        GoodTurn all scope fs (size_of_type ts us s.0 b)
    size_of_type-good s p ts us i j true = GoodSpecs scope (frame.Specs (for_specs.TypeName used.SizeOf s.0) ∷ fs) (tall [] 0) us us
        (InTypeSpecs scope fs used.SizeOf s.0 us (ForSizeOf scope fs l s p us j h)) (no_specs us)
    size_of_type-good s p ts us i j false = of_expression s ts i

    size_of-good : (s : Span) (ts : Tokens) → Inside all scope fs (NeedTree l) (word w.Sizeof s ∷ ts) → (r : Option Tokens) →
        IfSome r (λ us. (p : Span) × Inside all scope fs (NeedTree l) (word w.Sizeof s ∷ mark m.LParen p ∷ us)) → GoodTurn all scope fs (size_of scope ts s.0 r)
    size_of-good s ts i None g = of_expression s ts i
    size_of-good s ts i (Some us) g = size_of_type-good s g.0 ts us i g.1 (begins_specs scope us)

    operand_word-good : (x : Word) (s : Span) (ts : Tokens) → Inside all scope fs (NeedTree l) (word x s ∷ ts) → GoodTurn all scope fs (operand_word scope (word x s ∷ ts) ts s.0 x)
    operand_word-good w.Sizeof s ts i = size_of-good s ts i (after m.LParen ts) (after_from m.LParen ts (λ z. Inside all scope fs (NeedTree l) (word w.Sizeof s ∷ z)) i)
    operand_word-good w.Extension s ts i = GoodExpr scope (frame.Tree (for_tree.Extension s.0) ∷ fs) cast_level ts (InExtension scope fs l s ts i h) (omega arith)
    operand_word-good x s ts i = tt

    operand_at-good : (n len : ℕ) (k : Kind) (ts : Tokens) → Inside all scope fs (NeedTree l) (record { at = n; len = len; kind = k } ∷ ts) →
        GoodTurn all scope fs (operand_at scope l (record { at = n; len = len; kind = k } ∷ ts) ts n k)
    operand_at-good n len (kind.Ident x) ts i = name_good x (n, len) ts i (is_typedef scope x) refl
    operand_at-good n len (kind.Number k f) ts i = GoodPostfix scope fs l (made n (tree.Number k f) 0) (number k f (n, len) ∷ ts) ts i h
        (record { spelled = ANumber scope postfix_level k f (n, len) ts; high = sym (height-Number k f) })
    operand_at-good n len (kind.Character c) ts i = GoodPostfix scope fs l (made n (tree.Character c) 0) (character c (n, len) ∷ ts) ts i h
        (record { spelled = ACharacter scope postfix_level c (n, len) ts; high = sym (height-Character c) })
    operand_at-good n len (kind.Text b) ts i = GoodPostfix scope fs l (made n (tree.Text (b ++ (texts ts).0)) 0) (text b (n, len) ∷ ts) (texts ts).1 i h
        (record { spelled = AText scope postfix_level (b ++ (texts ts).0) (text b (n, len) ∷ ts) (texts ts).1 (texts-sound ts b (n, len)); high = sym (height-Text (b ++ (texts ts).0)) })
    operand_at-good n len (kind.Punct o) ts i = operand_mark-good o (n, len) ts i (operand_level o) refl
    operand_at-good n len (kind.Keyword x) ts i = operand_word-good x (n, len) ts i

    pub operand-good : (ts : Tokens) → Inside all scope fs (NeedTree l) ts → GoodTurn all scope fs (operand scope l ts)
    unfolding operand
    operand-good [] i = tt
    operand-good (t ∷ ts) i = operand_at-good t.at t.len t.kind ts i

  -- what stands behind a postfix expression

  module _ (l : ℕ) (e : Tall (At Tree)) (ts : Tokens) (i : Inside all scope fs (NeedTree l) ts) (h : l ≤ unary_level) where
    pub grown : (node : Tree) (us vs : Tokens) → IsTree scope postfix_level e.node ts us → IsTree scope postfix_level (at ts node) ts vs → (n : ℕ) → suc n ≡ height node →
        GoodTurn all scope fs (on (control.Postfix (grows e node n)) vs)
    grown node us vs s t n k = GoodPostfix scope fs l (grows e node n) ts vs i h (record { spelled = tree_from node s t; high = k })

    call-good : (p : Span) (us : Tokens) → ATree scope postfix_level e ts (mark m.LParen p ∷ us) → (r : Option Tokens) →
        IfSome r (λ vs. (q : Span) × ATree scope postfix_level e ts (mark m.LParen p ∷ mark m.RParen q ∷ vs)) → GoodTurn all scope fs (call e us r)
    call-good p us t None g = GoodExpr scope (frame.Tree (for_tree.Call e []) ∷ fs) assignment_level us (InFirstArg scope fs l e p ts us i h t) (omega arith)
    call-good p us t (Some vs) g = grown (tree.Call e.node []) (mark m.LParen p ∷ us) vs t.spelled (ACallOfNone scope postfix_level e.node p g.0 ts vs (omega arith) g.1.spelled) e.height
        (omega (arith, height-Call e.node []))

    member-good : (p : Span) (us : Tokens) → ATree scope postfix_level e ts (mark m.Dot p ∷ us) → GoodTurn all scope fs (member e us)
    member-good p us t = name_from us (λ x. on (control.Postfix (grows e (tree.Member e.node x.0) e.height)) x.1) (λ z. ATree scope postfix_level e ts (mark m.Dot p ∷ z)) _ t
        (λ x s vs g. grown (tree.Member e.node x) (mark m.Dot p ∷ us) vs t.spelled (AMember scope postfix_level e.node x p s ts vs (omega arith) g.spelled) e.height (omega (arith, height-Member e.node x)))

    arrow-good : (p : Span) (us : Tokens) → ATree scope postfix_level e ts (mark m.Arrow p ∷ us) → GoodTurn all scope fs (arrow e us)
    arrow-good p us t = name_from us (λ x. on (control.Postfix (grows e (tree.Arrow e.node x.0) e.height)) x.1) (λ z. ATree scope postfix_level e ts (mark m.Arrow p ∷ z)) _ t
        (λ x s vs g. grown (tree.Arrow e.node x) (mark m.Arrow p ∷ us) vs t.spelled (AnArrow scope postfix_level e.node x p s ts vs (omega arith) g.spelled) e.height (omega (arith, height-Arrow e.node x)))

    step-good : (o : Mark) (p : Span) (us : Tokens) → is_postfix o ≡ true → ATree scope postfix_level e ts (mark o p ∷ us) → GoodTurn all scope fs (on (control.Postfix (grows e (tree.Postfix e.node o) e.height)) us)
    step-good o p us x t = grown (tree.Postfix e.node o) (mark o p ∷ us) us t.spelled (APostfix scope postfix_level e.node o p ts us (omega arith) x t.spelled) e.height (omega (arith, height-Postfix e.node o))

    closed_off : (us : Tokens) → ATree scope postfix_level e ts us → GoodTurn all scope fs (on (control.Tree postfix_level e) us)
    closed_off us t = GoodTree scope fs l postfix_level e ts us i t (omega arith)

    postfix_by-good : (o : Mark) (p : Span) (us vs : Tokens) → ATree scope postfix_level e ts us → ATree scope postfix_level e ts (mark o p ∷ vs) → GoodTurn all scope fs (postfix_by e us vs o)
    postfix_by-good m.LBracket p us vs t g = GoodExpr scope (frame.Tree (for_tree.Subscript e) ∷ fs) comma_level vs (InSubscript scope fs l e p ts vs i h g) (omega arith)
    postfix_by-good m.LParen p us vs t g = call-good p vs g (after m.RParen vs) (after_from m.RParen vs (λ z. ATree scope postfix_level e ts (mark m.LParen p ∷ z)) g)
    postfix_by-good m.Dot p us vs t g = member-good p vs g
    postfix_by-good m.Arrow p us vs t g = arrow-good p vs g
    postfix_by-good m.PlusPlus p us vs t g = step-good m.PlusPlus p vs refl g
    postfix_by-good m.MinusMinus p us vs t g = step-good m.MinusMinus p vs refl g
    postfix_by-good o p us vs t g = closed_off us t

    postfix_at-good : (us : Tokens) → ATree scope postfix_level e ts us → (r : Option (Mark × Tokens)) → IfSome r (FirstMark (ATree scope postfix_level e ts)) → GoodTurn all scope fs (postfix_at e us r)
    postfix_at-good us t None g = closed_off us t
    postfix_at-good us t (Some o) g = postfix_by-good o.0 g.0 us o.1 t g.1

    pub postfix-good : (us : Tokens) → ATree scope postfix_level e ts us → GoodTurn all scope fs (postfix e us)
    unfolding postfix
    postfix-good us t = postfix_at-good us t (first_mark us) (first_mark_from us (ATree scope postfix_level e ts) t)

-- what waits for an expression gets it

module _ (all : Tokens) (level : ℕ) (e : Tall (At Tree)) (us : Tokens) where
  -- an operation is spelled, and operators may stand behind it
  operation-good : (scope : Scope) (fs : List Frame) (least k : ℕ) (a : Tall (At Tree)) (node : Tree) (n j : ℕ) (ts vs : Tokens) → Inside all scope fs (NeedTree least) ts → least ≤ k →
      IsTree scope j a.node ts vs → IsTree scope k (at ts node) ts us → suc n ≡ height node → GoodTurn all scope fs (operation least k a node n us)
  operation-good scope fs least k a node n j ts vs i h s t g = GoodOperators scope fs least k (grows a node n) ts us i (record { spelled = tree_from node s t; high = g }) h

  unary-good : (scope : Scope) (fs : List Frame) (l : ℕ) (node : Tree) (n : ℕ) (ts : Tokens) → Inside all scope fs (NeedTree l) ts → l ≤ unary_level → IsTree scope unary_level (at ts node) ts us → suc n ≡ height node →
      GoodTurn all scope fs (unary (offset ts) node n us)
  unary-good scope fs l node n ts i h t g = GoodTree scope fs l unary_level (made (offset ts) node (suc n)) ts us i (record { spelled = t; high = g }) h

  chosen-good : (scope : Scope) (fs : List Frame) (l : ℕ) (c : Tall (At Tree)) (p : Span) (ts vs : Tokens) → Inside all scope fs (NeedTree l) ts → l ≤ conditional_level →
      ATree scope (suc conditional_level) c ts (mark m.Question p ∷ vs) → ATree scope comma_level e vs us → GoodTurn all scope fs (chosen l c e us)
  chosen-good scope fs l c p ts vs i h s t = eat_from m.Colon us (λ us. opens (frame.Tree (for_tree.Otherwise l c e)) (control.Expr conditional_level) us) (ATree scope comma_level e vs) _ t
      (λ q ws g. GoodExpr scope (frame.Tree (for_tree.Otherwise l c e) ∷ fs) conditional_level ws (InOtherwise scope fs l c e p q ts vs ws i h s g) (omega arith))

  paren-good : (scope : Scope) (fs : List Frame) (l : ℕ) (p : Span) (ts : Tokens) → Inside all scope fs (NeedTree l) (mark m.LParen p ∷ ts) → l ≤ unary_level → ATree scope comma_level e ts us →
      GoodTurn all scope fs (paren p.0 e us)
  paren-good scope fs l p ts i h t = eat_from m.RParen us (λ us. on (control.Postfix (made p.0 (tree.Paren e.node) (suc e.height))) us) (ATree scope comma_level e ts) _ t
      (λ q ws g. GoodPostfix scope fs l (made p.0 (tree.Paren e.node) (suc e.height)) (mark m.LParen p ∷ ts) ws i h
      (record { spelled = InParens scope postfix_level e.node p q ts ws g.spelled; high = omega (arith, height-Paren e.node, g.high) }))

  subscript-good : (scope : Scope) (fs : List Frame) (l : ℕ) (a : Tall (At Tree)) (p : Span) (ts vs : Tokens) → Inside all scope fs (NeedTree l) ts → l ≤ unary_level →
      ATree scope postfix_level a ts (mark m.LBracket p ∷ vs) → ATree scope comma_level e vs us → GoodTurn all scope fs (subscript a e us)
  subscript-good scope fs l a p ts vs i h s t = eat_from m.RBracket us (λ us. on (control.Postfix (grows a (tree.Subscript a.node e.node) (max a.height e.height))) us) (ATree scope comma_level e vs) _ t
      (λ q ws g. grown all scope fs l a ts i h (tree.Subscript a.node e.node) (mark m.LBracket p ∷ vs) ws s.spelled (ASubscript scope postfix_level a.node e.node p q ts vs ws (omega arith) s.spelled g.spelled)
      (max a.height e.height) (omega (arith, height-Subscript a.node e.node, g.high)))

  -- behind an argument, which is one of these from now on
  argument_at-good : (scope : Scope) (fs : List Frame) (l : ℕ) (f : Tall (At Tree)) (es : List (At Tree)) (p : Span) (ts vs : Tokens) → Inside all scope fs (NeedTree l) ts → l ≤ unary_level →
      IsTree scope postfix_level f.node ts (mark m.LParen p ∷ vs) → IsArgs scope es vs us → f.height ≡ max (height f.node.node) (heights height es) → (r : Option Tokens) →
      IfSome r (λ ws. (c : Span) × IsArgs scope es vs (mark m.Comma c ∷ ws)) → GoodTurn all scope fs (argument_at f es us r)
  argument_at-good scope fs l f es p ts vs i h s t k (Some ws) g = GoodExpr scope (frame.Tree (for_tree.Call f es) ∷ fs) assignment_level ws (InMoreArgs scope fs l f es p g.0 ts vs ws i h s g.1 k) (omega arith)
  argument_at-good scope fs l f es p ts vs i h s t k None g = eat_from m.RParen us (λ us. on (control.Postfix (grows f (tree.Call f.node es) f.height)) us) (IsArgs scope es vs) _ t
      (λ q ws a. grown all scope fs l f ts i h (tree.Call f.node es) (mark m.LParen p ∷ vs) ws s (ACall scope postfix_level f.node es p q ts vs ws (omega arith) s a) f.height (omega (arith, height-Call f.node es)))

  argument-good : (scope : Scope) (fs : List Frame) (l : ℕ) (f : Tall (At Tree)) (es : List (At Tree)) (p : Span) (ts vs : Tokens) → Inside all scope fs (NeedTree l) ts → l ≤ unary_level →
      IsTree scope postfix_level f.node ts (mark m.LParen p ∷ vs) → IsArgs scope (es ++ e.node ∷ []) vs us → f.height ≡ max (height f.node.node) (heights height es) → e.height ≡ height e.node.node →
      GoodTurn all scope fs (argument f es e us)
  argument-good scope fs l f es p ts vs i h s t k j = argument_at-good scope fs l (tall f.node (max f.height e.height)) (es ++ e.node ∷ []) p ts vs i h s t
      (omega (arith, heights-behind height es e.node)) (after m.Comma us) (after_from m.Comma us (IsArgs scope (es ++ e.node ∷ []) vs) t)

pub give_tree-good : {all : Tokens} {scope : Scope} {fs : List Frame} {l : ℕ} {ts : Tokens} {f : TreeFrame} (level : ℕ) (e : Tall (At Tree)) (us : Tokens) → Inside all scope (frame.Tree f ∷ fs) (NeedTree l) ts →
    ATree scope level e ts us → l ≤ level → GoodTurn all scope fs (give_tree level e us f)
give_tree-good level e us (InOperators scope fs l ts i) t h = GoodOperators scope fs l level e ts us i t h
give_tree-good {all = all} level e us (InBinary scope fs l k o a p ts vs i g r s) t h = operation-good all level e us scope fs l k a (tree.Binary o a.node e.node) (max a.height e.height) k ts (mark o p ∷ vs) i g s.spelled
    (ABinary scope k k o a.node e.node p ts vs us (omega arith) r s.spelled (looser (suc k) h t.spelled)) (omega (arith, height-Binary o a.node e.node))
give_tree-good {all = all} level e us (InChoice scope fs l c p ts vs i g s) t h = chosen-good all level e us scope fs l c p ts vs i g s (looser_tree comma_level h t)
give_tree-good {all = all} level e us (InOtherwise scope fs l c a p q ts vs ws i g s r) t h = operation-good all level e us scope fs l conditional_level c (tree.Choose c.node a.node e.node) (max c.height (max a.height e.height))
    (suc conditional_level) ts (mark m.Question p ∷ vs) i g s.spelled
    (AChoice scope conditional_level c.node a.node e.node p q ts vs ws us (omega arith) s.spelled r.spelled (looser conditional_level h t.spelled)) (omega (arith, height-Choose c.node a.node e.node))
give_tree-good {all = all} level e us (InAssign scope fs l o a p ts vs i g r s) t h = operation-good all level e us scope fs l assignment_level a (tree.Assign o a.node e.node) (max a.height e.height) unary_level ts (mark o p ∷ vs) i g
    s.spelled (AnAssignment scope assignment_level o a.node e.node p ts vs us (omega arith) r s.spelled (looser assignment_level h t.spelled)) (omega (arith, height-Assign o a.node e.node))
give_tree-good {all = all} level e us (InComma scope fs l a p ts vs i g s) t h = operation-good all level e us scope fs l comma_level a (tree.Comma a.node e.node) (max a.height e.height) comma_level ts (mark m.Comma p ∷ vs) i g
    s.spelled (AComma scope a.node e.node p ts vs us s.spelled (looser assignment_level h t.spelled)) (omega (arith, height-Comma a.node e.node))
give_tree-good {all = all} level e us (InParen scope fs l p ts i g) t h = paren-good all level e us scope fs l p ts i g (looser_tree comma_level h t)
give_tree-good {all = all} level e us (InSubscript scope fs l a p ts vs i g s) t h = subscript-good all level e us scope fs l a p ts vs i g s (looser_tree comma_level h t)
give_tree-good {all = all} level e us (InFirstArg scope fs l f p ts vs i g s) t h = argument-good all level e us scope fs l f [] p ts vs i g s.spelled
    (FirstArg scope e.node vs us (looser assignment_level h t.spelled)) (omega arith) t.high
give_tree-good {all = all} level e us (InMoreArgs scope fs l f es p c ts vs ws i g s r k) t h = argument-good all level e us scope fs l f es p ts vs i g s
    (MoreArgs scope es e.node c vs ws us r (looser assignment_level h t.spelled)) k t.high
give_tree-good {all = all} level e us (InPrefix scope fs l k o p ts i g r) t h = unary-good all level e us scope fs l (tree.Prefix o e.node) e.height (mark o p ∷ ts) i g
    (APrefix scope unary_level k o e.node p ts us (omega arith) r (looser k h t.spelled)) (omega (arith, height-Prefix o e.node))
give_tree-good {all = all} level e us (InSizeOf scope fs l p ts i g) t h = unary-good all level e us scope fs l (tree.SizeOf e.node) e.height (word w.Sizeof p ∷ ts) i g
    (ASizeOf scope unary_level e.node p ts us (omega arith) (looser unary_level h t.spelled)) (omega (arith, height-SizeOf e.node))
give_tree-good {all = all} level e us (InExtension scope fs l p ts i g) t h = unary-good all level e us scope fs l (tree.Extension e.node) e.height (word w.Extension p ∷ ts) i g
    (AnExtension scope unary_level e.node p ts us (omega arith) (looser cast_level h t.spelled)) (omega (arith, height-Extension e.node))
give_tree-good level e us (InCast scope fs l n p q ts vs i g s) t h = GoodTree scope fs l cast_level (made p.0 (tree.Cast n.node e.node) (suc (max n.height e.height))) (mark m.LParen p ∷ ts) us i
    (record { spelled = ACast scope cast_level n.node e.node p q ts vs us (omega arith) s.spelled (looser cast_level h t.spelled); high = omega (arith, height-Cast n.node e.node) }) g
