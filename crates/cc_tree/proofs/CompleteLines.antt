-- A declaration, a statement and the lines of a block lead the machine from where they are wanted to where they
-- are read, given that expressions, specifiers and declarators do.
use Rattle.std.proofs.Common.{◌≡◌, ◌≤◌, ℕ, suc, Bool, true, false, List, [], ◌∷◌, ◌++◌, Option, Some, None, refl, ap, sym, ◌∙◌, subst, max, arith}
use Rattle.cc_lex.specs.declared.token.Mark.TheVariants as m
use Rattle.cc_words.specs.declared.word.Word.TheVariants as w
use Rattle.cc_tree.specs.declared.at.At.{At}
use Rattle.cc_tree.specs.declared.tree.Tree.{Tree}
use Rattle.cc_tree.specs.declared.unit.Decl.{Decl}
use Rattle.cc_tree.specs.declared.unit.First.{First}
use Rattle.cc_tree.specs.declared.unit.Line as line
use Rattle.cc_tree.specs.declared.unit.Line.{Line, fold-roll-Line}
use Rattle.cc_tree.specs.declared.unit.Line.TheOpen as one_line
use Rattle.cc_tree.specs.declared.unit.Line.TheVariants as line_rolls
use Rattle.cc_tree.specs.Height.{height, heights, maybe_height, first_height, decl_height, line_height}
use Rattle.cc_tree.specs.Machine.{Here}
use Rattle.cc_tree.specs.Operators.{comma_level, conditional_level}
use Rattle.cc_tree.specs.Reading.{after, same_mark}
use Rattle.cc_tree.specs.ReadTypes.{begins_specs}
use Rattle.cc_tree.specs.Scopes.{Scope}
use Rattle.cc_tree.specs.Statements
use Rattle.cc_tree.specs.Statements.{IsDecl, IsFirst, IsMaybe, NoExpr, AnExpr, IsStatement, IsLines, awaits_else, else_awaited}
use Rattle.cc_tree.specs.Terms.{IsTree}
use Rattle.cc_tree.specs.Tokens.{Tokens, Span, mark, word, at}
use Rattle.cc_tree.specs.TurnLines.{after_else}
use Rattle.cc_tree.proofs.DeclsLead.{decl-leads}
use Rattle.cc_tree.proofs.Firsts.{tree-starts, tree-no_mark, tree-no_else, specs-no_mark, specs-no_else}
use Rattle.cc_tree.proofs.ForLeads as parts_of_for
use Rattle.cc_tree.proofs.HeightSteps
use Rattle.cc_tree.proofs.ScopeGrows.{lines-grow, first-grows, grown-left}
use Rattle.cc_tree.proofs.StatementsLead as statements
use Rattle.cc_tree.proofs.Wanted.{TreeLeads, LineLeads, LinesLead, Parts, lower, under, left, right}

-- whether a statement awaits an `else`, as its last part does

awaits-IfElse : (c : At Tree) (a b : At Line) → awaits_else (line.If c a (Some b)) ≡ awaits_else b.node
awaits-IfElse c a b = ap awaits_else (sym (line_rolls.rolls-If c a (Some b))) ∙ fold-roll-Line Bool else_awaited (one_line.If c a (Some b))

awaits-If : (c : At Tree) (a : At Line) → awaits_else (line.If c a None) ≡ true
awaits-If c a = ap awaits_else (sym (line_rolls.rolls-If c a None)) ∙ fold-roll-Line Bool else_awaited (one_line.If c a None)

awaits-While : (c : At Tree) (a : At Line) → awaits_else (line.While c a) ≡ awaits_else a.node
awaits-While c a = ap awaits_else (sym (line_rolls.rolls-While c a)) ∙ fold-roll-Line Bool else_awaited (one_line.While c a)

awaits-Switch : (c : At Tree) (a : At Line) → awaits_else (line.Switch c a) ≡ awaits_else a.node
awaits-Switch c a = ap awaits_else (sym (line_rolls.rolls-Switch c a)) ∙ fold-roll-Line Bool else_awaited (one_line.Switch c a)

awaits-Case : (c : At Tree) (a : At Line) → awaits_else (line.Case c a) ≡ awaits_else a.node
awaits-Case c a = ap awaits_else (sym (line_rolls.rolls-Case c a)) ∙ fold-roll-Line Bool else_awaited (one_line.Case c a)

awaits-Default : (a : At Line) → awaits_else (line.Default a) ≡ awaits_else a.node
awaits-Default a = ap awaits_else (sym (line_rolls.rolls-Default a)) ∙ fold-roll-Line Bool else_awaited (one_line.Default a)

awaits-For : (f : First) (t e : Option (At Tree)) (a : At Line) → awaits_else (line.For f t e a) ≡ awaits_else a.node
awaits-For f t e a = ap awaits_else (sym (line_rolls.rolls-For f t e a)) ∙ fold-roll-Line Bool else_awaited (one_line.For f t e a)

-- what a statement doesn't begin with
record Starts (scope : Scope) (ts : Tokens) : Type 0 where
  no_else : after_else ts ≡ None
  no_brace : after m.RBrace ts ≡ None
  no_specs : begins_specs scope ts ≡ false

while-no_else : (r : Span) (ts : Tokens) → after_else (word w.While r ∷ ts) ≡ None
unfolding after_else
while-no_else r ts = refl

pub brace-no_else : (q : Span) (ts : Tokens) → after_else (mark m.RBrace q ∷ ts) ≡ None
unfolding after_else
brace-no_else q ts = refl

no_else_awaited : {A : Type 0} (b : Bool) → b ≡ false → b ≡ true → A
no_else_awaited b h k = absurd (neither b h k)
  where
    neither : (b : Bool) → b ≡ false → b ≡ true → ⊥
    neither b h k = cc

-- the bounds on the heights of the parts of a `for`
four : (a b c d : ℕ) {n : ℕ} → max (max (max a b) c) d ≤ n → (a ≤ n) × (b ≤ n) × (c ≤ n) × (d ≤ n)
four a b c d h = (omega arith, omega arith, omega arith, omega arith)

for_heights : (a b c d : ℕ) → suc (max a (max b (max c d))) ≡ suc (max (max (max a b) c) d)
for_heights a b c d = omega arith

module _ (limit : ℕ) (parts : Parts limit) where
  maybe-starts : {scope : Scope} {e : Option (At Tree)} {ts us : Tokens} → IsMaybe scope e ts us → Starts scope us → Starts scope ts
  maybe-starts (NoExpr scope ts) h = h
  maybe-starts (AnExpr scope e ts us d) h =
      record { no_else = tree-no_else ts (tree-starts d); no_brace = tree-no_mark m.RBrace ts refl (tree-starts d); no_specs = parts.tree-begins scope comma_level e ts us d }

  statement-starts : {scope : Scope} {a : At Line} {ts us : Tokens} → IsStatement scope a ts us → Starts scope ts
  unfolding after_else after same_mark
  statement-starts (Statements.AnExprStatement scope e q ts us d) = maybe-starts d (record { no_else = refl; no_brace = refl; no_specs = refl })
  statement-starts (Statements.ABlock scope behind ls p q ts us d) = record { no_else = refl; no_brace = refl; no_specs = refl }
  statement-starts (Statements.AnIf scope c a s p q ts us vs d e) = record { no_else = refl; no_brace = refl; no_specs = refl }
  statement-starts (Statements.AnIfElse scope c a b s p q r ts us vs ws d e g h) = record { no_else = refl; no_brace = refl; no_specs = refl }
  statement-starts (Statements.AWhile scope c a s p q ts us vs d e) = record { no_else = refl; no_brace = refl; no_specs = refl }
  statement-starts (Statements.ADoWhile scope a c s r p q t ts us vs d e) = record { no_else = refl; no_brace = refl; no_specs = refl }
  statement-starts (Statements.AFor scope inner f t e a s p q r t0 t1 t2 t3 t4 x y z d) = record { no_else = refl; no_brace = refl; no_specs = refl }
  statement-starts (Statements.ASwitch scope c a s p q ts us vs d e) = record { no_else = refl; no_brace = refl; no_specs = refl }
  statement-starts (Statements.ACase scope c a s q ts us vs d e) = record { no_else = refl; no_brace = refl; no_specs = refl }
  statement-starts (Statements.ADefault scope a s q ts us d) = record { no_else = refl; no_brace = refl; no_specs = refl }
  statement-starts (Statements.ABreak scope s q us) = record { no_else = refl; no_brace = refl; no_specs = refl }
  statement-starts (Statements.AContinue scope s q us) = record { no_else = refl; no_brace = refl; no_specs = refl }
  statement-starts (Statements.AReturn scope e s q ts us d) = record { no_else = refl; no_brace = refl; no_specs = refl }

  decl-begins : {scope behind : Scope} {d : Decl} {ts us : Tokens} → IsDecl scope behind d ts us → begins_specs scope ts ≡ true
  decl-begins (Statements.DeclaresNothing scope ss q ts us d) = parts.specs-begin scope ss ts (mark m.Semi q ∷ us) d
  decl-begins (Statements.Declares scope behind ss is q ts us vs d e) = parts.specs-begin scope ss ts us d

  -- the parts of a `for`

  first-leads : {scope inner : Scope} {f : First} {ts us : Tokens} → IsFirst scope inner f ts us → first_height f ≤ limit → parts_of_for.FirstLeads limit scope inner f (first_height f) ts us
  first-leads (Statements.FirstDecl scope inner d ts us x) h = parts_of_for.first-decl limit scope inner d (decl_height d) ts us (decl-leads limit parts x h) (decl-begins x)
  first-leads (Statements.FirstExpr scope _ q ts us (NoExpr _ _)) h = parts_of_for.first-none limit scope q us
  first-leads (Statements.FirstExpr scope _ q ts us (AnExpr _ e _ _ x)) h = parts_of_for.first-expr limit scope e (height e.node) q ts us
      (parts.tree scope comma_level e ts (mark m.Semi q ∷ us) x (omega arith) h refl) (parts.tree-begins scope comma_level e ts (mark m.Semi q ∷ us) x) (tree-no_mark m.Semi ts refl (tree-starts x))

  test-leads : {scope : Scope} {t : Option (At Tree)} {ts us : Tokens} (q : Span) → IsMaybe scope t ts (mark m.Semi q ∷ us) → maybe_height t ≤ limit → parts_of_for.TestLeads limit scope t (maybe_height t) ts us
  test-leads {us = us} q (NoExpr scope _) h = parts_of_for.test-none limit scope q us
  test-leads {us = us} q (AnExpr scope e ts _ x) h = parts_of_for.test-expr limit scope e (height e.node) q ts us
      (parts.tree scope comma_level e ts (mark m.Semi q ∷ us) x (omega arith) h refl) (tree-no_mark m.Semi ts refl (tree-starts x))

  step-leads : {scope : Scope} {e : Option (At Tree)} {ts us : Tokens} (q : Span) → IsMaybe scope e ts (mark m.RParen q ∷ us) → maybe_height e ≤ limit → parts_of_for.StepLeads limit scope e (maybe_height e) ts us
  step-leads {us = us} q (NoExpr scope _) h = parts_of_for.step-none limit scope q us
  step-leads {us = us} q (AnExpr scope e ts _ x) h = parts_of_for.step-expr limit scope e (height e.node) q ts us
      (parts.tree scope comma_level e ts (mark m.RParen q ∷ us) x (omega arith) h refl) (tree-no_mark m.RParen ts refl (tree-starts x))

  line-height : (scope : Scope) (a : At Line) (h k : ℕ) (ts us : Tokens) → k ≡ h → LineLeads limit scope a h ts us → LineLeads limit scope a k ts us
  line-height scope a h k ts us e r = subst (λ (n : ℕ). LineLeads limit scope a n ts us) (sym e) r

  lines-height : (scope behind : Scope) (ls : List (At Line)) (h k : ℕ) (ts us : Tokens) → k ≡ h → LinesLead limit scope behind ls h ts us → LinesLead limit scope behind ls k ts us
  lines-height scope behind ls h k ts us e r = subst (λ (n : ℕ). LinesLead limit scope behind ls n ts us) (sym e) r

  -- an expression in front of a closing mark
  paren-leads : {scope : Scope} {c : At Tree} {ts : Tokens} {q : Span} {us : Tokens} → IsTree scope comma_level c ts (mark m.RParen q ∷ us) → height c.node ≤ limit → TreeLeads limit scope comma_level c (height c.node) ts (mark m.RParen q ∷ us)
  paren-leads {scope = scope} {c = c} {ts = ts} {q = q} {us = us} d h = parts.tree scope comma_level c ts (mark m.RParen q ∷ us) d (omega arith) h refl

  semi-leads : {scope : Scope} {c : At Tree} {ts : Tokens} {q : Span} {us : Tokens} → IsTree scope comma_level c ts (mark m.Semi q ∷ us) → height c.node ≤ limit → TreeLeads limit scope comma_level c (height c.node) ts (mark m.Semi q ∷ us)
  semi-leads {scope = scope} {c = c} {ts = ts} {q = q} {us = us} d h = parts.tree scope comma_level c ts (mark m.Semi q ∷ us) d (omega arith) h refl

  expr-leads : {scope : Scope} {e : Option (At Tree)} {ts : Tokens} {q : Span} {us : Tokens} → IsMaybe scope e ts (mark m.Semi q ∷ us) → suc (maybe_height e) ≤ limit → LineLeads limit scope (at ts (line.Expr e)) (suc (maybe_height e)) ts us
  expr-leads {q = q} {us = us} (NoExpr scope _) h = statements.empty_line limit scope q us h
  expr-leads {q = q} {us = us} (AnExpr scope e ts _ d) h = statements.expr_line limit scope e (height e.node) q ts us (semi-leads d (under h)) (tree-starts d) h

  return-leads : {scope : Scope} {e : Option (At Tree)} {ts : Tokens} {q : Span} {us : Tokens} (s : Span) → IsMaybe scope e ts (mark m.Semi q ∷ us) → suc (maybe_height e) ≤ limit →
      LineLeads limit scope (record { at = s.0; node = line.Return e }) (suc (maybe_height e)) (word w.Return s ∷ ts) us
  return-leads {q = q} {us = us} s (NoExpr scope _) h = statements.return_nothing limit scope s q us h
  return-leads {q = q} {us = us} s (AnExpr scope e ts _ d) h = statements.return_line limit scope e (height e.node) s q ts us (semi-leads d (under h)) (tree-no_mark m.Semi ts refl (tree-starts d)) h

  mutual
    pub statement-leads : {scope : Scope} {a : At Line} {ts us : Tokens} → IsStatement scope a ts us → line_height a.node ≤ limit → (awaits_else a.node ≡ true → after_else us ≡ None) →
        LineLeads limit scope a (line_height a.node) ts us
    statement-leads (Statements.ABlock scope behind ls p q ts us d) h g =
        let e = HeightSteps.line_height-Block ls in
        line-height scope (record { at = p.0; node = line.Block ls }) (suc (heights line_height ls)) (line_height (line.Block ls)) (mark m.LBrace p ∷ ts) us e
        (statements.block_line limit scope behind ls (heights line_height ls) p q ts us (lines-lead d (under (lower e h)) (brace-no_else q us)) (grown-left scope behind (lines-grow d)) (lower e h))
    statement-leads (Statements.AnExprStatement scope x q ts us d) h g =
        let e = HeightSteps.line_height-Expr x in
        line-height scope (at ts (line.Expr x)) (suc (maybe_height x)) (line_height (line.Expr x)) ts us e (expr-leads d (lower e h))
    statement-leads (Statements.AnIf scope c a s p q ts us vs d x) h g =
        let e = HeightSteps.line_height-If c a in
        line-height scope (record { at = s.0; node = line.If c a None }) (suc (max (height c.node) (line_height a.node))) (line_height (line.If c a None)) (word w.If s ∷ mark m.LParen p ∷ ts) vs e
        (statements.if_line limit scope c (height c.node) a (line_height a.node) s p q ts us vs (paren-leads d (left (height c.node) (line_height a.node) (under (lower e h))))
        (statement-leads x (right (height c.node) (line_height a.node) (under (lower e h))) (λ k. g (awaits-If c a))) (g (awaits-If c a)) (lower e h))
    statement-leads (Statements.AnIfElse scope c a b s p q r ts us vs ws d x n y) h g =
        let e = HeightSteps.line_height-IfElse c a b in
        line-height scope (record { at = s.0; node = line.If c a (Some b) }) (suc (max (height c.node) (max (line_height a.node) (line_height b.node)))) (line_height (line.If c a (Some b))) (word w.If s ∷ mark m.LParen p ∷ ts) ws e
        (statements.if_else_line limit scope c (height c.node) a b (line_height a.node) (line_height b.node) s p q r ts us vs ws
        (paren-leads d (left (height c.node) (max (line_height a.node) (line_height b.node)) (under (lower e h))))
        (statement-leads x (left (line_height a.node) (line_height b.node) (right (height c.node) (max (line_height a.node) (line_height b.node)) (under (lower e h)))) (λ k. no_else_awaited (awaits_else a.node) n k))
        (statement-leads y (right (line_height a.node) (line_height b.node) (right (height c.node) (max (line_height a.node) (line_height b.node)) (under (lower e h)))) (λ k. g (awaits-IfElse c a b ∙ k))) (lower e h))
    statement-leads (Statements.AWhile scope c a s p q ts us vs d x) h g =
        let e = HeightSteps.line_height-While c a in
        line-height scope (record { at = s.0; node = line.While c a }) (suc (max (height c.node) (line_height a.node))) (line_height (line.While c a)) (word w.While s ∷ mark m.LParen p ∷ ts) vs e
        (statements.while_line limit scope c (height c.node) a (line_height a.node) s p q ts us vs (paren-leads d (left (height c.node) (line_height a.node) (under (lower e h))))
        (statement-leads x (right (height c.node) (line_height a.node) (under (lower e h))) (λ k. g (awaits-While c a ∙ k))) (lower e h))
    statement-leads (Statements.ADoWhile scope a c s r p q t ts us vs x d) h g =
        let e = HeightSteps.line_height-DoWhile a c in
        line-height scope (record { at = s.0; node = line.DoWhile a c }) (suc (max (line_height a.node) (height c.node))) (line_height (line.DoWhile a c)) (word w.Do s ∷ ts) vs e
        (statements.do_line limit scope a (line_height a.node) c (height c.node) s r p q t ts us vs (statement-leads x (left (line_height a.node) (height c.node) (under (lower e h))) (λ k. while-no_else r (mark m.LParen p ∷ us)))
        (paren-leads d (right (line_height a.node) (height c.node) (under (lower e h)))) (lower e h))
    statement-leads (Statements.AFor scope inner f t j a s p q r t0 t1 t2 t3 t4 x y z d) h g =
        let e = HeightSteps.line_height-For f t j a ∙ for_heights (first_height f) (maybe_height t) (maybe_height j) (line_height a.node) in
        let l = four (first_height f) (maybe_height t) (maybe_height j) (line_height a.node) (under (lower e h)) in
        line-height scope (record { at = s.0; node = line.For f t j a }) (suc (max (max (max (first_height f) (maybe_height t)) (maybe_height j)) (line_height a.node))) (line_height (line.For f t j a)) (word w.For s ∷ mark m.LParen p ∷ t0) t4 e
        (parts_of_for.for_statement limit scope inner f t j a (first_height f) (maybe_height t) (maybe_height j) (line_height a.node) s p t0 t1 t2 t3 t4
        (first-leads x l.0) (test-leads q y l.1) (step-leads r z l.2) (statement-leads d l.3 (λ k. g (awaits-For f t j a ∙ k))) (grown-left scope inner (first-grows x)) (lower e h))
    statement-leads (Statements.ASwitch scope c a s p q ts us vs d x) h g =
        let e = HeightSteps.line_height-Switch c a in
        line-height scope (record { at = s.0; node = line.Switch c a }) (suc (max (height c.node) (line_height a.node))) (line_height (line.Switch c a)) (word w.Switch s ∷ mark m.LParen p ∷ ts) vs e
        (statements.switch_line limit scope c (height c.node) a (line_height a.node) s p q ts us vs (paren-leads d (left (height c.node) (line_height a.node) (under (lower e h))))
        (statement-leads x (right (height c.node) (line_height a.node) (under (lower e h))) (λ k. g (awaits-Switch c a ∙ k))) (lower e h))
    statement-leads (Statements.ACase scope c a s q ts us vs d x) h g =
        let e = HeightSteps.line_height-Case c a in
        line-height scope (record { at = s.0; node = line.Case c a }) (suc (max (height c.node) (line_height a.node))) (line_height (line.Case c a)) (word w.Case s ∷ ts) vs e
        (statements.case_line limit scope c (height c.node) a (line_height a.node) s q ts us vs
        (parts.tree scope conditional_level c ts (mark m.Colon q ∷ us) d (omega arith) (left (height c.node) (line_height a.node) (under (lower e h))) refl)
        (statement-leads x (right (height c.node) (line_height a.node) (under (lower e h))) (λ k. g (awaits-Case c a ∙ k))) (lower e h))
    statement-leads (Statements.ADefault scope a s q ts us d) h g =
        let e = HeightSteps.line_height-Default a in
        line-height scope (record { at = s.0; node = line.Default a }) (suc (line_height a.node)) (line_height (line.Default a)) (word w.Default s ∷ mark m.Colon q ∷ ts) us e
        (statements.default_line limit scope a (line_height a.node) s q ts us (statement-leads d (under (lower e h)) (λ k. g (awaits-Default a ∙ k))) (lower e h))
    statement-leads (Statements.ABreak scope s q us) h g =
        line-height scope (record { at = s.0; node = line.Break }) 1 (line_height line.Break) (word w.Break s ∷ mark m.Semi q ∷ us) us HeightSteps.line_height-Break (statements.break_line limit scope s q us (lower HeightSteps.line_height-Break h))
    statement-leads (Statements.AContinue scope s q us) h g =
        line-height scope (record { at = s.0; node = line.Continue }) 1 (line_height line.Continue) (word w.Continue s ∷ mark m.Semi q ∷ us) us HeightSteps.line_height-Continue
        (statements.continue_line limit scope s q us (lower HeightSteps.line_height-Continue h))
    statement-leads (Statements.AReturn scope x s q ts us d) h g =
        let e = HeightSteps.line_height-Return x in
        line-height scope (record { at = s.0; node = line.Return x }) (suc (maybe_height x)) (line_height (line.Return x)) (word w.Return s ∷ ts) us e (return-leads s d (lower e h))

    pub lines-lead : {scope behind : Scope} {ls : List (At Line)} {ts us : Tokens} → IsLines scope behind ls ts us → heights line_height ls ≤ limit → after_else us ≡ None →
        LinesLead limit scope behind ls (heights line_height ls) ts us
    lines-lead (Statements.NoLine scope ts) h g = λ body count n fs. Here _
    lines-lead (Statements.AStatement scope behind ls a ts us vs d x) h g =
        let e = HeightSteps.heights-behind line_height ls a in
        lines-height scope behind (ls ++ a ∷ []) (max (heights line_height ls) (line_height a.node)) (heights line_height (ls ++ a ∷ [])) ts vs e
        (statements.line_of_lines limit scope behind ls a (heights line_height ls) (line_height a.node) ts us vs (lines-lead d (left (heights line_height ls) (line_height a.node) (lower e h)) (statement-starts x).no_else)
        (statement-leads x (right (heights line_height ls) (line_height a.node) (lower e h)) (λ k. g)) (statement-starts x).no_brace (statement-starts x).no_specs)
    lines-lead (Statements.ADeclaration scope between behind ls a ts us vs d x) h g =
        let e = HeightSteps.heights-behind line_height ls (at us (line.Decl a)) ∙ ap (max (heights line_height ls)) (HeightSteps.line_height-Decl a) in
        lines-height scope behind (ls ++ at us (line.Decl a) ∷ []) (max (heights line_height ls) (decl_height a)) (heights line_height (ls ++ at us (line.Decl a) ∷ [])) ts vs e
        (statements.decl_of_lines limit scope between behind ls a (heights line_height ls) (decl_height a) ts us vs
        (lines-lead d (left (heights line_height ls) (decl_height a) (lower e h)) (specs-no_else between us (decl-begins x)))
        (decl-leads limit parts x (right (heights line_height ls) (decl_height a) (lower e h))) (specs-no_mark between m.RBrace us (decl-begins x)) (decl-begins x))
