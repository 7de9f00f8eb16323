-- Lines that show choices and loops are typed to them, where their conditions and what stands in them are.
use Rattle.std.proofs.Common.{◌≡◌, ℕ, Bool, true, false, List, [], ◌∷◌, ◌++◌, map, Option, Some, None, Ok, refl, ap, sym, ◌∙◌, append_assoc, append-nil}
use Rattle.std.specs.Prelude.{if◌then◌else◌}
use Rattle.cc_type.specs.CcDesignators.Designators.{TypedExpr}
use Rattle.cc_shown_expressions.proofs.Rules.{with-scalar}
use Rattle.cc_type.specs.CcOperands.Operands.{Operand}
use Rattle.cc_type.specs.CcOperands.Verdicts.{Judged, must, judge_then}
use Rattle.cc_type.specs.CcOperands.declared.rule.Rule.TheVariants as rule
use Rattle.cc_type.specs.CcTypedTerms.Values.{valued}
use Rattle.cc_program.specs.declared.expr.Expr.{Expr}
use Rattle.cc_program.specs.declared.program.Program.{Program}
use Rattle.cc_program.specs.declared.stmt.Case.{Case}
use Rattle.cc_program.specs.declared.stmt.Stmt.{Stmt, If, While, Block, out-Stmt}
use Rattle.cc_program.specs.declared.stmt.Stmt.TheOpen as is
use Rattle.cc_program.specs.declared.stmt.Stmt.TheVariants as stmt_rolls
use Rattle.cc_program.specs.declared.types.CType.{CType}
use Rattle.cc_type.specs.CcScopes.State.{State, Name, empty, entered, left}
use Rattle.cc_type.specs.CcScopes.Verdicts.{Found, whole, and_then}
use Rattle.cc_type.specs.CcSyntax.Values.{ValueType, is_scalar}
use Rattle.cc_type.specs.CcTerms.InTurn.{in_turn}
use Rattle.cc_tree.specs.declared.at.At.{At}
use Rattle.cc_tree.specs.declared.tree.Tree.{Tree}
use Rattle.cc_tree.specs.declared.unit.Line as line
use Rattle.cc_tree.specs.declared.unit.Line.{Line, out-Line, map-Line}
use Rattle.cc_tree.specs.declared.unit.Line.TheOpen as one_line
use Rattle.cc_tree.specs.declared.unit.Line.TheVariants as line_rolls
use Rattle.cc_type.specs.CcTypedBodies.Lines.{if_found, while_found, line_here, line_step, line_of}
use Rattle.cc_type.specs.CcTypedBodies.Meanings.{LineMeaning, done, scoped, line_found, lines_found, block_found, body_inside, body_found, maybe_body}
use Rattle.cc_type.specs.CcTypedBodies.Parts.{value_here}
use Rattle.cc_type.proofs.CcTypedBodies.Equations.{line-out}
use Rattle.cc_type.specs.CcTypedStatements.Conditions.{condition, inside_block, body_of}
use Rattle.cc_type.specs.CcTypedStatements.Jumps.{in_loop}
use Rattle.cc_type.specs.CcTypedStatements.Statements.{if_of, while_of}
use Rattle.cc_type.specs.CcTypedStatements.declared.jumps.Jumps.{Jumps}
use Rattle.cc_unit_trees.specs.Lines.{block}
use Rattle.cc_shown_effects.specs.Numbers.{stmt_numbered}
use Rattle.cc_shown_effects.proofs.Lines.{stmt-at}
use Rattle.cc_shown_expressions.specs.OperationNumbers.{Numbers, expr_numbered}
use Rattle.cc_shown_expressions.specs.Typed.{IsTypedAs, operand_of}
use Rattle.cc_shown_expressions.specs.Numbers.{value_numbered}
use Rattle.cc_shown_expressions.proofs.Kept.{scalar-stays}

-- what is no label and no declaration, and not empty
abbrev pub is_statement : one_line.Line-F Line → Bool
is_statement (one_line.Decl d) = false
is_statement (one_line.Expr None) = false
is_statement (one_line.Case e a) = false
is_statement (one_line.Default a) = false
is_statement _ = true

-- a scope in which nothing is left
abbrev pub in_scope : State → State
in_scope s = entered empty s

pub scoped-found : {A : Type 0} → (inner : State → Found A) (s u : State) (x : A) → inner (in_scope s) ≡ Ok (x, in_scope u) → scoped inner s ≡ Ok (x, u)
unfolding scoped
scoped-found inner s u x h = ap (λ m. and_then m (λ x s. Ok (x, left s))) h

module _ (p : Program) (n : Numbers) (defined : List Name) (result : CType) where
  abbrev pub meaning : Line → LineMeaning
  meaning l = line_of p.target p.roles defined result l

  abbrev pub meant : At Line → At LineMeaning
  meant l = line_here p.target p.roles defined result l

  abbrev layer : one_line.Line-F Line → one_line.Line-F LineMeaning
  layer y = map-Line Line LineMeaning meaning y

  pub meaning-at : (l : Line) (y : one_line.Line-F Line) → out-Line l ≡ y → meaning l ≡ line_step p.target p.roles defined result (layer y)
  meaning-at l y h = line-out p.target p.roles defined result l ∙ ap (λ y. line_step p.target p.roles defined result (layer y)) h

  pub line-at : (l : Line) (y : one_line.Line-F Line) → out-Line l ≡ y → (j : Jumps) (at : ℕ) (s : State) → (meaning l).line j at s ≡ (line_step p.target p.roles defined result (layer y)).line j at s
  line-at l y h j at s = ap (λ (m : LineMeaning). m.line j at s) (meaning-at l y h)

  -- ---- lines one behind another

  pub data AreTyped (j : Jumps) : List Stmt → List (At Line) → State → State → Type 0 where
    NoneTyped : (s : State) → AreTyped j [] [] s s
    MoreTyped : (t : Stmt) (ss : List Stmt) (l : At Line) (ls : List (At Line)) (s m u : State) → ((at : ℕ) → (meaning l.node).line j at s ≡ Ok (stmt_numbered n t ∷ [], m)) → is_statement (out-Line l.node) ≡ true → AreTyped j ss ls m u →
        AreTyped j (t ∷ ss) (l ∷ ls) s u

  turns : (j : Jumps) (ss : List Stmt) (ls : List (At Line)) (s u : State) → AreTyped j ss ls s u → (before : List Stmt) → in_turn (line_found j) (map meant ls) before s ≡ Ok (before ++ map (stmt_numbered n) ss, u)
  turns j _ _ _ _ (NoneTyped s) before = ap (λ xs. Ok (xs, s)) (sym (append-nil before))
  turns j _ _ _ _ (MoreTyped t ss l ls s m u h k rest) before =
      ap (λ (r : Found (List Stmt)). and_then (and_then r (λ xs s. Ok (before ++ xs, s))) (λ xs s. in_turn (line_found j) (map meant ls) xs s)) (h l.at)
      ∙ turns j ss ls m u rest (before ++ stmt_numbered n t ∷ [])
      ∙ ap (λ xs. Ok (xs, u)) (append_assoc before (stmt_numbered n t ∷ []) (map (stmt_numbered n) ss))

  pub lines-typed : (j : Jumps) (ss : List Stmt) (ls : List (At Line)) (s u : State) → AreTyped j ss ls s u → lines_found j (map meant ls) s ≡ Ok (map (stmt_numbered n) ss, u)
  unfolding lines_found
  lines-typed j ss ls s u h = turns j ss ls s u h []

  -- ---- the body of a statement

  block-found : (j : Jumps) (ss : List Stmt) (ls : List (At Line)) (s u : State) → AreTyped j ss ls s u → block_found j (map meant ls) s ≡ Ok (Block (map (stmt_numbered n) ss) ∷ [], u)
  unfolding block_found
  block-found j ss ls s u h = ap (λ (r : Found (List Stmt)). and_then r (λ ss s. done (Block ss) s)) (lines-typed j ss ls s u h)

  block-line : (j : Jumps) (ss : List Stmt) (ls : List (At Line)) (s u : State) → AreTyped j ss ls (in_scope s) (in_scope u) → (at : ℕ) → (meaning (line.Block ls)).line j at s ≡ Ok (Block (map (stmt_numbered n) ss) ∷ [], u)
  block-line j ss ls s u h at =
      line-at (line.Block ls) (one_line.Block ls) (line_rolls.outs-Block ls) j at s
      ∙ scoped-found (λ s. block_found j (map meant ls) s) s u (Block (map (stmt_numbered n) ss) ∷ []) (block-found j ss ls (in_scope s) (in_scope u) h)

  abbrev InBody : Jumps → List Stmt → List (At Line) → State → State → Type 0
  InBody j ss ls s u = AreTyped j ss ls (in_scope (in_scope s)) (in_scope (in_scope u))

  body-inside : (j : Jumps) (ss : List Stmt) (i : ℕ) (ls : List (At Line)) (s u : State) → AreTyped j ss ls (in_scope s) (in_scope u) → body_inside j (meant (block i ls)) s ≡ Ok (map (stmt_numbered n) ss, u)
  unfolding body_inside
  body-inside j ss i ls s u h =
      ap (λ (r : Found (List Stmt)). and_then r (λ ss s. Ok (body_of ss, s))) (block-line j ss ls s u h i)
      ∙ ap (λ y. Ok (inside_block (Block (map (stmt_numbered n) ss)) y, u)) (stmt_rolls.outs-Block (map (stmt_numbered n) ss))

  pub body-typed : (j : Jumps) (ss : List Stmt) (i : ℕ) (ls : List (At Line)) (s u : State) → InBody j ss ls s u → body_found j (meant (block i ls)) s ≡ Ok (map (stmt_numbered n) ss, u)
  body-typed j ss i ls s u h = scoped-found (λ s. body_inside j (meant (block i ls)) s) s u (map (stmt_numbered n) ss) (body-inside j ss i ls (in_scope s) (in_scope u) h)

  -- ---- conditions

  pub value-is : (s : State) (x : At Tree) (e : Expr) (v : ValueType) → IsTypedAs p n s x.node x.at e v → value_here p.target p.roles x s ≡ Ok (operand_of p n e v, s)
  unfolding value_here
  value-is s x e v q = ap (λ (r : Found TypedExpr). and_then r (valued x.at)) q.is ∙ q.value x.at

  condition-is : (e : Expr) (v : ValueType) → is_scalar v ≡ true → condition (operand_of p n e v) ≡ Ok (expr_numbered n e)
  condition-is e v h =
      let k = scalar-stays n.structure v h in
      with-scalar (operand_of p n e v) (must (is_scalar (value_numbered n.structure v)) rule.NoScalar (Ok (expr_numbered n e))) k ∙ ap (λ b. must b rule.NoScalar (Ok (expr_numbered n e))) k

  -- ---- `if` (6.8.4.1)

  if-found : (x : At Tree) (a : At LineMeaning) (b : Option (At LineMeaning)) (j : Jumps) (at : ℕ) (s m u : State) (y : Operand) (these those : List Stmt) → value_here p.target p.roles x s ≡ Ok (y, s) → body_found j a s ≡ Ok (these, m) →
      maybe_body j b m ≡ Ok (those, u) → if_found p.target p.roles x a b j at s ≡ whole at u (if_of y these those)
  unfolding if_found
  if-found x a b j at s m u y these those h k g =
      ap (λ (r : Found Operand). and_then r (λ x s. and_then (body_found j a s) (λ these s. and_then (maybe_body j b s) (λ those s. whole at s (if_of x these those))))) h
      ∙ ap (λ (r : Found (List Stmt)). and_then r (λ these s. and_then (maybe_body j b s) (λ those s. whole at s (if_of y these those)))) k
      ∙ ap (λ (r : Found (List Stmt)). and_then r (λ those s. whole at s (if_of y these those))) g

  if-made : (t : Stmt) (e : Expr) (a b : List Stmt) (v : ValueType) (at : ℕ) (u : State) → out-Stmt t ≡ is.If e a b → is_scalar v ≡ true →
      whole at u (if_of (operand_of p n e v) (map (stmt_numbered n) a) (map (stmt_numbered n) b)) ≡ Ok (stmt_numbered n t ∷ [], u)
  if-made t e a b v at u o h =
      ap (λ (r : Judged Expr). whole at u (judge_then r (λ e. Ok (If e (map (stmt_numbered n) a) (map (stmt_numbered n) b) ∷ [])))) (condition-is e v h)
      ∙ ap (λ (t : Stmt). Ok (t ∷ [], u)) (sym (stmt-at n t (is.If e a b) o))

  no-body : (j : Jumps) (s : State) → maybe_body j None s ≡ Ok ([], s)
  unfolding maybe_body
  no-body j s = refl

  some-body : (j : Jumps) (l : At LineMeaning) (s : State) → maybe_body j (Some l) s ≡ body_found j l s
  unfolding maybe_body
  some-body j l s = refl

  pub if-line : (t : Stmt) (e : Expr) (a : List Stmt) (x : At Tree) (i : ℕ) (ls : List (At Line)) (v : ValueType) (j : Jumps) (s u : State) → out-Stmt t ≡ is.If e a [] → is_scalar v ≡ true → IsTypedAs p n (in_scope s) x.node x.at e v →
      InBody j a ls (in_scope s) (in_scope u) → (at : ℕ) → (meaning (line.If x (block i ls) None)).line j at s ≡ Ok (stmt_numbered n t ∷ [], u)
  if-line t e a x i ls v j s u o h q body at =
      line-at (line.If x (block i ls) None) (one_line.If x (block i ls) None) (line_rolls.outs-If x (block i ls) None) j at s
      ∙ scoped-found (λ s. if_found p.target p.roles x (meant (block i ls)) None j at s) s u (stmt_numbered n t ∷ [])
      (if-found x (meant (block i ls)) None j at (in_scope s) (in_scope u) (in_scope u) (operand_of p n e v) (map (stmt_numbered n) a) [] (value-is (in_scope s) x e v q) (body-typed j a i ls (in_scope s) (in_scope u) body) (no-body j (in_scope u))
      ∙ if-made t e a [] v at (in_scope u) o h)

  pub else-line : (t : Stmt) (e : Expr) (a b : List Stmt) (x : At Tree) (i k : ℕ) (ls ms : List (At Line)) (v : ValueType) (j : Jumps) (s m u : State) → out-Stmt t ≡ is.If e a b → is_scalar v ≡ true → IsTypedAs p n (in_scope s) x.node x.at e v →
      InBody j a ls (in_scope s) (in_scope m) → InBody j b ms (in_scope m) (in_scope u) → (at : ℕ) → (meaning (line.If x (block i ls) (Some (block k ms)))).line j at s ≡ Ok (stmt_numbered n t ∷ [], u)
  else-line t e a b x i k ls ms v j s m u o h q body other at =
      line-at (line.If x (block i ls) (Some (block k ms))) (one_line.If x (block i ls) (Some (block k ms))) (line_rolls.outs-If x (block i ls) (Some (block k ms))) j at s
      ∙ scoped-found (λ s. if_found p.target p.roles x (meant (block i ls)) (Some (meant (block k ms))) j at s) s u (stmt_numbered n t ∷ [])
      (if-found x (meant (block i ls)) (Some (meant (block k ms))) j at (in_scope s) (in_scope m) (in_scope u) (operand_of p n e v) (map (stmt_numbered n) a) (map (stmt_numbered n) b)
      (value-is (in_scope s) x e v q) (body-typed j a i ls (in_scope s) (in_scope m) body) (some-body j (meant (block k ms)) (in_scope m) ∙ body-typed j b k ms (in_scope m) (in_scope u) other)
      ∙ if-made t e a b v at (in_scope u) o h)

  -- ---- `while` (6.8.5.1)

  while-found : (x : At Tree) (a : At LineMeaning) (j : Jumps) (at : ℕ) (s u : State) (y : Operand) (body : List Stmt) → value_here p.target p.roles x s ≡ Ok (y, s) → body_found (in_loop j) a s ≡ Ok (body, u) →
      while_found p.target p.roles x a j at s ≡ whole at u (while_of y body)
  unfolding while_found
  while-found x a j at s u y body h k =
      ap (λ (r : Found Operand). and_then r (λ x s. and_then (body_found (in_loop j) a s) (λ body s. whole at s (while_of x body)))) h
      ∙ ap (λ (r : Found (List Stmt)). and_then r (λ body s. whole at s (while_of y body))) k

  while-made : (t : Stmt) (e : Expr) (a : List Stmt) (v : ValueType) (at : ℕ) (u : State) → out-Stmt t ≡ is.While e a → is_scalar v ≡ true → whole at u (while_of (operand_of p n e v) (map (stmt_numbered n) a)) ≡ Ok (stmt_numbered n t ∷ [], u)
  while-made t e a v at u o h =
      ap (λ (r : Judged Expr). whole at u (judge_then r (λ e. Ok (While e (map (stmt_numbered n) a) ∷ [])))) (condition-is e v h)
      ∙ ap (λ (t : Stmt). Ok (t ∷ [], u)) (sym (stmt-at n t (is.While e a) o))

  pub while-line : (t : Stmt) (e : Expr) (a : List Stmt) (x : At Tree) (i : ℕ) (ls : List (At Line)) (v : ValueType) (j : Jumps) (s u : State) → out-Stmt t ≡ is.While e a → is_scalar v ≡ true → IsTypedAs p n (in_scope s) x.node x.at e v →
      InBody (in_loop j) a ls (in_scope s) (in_scope u) → (at : ℕ) → (meaning (line.While x (block i ls))).line j at s ≡ Ok (stmt_numbered n t ∷ [], u)
  while-line t e a x i ls v j s u o h q body at =
      line-at (line.While x (block i ls)) (one_line.While x (block i ls)) (line_rolls.outs-While x (block i ls)) j at s
      ∙ scoped-found (λ s. while_found p.target p.roles x (meant (block i ls)) j at s) s u (stmt_numbered n t ∷ [])
      (while-found x (meant (block i ls)) j at (in_scope s) (in_scope u) (operand_of p n e v) (map (stmt_numbered n) a) (value-is (in_scope s) x e v q) (body-typed (in_loop j) a i ls (in_scope s) (in_scope u) body)
      ∙ while-made t e a v at (in_scope u) o h)
