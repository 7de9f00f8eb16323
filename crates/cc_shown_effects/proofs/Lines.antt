-- Lines that show statements with no other in them are typed to them: what an expression does, jumps, and returned values.
use Rattle.std.proofs.Common.{◌≡◌, ℕ, Bool, true, false, List, [], ◌∷◌, Option, Some, None, Ok, refl, ap, sym, ◌∙◌}
use Rattle.std.specs.Prelude.{Err, if◌then◌else◌}
use Rattle.cc_typed_bodies.specs.CcDesignators.Designators.{TypedExpr, IsValue}
use Rattle.cc_typed_bodies.specs.CcOperands.Operands.{Operand, operand}
use Rattle.cc_typed_bodies.specs.CcOperands.Verdicts.{Judged, must, judge_then}
use Rattle.cc_typed_bodies.specs.CcOperands.declared.rule.Rule.TheVariants as rule
use Rattle.cc_typed_bodies.specs.CcTypedTerms.Values.{valued}
use Rattle.cc_program.specs.declared.expr.Expr.{Expr}
use Rattle.cc_program.specs.declared.program.Program.{Program}
use Rattle.cc_program.specs.declared.stmt.Case.{Case}
use Rattle.cc_program.specs.declared.stmt.Stmt.{Stmt, Do, Break, Continue, Return, out-Stmt, map-Stmt, fold_out-Stmt}
use Rattle.cc_program.specs.declared.stmt.Stmt.TheOpen as is
use Rattle.cc_program.specs.declared.types.CType.{CType}
use Rattle.cc_program.specs.declared.types.Shape.{Shape}
use Rattle.cc_program.specs.declared.types.Shape.TheOpen as shape
use Rattle.cc_program.specs.declared.types.Sig.{Sig}
use Rattle.cc_typed_bodies.specs.CcSyntax.SameTypes.{is_void_shape}
use Rattle.cc_typed_bodies.specs.CcScopes.State.{State, Name}
use Rattle.cc_typed_bodies.specs.CcScopes.Verdicts.{Found, whole, and_then}
use Rattle.cc_typed_bodies.specs.CcSyntax.Values.{ValueType, is_void, scalar_shape, scalar_value}
use Rattle.cc_typed_bodies.specs.CcTerms.Terms.{tree_of}
use Rattle.cc_tree.specs.declared.at.At.{At}
use Rattle.cc_tree.specs.declared.tree.Tree.{Tree}
use Rattle.cc_tree.specs.declared.unit.Line.{Line, out-Line, map-Line}
use Rattle.cc_tree.specs.declared.unit.Line.TheOpen as one_line
use Rattle.cc_tree.specs.declared.unit.Line.TheVariants as line_rolls
use Rattle.cc_tree.specs.declared.unit.Line as line
use Rattle.cc_typed_bodies.specs.Lines.{line_of, line_step}
use Rattle.cc_typed_bodies.specs.Meanings.{LineMeaning, done}
use Rattle.cc_typed_bodies.specs.Parts.{value_here, effect_found, expression_found, return_found}
use Rattle.cc_typed_bodies.proofs.Equations.{line-out}
use Rattle.cc_typed_bodies.specs.CcTypedStatements.Conditions.{effect}
use Rattle.cc_typed_bodies.specs.CcTypedStatements.Jumps.{returned, returned_by}
use Rattle.cc_typed_bodies.specs.CcTypedStatements.declared.jumps.Jumps.{Jumps}
use Rattle.cc_shown_expressions.specs.Taken.{IsTakenAs}
use Rattle.cc_shown_effects.specs.Numbers.{stmt_step, case_step, stmt_numbered, case_numbered}
use Rattle.cc_shown_expressions.specs.OperationNumbers.{Numbers, expr_numbered}
use Rattle.cc_shown_expressions.specs.Numbers.{value_numbered}

-- what has a scalar type is not void
pub scalar-no-void : (x : shape.Shape-F Shape CType Sig) (w : ValueType) → scalar_shape x ≡ Some w → is_void_shape x ≡ false
scalar-no-void (shape.Int t) w h = refl
scalar-no-void (shape.Pointer to) w h = refl
scalar-no-void shape.Void w h = absurd (cc)
scalar-no-void (shape.Array of n) w h = absurd (cc)
scalar-no-void (shape.Struct i) w h = absurd (cc)
scalar-no-void (shape.Func s) w h = absurd (cc)

module _ (n : Numbers) where
  pub stmt-at : (t : Stmt) (y : is.Stmt-F Stmt Case) → out-Stmt t ≡ y → stmt_numbered n t ≡ stmt_step n (map-Stmt Stmt Case Stmt Case (stmt_numbered n) (case_numbered n) y)
  unfolding stmt_numbered case_numbered
  stmt-at t y h = fold_out-Stmt Stmt Case (stmt_step n) (case_step n) t ∙ ap (λ y. stmt_step n (map-Stmt Stmt Case Stmt Case (stmt_numbered n) (case_numbered n) y)) h

module _ (p : Program) (n : Numbers) (defined : List Name) (result : CType) where
  abbrev line_meaning : Line → LineMeaning
  line_meaning l = line_of p.target p.roles defined result l

  -- ---- an expression statement

  effect-found : (s u : State) (x : At Tree) (e : Expr) (v : ValueType) → tree_of p.target p.roles x.node x.at s ≡ Ok (IsValue (operand e v), u) → effect_found p.target p.roles x s ≡ Ok (e, u)
  unfolding effect_found value_here
  effect-found s u x e v h = ap (λ (r : Found TypedExpr). and_then (and_then r (valued x.at)) (λ y s. whole x.at s (effect y))) h

  expression-is : (s u : State) (x : At Tree) (e : Expr) (v : ValueType) → tree_of p.target p.roles x.node x.at s ≡ Ok (IsValue (operand e v), u) → expression_found p.target p.roles (Some x) s ≡ Ok (Do e ∷ [], u)
  unfolding expression_found
  expression-is s u x e v h = ap (λ (r : Found Expr). and_then r (λ e s. done (Do e) s)) (effect-found s u x e v h)

  line-at : (l : Line) (y : one_line.Line-F Line) → out-Line l ≡ y → (j : Jumps) (at : ℕ) (s : State) → (line_meaning l).line j at s ≡ (line_step p.target p.roles defined result (map-Line Line LineMeaning line_meaning y)).line j at s
  line-at l y h j at s = ap (λ (m : LineMeaning). m.line j at s) (line-out p.target p.roles defined result l ∙ ap (λ y. line_step p.target p.roles defined result (map-Line Line LineMeaning line_meaning y)) h)

  pub effect-line : (s u : State) (x : At Tree) (t : Stmt) (e : Expr) (v : ValueType) → out-Stmt t ≡ is.Do e → tree_of p.target p.roles x.node x.at s ≡ Ok (IsValue (operand (expr_numbered n e) v), u) → (j : Jumps) (at : ℕ) →
      (line_meaning (line.Expr (Some x))).line j at s ≡ Ok (stmt_numbered n t ∷ [], u)
  effect-line s u x t e v o h j at =
      line-at (line.Expr (Some x)) (one_line.Expr (Some x)) (line_rolls.outs-Expr (Some x)) j at s
      ∙ expression-is s u x (expr_numbered n e) v h
      ∙ ap (λ (t : Stmt). Ok (t ∷ [], u)) (sym (stmt-at n t (is.Do e) o))

  -- ---- jumps

  pub break-line : (s : State) (t : Stmt) → out-Stmt t ≡ is.Break → (j : Jumps) → j.breaks ≡ true → (at : ℕ) → (line_meaning line.Break).line j at s ≡ Ok (stmt_numbered n t ∷ [], s)
  break-line s t o j h at =
      line-at line.Break one_line.Break line_rolls.outs-Break j at s
      ∙ ap (λ (b : Bool). whole at s (must b rule.Break (Ok (Break ∷ [])))) h
      ∙ ap (λ (t : Stmt). Ok (t ∷ [], s)) (sym (stmt-at n t is.Break o))

  pub continue-line : (s : State) (t : Stmt) → out-Stmt t ≡ is.Continue → (j : Jumps) → j.continues ≡ true → (at : ℕ) → (line_meaning line.Continue).line j at s ≡ Ok (stmt_numbered n t ∷ [], s)
  continue-line s t o j h at =
      line-at line.Continue one_line.Continue line_rolls.outs-Continue j at s
      ∙ ap (λ (b : Bool). whole at s (must b rule.Continue (Ok (Continue ∷ [])))) h
      ∙ ap (λ (t : Stmt). Ok (t ∷ [], s)) (sym (stmt-at n t is.Continue o))

  -- ---- returned values

  none-returned : (s : State) (at : ℕ) → is_void result ≡ true → return_found p.target p.roles result None at s ≡ Ok (Return None ∷ [], s)
  unfolding return_found
  none-returned s at h = ap (λ (b : Bool). whole at s (must b rule.ReturnValue (Ok (Return None ∷ [])))) h

  pub return-line : (s : State) (t : Stmt) → out-Stmt t ≡ is.Return None → is_void result ≡ true → (j : Jumps) (at : ℕ) → (line_meaning (line.Return None)).line j at s ≡ Ok (stmt_numbered n t ∷ [], s)
  return-line s t o h j at =
      line-at (line.Return None) (one_line.Return None) (line_rolls.outs-Return None) j at s
      ∙ none-returned s at h
      ∙ ap (λ (t : Stmt). Ok (t ∷ [], s)) (sym (stmt-at n t (is.Return None) o))

  value-returned : (s : State) (x : At Tree) (at : ℕ) (e : Expr) (w : ValueType) → IsTakenAs p n s x.node x.at e w → is_void result ≡ false → scalar_value result ≡ Some (value_numbered n.structure w) →
      return_found p.target p.roles result (Some x) at s ≡ Ok (Return (Some (expr_numbered n e)) ∷ [], s)
  unfolding return_found value_here
  value-returned s x at e w q h k =
      ap (λ (r : Found TypedExpr). and_then (and_then (and_then r (valued x.at)) (λ y s. Ok (Some y, s))) (λ y s. whole at s (returned p.target result y))) q.is
      ∙ ap (λ (r : Found Operand). and_then (and_then r (λ y s. Ok (Some y, s))) (λ y s. whole at s (returned p.target result y))) (q.value x.at)
      ∙ ap (λ (b : Bool). whole at s (if b then Err rule.ReturnValue else returned_by p.target q.operand (scalar_value result))) h
      ∙ ap (λ (o : Option ValueType). whole at s (returned_by p.target q.operand o)) k
      ∙ ap (λ (r : Judged Operand). whole at s (judge_then r (λ y. Ok (Return (Some y.value) ∷ [])))) q.assigned.is
      ∙ ap (λ (z : Expr). Ok (Return (Some z) ∷ [], s)) q.assigned.value

  pub value-line : (s : State) (x : At Tree) (t : Stmt) (e : Expr) (w : ValueType) → out-Stmt t ≡ is.Return (Some e) → IsTakenAs p n s x.node x.at e w → is_void result ≡ false → scalar_value result ≡ Some (value_numbered n.structure w) → (j : Jumps) (at : ℕ) →
      (line_meaning (line.Return (Some x))).line j at s ≡ Ok (stmt_numbered n t ∷ [], s)
  value-line s x t e w o q h k j at =
      line-at (line.Return (Some x)) (one_line.Return (Some x)) (line_rolls.outs-Return (Some x)) j at s
      ∙ value-returned s x at e w q h k
      ∙ ap (λ (t : Stmt). Ok (t ∷ [], s)) (sym (stmt-at n t (is.Return (Some e)) o))
