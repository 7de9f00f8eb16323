-- Trees of operators that show operations of a program are typed to them.
use Rattle.std.proofs.Common.{◌≡◌, ℕ, Bool, true, false, Some, Ok, refl, ap, sym, ◌∙◌, subst}
use Rattle.std.specs.Prelude.{if◌then◌else◌}
use Rattle.cc_bodies.specs.Exprs.{unary_mark, binary_mark, movement_mark}
use Rattle.cc_expression_trees.specs.Exprs.{IsBinary, AnOperation, AMovement, ADifference, AComparison, ABoth, AnEither}
use Rattle.cc_terms.specs.CcLex.declared.token.Mark.{Mark}
use Rattle.cc_terms.specs.CcLex.declared.token.Mark.TheVariants as m
use Rattle.cc_program.specs.CcNum.declared.int_type.IntType.{IntType}
use Rattle.cc_program.specs.CcNum.declared.int_type.IntType.TheVariants as int
use Rattle.cc_program.specs.CcNum.declared.op.BinOp.{BinOp}
use Rattle.cc_program.specs.CcNum.declared.op.BinOp.TheVariants as op
use Rattle.cc_program.specs.CcNum.declared.op.UnOp.{UnOp}
use Rattle.cc_program.specs.CcNum.declared.op.UnOp.TheVariants as un
use Rattle.cc_terms.specs.CcOperands.Operands.{Operand, constancy, folded, is_pointer}
use Rattle.cc_terms.specs.CcOperands.Operators.{operator_of, unary_operator_of}
use Rattle.cc_terms.specs.CcOperands.declared.operator.Operator.TheVariants as operator
use Rattle.cc_terms.specs.CcTypedTerms.Operators.{prefix_of}
use Rattle.cc_terms.specs.CcTypedTerms.declared.prefix.Prefix.TheVariants as prefix
use Rattle.cc_program.specs.declared.expr.Expr.{Expr, Un, Bin, Move, Gap, Compare, Both, Either, out-Expr}
use Rattle.cc_program.specs.declared.expr.Expr.TheOpen as one
use Rattle.cc_program.specs.declared.expr.Place.{Place}
use Rattle.cc_program.specs.declared.func.Func.{Func}
use Rattle.cc_program.specs.declared.program.Program.{Program}
use Rattle.cc_terms.specs.CcScopes.State.{State, structures_of}
use Rattle.cc_terms.specs.CcSyntax.Folding.{Constant, unary_constant, binary_constant, both_constant, either_constant, constant_of}
use Rattle.cc_terms.specs.CcSyntax.Operators.{unary_result, binary_result, difference_type, is_comparison}
use Rattle.cc_terms.specs.CcSyntax.Values.{ValueType, Integer}
use Rattle.cc_tree.specs.declared.at.At.{At}
use Rattle.cc_tree.specs.declared.tree.Tree as tree
use Rattle.cc_tree.specs.declared.tree.Tree.{Tree}
use Rattle.cc_shown_expressions.specs.OperationNumbers.{Numbers, expr_numbered}
use Rattle.cc_shown_expressions.specs.Typed.{operand_of, IsTypedAs, IsShown}
use Rattle.cc_shown_expressions.specs.Fits.{FitsValue}
use Rattle.cc_shown_expressions.proofs.Levels.{expr-at}
use Rattle.cc_shown_expressions.proofs.Nulls.{alike-pointers, nulls-agree}
use Rattle.cc_shown_expressions.proofs.Operands.{constancy-is, folded-operand, plain-operand}
use Rattle.cc_shown_expressions.specs.Normal.{HasOperand}
use Rattle.cc_shown_expressions.proofs.Parts.{unary-parts, binary-parts, move-parts, gap-parts, compare-parts, both-parts, either-parts}
use Rattle.cc_shown_expressions.specs.Operators.{unary_for, operator_for}
use Rattle.cc_shown_expressions.proofs.Rules.{unary-rule, integer-rule, move-rule, gap-rule, compare-rule, both-rule, either-rule}
use Rattle.cc_shown_expressions.proofs.Trees.{unary-tree, binary-tree}
use Rattle.cc_shown_expressions.specs.Known.{KnowsStructures}
use Rattle.cc_shown_expressions.proofs.Complete.{points-numbered, difference-numbered}
use Rattle.cc_shown_expressions.proofs.Kept.{point-numbered, scalar-stays}

-- ---- marks

unary-prefix : (o : UnOp) → prefix_of (unary_mark o) ≡ prefix.OnValue
unary-prefix un.Neg = refl
unary-prefix un.Not = refl
unary-prefix un.Lnot = refl

unary-operator : (o : UnOp) → unary_operator_of (unary_mark o) ≡ Some (unary_for o)
unary-operator un.Neg = refl
unary-operator un.Not = refl
unary-operator un.Lnot = refl

binary-operator : (o : BinOp) → operator_of (binary_mark o) ≡ Some (operator_for o)
binary-operator op.Add = refl
binary-operator op.Sub = refl
binary-operator op.Mul = refl
binary-operator op.Div = refl
binary-operator op.Rem = refl
binary-operator op.And = refl
binary-operator op.Or = refl
binary-operator op.Xor = refl
binary-operator op.Shl = refl
binary-operator op.Shr = refl
binary-operator op.Lt = refl
binary-operator op.Le = refl
binary-operator op.Gt = refl
binary-operator op.Ge = refl
binary-operator op.Eq = refl
binary-operator op.Ne = refl

comparison-operator : (o : BinOp) → is_comparison o ≡ true → operator_of (binary_mark o) ≡ Some (operator.Comparison o)
comparison-operator op.Lt h = refl
comparison-operator op.Le h = refl
comparison-operator op.Gt h = refl
comparison-operator op.Ge h = refl
comparison-operator op.Eq h = refl
comparison-operator op.Ne h = refl
comparison-operator op.Add h = absurd (cc)
comparison-operator op.Sub h = absurd (cc)
comparison-operator op.Mul h = absurd (cc)
comparison-operator op.Div h = absurd (cc)
comparison-operator op.Rem h = absurd (cc)
comparison-operator op.And h = absurd (cc)
comparison-operator op.Or h = absurd (cc)
comparison-operator op.Xor h = absurd (cc)
comparison-operator op.Shl h = absurd (cc)
comparison-operator op.Shr h = absurd (cc)

move-operator : (back : Bool) → operator_of (movement_mark back) ≡ Some (if back then operator.Difference else operator.Sum)
move-operator true = refl
move-operator false = refl

module _ (p : Program) (f : Func) (n : Numbers) (s : State) (known : KnowsStructures p n.structure s) where
  abbrev pub value_of : Expr → ValueType → Operand
  value_of e v = operand_of p n e v

  pub integer-shown : (x : Tree) (at : ℕ) (e : Expr) (v : ValueType) (t : IntType) → v ≡ Integer t → IsTypedAs p n s x at e v → IsShown p n s x at e v
  integer-shown x at e v t h q = record { typed = q; fits = subst (FitsValue p) (sym h) tt; number = λ k. let g : false ≡ true = sym (ap is_pointer h) ∙ k in absurd (cc) }

  pub unary-shown : (o : UnOp) (t : IntType) (a e : Expr) (v : ValueType) (x : At Tree) (at : ℕ) → out-Expr e ≡ one.Un o t a → HasOperand p f e v → ((u : ValueType) → HasOperand p f a u → IsShown p n s x.node x.at a u) → IsShown p n s (tree.Prefix (unary_mark o) x) at e v
  unary-shown o t a e v x at h k part =
      let q = unary-parts p f o t a e v h k in
      integer-shown (tree.Prefix (unary_mark o) x) at e v (unary_result o t) q.type
      (unary-tree p n s (unary_mark o) (unary_for o) x at a e (Integer t) v (unary-prefix o) (unary-operator o) (part (Integer t) q.part).typed
      (unary-rule p.target o t (value_of a (Integer t)) q.promoted refl
      ∙ ap (λ (c : Constant). Ok (folded (unary_result o t) (unary_constant p.target o t c) (Un o t (expr_numbered n a)))) (constancy-is p n a (Integer t) q.part.folded)
      ∙ ap (λ (z : Operand). Ok z) (folded-operand p n e (Un o t (expr_numbered n a)) (unary_result o t) (unary_constant p.target o t (constant_of p.target a)) q.constant q.valueless (expr-at n e (one.Un o t a) h))
      ∙ ap (λ (u : ValueType). Ok (value_of e u)) (sym q.type)))

  abbrev Part : At Tree → Expr → Type 0
  Part x a = (u : ValueType) → HasOperand p f a u → IsShown p n s x.node x.at a u

  pub operation-shown : (o : BinOp) (t : IntType) (a b e : Expr) (v : ValueType) (x y : At Tree) (at : ℕ) → out-Expr e ≡ one.Bin o t a b → HasOperand p f e v → Part x a → Part y b → IsShown p n s (tree.Binary (binary_mark o) x y) at e v
  operation-shown o t a b e v x y at h k left right =
      let q = binary-parts p f o t a b e v h k in
      let i = Integer t in
      let j = Integer q.second in
      integer-shown (tree.Binary (binary_mark o) x y) at e v (binary_result o t) q.type
      (binary-tree p n s (binary_mark o) (operator_for o) x y at a b e i j v (binary-operator o) (left i q.left).typed (right j q.right).typed
      (integer-rule p.target (structures_of s) o t q.second (value_of a i) (value_of b j) q.promoted q.fits refl refl
      ∙ ap (λ (c : Constant). Ok (folded (binary_result o t) (binary_constant p.target o t c (constancy (value_of b j))) (Bin o t (expr_numbered n a) (expr_numbered n b)))) (constancy-is p n a i q.left.folded)
      ∙ ap (λ (c : Constant). Ok (folded (binary_result o t) (binary_constant p.target o t (constant_of p.target a) c) (Bin o t (expr_numbered n a) (expr_numbered n b)))) (constancy-is p n b j q.right.folded)
      ∙ ap (λ (z : Operand). Ok z) (folded-operand p n e (Bin o t (expr_numbered n a) (expr_numbered n b)) (binary_result o t) (binary_constant p.target o t (constant_of p.target a) (constant_of p.target b)) q.constant q.valueless (expr-at n e (one.Bin o t a b) h))
      ∙ ap (λ (u : ValueType). Ok (value_of e u)) (sym q.type)))

  pub movement-shown : (back : Bool) (a b e : Expr) (v : ValueType) (x y : At Tree) (at : ℕ) → out-Expr e ≡ one.Move a b back → HasOperand p f e v → Part x a → Part y b → IsShown p n s (tree.Binary (movement_mark back) x y) at e v
  movement-shown back a b e v x y at h k left right =
      let q = move-parts p f a b e back v h k in
      let l = left v q.parts.left in
      let j = Integer q.second in
      record {
        typed = binary-tree p n s (movement_mark back) (if back then operator.Difference else operator.Sum) x y at a b e v j v (move-operator back) l.typed (right j q.parts.right).typed
            (move-rule p.target (structures_of s) back (if back then operator.Difference else operator.Sum) (value_of a v) (value_of b j) q.second refl (points-numbered p n.structure s known v q.points) refl
            ∙ ap (λ (z : Operand). Ok z) (plain-operand p n e (Move (expr_numbered n a) (expr_numbered n b) back) v q.constant (expr-at n e (one.Move a b back) h)));
        fits = l.fits;
        number = λ i. q.constant;
      }

  pub difference-shown : (a b e : Expr) (v : ValueType) (x y : At Tree) (at : ℕ) → out-Expr e ≡ one.Gap a b → HasOperand p f e v → Part x a → Part y b → IsShown p n s (tree.Binary m.Minus x y) at e v
  difference-shown a b e v x y at h k left right =
      let q = gap-parts p f a b e v h k in
      integer-shown (tree.Binary m.Minus x y) at e v (difference_type p.target) q.type
      (binary-tree p n s m.Minus operator.Difference x y at a b e q.first q.second v refl (left q.first q.parts.left).typed (right q.second q.parts.right).typed
      (gap-rule p.target (structures_of s) (value_of a q.first) (value_of b q.second) (point-numbered n.structure q.first q.second q.alike) (difference-numbered p n.structure s known q.first q.differs)
      ∙ ap (λ (z : Operand). Ok z) (plain-operand p n e (Gap (expr_numbered n a) (expr_numbered n b)) (Integer (difference_type p.target)) q.constant (expr-at n e (one.Gap a b) h))
      ∙ ap (λ (u : ValueType). Ok (value_of e u)) (sym q.type)))

  pub comparison-shown : (o : BinOp) (a b e : Expr) (v : ValueType) (x y : At Tree) (at : ℕ) → out-Expr e ≡ one.Compare o a b → HasOperand p f e v → Part x a → Part y b → IsShown p n s (tree.Binary (binary_mark o) x y) at e v
  comparison-shown o a b e v x y at h k left right =
      let q = compare-parts p f o a b e v h k in
      let l = left q.first q.parts.left in
      let r = right q.second q.parts.right in
      let z = alike-pointers q.first q.second q.alike in
      integer-shown (tree.Binary (binary_mark o) x y) at e v int.Int q.type
      (binary-tree p n s (binary_mark o) (operator.Comparison o) x y at a b e q.first q.second v (comparison-operator o q.compares) l.typed r.typed
      (compare-rule p.target (structures_of s) o (value_of a q.first) (value_of b q.second) (point-numbered n.structure q.first q.second q.alike)
      (nulls-agree p f n a b q.first q.second q.parts.left q.parts.right (l.number z.0) (r.number z.1) l.fits r.fits q.alike)
      ∙ ap (λ (z : Operand). Ok z) (plain-operand p n e (Compare o (expr_numbered n a) (expr_numbered n b)) (Integer int.Int) q.constant (expr-at n e (one.Compare o a b) h))
      ∙ ap (λ (u : ValueType). Ok (value_of e u)) (sym q.type)))

  pub both-shown : (a b e : Expr) (v : ValueType) (x y : At Tree) (at : ℕ) → out-Expr e ≡ one.Both a b → HasOperand p f e v → Part x a → Part y b → IsShown p n s (tree.Binary m.AndAnd x y) at e v
  both-shown a b e v x y at h k left right =
      let q = both-parts p f a b e v h k in
      integer-shown (tree.Binary m.AndAnd x y) at e v int.Int q.type
      (binary-tree p n s m.AndAnd operator.Both x y at a b e q.first q.second v refl (left q.first q.parts.left).typed (right q.second q.parts.right).typed
      (both-rule p.target (structures_of s) (value_of a q.first) (value_of b q.second) (scalar-stays n.structure q.first q.parts.left.scalar) (scalar-stays n.structure q.second q.parts.right.scalar)
      ∙ ap (λ (c : Constant). Ok (folded int.Int (both_constant c (constancy (value_of b q.second))) (Both (expr_numbered n a) (expr_numbered n b)))) (constancy-is p n a q.first q.parts.left.folded)
      ∙ ap (λ (c : Constant). Ok (folded int.Int (both_constant (constant_of p.target a) c) (Both (expr_numbered n a) (expr_numbered n b)))) (constancy-is p n b q.second q.parts.right.folded)
      ∙ ap (λ (z : Operand). Ok z) (folded-operand p n e (Both (expr_numbered n a) (expr_numbered n b)) int.Int (both_constant (constant_of p.target a) (constant_of p.target b)) q.constant q.valueless (expr-at n e (one.Both a b) h))
      ∙ ap (λ (u : ValueType). Ok (value_of e u)) (sym q.type)))

  pub either-shown : (a b e : Expr) (v : ValueType) (x y : At Tree) (at : ℕ) → out-Expr e ≡ one.Either a b → HasOperand p f e v → Part x a → Part y b → IsShown p n s (tree.Binary m.OrOr x y) at e v
  either-shown a b e v x y at h k left right =
      let q = either-parts p f a b e v h k in
      integer-shown (tree.Binary m.OrOr x y) at e v int.Int q.type
      (binary-tree p n s m.OrOr operator.Either x y at a b e q.first q.second v refl (left q.first q.parts.left).typed (right q.second q.parts.right).typed
      (either-rule p.target (structures_of s) (value_of a q.first) (value_of b q.second) (scalar-stays n.structure q.first q.parts.left.scalar) (scalar-stays n.structure q.second q.parts.right.scalar)
      ∙ ap (λ (c : Constant). Ok (folded int.Int (either_constant c (constancy (value_of b q.second))) (Either (expr_numbered n a) (expr_numbered n b)))) (constancy-is p n a q.first q.parts.left.folded)
      ∙ ap (λ (c : Constant). Ok (folded int.Int (either_constant (constant_of p.target a) c) (Either (expr_numbered n a) (expr_numbered n b)))) (constancy-is p n b q.second q.parts.right.folded)
      ∙ ap (λ (z : Operand). Ok z) (folded-operand p n e (Either (expr_numbered n a) (expr_numbered n b)) int.Int (either_constant (constant_of p.target a) (constant_of p.target b)) q.constant q.valueless (expr-at n e (one.Either a b) h))
      ∙ ap (λ (u : ValueType). Ok (value_of e u)) (sym q.type)))

  pub binary-shown : (level : one.Expr-F Expr Place) (o : Mark) (a b : Expr) → IsBinary level o a b → (e : Expr) (v : ValueType) (x y : At Tree) (at : ℕ) → out-Expr e ≡ level → HasOperand p f e v → Part x a → Part y b → IsShown p n s (tree.Binary o x y) at e v
  binary-shown _ _ _ _ (AnOperation o t a b) e v x y at h k left right = operation-shown o t a b e v x y at h k left right
  binary-shown _ _ _ _ (AMovement a b back) e v x y at h k left right = movement-shown back a b e v x y at h k left right
  binary-shown _ _ _ _ (ADifference a b) e v x y at h k left right = difference-shown a b e v x y at h k left right
  binary-shown _ _ _ _ (AComparison o a b) e v x y at h k left right = comparison-shown o a b e v x y at h k left right
  binary-shown _ _ _ _ (ABoth a b) e v x y at h k left right = both-shown a b e v x y at h k left right
  binary-shown _ _ _ _ (AnEither a b) e v x y at h k left right = either-shown a b e v x y at h k left right
