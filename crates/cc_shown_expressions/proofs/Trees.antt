-- What trees mean whose parts are typed to expressions and places: the meaning by its layer, then part for part. Each leaves
-- what is known as it is.
use Rattle.std.proofs.Common.{◌≡◌, ℕ, Bool, true, Option, Some, None, Ok, refl, ap, ◌∙◌}
use Rattle.std.specs.Prelude.{is_some, if◌then◌else◌}
use Rattle.cc_terms.specs.CcDesignators.Casts.{cast_of}
use Rattle.cc_terms.specs.CcDesignators.Designators.{TypedExpr, IsPlace, IsValue, value_at}
use Rattle.cc_terms.specs.CcDesignators.Postfix.{element, dot, address, indirection}
use Rattle.cc_terms.specs.CcLex.declared.token.Mark.{Mark}
use Rattle.cc_terms.specs.CcLex.declared.token.Mark.TheVariants as m
use Rattle.cc_terms.specs.CcOperands.Arithmetic.{binary_of}
use Rattle.cc_terms.specs.CcOperands.Choices.{choose_of}
use Rattle.cc_terms.specs.CcOperands.Operands.{Operand}
use Rattle.cc_terms.specs.CcOperands.Operators.{operator_of, unary_operator_of}
use Rattle.cc_terms.specs.CcOperands.Unary.{unary_of}
use Rattle.cc_terms.specs.CcOperands.declared.operator.Operator.{Operator}
use Rattle.cc_terms.specs.CcOperands.declared.operator.UnaryOperator.{UnaryOperator}
use Rattle.cc_terms.specs.CcTypedTerms.Devices.{starred_by, cast_constant}
use Rattle.cc_terms.specs.CcTypedTerms.Operators.{prefix_of, binary_by, unary_by}
use Rattle.cc_terms.specs.CcTypedTerms.Primary.{named}
use Rattle.cc_terms.specs.CcTypedTerms.Values.{gives, valued, value_found, designating}
use Rattle.cc_terms.specs.CcTypedTerms.declared.prefix.Prefix.{Prefix}
use Rattle.cc_terms.specs.CcTypedTerms.declared.prefix.Prefix.TheVariants as prefix
use Rattle.cc_program.specs.declared.expr.Expr.{Expr}
use Rattle.cc_program.specs.declared.expr.Place.{Place}
use Rattle.cc_program.specs.declared.program.Program.{Program}
use Rattle.cc_program.specs.declared.types.CType.{CType}
use Rattle.cc_terms.specs.CcScopes.State.{State, structures_of}
use Rattle.cc_terms.specs.CcScopes.Verdicts.{Found, whole, and_then}
use Rattle.cc_terms.specs.CcSyntax.Values.{ValueType, PlaceType, element_of}
use Rattle.cc_terms.specs.Meanings.{TreeMeaning}
use Rattle.cc_terms.specs.Operations.{as_value, subscript_base, subscript_judged, prefixed_by, prefixed}
use Rattle.cc_terms.specs.Terms.{tree_of, type_name_of, here}
use Rattle.cc_terms.proofs.Arms.{tree_in, tree-out}
use Rattle.cc_tree.specs.declared.at.At.{At}
use Rattle.cc_tree.specs.declared.tree.Declr.{Declr}
use Rattle.cc_tree.specs.declared.tree.Declr.TheOpen as one
use Rattle.cc_tree.specs.declared.tree.Enumr.{Enumr}
use Rattle.cc_tree.specs.declared.tree.MemberDecl.{MemberDecl}
use Rattle.cc_tree.specs.declared.tree.Param.{Param}
use Rattle.cc_tree.specs.declared.tree.Params.{Params}
use Rattle.cc_tree.specs.declared.tree.Spec.{Spec}
use Rattle.cc_tree.specs.declared.tree.Tree as tree
use Rattle.cc_tree.specs.declared.tree.Tree.{Tree, out-Tree}
use Rattle.cc_tree.specs.declared.tree.Tree.TheVariants as rolls
use Rattle.cc_tree.specs.declared.tree.TypeName.{TypeName}
use Rattle.cc_tree.specs.Tokens.{Name}
use Rattle.cc_shown_expressions.specs.OperationNumbers.{Numbers, place_numbered}
use Rattle.cc_shown_expressions.specs.Typed.{operand_of, IsTypedAs, IsPlacedAs}
use Rattle.cc_shown_expressions.specs.Numbers.{place_type_numbered}

module _ (p : Program) (n : Numbers) (s : State) where
  abbrev Typed : Tree → ℕ → Expr → ValueType → Type 0
  Typed x at e v = IsTypedAs p n s x at e v

  abbrev value_of : Expr → ValueType → Operand
  value_of e v = operand_of p n e v

  pub tree-at : (x : Tree) (y : one.Tree-F Declr Params Spec Tree Enumr MemberDecl Param TypeName) → out-Tree x ≡ y → (at : ℕ) → tree_of p.target p.roles x at s ≡ tree_in p.target p.roles y at s
  tree-at x y e at = ap (λ (m : TreeMeaning). m at s) (tree-out p.target p.roles x ∙ ap (tree_in p.target p.roles) e)

  -- a value
  pub typed-value : (x : Tree) (at : ℕ) (e : Expr) (v : ValueType) → tree_of p.target p.roles x at s ≡ Ok (IsValue (value_of e v), s) → Typed x at e v
  typed-value x at e v h = record { found = IsValue (value_of e v); is = h; value = λ i. refl; address = λ k. refl; intrinsic = refl }

  pub inside : (x : At Tree) (at : ℕ) (e : Expr) (v : ValueType) → Typed x.node x.at e v → Typed (tree.Paren x) at e v
  inside x at e v q = record { found = q.found; is = tree-at (tree.Paren x) (one.Tree::Paren x) (rolls.outs-Paren x) at ∙ q.is; value = q.value; address = q.address; intrinsic = q.intrinsic }

  pub inside-place : (x : At Tree) (at : ℕ) (a : Place) (t : PlaceType) → IsPlacedAs p n s x.node x.at a t → IsPlacedAs p n s (tree.Paren x) at a t
  inside-place x at a t h = tree-at (tree.Paren x) (one.Tree::Paren x) (rolls.outs-Paren x) at ∙ h

  pub name-tree : (x : Name) (at : ℕ) → tree_of p.target p.roles (tree.Named x) at s ≡ whole at s (named p.roles at x s)
  name-tree x at = tree-at (tree.Named x) (one.Tree::Named x) (rolls.outs-Named x) at

  -- the value of a part
  pub found-value : (x : At Tree) (e : Expr) (v : ValueType) → Typed x.node x.at e v → value_found (here p.target p.roles x) s ≡ Ok (value_of e v, s)
  found-value x e v q = ap (λ (m : Found TypedExpr). and_then m (valued x.at)) q.is ∙ q.value x.at

  -- ---- unary operators

  prefix-tree : (o : Mark) (x : At Tree) (at : ℕ) → tree_of p.target p.roles (tree.Prefix o x) at s ≡ and_then (tree_of p.target p.roles x.node x.at s) (prefixed p.target o at x.at)
  prefix-tree o x at = tree-at (tree.Prefix o x) (one.Prefix o x) (rolls.outs-Prefix o x) at

  pub unary-tree : (o : Mark) (u : UnaryOperator) (x : At Tree) (at : ℕ) (a e : Expr) (w v : ValueType) → prefix_of o ≡ prefix.OnValue → unary_operator_of o ≡ Some u → Typed x.node x.at a w → unary_of p.target u (value_of a w) ≡ Ok (value_of e v) →
      Typed (tree.Prefix o x) at e v
  unary-tree o u x at a e w v h k q r =
      typed-value (tree.Prefix o x) at e v
      (prefix-tree o x at
      ∙ ap (λ (m : Found TypedExpr). and_then m (prefixed p.target o at x.at)) q.is
      ∙ ap (λ (b : Prefix). prefixed_by p.target o at x.at q.found s b) h
      ∙ ap (λ (m : Found Operand). and_then m (λ x s. gives at s (unary_by p.target (unary_operator_of o) x))) (q.value x.at)
      ∙ ap (λ (b : Option UnaryOperator). gives at s (unary_by p.target b (value_of a w))) k
      ∙ ap (gives at s) r)

  -- ---- binary operators, and choices

  pub binary-tree : (o : Mark) (u : Operator) (x y : At Tree) (at : ℕ) (a b e : Expr) (t w v : ValueType) → operator_of o ≡ Some u → Typed x.node x.at a t → Typed y.node y.at b w →
      binary_of p.target (structures_of s) u (value_of a t) (value_of b w) ≡ Ok (value_of e v) → Typed (tree.Binary o x y) at e v
  binary-tree o u x y at a b e t w v h q r k =
      typed-value (tree.Binary o x y) at e v
      (tree-at (tree.Binary o x y) (one.Binary o x y) (rolls.outs-Binary o x y) at
      ∙ ap (λ (m : Found Operand). and_then m (λ x s. and_then (value_found (here p.target p.roles y) s) (λ y s. gives at s (binary_by p.target (structures_of s) (operator_of o) x y)))) (found-value x a t q)
      ∙ ap (λ (m : Found Operand). and_then m (λ y s. gives at s (binary_by p.target (structures_of s) (operator_of o) (value_of a t) y))) (found-value y b w r)
      ∙ ap (λ (z : Option Operator). gives at s (binary_by p.target (structures_of s) z (value_of a t) (value_of b w))) h
      ∙ ap (gives at s) k)

  pub choice-tree : (x y z : At Tree) (at : ℕ) (c a b e : Expr) (u t w v : ValueType) → Typed x.node x.at c u → Typed y.node y.at a t → Typed z.node z.at b w → choose_of p.target (value_of c u) (value_of a t) (value_of b w) ≡ Ok (value_of e v) →
      Typed (tree.Choose x y z) at e v
  choice-tree x y z at c a b e u t w v q r i k =
      typed-value (tree.Choose x y z) at e v
      (tree-at (tree.Choose x y z) (one.Choose x y z) (rolls.outs-Choose x y z) at
      ∙ ap (λ (m : Found Operand). and_then m (λ c s. and_then (value_found (here p.target p.roles y) s) (λ x s. and_then (value_found (here p.target p.roles z) s) (λ y s. gives at s (choose_of p.target c x y))))) (found-value x c u q)
      ∙ ap (λ (m : Found Operand). and_then m (λ x s. and_then (value_found (here p.target p.roles z) s) (λ y s. gives at s (choose_of p.target (value_of c u) x y)))) (found-value y a t r)
      ∙ ap (λ (m : Found Operand). and_then m (λ y s. gives at s (choose_of p.target (value_of c u) (value_of a t) y))) (found-value z b w i)
      ∙ ap (gives at s) k)

  -- ---- casts

  pub cast-by : (type : TypeName) (x : At Tree) (at : ℕ) (to : CType) (y : Operand) (r : TypedExpr) → type_name_of p.target p.roles type true s ≡ Ok (to, s) → value_found (here p.target p.roles x) s ≡ Ok (y, s) → cast_of p.target at to y ≡ Ok r →
      tree_of p.target p.roles (tree.Cast type x) at s ≡ Ok (r, s)
  cast-by type x at to y r h k g =
      tree-at (tree.Cast type x) (one.Cast type x) (rolls.outs-Cast type x) at
      ∙ ap (λ (m : Found CType). and_then m (λ t s. and_then (value_found (here p.target p.roles x) s) (λ x s. whole at s (cast_of p.target at t x)))) h
      ∙ ap (λ (m : Found Operand). and_then m (λ x s. whole at s (cast_of p.target at to x))) k
      ∙ ap (whole at s) g

  -- ---- places

  pub read-tree : (x : Tree) (at : ℕ) (a : Place) (t : PlaceType) (e : Expr) (v : ValueType) → IsPlacedAs p n s x at a t → value_at (place_numbered n a) (place_type_numbered n.structure t) ≡ Ok (value_of e v) → Typed x at e v
  read-tree x at a t e v h k = record { found = IsPlace (place_numbered n a) (place_type_numbered n.structure t); is = h; value = λ i. ap (whole i s) k; address = λ g. refl; intrinsic = refl }

  pub address-tree : (x : At Tree) (at : ℕ) (a : Place) (t : PlaceType) (e : Expr) (v : ValueType) → IsPlacedAs p n s x.node x.at a t → address (IsPlace (place_numbered n a) (place_type_numbered n.structure t)) ≡ Ok (value_of e v) → Typed (tree.Prefix m.Amp x) at e v
  address-tree x at a t e v h k =
      typed-value (tree.Prefix m.Amp x) at e v
      (prefix-tree m.Amp x at ∙ ap (λ (r : Found TypedExpr). and_then r (prefixed p.target m.Amp at x.at)) h ∙ ap (gives at s) k)

  pub element-tree : (x y : At Tree) (at : ℕ) (b : Place) (t : PlaceType) (e : Expr) (v : ValueType) (r : TypedExpr) → IsPlacedAs p n s x.node x.at b t → is_some (element_of (place_type_numbered n.structure t)) ≡ true → Typed y.node y.at e v →
      element (place_numbered n b) (place_type_numbered n.structure t) (value_of e v) ≡ Ok r → tree_of p.target p.roles (tree.Subscript x y) at s ≡ Ok (r, s)
  element-tree x y at b t e v r h k q g =
      let base = IsPlace (place_numbered n b) (place_type_numbered n.structure t) in
      let next = λ (x : TypedExpr) (s : State). and_then (value_found (here p.target p.roles y) s) (λ y s. whole at s (subscript_judged (structures_of s) x y)) in
      tree-at (tree.Subscript x y) (one.Subscript x y) (rolls.outs-Subscript x y) at
      ∙ ap (λ (m : Found TypedExpr). and_then m (λ z s. and_then (subscript_base x.at z s) next)) h
      ∙ ap (λ (c : Bool). and_then (if c then Ok (base, s) else as_value x.at base s) next) k
      ∙ ap (λ (m : Found Operand). and_then m (λ y s. whole at s (subscript_judged (structures_of s) base y))) (found-value y e v q)
      ∙ ap (whole at s) g

  pub member-tree : (x : At Tree) (name : Name) (at : ℕ) (b : Place) (t : PlaceType) (r : TypedExpr) → IsPlacedAs p n s x.node x.at b t → dot (structures_of s) name (IsPlace (place_numbered n b) (place_type_numbered n.structure t)) ≡ Ok r →
      tree_of p.target p.roles (tree.Member x name) at s ≡ Ok (r, s)
  member-tree x name at b t r h k =
      tree-at (tree.Member x name) (one.Member x name) (rolls.outs-Member x name) at
      ∙ ap (λ (m : Found TypedExpr). and_then (and_then m designating) (λ y s. whole at s (dot (structures_of s) name y))) h
      ∙ ap (whole at s) k

  pub pointed-tree : (x : At Tree) (at : ℕ) (e : Expr) (v : ValueType) (q : Typed x.node x.at e v) → cast_constant q.found ≡ None → (r : TypedExpr) → indirection (value_of e v) ≡ Ok r → tree_of p.target p.roles (tree.Prefix m.Star x) at s ≡ Ok (r, s)
  pointed-tree x at e v q h r k =
      prefix-tree m.Star x at ∙ ap (λ (r : Found TypedExpr). and_then r (prefixed p.target m.Star at x.at)) q.is
      ∙ ap (starred_by p.target at x.at q.found s) h
      ∙ ap (λ (m : Found Operand). and_then m (λ p s. whole at s (indirection p))) (q.value x.at)
      ∙ ap (whole at s) k
