-- Trees that show integers are typed to constants that have their values: a number by its letters, one below 0 by what `-` and
-- a difference make of numbers.
use Rattle.std.proofs.Common.{◌≡◌, ℕ, ◌-◌, Bool, true, false, List, ℤ, pos, neg_ℤ, ◌-ℤ◌, ◌<ℤ◌, int_lt, unsigned_abs, Ok, refl, ap, sym, ◌∙◌, subst, arith}
use Rattle.std.proofs.lemmas.Int.{ints}
use Rattle.std.specs.Prelude.{if◌then◌else◌}
use Rattle.std.specs.Ordering.{int_eq}
use Rattle.cc_terms.specs.CcDesignators.Designators.{TypedExpr, IsValue}
use Rattle.cc_terms.specs.CcLex.declared.token.Mark.TheVariants as m
use Rattle.cc_terms.specs.CcLex.declared.token.Suffix.{Suffix}
use Rattle.cc_program.specs.CcNum.declared.int_type.IntType.{IntType}
use Rattle.cc_program.specs.CcNum.declared.int_type.IntType.TheVariants as int
use Rattle.cc_program.specs.CcNum.declared.op.BinOp.TheVariants as op
use Rattle.cc_program.specs.CcNum.declared.op.UnOp.TheVariants as un
use Rattle.cc_program.specs.CcNum.declared.target.Target.{Target}
use Rattle.cc_program.specs.CcNum.Integers.{least_of, IsValueOf, is_value_of}
use Rattle.cc_program.specs.CcNum.Promotions.{usual_of}
use Rattle.cc_program.proofs.CcNum.Conversions.{converted-same}
use Rattle.cc_program.proofs.CcNum.ResultLaws.{is_value_from, value_from_test, truth_value}
use Rattle.cc_shown_expressions.proofs.ChoiceRules.{constancy-of}
use Rattle.cc_shown_expressions.proofs.Rules.{unary-rule, same-conversion}
use Rattle.cc_terms.specs.CcOperands.Arithmetic.{binary_of, worked}
use Rattle.cc_terms.specs.CcOperands.Operands.{Operand, integer, constancy, cast_to, converted_to, folded, number_type}
use Rattle.cc_terms.specs.CcOperands.Operators.{operator_of}
use Rattle.cc_terms.specs.CcOperands.Unary.{unary_of}
use Rattle.cc_terms.specs.CcOperands.declared.operator.Operator.TheVariants as operator
use Rattle.cc_terms.specs.CcOperands.declared.operator.UnaryOperator.TheVariants as unary_operator
use Rattle.cc_pieces.specs.Constants.{has_unsigned_letter, long_letters_of, is_narrow}
use Rattle.cc_terms.specs.CcTypedTerms.Operators.{binary_by}
use Rattle.cc_terms.specs.CcTypedTerms.Values.{gives, valued, value_found}
use Rattle.cc_program.specs.declared.expr.Expr.{Const, Un, Bin, Conv}
use Rattle.cc_program.specs.declared.program.Roles.{Roles}
use Rattle.cc_program.specs.declared.types.Structure.{Structure}
use Rattle.cc_terms.specs.CcScopes.State.{State, structures_of}
use Rattle.cc_terms.specs.CcScopes.Verdicts.{Found, and_then}
use Rattle.cc_terms.specs.CcSyntax.Folding.{Constant, Value, unary_constant, binary_constant, converted_constant}
use Rattle.cc_terms.specs.CcSyntax.Operators.{is_promoted}
use Rattle.cc_terms.specs.CcSyntax.SameTypes.{same_int}
use Rattle.cc_terms.proofs.CcSyntax.SameLemmas.{int_same}
use Rattle.cc_terms.specs.Meanings.{TreeMeaning}
use Rattle.cc_terms.specs.Operations.{prefixed}
use Rattle.cc_terms.specs.Terms.{tree_of, here}
use Rattle.cc_terms.proofs.Arms.{tree_in, tree-out}
use Rattle.cc_tree.specs.declared.at.At.{At}
use Rattle.cc_tree.specs.declared.tree.Declr.{Declr}
use Rattle.cc_tree.specs.declared.tree.Declr.TheOpen as one
use Rattle.cc_tree.specs.declared.tree.Enumr.{Enumr}
use Rattle.cc_tree.specs.declared.tree.MemberDecl.{MemberDecl}
use Rattle.cc_tree.specs.declared.tree.Param.{Param}
use Rattle.cc_tree.specs.declared.tree.Params.{Params}
use Rattle.cc_tree.specs.declared.tree.Spec.{Spec}
use Rattle.cc_tree.specs.declared.tree.Tree as tree
use Rattle.cc_tree.specs.declared.tree.Tree.{Tree, out-Tree}
use Rattle.cc_tree.specs.declared.tree.Tree.TheVariants as rolls
use Rattle.cc_tree.specs.declared.tree.TypeName.{TypeName}
use Rattle.cc_expression_trees.specs.Types.{suffix, plain_suffix}
use Rattle.cc_expression_trees.specs.Constants.{number_of, ShowsInteger, InParens, ShowsNatural, ShowsNegative, ShowsLeast, IsZero, Zero, ZeroInParens}
use Rattle.cc_shown_expressions.proofs.Integers.{host, own-host, host-promoted, number-typed, not-below, negated-size, negated-fits, least-fits, negative-constant, difference-constant, usual-host, one-value}

module _ (target : Target) where
  -- `-a`
  negative-operand : (u : IntType) (a : ℕ) → is_promoted target u ≡ true → IsValueOf u target (pos a) → IsValueOf u target (neg_ℤ (pos a)) → unary_of target unary_operator.Minus (integer (pos a) u) ≡ Ok (integer (neg_ℤ (pos a)) u)
  negative-operand u a h k g =
      unary-rule target un.Neg u (integer (pos a) u) h refl
      ∙ ap (λ (c : Constant). Ok (folded u (unary_constant target un.Neg u c) (Un un.Neg u (Const (pos a) u)))) (constancy-of target (pos a) u)
      ∙ ap (λ (c : Constant). Ok (folded u c (Un un.Neg u (Const (pos a) u)))) (negative-constant target u (pos a) h k g)

  -- 1, converted
  one-by : (u : IntType) (b : Bool) → same_int int.Int u ≡ b → converted_to target u (integer (pos 1) int.Int) ≡ integer (pos 1) u
  one-by u true e = ap (λ (b : Bool). if b then integer (pos 1) int.Int else cast_to target u (integer (pos 1) int.Int)) e ∙ ap (λ (i : IntType). integer (pos 1) i) (int_same int.Int u e)
  one-by u false e =
      ap (λ (b : Bool). if b then integer (pos 1) int.Int else cast_to target u (integer (pos 1) int.Int)) e
      ∙ ap (λ (c : Constant). folded u (converted_constant target u c) (Conv u (Const (pos 1) int.Int))) (constancy-of target (pos 1) int.Int)
      ∙ ap (λ (n : ℤ). integer n u) (converted-same u target (pos 1) (one-value target u))

  one-converted : (u : IntType) → converted_to target u (integer (pos 1) int.Int) ≡ integer (pos 1) u
  one-converted u = one-by u (same_int int.Int u) refl

  -- `b - 1`
  difference-operand : (structures : List Structure) (u : IntType) (b : ℤ) → is_promoted target u ≡ true → usual_of u int.Int target ≡ u → IsValueOf u target b → IsValueOf u target (b -ℤ pos 1) →
      binary_of target structures operator.Difference (integer b u) (integer (pos 1) int.Int) ≡ Ok (integer (b -ℤ pos 1) u)
  difference-operand structures u b h k g i =
      ap (λ (w : IntType). Ok (worked target op.Sub w (converted_to target w (integer b u)) (converted_to target w (integer (pos 1) int.Int)))) k
      ∙ ap (λ (z : Operand). Ok (worked target op.Sub u z (converted_to target u (integer (pos 1) int.Int)))) (same-conversion target u (integer b u) refl)
      ∙ ap (λ (z : Operand). Ok (worked target op.Sub u (integer b u) z)) (one-converted u)
      ∙ ap (λ (c : Constant). Ok (folded u (binary_constant target op.Sub u c (constancy (integer (pos 1) u))) (Bin op.Sub u (Const b u) (Const (pos 1) u)))) (constancy-of target b u)
      ∙ ap (λ (c : Constant). Ok (folded u (binary_constant target op.Sub u (Value b) c) (Bin op.Sub u (Const b u) (Const (pos 1) u)))) (constancy-of target (pos 1) u)
      ∙ ap (λ (c : Constant). Ok (folded u c (Bin op.Sub u (Const b u) (Const (pos 1) u)))) (difference-constant target u b (pos 1) h g (one-value target u) i)

  module _ (roles : Roles) (s : State) where
    tree-at : (x : Tree) (y : one.Tree-F Declr Params Spec Tree Enumr MemberDecl Param TypeName) → out-Tree x ≡ y → (at : ℕ) → tree_of target roles x at s ≡ tree_in target roles y at s
    tree-at x y e at = ap (λ (m : TreeMeaning). m at s) (tree-out target roles x ∙ ap (tree_in target roles) e)

    pub paren-tree : (x : At Tree) (at : ℕ) → tree_of target roles (tree.Paren x) at s ≡ tree_of target roles x.node x.at s
    paren-tree x at = tree-at (tree.Paren x) (one.Tree::Paren x) (rolls.outs-Paren x) at

    pub number-tree : (a : ℕ) (x : Suffix) (at : ℕ) → tree_of target roles (tree.Number a x) at s ≡ Ok (IsValue (integer (pos a) (number_type target a x)), s)
    number-tree a x at = tree-at (tree.Number a x) (one.Number a x) (rolls.outs-Number a x) at

    minus-tree : (x : At Tree) (at : ℕ) (y z : Operand) → tree_of target roles x.node x.at s ≡ Ok (IsValue y, s) → unary_of target unary_operator.Minus y ≡ Ok z → tree_of target roles (tree.Prefix m.Minus x) at s ≡ Ok (IsValue z, s)
    minus-tree x at y z h k =
        tree-at (tree.Prefix m.Minus x) (one.Prefix m.Minus x) (rolls.outs-Prefix m.Minus x) at
        ∙ ap (λ (r : Found TypedExpr). and_then r (prefixed target m.Minus at x.at)) h
        ∙ ap (gives at s) k

    difference-tree : (x y : At Tree) (at : ℕ) (a b z : Operand) → tree_of target roles x.node x.at s ≡ Ok (IsValue a, s) → tree_of target roles y.node y.at s ≡ Ok (IsValue b, s) →
        binary_of target (structures_of s) operator.Difference a b ≡ Ok z → tree_of target roles (tree.Binary m.Minus x y) at s ≡ Ok (IsValue z, s)
    difference-tree x y at a b z h k g =
        tree-at (tree.Binary m.Minus x y) (one.Binary m.Minus x y) (rolls.outs-Binary m.Minus x y) at
        ∙ ap (λ (r : Found TypedExpr). and_then (and_then r (valued x.at)) (λ x s. and_then (value_found (here target roles y) s) (λ y s. gives at s (binary_by target (structures_of s) (operator_of m.Minus) x y)))) h
        ∙ ap (λ (r : Found TypedExpr). and_then (and_then r (valued y.at)) (λ y s. gives at s (binary_by target (structures_of s) (operator_of m.Minus) a y))) k
        ∙ ap (gives at s) g

    -- a constant with this value, of its type where that has constants
    pub record IsNumber (x : Tree) (at : ℕ) (n : ℤ) (t : IntType) : Type 0 where
      pub type : IntType
      pub is : tree_of target roles x at s ≡ Ok (IsValue (integer n type), s)
      pub own : is_narrow t ≡ false → type ≡ t

    -- a number of the type in which values are written
    hosted : (t : IntType) (a at : ℕ) → IsValueOf (host t) target (pos a) → tree_of target roles (number_of t a) at s ≡ Ok (IsValue (integer (pos a) (host t)), s)
    hosted t a at h =
        number-tree a (suffix a (has_unsigned_letter t) (long_letters_of t)) at
        ∙ ap (λ (u : IntType). Ok (IsValue (integer (pos a) u), s)) (number-typed target a t (is_value_from (host t) target (pos a) h))

    natural : (n : ℤ) (t : IntType) → int_lt n (pos 0) ≡ false → is_value_of t target n ≡ true → (at : ℕ) → IsNumber (number_of t (unsigned_abs n)) at n t
    natural n t h v at =
        let a = unsigned_abs n in
        let u = number_type target a (suffix a (has_unsigned_letter t) (long_letters_of t)) in
        let whole = subst (λ (k : ℤ). is_value_of t target k ≡ true) (not-below n h) v in
        record {
          type = u;
          is = number-tree a (suffix a (has_unsigned_letter t) (long_letters_of t)) at ∙ ap (λ (k : ℤ). Ok (IsValue (integer k u), s)) (sym (not-below n h));
          own = λ e. number-typed target a t (subst (λ (w : IntType). is_value_of w target (pos a) ≡ true) (sym (own-host t e)) whole) ∙ own-host t e;
        }

    negative : (n : ℤ) (t : IntType) (i : ℕ) → n <ℤ pos 0 → int_eq n (least_of t target) ≡ false → is_value_of t target n ≡ true → (at : ℕ) →
        IsNumber (tree.Prefix m.Minus (record { at = i; node = number_of t (unsigned_abs n) })) at n t
    negative n t i h e v at =
        let a = unsigned_abs n in
        let q = negated-fits target t n (value_from_test t target n v) h e in
        record {
          type = host t;
          is = minus-tree (record { at = i; node = number_of t a }) at (integer (pos a) (host t)) (integer (neg_ℤ (pos a)) (host t)) (hosted t a i q.number) (negative-operand (host t) a (host-promoted target t) q.number q.opposite)
              ∙ ap (λ (k : ℤ). Ok (IsValue (integer k (host t)), s)) (sym (negated-size n h));
          own = own-host t;
        }

    one-tree : (at : ℕ) → tree_of target roles (tree.Number 1 (plain_suffix 1)) at s ≡ Ok (IsValue (integer (pos 1) int.Int), s)
    one-tree at = hosted int.Int 1 at (one-value target int.Int)

    least : (n : ℤ) (t : IntType) (i j k : ℕ) → n <ℤ pos 0 → int_eq n (least_of t target) ≡ true → is_value_of t target n ≡ true → (at : ℕ) →
        IsNumber (tree.Binary m.Minus (record { at = i; node = tree.Prefix m.Minus (record { at = j; node = number_of t (unsigned_abs n - 1) }) }) (record { at = k; node = tree.Number 1 (plain_suffix 1) })) at n t
    least n t i j k h e v at =
        let a = unsigned_abs n - 1 in
        let q = least-fits target t n (value_from_test t target n v) h e in
        let b = neg_ℤ (pos a) in
        let first : tree_of target roles (tree.Prefix m.Minus (record { at = j; node = number_of t a })) i s ≡ Ok (IsValue (integer b (host t)), s) =
        minus-tree (record { at = j; node = number_of t a }) i (integer (pos a) (host t)) (integer b (host t)) (hosted t a j q.0.number) (negative-operand (host t) a (host-promoted target t) q.0.number q.0.opposite) in
        record {
          type = host t;
          is = difference-tree (record { at = i; node = tree.Prefix m.Minus (record { at = j; node = number_of t a }) }) (record { at = k; node = tree.Number 1 (plain_suffix 1) }) at (integer b (host t)) (integer (pos 1) int.Int) (integer (b -ℤ pos 1) (host t)) first (one-tree k)
              (difference-operand (structures_of s) (host t) b (host-promoted target t) (usual-host target t q.0.signed) q.0.opposite (subst (IsValueOf (host t) target) q.1 q.0.value))
              ∙ ap (λ (z : ℤ). Ok (IsValue (integer z (host t)), s)) (sym q.1);
          own = own-host t;
        }

    below : (n : ℤ) → int_lt n (pos 0) ≡ true → n <ℤ pos 0
    below n h = grind (arith, ints)

    pub integer-found : (n : ℤ) (t : IntType) (x : Tree) → ShowsInteger target n t x → is_value_of t target n ≡ true → (at : ℕ) → IsNumber x at n t
    integer-found _ _ _ (InParens n t x h) v at = let q = integer-found n t x.node h v x.at in record { type = q.type; is = paren-tree x at ∙ q.is; own = q.own }
    integer-found _ _ _ (ShowsNatural n t h) v at = natural n t h v at
    integer-found _ _ _ (ShowsNegative n t i h e) v at = negative n t i (below n h) e v at
    integer-found _ _ _ (ShowsLeast n t i j k h e) v at = least n t i j k (below n h) e v at

    -- `0`
    pub zero-found : (x : Tree) → IsZero x → (at : ℕ) → tree_of target roles x at s ≡ Ok (IsValue (integer (pos 0) int.Int), s)
    zero-found _ Zero at = hosted int.Int 0 at (truth_value false int.Int target)
    zero-found _ (ZeroInParens x h) at = paren-tree x at ∙ zero-found x.node h x.at
