-- Trees of `c ? a : b` that show a choice of a program are typed to it.
use Rattle.std.proofs.Common.{◌≡◌, ℕ, Bool, true, false, not, ◌&&◌, ◌||◌, Ok, refl, ap, sym, ◌∙◌, subst}
use Rattle.std.specs.Prelude.{if◌then◌else◌}
use Rattle.cc_program.specs.CcNum.declared.target.Target.{Target}
use Rattle.cc_terms.specs.CcOperands.Operands.{Operand, operand, constancy, folded, is_to_void}
use Rattle.cc_shown_expressions.proofs.ChoiceRules.{Common, Integers, Pointers, choose-integers, choose-pointers}
use Rattle.cc_program.specs.declared.expr.Expr.{Expr, Choose, out-Expr}
use Rattle.cc_program.specs.declared.expr.Expr.TheOpen as one
use Rattle.cc_program.specs.declared.func.Func.{Func}
use Rattle.cc_program.specs.declared.program.Program.{Program}
use Rattle.cc_terms.specs.CcScopes.State.{State}
use Rattle.cc_terms.specs.CcSyntax.Folding.{Constant, NoConstant, Value, Traps, is_true, chosen_constant, constant_of}
use Rattle.cc_terms.specs.CcSyntax.Operators.{common_type}
use Rattle.cc_terms.specs.CcSyntax.SameTypes.{alike}
use Rattle.cc_terms.specs.CcSyntax.Values.{ValueType, NoValue, Integer, ToObject, ToFunction, is_void, point_alike}
use Rattle.cc_tree.specs.declared.at.At.{At}
use Rattle.cc_tree.specs.declared.tree.Tree as tree
use Rattle.cc_tree.specs.declared.tree.Tree.{Tree}
use Rattle.cc_shown_expressions.proofs.Casts.{pointer-numbered-is}
use Rattle.cc_shown_expressions.specs.Fits.{FitsValue}
use Rattle.cc_shown_expressions.specs.Normal.{HasOperand}
use Rattle.cc_shown_expressions.specs.OperationNumbers.{Numbers, expr_numbered}
use Rattle.cc_shown_expressions.specs.Typed.{operand_of, IsShown}
use Rattle.cc_shown_expressions.proofs.Fits.{common-fits}
use Rattle.cc_shown_expressions.proofs.Levels.{expr-at}
use Rattle.cc_shown_expressions.proofs.Operands.{constancy-is, folded-operand, plain-operand, no-null, to-void}
use Rattle.cc_shown_expressions.proofs.Operations.{integer-shown}
use Rattle.cc_shown_expressions.proofs.PlaceParts.{ChoiceParts, choice-parts}
use Rattle.cc_shown_expressions.proofs.Trees.{choice-tree}
use Rattle.cc_shown_expressions.specs.Known.{KnowsStructures}
use Rattle.cc_shown_expressions.specs.Numbers.{type_numbered, sig_numbered, value_numbered}
use Rattle.cc_shown_expressions.proofs.Kept.{alike-numbered, sig-numbered, point-numbered, scalar-stays, void-numbered}

no-numbers : (k : Constant) → chosen_constant k NoConstant NoConstant ≡ NoConstant
no-numbers NoConstant = refl
no-numbers (Value m) = by (is_true m) where
  by : (b : Bool) → (if b then NoConstant else NoConstant) ≡ NoConstant
  by true = refl
  by false = refl
no-numbers Traps = refl

-- the common type of two pointers to one type, no void
common-numbered : (number : ℕ → ℕ) (target : Target) (v w : ValueType) → point_alike v w ≡ true → is_to_void v ≡ false → common_type target (value_numbered number v) (value_numbered number w) ≡ value_numbered number (common_type target v w)
common-numbered number target NoValue w h k = absurd (cc)
common-numbered number target (Integer s) w h k = absurd (cc)
common-numbered number target (ToObject c v t) NoValue h k = absurd (cc)
common-numbered number target (ToObject c v t) (Integer s) h k = absurd (cc)
common-numbered number target (ToObject c v t) (ToObject d w u) h k =
    let first : (alike (type_numbered number t) (type_numbered number u) && not (is_void (type_numbered number t))) ≡ true =
    ap (λ (b : Bool). b && not (is_void (type_numbered number t))) (alike-numbered number t u h) ∙ ap not (void-numbered number t ∙ k) in
    let second : (alike t u && not (is_void t)) ≡ true = ap (λ (b : Bool). b && not (is_void t)) h ∙ ap not k in
    ap (λ (b : Bool). if b then ToObject (c || d) (v || w) (type_numbered number t) else NoValue) first
    ∙ ap (λ (b : Bool). value_numbered number (if b then ToObject (c || d) (v || w) t else NoValue)) (sym second)
common-numbered number target (ToObject c v t) (ToFunction s) h k = absurd (cc)
common-numbered number target (ToFunction s) NoValue h k = absurd (cc)
common-numbered number target (ToFunction s) (Integer t) h k = absurd (cc)
common-numbered number target (ToFunction s) (ToObject c v t) h k = absurd (cc)
common-numbered number target (ToFunction s) (ToFunction t) h k =
    ap (λ (b : Bool). if b then ToFunction (sig_numbered number s) else NoValue) (sig-numbered number s t h)
    ∙ ap (λ (b : Bool). value_numbered number (if b then ToFunction s else NoValue)) (sym h)

module _ (p : Program) (f : Func) (n : Numbers) (s : State) (known : KnowsStructures p n.structure s) where
  abbrev value_of : Expr → ValueType → Operand
  value_of e v = operand_of p n e v

  abbrev Part : At Tree → Expr → Type 0
  Part x a = (u : ValueType) → HasOperand p f a u → IsShown p n s x.node x.at a u

  module _ (c a b e : Expr) (v : ValueType) (x y z : At Tree) (at : ℕ) (h : out-Expr e ≡ one.Choose c a b) (q : ChoiceParts p f c a b e v) (test : IsShown p n s x.node x.at c q.test) (left : IsShown p n s y.node y.at a q.first) (right : IsShown p n s z.node z.at b q.second) where
    abbrev whole : Expr
    whole = Choose (expr_numbered n c) (expr_numbered n a) (expr_numbered n b)

    choice-by : Common p.target q.first q.second → IsShown p n s (tree.Choose x y z) at e v
    choice-by (Integers t i j promoted common) =
        let same : v ≡ Integer t = q.type ∙ common in
        integer-shown p f n s known (tree.Choose x y z) at e v t same
        (choice-tree p n s x y z at c a b e q.test q.first q.second v test.typed left.typed right.typed
        (choose-integers p.target (value_of c q.test) (value_of a q.first) (value_of b q.second) t (scalar-stays n.structure q.test q.condition.scalar) refl refl (ap (value_numbered n.structure) i) (ap (value_numbered n.structure) j) promoted
        ∙ ap (λ (k : Constant). Ok (folded t (chosen_constant k (constancy (value_of a q.first)) (constancy (value_of b q.second))) whole)) (constancy-is p n c q.test q.condition.folded)
        ∙ ap (λ (k : Constant). Ok (folded t (chosen_constant (constant_of p.target c) k (constancy (value_of b q.second))) whole)) (constancy-is p n a q.first q.left.folded)
        ∙ ap (λ (k : Constant). Ok (folded t (chosen_constant (constant_of p.target c) (constant_of p.target a) k) whole)) (constancy-is p n b q.second q.right.folded)
        ∙ ap (λ (o : Operand). Ok o) (folded-operand p n e whole t (chosen_constant (constant_of p.target c) (constant_of p.target a) (constant_of p.target b)) q.constant q.valueless (expr-at n e (one.Choose c a b) h))
        ∙ ap (λ (u : ValueType). Ok (value_of e u)) (sym same)))
    choice-by (Pointers i j alike k l) =
        let number = left.number i in
        let other = right.number j in
        let constant : constant_of p.target e ≡ NoConstant =
        q.constant ∙ ap (λ (m : Constant). chosen_constant (constant_of p.target c) m (constant_of p.target b)) number ∙ ap (λ (m : Constant). chosen_constant (constant_of p.target c) NoConstant m) other ∙ no-numbers (constant_of p.target c) in
        record {
          typed = choice-tree p n s x y z at c a b e q.test q.first q.second v test.typed left.typed right.typed
              (choose-pointers p.target (value_of c q.test) (value_of a q.first) (value_of b q.second) (scalar-stays n.structure q.test q.condition.scalar) refl refl
              (pointer-numbered-is n.structure q.first ∙ i) (pointer-numbered-is n.structure q.second ∙ j) (no-null p n a q.first q.left.folded number k) (no-null p n b q.second q.right.folded other l) (point-numbered n.structure q.first q.second alike) (to-void p n q.first ∙ k)
              ∙ ap (λ (u : ValueType). Ok (operand whole u)) (common-numbered n.structure p.target q.first q.second alike k ∙ ap (value_numbered n.structure) (sym q.type))
              ∙ ap (λ (o : Operand). Ok o) (plain-operand p n e whole v constant (expr-at n e (one.Choose c a b) h)));
          fits = subst (FitsValue p) (sym q.type) (common-fits p p.target q.first q.second i k left.fits);
          number = λ i. constant;
        }

  pub choice-shown : (c a b e : Expr) (v : ValueType) (x y z : At Tree) (at : ℕ) → out-Expr e ≡ one.Choose c a b → HasOperand p f e v → Part x c → Part y a → Part z b → IsShown p n s (tree.Choose x y z) at e v
  choice-shown c a b e v x y z at h k test left right =
      let q = choice-parts p f c a b e v h k in
      choice-by c a b e v x y z at h q (test q.test q.condition) (left q.first q.left) (right q.second q.right) q.common
