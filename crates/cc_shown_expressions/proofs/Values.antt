-- Trees that show whole right sides, arguments and returned values are taken as what they show: a value of a type of a lower rank
-- than int from a constant of int, and a null from `0`.
use Rattle.std.proofs.Common.{◌≡◌, ℕ, ℤ, pos, Bool, true, false, Option, Some, refl, ap, sym, ◌∙◌, subst}
use Rattle.cc_terms.specs.CcDesignators.Designators.{IsValue}
use Rattle.cc_program.specs.CcNum.declared.int_type.IntType.{IntType}
use Rattle.cc_program.specs.CcNum.declared.int_type.IntType.TheVariants as int
use Rattle.cc_terms.specs.CcOperands.Operands.{Operand, integer, is_pointer, is_null_constant, null_of}
use Rattle.cc_shown_expressions.specs.Assigned.{AssignedAs}
use Rattle.cc_shown_expressions.proofs.ChoiceRules.{assign-rule, assign-null, assign-constant}
use Rattle.cc_program.specs.declared.expr.Expr.{Expr, Null, out-Expr}
use Rattle.cc_program.specs.declared.expr.Expr.TheOpen as one
use Rattle.cc_program.specs.declared.expr.Expr.TheVariants as expr_rolls
use Rattle.cc_program.specs.declared.func.Func.{Func}
use Rattle.cc_program.specs.declared.program.Program.{Program}
use Rattle.cc_program.specs.declared.types.CType.{CType}
use Rattle.cc_terms.specs.CcScopes.State.{State}
use Rattle.cc_terms.specs.CcSyntax.SameTypes.{alike}
use Rattle.cc_terms.specs.CcSyntax.Programs.{kind_in}
use Rattle.cc_terms.specs.CcSyntax.Sizes.{AreSized}
use Rattle.cc_terms.specs.CcSyntax.Values.{ValueType, NoValue, Integer, ToObject, ToFunction, scalar_shape, scalar_value, pointer_to, is_assignable}
use Rattle.cc_terms.proofs.CcSyntax.AlikeLemmas.{alike-scalar}
use Rattle.cc_terms.proofs.CcSyntax.SameLemmas.{int_same}
use Rattle.cc_tree.specs.declared.tree.Tree.{Tree}
use Rattle.cc_expression_trees.specs.Constants.{ShowsInteger, IsZero}
use Rattle.cc_expression_trees.specs.Exprs.{ShowsValue, ValueInParens, ValueOf, NarrowValue, NullValue}
use Rattle.cc_shown_expressions.proofs.Constants.{integer-found, zero-found, paren-tree}
use Rattle.cc_shown_expressions.specs.Taken.{IsTakenAs}
use Rattle.cc_shown_expressions.proofs.Casts.{assigned-pointer, constant-parts, zero-null, null-type, pointer-numbered-is, pointer-is-one, assigned-void}
use Rattle.cc_shown_expressions.proofs.Restored.{null-restored}
use Rattle.cc_shown_expressions.proofs.Shown.{expr-shown}
use Rattle.cc_shown_expressions.specs.Fits.{FitsValue}
use Rattle.cc_shown_expressions.specs.KnownNames.{KnowsNames, TypesStand}
use Rattle.cc_shown_expressions.specs.Normal.{HasOperand}
use Rattle.cc_shown_expressions.specs.OperationNumbers.{Numbers, expr_numbered}
use Rattle.cc_shown_expressions.specs.Typed.{operand_of, IsShown}
use Rattle.cc_shown_expressions.proofs.Fits.{void-to}
use Rattle.cc_shown_expressions.proofs.Levels.{expr-at}
use Rattle.cc_shown_expressions.proofs.Nulls.{null-value}
use Rattle.cc_shown_expressions.proofs.Operands.{void-null}
use Rattle.cc_shown_expressions.proofs.PlaceParts.{NullIs, ToVoid, ToOther}
use Rattle.cc_shown_expressions.specs.Numbers.{type_numbered, value_numbered}
use Rattle.cc_shown_expressions.proofs.Kept.{assignable-numbered, scalar-stays}
use Rattle.cc_shown_expressions.proofs.Standing.{pointed-stands, scalar-plain, scalar-stands}

integer-taker : (w : ValueType) (t : IntType) → is_assignable w (Integer t) ≡ true → w ≡ Integer t
integer-taker NoValue t h = absurd (cc)
integer-taker (Integer s) t h = ap (λ (i : IntType). Integer i) (int_same s t h)
integer-taker (ToObject c v u) t h = absurd (cc)
integer-taker (ToFunction s) t h = absurd (cc)

module _ (p : Program) (f : Func) (n : Numbers) (s : State) (sized : AreSized p.structures p.target) (names : KnowsNames p f n s) (stand : TypesStand p f) where
  abbrev value_of : Expr → ValueType → Operand
  value_of e v = operand_of p n e v

  abbrev value : ValueType → ValueType
  value v = value_numbered n.structure v

  -- an expression that is shown as it is
  assigned-by : (e : Expr) (x : Tree) (at : ℕ) (v w : ValueType) → IsShown p n s x at e v → HasOperand p f e v → FitsValue p w → is_assignable w v ≡ true → (b c : Bool) → is_pointer w ≡ b → is_null_constant (value_of e v) ≡ c →
      AssignedAs p.target (value w) (value_of e v) (expr_numbered n e)
  assigned-by e x at v w q k g a false c i j =
      assign-rule p.target (value w) (value_of e v) refl (λ h. let z : false ≡ true = sym (pointer-numbered-is n.structure w ∙ i) ∙ h in absurd (cc)) (assignable-numbered n.structure w v a)
  assigned-by e x at v w q k g a true false i j = assign-rule p.target (value w) (value_of e v) refl (λ h. j) (assignable-numbered n.structure w v a)
  assigned-by e x at v w q k g a true true i j =
      let points : is_pointer v ≡ true = sym (assigned-pointer w v a) ∙ i in
      subst (λ (z : Expr). AssignedAs p.target (value w) (value_of e v) z) (sym (null-value p f n e v w k (q.number points) g (sym (assigned-void w v a)) j))
      (assign-null p.target (value w) (value_of e v) (pointer-numbered-is n.structure w ∙ i) refl (scalar-stays n.structure v k.scalar) j)

  expression-taken : (e : Expr) (x : Tree) (at : ℕ) (v w : ValueType) → IsShown p n s x at e v → HasOperand p f e v → FitsValue p w → is_assignable w v ≡ true → IsTakenAs p n s x at e w
  expression-taken e x at v w q k g a = record {
    found = q.typed.found;
    is = q.typed.is;
    operand = value_of e v;
    value = q.typed.value;
    assigned = assigned-by e x at v w q k g a (is_pointer w) (is_null_constant (value_of e v)) refl refl;
  }

  narrow-taken : (k : ℤ) (t : IntType) (e : Expr) (x : Tree) (at : ℕ) (v w : ValueType) → out-Expr e ≡ one.Const k t → ShowsInteger p.target k t x → HasOperand p f e v → is_assignable w v ≡ true → IsTakenAs p n s x at e w
  narrow-taken k t e x at v w h i g a =
      let q = constant-parts p f n s sized names.structures k t e v h g in
      let r = integer-found p.target p.roles s k t x i q.value at in
      let same : w ≡ Integer t = integer-taker w t (subst (λ (u : ValueType). is_assignable w u ≡ true) q.type a) in
      record {
        found = IsValue (integer k r.type);
        is = r.is;
        operand = integer k r.type;
        value = λ j. refl;
        assigned = subst (λ (u : ValueType). AssignedAs p.target (value u) (integer k r.type) (expr_numbered n e)) (sym same)
            (subst (λ (z : Expr). AssignedAs p.target (Integer t) (integer k r.type) z) (sym (expr-at n e (one.Const k t) h)) (assign-constant p.target k r.type t q.value));
      }

  -- `0` that is taken as a pointer
  null-is-taken : (t : CType) (v : ValueType) → NullIs p t v → (w : ValueType) → scalar_value t ≡ Some w → (is_pointer w ≡ true) × (Null (type_numbered n.structure t) ≡ null_of (value w))
  null-is-taken t v (ToVoid to k c d o oc ov g) w h =
      let same : Some (pointer_to to) ≡ Some w = sym (ap scalar_shape k) ∙ h in
      let e : pointer_to to ≡ w = cc in (
        ap is_pointer (sym e) ∙ pointer-is-one to,
        sym (expr-at n (Null t) (one.Null t) (expr_rolls.outs-Null t)) ∙ void-null p n (Null t) t to to (expr_rolls.outs-Null t) c d k oc ov o o ∙ ap (λ (u : ValueType). null_of (value u)) (sym (void-to p to o oc ov) ∙ e),
      )
  null-is-taken t v (ToOther to k whole g) w h =
      let same : Some (pointer_to to) ≡ Some w = sym (ap scalar_shape k) ∙ h in
      let e : pointer_to to ≡ w = cc in
      let flags = scalar-plain p t whole in (
        ap is_pointer (sym e) ∙ pointer-is-one to,
        null-restored p n.structure t to flags.0 flags.1 k (pointed-stands p t to k (scalar-stands p (kind_in p t) whole)) ∙ ap (λ (u : ValueType). null_of (value u)) e,
      )

  null-taken : (to t : CType) (e : Expr) (x : Tree) (at : ℕ) (v w : ValueType) → out-Expr e ≡ one.Null t → alike t to ≡ true → IsZero x → HasOperand p f e v → scalar_value to ≡ Some w → IsTakenAs p n s x at e w
  null-taken to t e x at v w h l z k g =
      let i = null-type p f n s sized names.structures t e v h k in
      let r = null-is-taken t v i w (alike-scalar t to l ∙ g) in
      let zero = integer (pos 0) int.Int in
      record {
        found = IsValue zero;
        is = zero-found p.target p.roles s x z at;
        operand = zero;
        value = λ j. refl;
        assigned = subst (λ (y : Expr). AssignedAs p.target (value w) zero y) (sym (expr-at n e (one.Null t) h ∙ r.1))
            (assign-null p.target (value w) zero (pointer-numbered-is n.structure w ∙ r.0) refl refl (zero-null p f n s sized names.structures));
      }

  pub value-taken : (to : Option CType) (e : Expr) (x : Tree) → ShowsValue p f to e x → (at : ℕ) (v w : ValueType) → HasOperand p f e v → FitsValue p w → is_assignable w v ≡ true → ((t : CType) → to ≡ Some t → scalar_value t ≡ Some w) → IsTakenAs p n s x at e w
  value-taken _ _ _ (ValueInParens to e x h) at v w k g a takes =
      let q = value-taken to e x.node h x.at v w k g a takes in
      record { found = q.found; is = paren-tree p.target p.roles s x at ∙ q.is; operand = q.operand; value = q.value; assigned = q.assigned }
  value-taken _ _ _ (ValueOf to e x h) at v w k g a takes = expression-taken e x at v w (expr-shown p f n s sized names stand e x h at v k) k g a
  value-taken _ _ _ (NarrowValue to e c t x o narrow i) at v w k g a takes = narrow-taken c t e x at v w o i k a
  value-taken _ _ _ (NullValue to e t x o l z) at v w k g a takes = null-taken to t e x at v w o l z k (takes to refl)
