-- Arguments that show those of a call are passed as they are, each as if assigned to its parameter (C99 6.5.2.2, 7).
use Rattle.std.proofs.Common.{◌≡◌, Bool, true, false, List, [], ◌∷◌, ◌++◌, map, Option, Some, None, Ok, refl, ap, sym, ◌∙◌, subst, append_assoc, append-nil}
use Rattle.std.specs.List.{list_all}
use Rattle.cc_typed_bodies.specs.CcDesignators.Calls.{passed, passed_to}
use Rattle.cc_expression_trees.specs.Exprs.{ShowsValue}
use Rattle.cc_typed_bodies.specs.CcDesignators.Designators.{TypedExpr}
use Rattle.cc_typed_bodies.specs.CcOperands.Operands.{Operand}
use Rattle.cc_typed_bodies.specs.CcOperands.Verdicts.{Judged, judge_then}
use Rattle.cc_typed_bodies.specs.CcTypedTerms.Values.{valued}
use Rattle.cc_program.specs.declared.expr.Expr.{Expr}
use Rattle.cc_program.specs.declared.func.Func.{Func}
use Rattle.cc_program.specs.declared.program.Program.{Program}
use Rattle.cc_program.specs.declared.types.CType.{CType}
use Rattle.cc_program.specs.declared.types.Shape.{Shape, out-Shape}
use Rattle.cc_program.specs.declared.types.Shape.TheOpen as shape
use Rattle.cc_program.specs.declared.types.Sig.{Sig}
use Rattle.cc_typed_bodies.specs.CcScopes.State.{State}
use Rattle.cc_typed_bodies.specs.CcScopes.Verdicts.{Found, and_then}
use Rattle.cc_typed_bodies.specs.CcSyntax.Effects.{no_one, effects_of}
use Rattle.cc_typed_bodies.specs.CcSyntax.Programs.{type_of, kind_in}
use Rattle.cc_typed_bodies.specs.CcSyntax.Folding.{is_folded}
use Rattle.cc_typed_bodies.specs.CcSyntax.Kinds.{is_plain_scalar}
use Rattle.cc_typed_bodies.specs.CcSyntax.Normal.{is_operand}
use Rattle.cc_typed_bodies.specs.CcSyntax.SameTypes.{is_void_shape}
use Rattle.cc_typed_bodies.specs.CcSyntax.Sizes.{AreSized}
use Rattle.cc_typed_bodies.specs.CcSyntax.Values.{ValueType, NoValue, Integer, ToObject, ToFunction, ObjectPlace, is_scalar, scalar_shape, scalar_value, is_assignable, is_assignable_some, are_assignable}
use Rattle.cc_typed_bodies.proofs.CcSyntax.Prefixes.{both_true}
use Rattle.cc_typed_bodies.specs.CcTerms.Expressions.{argument_found}
use Rattle.cc_typed_bodies.specs.CcTerms.InTurn.{in_turn, one_more}
use Rattle.cc_typed_bodies.specs.CcTerms.Terms.{here}
use Rattle.cc_tree.specs.declared.at.At.{At}
use Rattle.cc_tree.specs.declared.tree.Tree.{Tree}
use Rattle.cc_unit_trees.specs.Effects.{ShowsArguments, NoArgument, MoreArguments}
use Rattle.cc_shown_expressions.specs.Taken.{IsTakenAs}
use Rattle.cc_shown_expressions.proofs.Values.{value-taken}
use Rattle.cc_shown_expressions.specs.Fits.{FitsValue}
use Rattle.cc_shown_expressions.specs.KnownNames.{KnowsNames, TypesStand}
use Rattle.cc_shown_expressions.specs.Normal.{HasOperand}
use Rattle.cc_shown_expressions.specs.OperationNumbers.{Numbers, expr_numbered}
use Rattle.cc_shown_expressions.proofs.Fits.{read-fits}
use Rattle.cc_shown_expressions.specs.Numbers.{type_numbered}
use Rattle.cc_shown_expressions.proofs.Kept.{scalar-at}
use Rattle.cc_shown_expressions.proofs.Standing.{scalar-stands}

pub assigned-scalar : (to v : ValueType) → is_assignable to v ≡ true → is_scalar v ≡ true
assigned-scalar NoValue v h = absurd (cc)
assigned-scalar (Integer t) NoValue h = absurd (cc)
assigned-scalar (Integer t) (Integer s) h = refl
assigned-scalar (Integer t) (ToObject c v u) h = absurd (cc)
assigned-scalar (Integer t) (ToFunction s) h = absurd (cc)
assigned-scalar (ToObject c v u) NoValue h = absurd (cc)
assigned-scalar (ToObject c v u) (Integer s) h = absurd (cc)
assigned-scalar (ToObject c v u) (ToObject d w t) h = refl
assigned-scalar (ToObject c v u) (ToFunction s) h = absurd (cc)
assigned-scalar (ToFunction s) NoValue h = absurd (cc)
assigned-scalar (ToFunction s) (Integer t) h = absurd (cc)
assigned-scalar (ToFunction s) (ToObject c v u) h = absurd (cc)
assigned-scalar (ToFunction s) (ToFunction t) h = refl

scalar-no-void : (x : shape.Shape-F Shape CType Sig) (w : ValueType) → scalar_shape x ≡ Some w → is_void_shape x ≡ false
scalar-no-void (shape.Int t) w h = refl
scalar-no-void (shape.Pointer to) w h = refl
scalar-no-void shape.Void w h = absurd (cc)
scalar-no-void (shape.Array of n) w h = absurd (cc)
scalar-no-void (shape.Struct i) w h = absurd (cc)
scalar-no-void (shape.Func s) w h = absurd (cc)

record Passes (to : Option ValueType) (from : Option ValueType) : Type 0 where
  pub parameter : ValueType
  pub argument : ValueType
  pub takes : to ≡ Some parameter
  pub gives : from ≡ Some argument
  pub assignable : is_assignable parameter argument ≡ true

passes : (to from : Option ValueType) → is_assignable_some to from ≡ true → Passes to from
passes None from h = absurd (cc)
passes (Some t) None h = absurd (cc)
passes (Some t) (Some v) h = record { parameter = t; argument = v; takes = refl; gives = refl; assignable = h }

module _ (p : Program) (f : Func) (n : Numbers) (sized : AreSized p.structures p.target) (stand : TypesStand p f) (s : State) (names : KnowsNames p f n s) where
  abbrev numbered : CType → CType
  numbered t = type_numbered n.structure t

  abbrev plain_scalar : CType → Bool
  plain_scalar t = is_plain_scalar (kind_in p t)

  pub record ArgumentsFound (ts : List CType) (es : List Expr) (xs : List (At Tree)) : Type 0 where
    pub operands : List Operand
    pub is : (before : List Operand) → in_turn argument_found (map (here p.target p.roles) xs) before s ≡ Ok (before ++ operands, s)
    pub passed : passed p.target (map (type_numbered n.structure) ts) operands ≡ Ok (map (expr_numbered n) es)

  pub has-operand : (e : Expr) (v w : ValueType) → is_operand p.target f e ≡ true → type_of p f.locals e ≡ Some v → is_assignable w v ≡ true → HasOperand p f e v
  has-operand e v w h t a =
      let k = both_true ((effects_of f e).pure no_one) (is_folded p.target e) h in
      record { typed = t; scalar = assigned-scalar w v a; pure = k.0; folded = k.1 }

  scalar-type-fits : (t : CType) (w : ValueType) → is_plain_scalar (kind_in p t) ≡ true → scalar_value t ≡ Some w → FitsValue p w
  scalar-type-fits t w h e = read-fits p (ObjectPlace false false t) w (scalar-no-void (out-Shape t.shape) w e, scalar-stands p (kind_in p t) h) e

  argument-taken : (t : CType) (e : Expr) (x : At Tree) (q : Passes (scalar_value t) (type_of p f.locals e)) → ShowsValue p f (Some t) e x.node → is_operand p.target f e ≡ true → is_plain_scalar (kind_in p t) ≡ true → IsTakenAs p n s x.node x.at e q.parameter
  argument-taken t e x q h o k =
      value-taken p f n s sized names stand (Some t) e x.node h x.at q.argument q.parameter (has-operand e q.argument q.parameter o q.gives q.assignable) (scalar-type-fits t q.parameter k q.takes) q.assignable
      (λ u same. let g : t ≡ u = cc in subst (λ (u : CType). scalar_value u ≡ Some q.parameter) g q.takes)

  none-found : ArgumentsFound [] [] []
  none-found = record { operands = []; is = λ before. ap (λ (xs : List Operand). Ok (xs, s)) (sym (append-nil before)); passed = refl }

  one-found : (t : CType) (us : List CType) (e : Expr) (es : List Expr) (x : At Tree) (xs : List (At Tree)) (w : ValueType) → scalar_value t ≡ Some w → IsTakenAs p n s x.node x.at e w → ArgumentsFound us es xs → ArgumentsFound (t ∷ us) (e ∷ es) (x ∷ xs)
  one-found t us e es x xs w takes q rest =
      record {
        operands = q.operand ∷ rest.operands;
        is = λ before.
            ap (λ (r : Found TypedExpr). and_then (one_more before (and_then r (valued x.at))) (in_turn argument_found (map (here p.target p.roles) xs))) q.is
            ∙ ap (λ (r : Found Operand). and_then (one_more before r) (in_turn argument_found (map (here p.target p.roles) xs))) (q.value x.at)
            ∙ rest.is (before ++ q.operand ∷ [])
            ∙ ap (λ (ys : List Operand). Ok (ys, s)) (append_assoc before (q.operand ∷ []) rest.operands);
        passed =
            ap (λ (o : Option ValueType). judge_then (passed_to p.target (numbered t) q.operand o) (λ y. judge_then (passed p.target (map (type_numbered n.structure) us) rest.operands) (λ ys. Ok (y.value ∷ ys)))) (scalar-at n.structure t w takes)
            ∙ ap (λ (j : Judged Operand). judge_then j (λ y. judge_then (passed p.target (map (type_numbered n.structure) us) rest.operands) (λ ys. Ok (y.value ∷ ys)))) q.assigned.is
            ∙ ap (λ (j : Judged (List Expr)). judge_then j (λ ys. Ok (q.assigned.result.value ∷ ys))) rest.passed
            ∙ ap (λ (y : Expr). Ok (y ∷ map (expr_numbered n) es)) q.assigned.value;
      }

  pub arguments-found : (ts : List CType) (es : List Expr) (xs : List (At Tree)) → ShowsArguments p f ts es xs → list_all (is_operand p.target f) es ≡ true → are_assignable ts (map (type_of p f.locals) es) ≡ true → list_all plain_scalar ts ≡ true → ArgumentsFound ts es xs
  arguments-found [] _ _ (NoArgument _) o a k = none-found
  arguments-found (t ∷ us) _ _ (NoArgument _) o a k = absurd (cc)
  arguments-found [] _ _ (MoreArguments _ e es x xs h r) o a k = absurd (cc)
  arguments-found (t ∷ us) _ _ (MoreArguments _ e es x xs h r) o a k =
      let i = both_true (is_operand p.target f e) (list_all (is_operand p.target f) es) o in
      let j = both_true (is_assignable_some (scalar_value t) (type_of p f.locals e)) (are_assignable us (map (type_of p f.locals) es)) a in
      let l = both_true (is_plain_scalar (kind_in p t)) (list_all plain_scalar us) k in
      let q = passes (scalar_value t) (type_of p f.locals e) j.0 in
      one-found t us e es x xs q.parameter q.takes (argument-taken t e x q h i.0 l.0) (arguments-found us es xs r i.1 j.1 l.1)
