-- What is found behind parts that are found, where the rules for what a scalar is given are not to be opened.
use Rattle.std.proofs.Common.{◌≡◌, ◌∙◌, ℕ, Bool, List, Option, Result, Ok, ap, sym, subst}
use Rattle.cc_initialisers.specs.Initialisers.{Step, Give}
use Rattle.cc_linkage.specs.declared.linkage.DeclaredAs.{DeclaredAs}
use Rattle.cc_program.specs.CcNum.declared.target.Target.{Target}
use Rattle.cc_objects.specs.Linked.{object_declared}
use Rattle.cc_objects.specs.Types.{type_given, composite}
use Rattle.cc_terms.specs.CcOperands.Operands.{Operand}
use Rattle.cc_terms.specs.CcOperands.Verdicts.{Judged}
use Rattle.cc_typed_terms.specs.Values.{value_found}
use Rattle.cc_program.specs.declared.expr.Expr.{Expr}
use Rattle.cc_program.specs.declared.program.Roles.{Roles}
use Rattle.cc_program.specs.declared.types.CType.{CType}
use Rattle.cc_scopes.specs.Outcomes.{Gives}
use Rattle.cc_scopes.specs.State.{State, Name}
use Rattle.cc_scopes.specs.Verdicts.{Found, whole, and_then}
use Rattle.cc_scopes.specs.declared.verdict.Stop.{Stop}
use Rattle.cc_terms.specs.CcSyntax.Values.{ValueType}
use Rattle.cc_terms.specs.Terms.{here}
use Rattle.cc_tree.specs.declared.at.At.{At}
use Rattle.cc_tree.specs.declared.tree.Tree.{Tree}
use Rattle.cc_tree.specs.declared.unit.Given.{Given}
use Rattle.cc_typed_bodies.specs.Objects.{linked_given, linked_known, linked_as, linked_left}
use Rattle.cc_typed_bodies.specs.Plans.{as_given, step_found}

module _ (target : Target) (roles : Roles) where
  -- a step that gives an expression, whose value is found
  pub give-gives : (X : Type 0) (given : Bool → ValueType → Operand → State → Judged X) (zero_of : Bool → ValueType → Judged X) (step : Step) (constant : Bool) (t : ValueType) (e : At Tree) (s u : State) (x : Operand)
      (r : Result (Option X) Stop) → step ≡ Give constant t e → value_found (here target roles e) s ≡ Ok (x, u) → Gives (λ (y : Option X). y) r u (as_given (whole e.at u (given constant t x u))) →
      Gives (λ (y : Option X). y) r u (step_found target roles X given zero_of step s)
  give-gives X given zero_of step constant t e s u x r is h g =
      subst (λ (m : Found (Option X)). Gives (λ (y : Option X). y) r u m)
      (sym (ap (λ (st : Step). step_found target roles X given zero_of st s) is ∙ ap (λ (m : Found Operand). and_then m (λ x s. as_given (whole e.at s (given constant t x s)))) h)) g

  -- an object with linkage, of these types and with this number
  pub linked-gives : (defined : List Name) (at : ℕ) (asked : DeclaredAs) (x y : Name) (t t2 u : CType) (value : Option (At Given)) (s s2 v : State) (id : ℕ) (r : Result (List Expr) Stop) → y ≡ x →
      t2 ≡ composite y t s → u ≡ type_given t2 value s → (id, s2) ≡ object_declared defined asked x u s →
      Gives (λ (es : List Expr). es) r v (linked_given target roles at asked t2 u id value s2) → Gives (λ (es : List Expr). es) r v (linked_left target roles defined at asked x t value s)
  linked-gives defined at asked x y t t2 u value s s2 v id r named typed bounded declared g =
      subst (λ (m : Found (List Expr)). Gives (λ (es : List Expr). es) r v m)
      (sym
      (ap (λ (c : CType). linked_as target roles defined at asked x c (type_given c value s) value s) (sym (typed ∙ ap (λ (n : Name). composite n t s) named))
      ∙ (ap (λ (c : CType). linked_as target roles defined at asked x t2 c value s) (sym bounded)
      ∙ ap (λ (known : ℕ × State). linked_known target roles at asked t2 u value known) (sym declared))))
      g
