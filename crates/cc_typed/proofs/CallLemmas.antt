-- The type of a call, from those of what is called and of the arguments.
use Rattle.std.proofs.Common.{◌≡◌, List, map, ap, sym, ◌∙◌, Option}
use Rattle.cc_program.specs.declared.expr.Expr.{Expr, Call, fold-roll-Expr}
use Rattle.cc_program.specs.declared.expr.Expr.TheVariants.{rolls-Call}
use Rattle.cc_program.specs.declared.expr.Expr.TheOpen as one
use Rattle.cc_program.specs.declared.program.Program.{Program}
use Rattle.cc_syntax.specs.Expressions.{of_one}
use Rattle.cc_syntax.specs.Expressions as typing
use Rattle.cc_syntax.specs.Programs.{expr_step, place_step, type_of}
use Rattle.cc_syntax.specs.Operators.{call_type}
use Rattle.cc_syntax.specs.Types.{Named}
use Rattle.cc_syntax.specs.Values.{ValueType, PlaceType}

module _ (p : Program) (locals : List Named) where
  call-rolls : (f : Expr) (args : List Expr) → type_of p locals (Call f args) ≡ of_one (type_of p locals f) (λ v. call_type v (map (type_of p locals) args))
  unfolding typing.type_of
  call-rolls f args = ap (type_of p locals) (sym (rolls-Call f args)) ∙ fold-roll-Expr (Option ValueType) (Option PlaceType) (expr_step p locals) (place_step p locals) (one.Call f args)

  pub call_typed : (e f g : Expr) (args : List Expr) (o r : Option ValueType) → e ≡ Call f args → g ≡ f → o ≡ type_of p locals g → r ≡ of_one o (λ v. call_type v (map (type_of p locals) args)) → r ≡ type_of p locals e
  call_typed e f g args o r is same h k =
      k ∙ (ap (λ (o : Option ValueType). of_one o (λ v. call_type v (map (type_of p locals) args))) (h ∙ ap (type_of p locals) same) ∙ sym (ap (type_of p locals) is ∙ call-rolls f args))
