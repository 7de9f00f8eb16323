-- The type of a null and of a cast that adds qualifiers, from the type that is written.
use Rattle.std.proofs.Common.{◌≡◌, List, ap, sym, ◌∙◌, Option}
use Rattle.cc_program.specs.declared.expr.Expr.{Expr, Null, Qualify, fold-roll-Expr}
use Rattle.cc_program.specs.declared.expr.Expr.TheVariants.{rolls-Null, rolls-Qualify}
use Rattle.cc_program.specs.declared.expr.Expr.TheOpen as one
use Rattle.cc_program.specs.declared.program.Program.{Program}
use Rattle.cc_program.specs.declared.types.CType.{CType}
use Rattle.cc_syntax.specs.Expressions.{of_one}
use Rattle.cc_syntax.specs.Expressions as typing
use Rattle.cc_syntax.specs.Programs.{expr_step, place_step, type_of, null_type, qualified_type}
use Rattle.cc_syntax.specs.Types.{Named}
use Rattle.cc_syntax.specs.Values.{ValueType, PlaceType}

module _ (p : Program) (locals : List Named) where
  null-rolls : (t : CType) → type_of p locals (Null t) ≡ null_type p t
  unfolding typing.type_of
  null-rolls t = ap (type_of p locals) (sym (rolls-Null t)) ∙ fold-roll-Expr (Option ValueType) (Option PlaceType) (expr_step p locals) (place_step p locals) (one.Null t)

  qualify-rolls : (t : CType) (a : Expr) → type_of p locals (Qualify t a) ≡ of_one (type_of p locals a) (qualified_type p t)
  unfolding typing.type_of
  qualify-rolls t a = ap (type_of p locals) (sym (rolls-Qualify t a)) ∙ fold-roll-Expr (Option ValueType) (Option PlaceType) (expr_step p locals) (place_step p locals) (one.Qualify t a)

  pub null_typed : (e : Expr) (t u : CType) (r : Option ValueType) → e ≡ Null t → u ≡ t → r ≡ null_type p u → r ≡ type_of p locals e
  null_typed e t u r is same h = h ∙ (ap (null_type p) same ∙ sym (ap (type_of p locals) is ∙ null-rolls t))

  pub qualify_typed : (e a b : Expr) (t u : CType) (o r : Option ValueType) → e ≡ Qualify t a → u ≡ t → b ≡ a → o ≡ type_of p locals b → r ≡ of_one o (qualified_type p u) → r ≡ type_of p locals e
  qualify_typed e a b t u o r is same part h k =
      k ∙ (ap (λ w. of_one o (qualified_type p w)) same ∙ (ap (λ (o : Option ValueType). of_one o (qualified_type p t)) (h ∙ ap (type_of p locals) part) ∙ sym (ap (type_of p locals) is ∙ qualify-rolls t a)))
