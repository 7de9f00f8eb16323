-- Temporaries are scalars.
use Rattle.std.proofs.Common.{◌≡◌, true, [], Option, Some, None, option_map, is_some, refl, sym, ap, ◌∙◌, subst}
use Rattle.std.specs.Prelude.{slice_get}
use Rattle.std.proofs.lemmas.Option.{same_Some, slice_get-map}
use Rattle.cc_program.specs.CcNum.declared.int_type.IntType.TheVariants as int
use Rattle.cc_program.specs.declared.program.Program.{Program}
use Rattle.cc_program.specs.declared.types.Shape.TheVariants.{outs-Int, outs-Pointer}
use Rattle.cc_states.specs.CcSyntax.Types.{Named}
use Rattle.cc_states.specs.CcSyntax.Values.{ValueType, NoValue, Integer, ToObject, ToFunction, scalar_shape, scalar_value}
use Rattle.cc_meaning_simulations.specs.Bodies.{AddsScalars}
use Rattle.cc_lower_expressions.specs.Programs.{made_of, temporaries}
use Rattle.cc_lower_expressions.specs.Temporaries.{declared_type}

declared_scalar : (t : Option ValueType) → is_some (scalar_value (declared_type t)) ≡ true
declared_scalar None = ap (λ x. is_some (scalar_shape x)) (outs-Int int.Int)
declared_scalar (Some NoValue) = ap (λ x. is_some (scalar_shape x)) (outs-Int int.Int)
declared_scalar (Some (Integer t)) = ap (λ x. is_some (scalar_shape x)) (outs-Int t)
declared_scalar (Some (ToObject constant volatile t)) = ap (λ x. is_some (scalar_shape x)) (outs-Pointer _)
declared_scalar (Some (ToFunction sig)) = ap (λ x. is_some (scalar_shape x)) (outs-Pointer _)

abbrev named_as : Option ValueType → Named
named_as t = ([], declared_type t)

pub adds_scalars : (P : Program) → AddsScalars (temporaries P)
adds_scalars P f k l e = by_type (slice_get (made_of P f).temps k) refl
  where
    none_there : None ≡ Some l → is_some (scalar_value l.1) ≡ true
    none_there h = absurd (cc)

    by_type : (o : Option (Option ValueType)) → slice_get (made_of P f).temps k ≡ o → is_some (scalar_value l.1) ≡ true
    by_type None g = none_there (sym (slice_get-map named_as (made_of P f).temps k ∙ ap (option_map named_as) g) ∙ e)
    by_type (Some t) g = subst (λ (x : Named). is_some (scalar_value x.1) ≡ true) (same_Some (named_as t) l (sym (slice_get-map named_as (made_of P f).temps k ∙ ap (option_map named_as) g) ∙ e)) (declared_scalar t)
