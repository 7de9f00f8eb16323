-- What declarators, parameters and type names mean (C99 6.7.5, 6.7.6).
use Rattle.std.specs.Prelude.{ℕ, Bool, true, false, not, ◌||◌, ◌&&◌, List, [], length, Option, Some, None, Ok}
use Rattle.cc_typed_terms.specs.Declarators.{derived_type}
use Rattle.cc_typed_terms.specs.Located.{located}
use Rattle.cc_typed_terms.specs.Parameters.{parameter, parameter_bound}
use Rattle.cc_program.specs.CcNum.declared.target.Target.{Target}
use Rattle.cc_typed_terms.specs.CcOperands.Operands.{Operand}
use Rattle.cc_typed_terms.specs.CcOperands.Verdicts.{Judged, must, judge_then}
use Rattle.cc_typed_terms.specs.CcOperands.declared.rule.Rule.TheVariants as rule
use Rattle.cc_typed_terms.specs.Values.{value}
use Rattle.cc_program.specs.declared.program.Roles.{Roles}
use Rattle.cc_program.specs.declared.types.CType.{CType}
use Rattle.cc_scopes.specs.State.{State, Scope, empty, innermost, entered, left}
use Rattle.cc_scopes.specs.Verdicts.{Found, whole, and_then}
use Rattle.cc_typed_terms.specs.CcSpecifiers.Bounds.{bound_judged}
use Rattle.cc_typed_terms.specs.CcSpecifiers.Derivations.{in_parameter, in_type_name, with_derivation, is_next_to_name, suffix_found, pointer_derivation}
use Rattle.cc_typed_terms.specs.CcSpecifiers.Parameters.{parameter_type}
use Rattle.cc_typed_terms.specs.CcSpecifiers.Storage.{setting}
use Rattle.cc_typed_terms.specs.CcSpecifiers.declared.attribute.Entity.TheVariants as entity
use Rattle.cc_typed_terms.specs.CcSpecifiers.declared.derivation.Allowed.{Allowed}
use Rattle.cc_typed_terms.specs.CcSpecifiers.declared.derivation.Declarator.{Declarator}
use Rattle.cc_typed_terms.specs.CcSpecifiers.declared.derivation.Derivation.TheVariants as to
use Rattle.cc_typed_terms.specs.CcSpecifiers.declared.derivation.Parameter.{Parameter}
use Rattle.cc_typed_terms.specs.CcSpecifiers.declared.storage.Where.TheVariants as stands
use Rattle.cc_tree.specs.declared.at.At.{At}
use Rattle.cc_tree.specs.declared.tree.Declr.TheOpen as one
use Rattle.cc_terms.specs.InTurn.{in_turn, one_more}
use Rattle.cc_terms.specs.Meanings.{TreeMeaning, DeclrMeaning, ParamsMeaning, ParamMeaning, SpecMeaning, MembersMeaning, EnumrMeaning, TypeNameMeaning}
use Rattle.cc_terms.specs.Specifiers.{specified_found}

-- a part of a declarator
abbrev pub declarator : {B : Type 0} → Allowed → At DeclrMeaning → State → (Declarator Scope → State → Found B) → Found B
declarator allowed d s next = and_then (d.node allowed d.at s) next

-- ---- the bound of an array (6.7.5.2), which is missing next to the name alone

abbrev pub without_bound : ℕ → Allowed → Declarator Scope → Judged (Declarator Scope)
without_bound at allowed d = must (allowed.unbounded && is_next_to_name d.derivations) rule.ArrayBound (Ok (with_derivation at (to.Array None) d))

abbrev pub with_bound : ℕ → Declarator Scope → Operand → Judged (Declarator Scope)
with_bound at d x = judge_then (bound_judged x) (λ n. Ok (with_derivation at (to.Array (Some n)) d))

abbrev pub bounded : ℕ → Allowed → Declarator Scope → Option (At TreeMeaning) → State → Found (Declarator Scope)
bounded at allowed d None s = whole at s (without_bound at allowed d)
bounded at allowed d (Some e) s = value e s (λ x s. whole at s (with_bound at d x))

-- ---- derivations, and the name

abbrev pub declr_step : one.Declr-F DeclrMeaning ParamsMeaning SpecMeaning TreeMeaning EnumrMeaning MembersMeaning ParamMeaning TypeNameMeaning → DeclrMeaning
declr_step one.Nothing = λ allowed at s. Ok (record { name = None; derivations = [] }, s)
declr_step (one.Declr::Named x) = λ allowed at s. Ok (record { name = Some x; derivations = [] }, s)
declr_step (one.Declr::Paren d) = λ allowed at s. d.node allowed d.at s
declr_step (one.Pointer words d) = λ allowed at s. declarator allowed d s (λ d s. Ok (with_derivation at (pointer_derivation words) d, s))
declr_step (one.Array d n) = λ allowed at s.
    declarator allowed d s (λ d s. and_then (located s (suffix_found false d.derivations)) (λ done s. bounded at allowed d n s))
declr_step (one.Func d ps) = λ allowed at s.
    declarator allowed d s (λ d s. and_then (located s (suffix_found true d.derivations)) (λ done s.
    and_then (ps (allowed.unnamed || not (is_next_to_name d.derivations)) s) (λ ps s. Ok (with_derivation at (to.Function ps.0 ps.1) d, s))))

-- ---- parameters (6.7.5.3)

abbrev pub parameters_found : Bool → List (At ParamMeaning) → State → Found (List Parameter)
parameters_found unnamed ps s = in_turn (λ p before s. p.node unnamed before s) ps [] s

-- they have a scope of their own (6.2.1, 4), which ends behind the declarator
abbrev pub with_scope : Found (List Parameter) → Found (List Parameter × Scope)
with_scope found = and_then found (λ ps s. Ok ((ps, innermost s.scopes), left s))

abbrev pub params_step : one.Params-F DeclrMeaning ParamsMeaning SpecMeaning TreeMeaning EnumrMeaning MembersMeaning ParamMeaning TypeNameMeaning → ParamsMeaning
params_step one.Empty = λ unnamed s. Ok (([], empty), s)
params_step one.Void = λ unnamed s. Ok (([], empty), s)
params_step (one.Many ps) = λ unnamed s. with_scope (parameters_found unnamed ps (entered empty s))

module _ (target : Target) (roles : Roles) where
  -- its position is the count of those before it
  abbrev pub parameter_declared : Bool → List Parameter → CType → ℕ → Declarator Scope → State → Found (List Parameter)
  parameter_declared unnamed before base at x s =
      and_then (derived_type target in_parameter base x s) (λ t s. and_then (whole at s (parameter_type t))
      (λ t s. one_more before (parameter_bound roles unnamed (length before) (parameter at x.name t) s x.name)))

  abbrev pub param_step : one.Param-F DeclrMeaning ParamsMeaning SpecMeaning TreeMeaning EnumrMeaning MembersMeaning ParamMeaning TypeNameMeaning → ParamMeaning
  param_step p = λ unnamed before s.
      and_then (specified_found (setting stands.AsParameter entity.Parameter) p.specs s) (λ base s.
      declarator in_parameter p.declr s (λ x s. parameter_declared unnamed before base.ctype p.declr.at x s))

-- ---- type names (6.7.6)

abbrev pub type_name_step : Target → one.TypeName-F DeclrMeaning ParamsMeaning SpecMeaning TreeMeaning EnumrMeaning MembersMeaning ParamMeaning TypeNameMeaning → TypeNameMeaning
type_name_step target t = λ cast s.
    and_then (specified_found (setting stands.InTypeName entity.Nothing) t.specs s) (λ base s.
    declarator (in_type_name cast) t.declr s (λ d s. derived_type target (in_type_name cast) base.ctype d s))
