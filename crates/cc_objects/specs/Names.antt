-- Which name may be declared so (C99 6.7, 3; 6.9).
use Rattle.std.specs.Prelude.{Bool, false, not, ◌&&◌, is_some, Option, Some, None, Ok, Err, if◌then◌else◌}
use Rattle.cc_typed_terms.specs.Names.{new_name}
use Rattle.cc_typed_terms.specs.CcDesignators.Calls.{intrinsic_signature}
use Rattle.cc_linkage.specs.Linkage.{may_be_declared, may_be_main}
use Rattle.cc_linkage.specs.declared.linkage.DeclaredAs.{DeclaredAs}
use Rattle.cc_program.specs.CcNum.declared.target.Target.{Target}
use Rattle.cc_typed_terms.specs.CcOperands.Qualified.{plain}
use Rattle.cc_typed_terms.specs.CcOperands.Verdicts.{Judged, must, judge_then}
use Rattle.cc_typed_terms.specs.CcOperands.declared.rule.Rule.TheVariants as rule
use Rattle.cc_typed_terms.specs.Primary.{intrinsic_named, is_intrinsic}
use Rattle.cc_program.specs.declared.expr.Intr.{Intr}
use Rattle.cc_program.specs.declared.func.Entry.{Entry}
use Rattle.cc_program.specs.declared.program.Roles.{Roles}
use Rattle.cc_program.specs.declared.types.CType.{CType}
use Rattle.cc_program.specs.declared.types.Shape.{Func}
use Rattle.cc_typed_terms.specs.CcScopes.State.{State, Name}
use Rattle.cc_syntax.specs.SameTypes.{same_type}
use Rattle.cc_objects.specs.Types.{is_complete_or_unbounded}
use Rattle.cc_objects.specs.declared.category.Category.{Category}
use Rattle.cc_objects.specs.declared.category.Category.TheVariants as declares

abbrev pub function_judged : DeclaredAs → Name → CType → State → Judged CType
function_judged asked x t s =
    must (may_be_main x t) rule.MainOrIntrinsic (must (may_be_declared asked x t s) rule.DeclaredTwice (Ok t))

abbrev pub is_prototype : CType → Option Intr → Bool
is_prototype t None = false
is_prototype t (Some i) = same_type t (plain (Func (intrinsic_signature i)))

module _ (roles : Roles) where
  -- an intrinsic has its prototype alone, static or not, and is no handler
  abbrev pub prototype_judged : DeclaredAs → Name → CType → Option Entry → State → Judged CType
  prototype_judged asked x t entry s =
      if is_intrinsic roles x then must (is_prototype t (intrinsic_named roles x) && not (is_some entry)) rule.MainOrIntrinsic (Ok t)
      else function_judged asked x t s

  abbrev pub typedef_judged : Name → CType → State → Judged CType
  typedef_judged x t s = judge_then (new_name roles x s) (λ x. Ok t)

module _ (target : Target) (roles : Roles) where
  abbrev pub object_judged : Name → CType → State → Judged CType
  object_judged x t s =
      if is_intrinsic roles x then Err rule.MainOrIntrinsic
      else must (is_complete_or_unbounded target s t) rule.NoObjectType (Ok t)

  abbrev pub linked_judged : DeclaredAs → Name → CType → State → Judged CType
  linked_judged asked x t s =
      judge_then (object_judged x t s) (λ t. must (may_be_main x t) rule.MainOrIntrinsic (must (may_be_declared asked x t s) rule.DeclaredTwice (Ok t)))

  abbrev pub local_judged : Name → CType → State → Judged CType
  local_judged x t s = judge_then (object_judged x t s) (λ t. typedef_judged roles x t s)

  -- with attributes that make it such a handler, if any
  abbrev pub name_judged : Category → Name → CType → Option Entry → State → Judged CType
  name_judged declares.Typedef x t entry s = typedef_judged roles x t s
  name_judged (declares.Function asked) x t entry s = prototype_judged roles asked x t entry s
  name_judged (declares.Linked asked) x t entry s = linked_judged asked x t s
  name_judged declares.StaticLocal x t entry s = local_judged x t s
  name_judged declares.Automatic x t entry s = local_judged x t s
