-- Declarations of members (C99 6.7.2.1).
use Rattle.std.specs.Prelude.{List}
use Rattle.cc_program.specs.CcNum.declared.target.Target.{Target}
use Rattle.cc_program.specs.declared.types.CType.{CType}
use Rattle.cc_scopes.specs.State.{State}
use Rattle.cc_scopes.specs.Verdicts.{Found, and_then}
use Rattle.cc_typed_terms.specs.CcSpecifiers.Derivations.{nothing_more}
use Rattle.cc_typed_terms.specs.CcSpecifiers.Storage.{setting}
use Rattle.cc_typed_terms.specs.CcSpecifiers.declared.attribute.Entity.TheVariants as entity
use Rattle.cc_typed_terms.specs.CcSpecifiers.declared.storage.Where.TheVariants as stands
use Rattle.cc_typed_terms.specs.CcSyntax.Types.{Named}
use Rattle.cc_tree.specs.declared.at.At.{At}
use Rattle.cc_tree.specs.declared.tree.Declr.TheOpen as one
use Rattle.cc_terms.specs.Declarators.{declarator}
use Rattle.cc_terms.specs.InTurn.{in_turn}
use Rattle.cc_terms.specs.Meanings.{TreeMeaning, DeclrMeaning, ParamsMeaning, ParamMeaning, SpecMeaning, MembersMeaning, EnumrMeaning, TypeNameMeaning}
use Rattle.cc_terms.specs.Specifiers.{specified_found}
use Rattle.cc_terms.specs.Structures.{member_behind}

module _ (target : Target) where
  abbrev pub member_found : CType → At DeclrMeaning → List Named → State → Found (List Named)
  member_found base d ms s = declarator nothing_more d s (λ x s. member_behind target base d.at ms x s)

  abbrev pub declared_members : CType → List (At DeclrMeaning) → List Named → State → Found (List Named)
  declared_members base ds ms s = in_turn (member_found base) ds ms s

  abbrev pub members_step : one.MemberDecl-F DeclrMeaning ParamsMeaning SpecMeaning TreeMeaning EnumrMeaning MembersMeaning ParamMeaning TypeNameMeaning → MembersMeaning
  members_step d = λ ms s. and_then (specified_found (setting stands.AsMember entity.Member) d.specs s) (λ base s. declared_members base.ctype d.declrs ms s)
