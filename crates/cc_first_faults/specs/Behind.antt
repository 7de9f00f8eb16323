-- What is known behind a construct, or the fault that it carries (C99 6.5, 6.7).
use Rattle.std.specs.Prelude.{Bool, List, map, Result, Ok}
use Rattle.cc_typed_bodies.specs.CcTypedTerms.Located.{located}
use Rattle.cc_program.specs.CcNum.declared.target.Target.{Target}
use Rattle.cc_typed_bodies.specs.CcObjects.Names.{name_judged}
use Rattle.cc_typed_bodies.specs.CcObjects.Values.{leaf_given, no_leaf, expr_given, no_expr}
use Rattle.cc_typed_bodies.specs.CcTypedTerms.Values.{valued, designating, value_found, designated_found}
use Rattle.cc_program.specs.declared.expr.Expr.{Expr}
use Rattle.cc_program.specs.declared.program.Roles.{Roles}
use Rattle.cc_program.specs.declared.types.CType.{CType}
use Rattle.cc_program.specs.declared.value.Leaf.{Leaf}
use Rattle.cc_typed_bodies.specs.CcScopes.State.{State, Name, Scope, structures_of, layouts_of}
use Rattle.cc_typed_bodies.specs.CcScopes.Verdicts.{Found, whole}
use Rattle.cc_typed_bodies.specs.CcScopes.declared.verdict.Fault.{Fault}
use Rattle.cc_typed_bodies.specs.CcSpecifiers.Attributes.{attribute_judged, entry_by}
use Rattle.cc_typed_bodies.specs.CcSpecifiers.Declarators.{breach, fault_or}
use Rattle.cc_typed_bodies.specs.CcSpecifiers.Derivations.{suffix_found}
use Rattle.cc_typed_bodies.specs.CcSpecifiers.declared.derivation.Derivation.{Derivation}
use Rattle.cc_typed_bodies.specs.CcTerms.Declarators.{parameter_declared}
use Rattle.cc_typed_bodies.specs.CcTerms.Members.{member_found}
use Rattle.cc_typed_bodies.specs.CcTerms.Specifiers.{specifier_found, specified_found}
use Rattle.cc_typed_bodies.specs.CcTerms.Terms.{tree_of, declr_of, params_of, param_of, spec_of, members_of, enumr_of, type_name_of, here, declr_here, spec_here}
use Rattle.cc_tree.specs.declared.at.At.{At}
use Rattle.cc_typed_bodies.specs.Declarations.{declaration, init_found}
use Rattle.cc_typed_bodies.specs.Plans.{step_found}
use Rattle.cc_first_faults.specs.FirstFaults.{forget}
use Rattle.cc_first_faults.specs.Constructs.{Construct, Expression, ValueOf, DesignatedBy, Valued, Designated, TypeNamed, Specifiers, SpecifierBehind, Specifier, OneAttribute, MembersBehind, MemberBehind, ConstantBehind, Declaring, Suffixed, Derived, ParameterList, ParameterBehind, ParameterNamed, Declaration, Declared, NameDeclared, LeafGiven, ScalarAssigned}

-- a derivation of this type; the flag says that a pointer to void may be derived
abbrev pub derivation_found : Target → Bool → CType → At (Derivation Scope) → State → Found CType
derivation_found target void t d s = located s (fault_or d.at (breach target (structures_of s) (layouts_of s) void t d.node) (Ok t))

module _ (target : Target) (roles : Roles) (defined : List Name) where
  abbrev pub behind : Construct → State → Result State Fault
  behind (Expression e) s = forget (tree_of target roles e.node e.at s)
  behind (ValueOf e) s = forget (value_found (here target roles e) s)
  behind (DesignatedBy e) s = forget (designated_found (here target roles e) s)
  behind (Valued at x) s = forget (valued at x s)
  behind (Designated x) s = forget (designating x s)
  behind (TypeNamed cast t) s = forget (type_name_of target roles t cast s)
  behind (Specifiers setting xs) s = forget (specified_found setting (map (spec_here target roles) xs) s)
  behind (SpecifierBehind setting specs x) s = forget (specifier_found setting (spec_here target roles x) specs s)
  behind (Specifier x) s = forget (spec_of target roles x.node x.at s)
  behind (OneAttribute entities x) s = forget (whole x.at s (attribute_judged entities x.node.words))
  behind (MembersBehind before d) s = forget (members_of target roles d.node before s)
  behind (MemberBehind base before d) s = forget (member_found target base (declr_here target roles d) before s)
  behind (ConstantBehind next c) s = forget (enumr_of target roles c.node next c.at s)
  behind (Declaring allowed d) s = forget (declr_of target roles d.node allowed d.at s)
  behind (Suffixed function ds) s = forget (located s (suffix_found function ds))
  behind (Derived void t d) s = forget (derivation_found target void t d s)
  behind (ParameterList unnamed ps) s = forget (params_of target roles ps unnamed s)
  behind (ParameterBehind unnamed before p) s = forget (param_of target roles p.node unnamed before s)
  behind (ParameterNamed unnamed before base at x) s = forget (parameter_declared target roles unnamed before base at x s)
  behind (Declaration stands d) s = forget (declaration target roles defined stands d s)
  behind (Declared stands base i) s = forget (init_found target roles defined stands base i s)
  behind (NameDeclared at c t x marks) s = forget (whole at s (name_judged target roles c x t (entry_by marks) s))
  behind (LeafGiven step) s = forget (step_found target roles Leaf (leaf_given target) no_leaf step s)
  behind (ScalarAssigned step) s = forget (step_found target roles Expr (expr_given target) no_expr step s)
