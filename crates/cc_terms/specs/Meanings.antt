-- What each kind of construct means (C99 6.5, 6.7.2 to 6.7.6), at the place where it stands, behind what is known
-- there.
use Rattle.std.specs.Prelude.{ℤ, Bool, List}
use Rattle.cc_typed_terms.specs.CcDesignators.Designators.{TypedExpr}
use Rattle.cc_program.specs.declared.types.CType.{CType}
use Rattle.cc_scopes.specs.State.{State, Scope}
use Rattle.cc_scopes.specs.Verdicts.{Found, Meaning}
use Rattle.cc_typed_terms.specs.CcSpecifiers.declared.derivation.Allowed.{Allowed}
use Rattle.cc_typed_terms.specs.CcSpecifiers.declared.derivation.Declarator.{Declarator}
use Rattle.cc_typed_terms.specs.CcSpecifiers.declared.derivation.Parameter.{Parameter}
use Rattle.cc_typed_terms.specs.CcSpecifiers.declared.specifier.Specifier.{Specifier}
use Rattle.cc_typed_terms.specs.CcSyntax.Types.{Named}

abbrev pub TreeMeaning : Type 0
TreeMeaning = Meaning TypedExpr

abbrev pub DeclrMeaning : Type 0
DeclrMeaning = Allowed → Meaning (Declarator Scope)

-- parameters, and the scope in which they are declared; the flag says that they need no names
abbrev pub ParamsMeaning : Type 0
ParamsMeaning = Bool → State → Found (List Parameter × Scope)

-- one parameter more behind these; the flag says that it needs no name
abbrev pub ParamMeaning : Type 0
ParamMeaning = Bool → List Parameter → State → Found (List Parameter)

abbrev pub SpecMeaning : Type 0
SpecMeaning = Meaning Specifier

-- with its members behind these
abbrev pub MembersMeaning : Type 0
MembersMeaning = List Named → State → Found (List Named)

-- from the value of a constant that no value is given to here, to that of one behind it
abbrev pub EnumrMeaning : Type 0
EnumrMeaning = ℤ → Meaning ℤ

-- the flag says that it stands in a cast
abbrev pub TypeNameMeaning : Type 0
TypeNameMeaning = Bool → State → Found CType
