-- Declarators (C99 6.7.5).
use Rattle.cc_program.specs.CcNum.declared.target.Target.{Target}
use Rattle.cc_program.specs.declared.types.CType.{CType}
use Rattle.cc_scopes.specs.State.{State, Scope, structures_of, layouts_of}
use Rattle.cc_scopes.specs.Verdicts.{Found}
use Rattle.cc_specifiers.specs.Declarators.{type_found}
use Rattle.cc_specifiers.specs.declared.derivation.Allowed.{Allowed}
use Rattle.cc_specifiers.specs.declared.derivation.Declarator.{Declarator}
use Rattle.cc_typed_terms.specs.Located.{located}

-- the type that a declarator derives from that of the specifiers
abbrev pub derived_type : Target → Allowed → CType → Declarator Scope → State → Found CType
derived_type target allowed base d s = located s (type_found target (structures_of s) (layouts_of s) allowed base d.derivations)
