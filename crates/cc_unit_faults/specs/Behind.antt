-- What is known behind a construct of a unit, or the fault that it carries (C99 6.8, 6.9).
use Rattle.std.specs.Prelude.{List, Result}
use Rattle.cc_first_faults.specs.Behind.{behind as behind_inner}
use Rattle.cc_first_faults.specs.FirstFaults.{forget}
use Rattle.cc_program.specs.CcNum.declared.target.Target.{Target}
use Rattle.cc_program.specs.declared.program.Roles.{Roles}
use Rattle.cc_type.specs.CcScopes.State.{State, Name}
use Rattle.cc_type.specs.CcScopes.Verdicts.{whole}
use Rattle.cc_type.specs.CcScopes.declared.verdict.Fault.{Fault}
use Rattle.cc_type.specs.Functions.{definition_judged, function_found}
use Rattle.cc_type.specs.Units.{items_found}
use Rattle.cc_type.specs.CcTypedBodies.Lines.{line_of}
use Rattle.cc_type.specs.CcTypedBodies.Parts.{effect_found}
use Rattle.cc_unit_faults.specs.Constructs.{Construct, Within, EffectOf, Statement, SwitchBody, Labelled, Definition, DefinitionNamed, WholeUnit}

module _ (target : Target) (roles : Roles) (defined : List Name) where
  abbrev pub behind : Construct → State → Result State Fault
  behind (Within c) s = behind_inner target roles defined c s
  behind (EffectOf e) s = forget (effect_found target roles e s)
  behind (Statement result j l) s = forget ((line_of target roles defined result l.node).line j l.at s)
  behind (SwitchBody result j t l) s = forget ((line_of target roles defined result l.node).switched j t l.at s)
  behind (Labelled result j t cases l) s = forget ((line_of target roles defined result l.node).item j t cases l.at s)
  behind (Definition specs d attrs body) s = forget (function_found target roles defined specs d attrs body s)
  behind (DefinitionNamed at asked x t ds) s = forget (whole at s (definition_judged roles asked x t ds s))
  behind (WholeUnit items) s = forget (items_found target roles defined items s)
