-- Which typed unit a tree stands for, and which fault is carried where it breaks a rule.
use Rattle.std.specs.Prelude.{◌≡◌, Ok, Err, ⊤}
use Rattle.cc_program.specs.CcNum.declared.target.Target.{Target}
use Rattle.cc_typed_bodies.specs.CcOperands.RuleNumbers.{number_of}
use Rattle.cc_program.specs.declared.program.Roles.{Roles}
use Rattle.cc_scopes.specs.declared.verdict.Fault.{Fault}
use Rattle.cc_scopes.specs.declared.verdict.Stop.{Stop}
use Rattle.cc_scopes.specs.declared.verdict.Stop.TheVariants as stop
use Rattle.cc_tree.specs.declared.unit.Unit.{Unit as UnitTree}
use Rattle.cc_type.specs.Units.{unit_of}
use Rattle.cc_type.specs.declared.fault.TypeFault.{TypeFault}
use Rattle.cc_type.specs.declared.fault.TypeFault.TheVariants as fault
use Rattle.cc_typed_bodies.specs.CcUnit.declared.unit.TypedUnit.{TypedUnit}

-- no rule is broken, and this is the unit
abbrev pub IsTyped : UnitTree → Target → Roles → TypedUnit → Type 0
IsTyped u target roles t = unit_of target roles u ≡ Ok t

-- a rule is broken, and this fault is carried
abbrev pub IsBroken : UnitTree → Target → Roles → Fault → Type 0
IsBroken u target roles f = unit_of target roles u ≡ Err f

-- a fault as it is told
abbrev pub fault_by : Stop → TypeFault
fault_by (stop.Broken f) = fault.Broken (number_of f.rule) f.at
fault_by stop.NoMemory = fault.NoMemory

-- what a refusal says
abbrev pub Refuses : Target → Roles → UnitTree → TypeFault → Type 0
Refuses target roles u (fault.Broken rule at) = (f : Fault) × IsBroken u target roles f × (rule ≡ number_of f.rule) × (at ≡ f.at)
Refuses target roles u fault.NoMemory = ⊤
