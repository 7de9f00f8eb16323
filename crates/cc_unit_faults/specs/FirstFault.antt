-- Which fault a unit carries: that of the first construct in it that breaks a rule.
use Rattle.cc_first_faults.specs.FirstFaults.{BreaksNone, IsCarried, IsWithin}
use Rattle.cc_program.specs.CcNum.declared.target.Target.{Target}
use Rattle.cc_program.specs.declared.program.Roles.{Roles}
use Rattle.cc_type.specs.CcScopes.State.{State, at_first}
use Rattle.cc_type.specs.CcScopes.declared.verdict.Fault.{Fault}
use Rattle.cc_tree.specs.declared.unit.Unit.{Unit as UnitTree}
use Rattle.cc_type.specs.Defined.{defined_names}
use Rattle.cc_unit_faults.specs.Behind.{behind}
use Rattle.cc_unit_faults.specs.Constructs.{Construct, WholeUnit, place}
use Rattle.cc_unit_faults.specs.Parts.{parts}

abbrev pub IsFirstFault : Target → Roles → UnitTree → Fault → Type 0
IsFirstFault target roles u fault = IsCarried Construct place (behind target roles (defined_names u)) (parts target roles (defined_names u)) fault (WholeUnit u.items) at_first

-- it is in the unit, with this known in front of it
abbrev pub IsIn : Target → Roles → UnitTree → Construct → State → Type 0
IsIn target roles u c s = IsWithin Construct place (behind target roles (defined_names u)) (parts target roles (defined_names u)) c s (WholeUnit u.items) at_first

abbrev pub BreaksNoRule : Target → Roles → UnitTree → Type 0
BreaksNoRule target roles u = (c : Construct) (s : State) → IsIn target roles u c s → BreaksNone (behind target roles (defined_names u) c s)
