-- A unit is refused by the fault of its items.
use Rattle.std.proofs.Common.{Err, refl, ap}
use Rattle.cc_program.specs.CcNum.declared.target.Target.{Target}
use Rattle.cc_program.specs.declared.program.Roles.{Roles}
use Rattle.cc_scopes.specs.Outcomes.{Gives}
use Rattle.cc_scopes.specs.State.{State, at_first}
use Rattle.cc_scopes.specs.Verdicts.{Checked, checked}
use Rattle.cc_scopes.specs.declared.verdict.Stop.{Stop}
use Rattle.cc_scopes.specs.declared.verdict.Stop.TheVariants as stop
use Rattle.cc_tree.specs.declared.unit.Unit.{Unit as UnitTree}
use Rattle.cc_type.specs.Defined.{defined_names}
use Rattle.cc_type.specs.Typed.{Refuses, fault_by}
use Rattle.cc_type.specs.Units.{items_found, unit_found, unit_of}

pub items-refused : (target : Target) (roles : Roles) (u : UnitTree) (why : Stop) (s : State) →
    Gives {A = Checked} (λ done. checked) (Err why) s (items_found target roles (defined_names u) u.items at_first) → Refuses target roles u (fault_by why)
unfolding unit_of
items-refused target roles u (stop.Broken f) s h = (f, ap unit_found h, refl, refl)
items-refused target roles u stop.NoMemory s h = tt

pub ruleset of_faults = (items-refused)
