-- Structures as the unit that is left has them: with the members of the program's, and none of one that is only named.
use Rattle.std.specs.Prelude.{Some, None, if◌then◌else◌}
use Rattle.cc_program.specs.declared.types.Structure.{Structure}
use Rattle.cc_type.specs.CcSyntax.Types.{has_members}
use Rattle.cc_type.specs.CcUnit.declared.unit.UnitStructure.{UnitStructure}

abbrev pub structure_left : Structure → UnitStructure
structure_left t = record { tag = Some t.tag; alias = None; members = if has_members (Some t) then Some t.members else None }
