-- The structures of the program that sources link to, and those of each source as a program of its own has them.
use Rattle.std.specs.Prelude.{◌≡◌, ◌<◌, ℕ, true, List, [], map, zip, length, Some, slice_get, unwrap_or, is_some}
use Rattle.std.specs.List.{All}
use Rattle.cc_program.specs.CcNum.declared.target.Target.{Target}
use Rattle.cc_program.specs.declared.types.Structure.{Structure}
use Rattle.cc_relocation.specs.Relocated.{structure_with}
use Rattle.cc_structures.specs.Structures.{Known, Numbering, numbers_of}
use Rattle.cc_operands.specs.CcSyntax.Sound.{are_structures}
use Rattle.cc_unit.specs.declared.unit.TypedUnit.{TypedUnit}
use Rattle.cc_unit.specs.declared.unit.UnitStructure.{UnitStructure}

-- a structure with its tag in the program
abbrev pub structure_of : Numbering → List ℕ × Known → Structure
structure_of numbering s = structure_with s.0 (numbers_of numbering s.1.text) s.1.structure.members

-- those of the program, with these tags
abbrev pub linked : Numbering → List (List ℕ) → List Known → List Structure
linked numbering tags firsts = map (structure_of numbering) (zip tags firsts)

-- one of a source, without its tag
abbrev pub untagged : UnitStructure → Structure
untagged s = record { tag = []; members = unwrap_or s.members [] }

abbrev pub structures_of : TypedUnit → List Structure
structures_of u = map untagged u.structures

-- each that is complete has members
abbrev pub HasMembers : UnitStructure → Type 0
HasMembers s = is_some s.members ≡ true → 0 < length (unwrap_or s.members [])

-- the structures of a source stand as those of a sound program do
pub record AreStanding (target : Target) (u : TypedUnit) : Type 0 where
  pub structures : are_structures [] (length u.structures) target (structures_of u) ≡ true
  pub members : All HasMembers u.structures

abbrev pub AllStand : Target → List TypedUnit → Type 0
AllStand target units = (t : ℕ) (u : TypedUnit) → slice_get units t ≡ Some u → AreStanding target u
