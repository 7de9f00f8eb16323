-- The slots of a program: its static objects that are scalars or arrays of scalars, literals among them, then the scalar members of its
-- structures, each kind by its numbers.
use Rattle.std.specs.Prelude.{ℕ, Bool, ◌++◌, List}
use Rattle.cc_program.specs.declared.object.Object.{Object}
use Rattle.cc_program.specs.declared.program.Program.{Program}
use Rattle.cc_program.specs.declared.types.Structure.{Structure}
use Rattle.cc_state_points.specs.CcState.Shape.{is_slot_type}
use Rattle.cc_state_points.specs.CcStateFacts.declared.facts.Key.{Key}
use Rattle.cc_state_points.specs.CcStateFacts.declared.facts.Key.TheVariants as key
use Rattle.cc_state_points.specs.CcStateKeys.Lists.{made_from, all_from}
use Rattle.cc_state_points.specs.CcSyntax.Types.{Named}

abbrev pub is_object_slot : ℕ → Object → Bool
is_object_slot i o = is_slot_type (key.Object i) o.ctype

abbrev pub is_member_slot : ℕ → ℕ → Named → Bool
is_member_slot s m n = is_slot_type (key.Member s m) n.1

abbrev pub member_slots : ℕ → Structure → List Key
member_slots s structure = made_from (is_member_slot s) (key.Member s) 0 structure.members

abbrev pub slot_keys : Program → List Key
slot_keys p = made_from is_object_slot key.Object 0 p.objects ++ all_from member_slots 0 p.structures
