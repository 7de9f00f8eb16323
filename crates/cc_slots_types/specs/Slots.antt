-- The groups of slots, and the numbers of classes and reasons.
use Rattle.std.specs.Prelude.{ℕ, ◌+◌, ◌*◌}
use Rattle.cc_slots_types.specs.declared.class.Class.{Class}
use Rattle.cc_slots_types.specs.declared.class.Class.TheVariants.{Lone, Read, Written}
use Rattle.cc_slots_types.specs.declared.reason.Reason.{Reason}
use Rattle.cc_slots_types.specs.declared.reason.Reason.TheVariants as reason
use Rattle.cc_state_facts.specs.declared.facts.Key.{Key}
use Rattle.cc_state_facts.specs.declared.facts.Key.TheVariants as key

abbrev pub class_number : Class → ℕ
class_number Lone = 0
class_number Read = 1
class_number Written = 2

-- the reasons in their order, from 1
abbrev pub reason_number : Reason → ℕ
reason_number reason.Volatile = 1
reason_number reason.Const = 2
reason_number reason.Addressed = 3
reason_number reason.Automatic = 4
reason_number reason.Torn = 5
reason_number reason.Index = 6
reason_number reason.Wide = 7

-- the slots of one class that are no members are a group, and so are those that are members of one structure
abbrev pub owner_number : Key → ℕ
owner_number (key.Object object) = 0
owner_number (key.Local func local) = 0
owner_number (key.Member structure member) = structure + 1

abbrev pub group_of : Key → Class → ℕ
group_of k class = 3 * owner_number k + class_number class

-- the code of a member has some bit
abbrev pub least_bits_of : Key → ℕ
least_bits_of (key.Object object) = 0
least_bits_of (key.Local func local) = 0
least_bits_of (key.Member structure member) = 1
