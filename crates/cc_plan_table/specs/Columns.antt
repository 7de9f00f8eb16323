-- What the columns of a slot's row say.
use Rattle.std.specs.Prelude.{ℕ, Bool, true, false, List, [], ◌++◌, Option, Some, None, slice_get, unwrap_or, codes, if◌then◌else◌}
use Rattle.std.specs.Fmt.{decimal}
use Rattle.cc_code.specs.declared.kinds.Coding.{Coding}
use Rattle.cc_code.specs.declared.kinds.Coding.TheVariants as coding
use Rattle.cc_code.specs.Codings.{kind_of}
use Rattle.cc_places.specs.declared.abs.Abs.{Abs}
use Rattle.cc_plan_legal.specs.Short.{element_bits}
use Rattle.cc_program.specs.declared.program.Program.{Program}
use Rattle.cc_sets.specs.declared.vals.Vals.{Vals}
use Rattle.cc_sets.specs.Rungs.{vals_ends, vals_members}
use Rattle.cc_slots_types.specs.declared.class.Class.{Class}
use Rattle.cc_slots_types.specs.declared.class.Class.TheVariants as class
use Rattle.cc_slots_types.specs.declared.reason.Reason.{Reason}
use Rattle.cc_slots_types.specs.declared.reason.Reason.TheVariants as reason
use Rattle.cc_slots_types.specs.declared.slot.Slot.{Slot}
use Rattle.cc_plan_table.specs.declared.standing.Standing.{Standing}
use Rattle.cc_plan_table.specs.declared.standing.Standing.TheVariants as standing
use Rattle.cc_plan_table.specs.Standings.{is_coded}
use Rattle.cc_state_texts.specs.Texts.{values_text}

abbrev pub class_text : Class → List ℕ
class_text class.Lone = codes "lone"
class_text class.Read = codes "read"
class_text class.Written = codes "written"

abbrev pub coding_text : Coding → List ℕ
coding_text coding.Const = codes "const"
coding_text coding.Direct = codes "direct"
coding_text (coding.Biased low) = codes "biased"
coding_text coding.Table = codes "table"

abbrev pub reason_text : Reason → List ℕ
reason_text reason.Volatile = codes "volatile"
reason_text reason.Const = codes "const"
reason_text reason.Addressed = codes "addressed"
reason_text reason.Automatic = codes "automatic"
reason_text reason.Torn = codes "torn"
reason_text reason.Index = codes "index"
reason_text reason.Wide = codes "wide"

-- of volatile and of const slots no values are told
abbrev pub tells_values : Option Reason → Bool
tells_values None = true
tells_values (Some reason.Volatile) = false
tells_values (Some reason.Const) = false
tells_values (Some reason.Addressed) = true
tells_values (Some reason.Automatic) = true
tells_values (Some reason.Torn) = true
tells_values (Some reason.Index) = true
tells_values (Some reason.Wide) = true

-- values, as they are written everywhere
abbrev pub slot_values : Program → Abs Vals → List ℕ
slot_values p values = values_text vals_members vals_ends p values

abbrev pub values_column : Program → Slot → List ℕ
values_column p slot = if tells_values slot.reason then slot_values p slot.values else []

abbrev pub bits_column : Slot → List ℕ
bits_column slot = if tells_values slot.reason then decimal slot.bits else []

-- the kind of the slot's coding
unfoldable pub coding_of : Slot → Coding
coding_of slot = kind_of slot.values slot.bits

abbrev pub coding_column : Slot → Standing → List ℕ
coding_column slot s = if is_coded s then coding_text (coding_of slot) else []

-- the word of a field and its lowest bit; of an array its name, and the bits that an element takes
abbrev pub word_column : List (List ℕ) → Slot → Standing → List ℕ
word_column words slot (standing.InWord f) = unwrap_or (slice_get words f.word) [] ++ codes ":" ++ decimal f.shift
word_column words slot standing.AsArray = slot.name ++ codes "/" ++ decimal (element_bits slot.bits)
word_column words slot standing.AsConst = []
word_column words slot standing.BeyondBudget = []
word_column words slot standing.Dissolved = []
word_column words slot standing.Nowhere = []

abbrev pub given_reason : Option Reason → List ℕ
given_reason None = []
given_reason (Some r) = reason_text r

-- why the slot is not coded
abbrev pub reason_column : Slot → Standing → List ℕ
reason_column slot (standing.InWord f) = []
reason_column slot standing.AsConst = []
reason_column slot standing.AsArray = []
reason_column slot standing.BeyondBudget = codes "budget"
reason_column slot standing.Dissolved = codes "dissolved"
reason_column slot standing.Nowhere = given_reason slot.reason
