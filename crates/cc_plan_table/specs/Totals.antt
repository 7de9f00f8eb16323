-- What the coded slots take together.
use Rattle.std.specs.Prelude.{ℕ, ◌+◌, ◌*◌, List, [], ◌∷◌, length, slice_get, unwrap_or, if◌then◌else◌}
use Rattle.cc_code.specs.declared.kinds.Coding.{Coding}
use Rattle.cc_code.specs.declared.kinds.Coding.TheVariants as coding
use Rattle.cc_code.specs.Members.{members_of}
use Rattle.cc_cost_ranking.specs.declared.costs.Cost.{Cost}
use Rattle.cc_plan_legal.specs.declared.kinds.Plan.{Plan}
use Rattle.cc_slots_types.specs.declared.slot.Slot.{Slot}
use Rattle.cc_plan_table.specs.declared.totals.Totals.{Totals}
use Rattle.cc_plan_table.specs.Columns.{coding_of}
use Rattle.cc_plan_table.specs.Standings.{is_coded, standing_of}

-- the bytes of a slot's table: a scalar for each member
abbrev pub table_bytes_by : Coding → Slot → ℕ
table_bytes_by coding.Const slot = 0
table_bytes_by coding.Direct slot = 0
table_bytes_by (coding.Biased low) slot = 0
table_bytes_by coding.Table slot = length (members_of slot.values) * slot.bytes

unfoldable pub table_bytes : Slot → ℕ
table_bytes slot = table_bytes_by (coding_of slot) slot

abbrev pub no_cost : Cost
no_cost = record { code = 0; time = 0 }

abbrev pub cost_at : List Cost → ℕ → Cost
cost_at costs n = unwrap_or (slice_get costs n) no_cost

abbrev pub nothing : Totals
nothing = record { rom = 0; code = 0; time = 0; coded = 0 }

-- with a coded slot more, which costs so much
abbrev pub with_slot : Totals → Slot → Cost → Totals
with_slot t slot cost = record { rom = t.rom + table_bytes slot; code = t.code + cost.code; time = t.time + cost.time; coded = t.coded + 1 }

-- with the slot of this number, where it is coded
abbrev pub with_number : Plan → List Cost → Totals → ℕ → Slot → Totals
with_number plan costs t number slot = if is_coded (standing_of plan number) then with_slot t slot (cost_at costs number) else t

-- with the slots from this number on
abbrev pub totals_from : Plan → List Cost → Totals → ℕ → List Slot → Totals
totals_from plan costs t number [] = t
totals_from plan costs t number (slot ∷ more) = totals_from plan costs (with_number plan costs t number slot) (number + 1) more

abbrev pub totals_of : Plan → List Cost → List Slot → Totals
totals_of plan costs slots = totals_from plan costs nothing 0 slots
