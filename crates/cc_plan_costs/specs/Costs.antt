-- What coding a slot costs.
use Rattle.std.specs.Prelude.{◌≡◌, ◌≤◌, ◌^◌, ℕ, ◌+◌, ◌*◌, true, List, [], Option, Some, None, length}
use Rattle.cc_code.specs.declared.kinds.Coding.{Coding}
use Rattle.cc_code.specs.declared.kinds.Coding.TheVariants as coding
use Rattle.cc_code.specs.Codings.{kind_of}
use Rattle.cc_code.specs.Members.{has_coding, members_of}
use Rattle.cc_cost_ranking.specs.declared.costs.Cost.{Cost}
use Rattle.cc_cost_ranking.specs.Estimates.{cost, estimate_of}
use Rattle.cc_rules_flows.specs.CcFlow.declared.types.Point.{Point}
use Rattle.cc_program.specs.declared.program.Program.{Program}
use Rattle.cc_slots_types.specs.declared.reason.Reason.{Reason}
use Rattle.cc_slots_types.specs.declared.slot.Slot.{Slot}
use Rattle.cc_rules_flows.specs.CcStateFacts.declared.facts.Facts.{Facts}
use Rattle.cc_plan_costs.specs.Sites.{sites_of}

-- no more accesses than a program has points; and a slot without a reason has a coding
pub record IsPriceable (slot : Slot) : Type 0 where
  pub reads : length slot.reads ≤ 2 ^ 16
  pub writes : length slot.writes ≤ 2 ^ 16
  pub told : slot.reason ≡ None → has_coding slot.values ≡ true

abbrev pub coding_of : Slot → Coding
coding_of slot = kind_of slot.values slot.bits

-- how many members are told one by one
abbrev pub member_count : Slot → ℕ
member_count slot = length (members_of slot.values)

-- a slot with a reason is not coded
abbrev pub unless_reason : Option Reason → Cost → Cost
unless_reason None c = c
unless_reason (Some r) c = cost 0 0

-- the bytes of a slot's table: a scalar for each member
abbrev pub bytes_by : Coding → ℕ → ℕ → ℕ
bytes_by coding.Const members bytes = 0
bytes_by coding.Direct members bytes = 0
bytes_by (coding.Biased low) members bytes = 0
bytes_by coding.Table members bytes = members * bytes

abbrev pub table_bytes : Slot → ℕ
table_bytes slot = bytes_by (coding_of slot) (member_count slot) slot.bytes

module _ {I : Type 0} (points : List Point) (counts : List ℕ) (facts : Facts I) (p : Program) where
  -- code by how many accesses there are, and time by how often they are made
  abbrev pub accesses_cost : Slot → Cost
  accesses_cost slot =
      cost (estimate_of (sites_of points [] facts p slot) (coding_of slot) (member_count slot)).code
      (estimate_of (sites_of points counts facts p slot) (coding_of slot) (member_count slot)).time

  unfoldable pub cost_of : Slot → Cost
  cost_of slot = unless_reason slot.reason (accesses_cost slot)

  -- as it is ranked: with the bytes of its table
  unfoldable pub price_of : Slot → Cost
  price_of slot = unless_reason slot.reason (cost ((accesses_cost slot).code + table_bytes slot) (accesses_cost slot).time)
