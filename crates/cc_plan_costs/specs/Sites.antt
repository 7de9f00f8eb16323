-- The accesses of a slot: how many there are at its points, or how often they are made.
use Rattle.std.specs.Prelude.{ℕ, ◌+◌, List, sum_by, if◌then◌else◌}
use Rattle.cc_cost_ranking.specs.declared.costs.Sites.{Sites}
use Rattle.cc_rules_flows.specs.CcFlow.declared.types.Point.{Point}
use Rattle.cc_program.specs.declared.program.Program.{Program}
use Rattle.cc_slots_accesses.specs.Arrays.{is_array}
use Rattle.cc_slots_types.specs.declared.slot.Slot.{Slot}
use Rattle.cc_rules_flows.specs.CcStateFacts.declared.facts.Facts.{Facts}
use Rattle.cc_plan_costs.specs.Counts.{weight_at}
use Rattle.cc_plan_costs.specs.Guards.{against_read, against_write, is_entered}

module _ (points : List Point) (counts : List ℕ) where
  -- how often some points are come to, where functions run so often
  abbrev pub total_of : List ℕ → ℕ
  total_of these = sum_by (weight_at points counts) these

  module _ {I : Type 0} (facts : Facts I) where
    abbrev pub guarded_weight : ℕ → ℕ → ℕ
    guarded_weight levels n = if is_entered points facts levels n then weight_at points counts n else 0

    -- how often those are come to at which a handler of one of some levels may enter
    abbrev pub guarded_of : ℕ → List ℕ → ℕ
    guarded_of levels these = sum_by (guarded_weight levels) these

    abbrev pub sites_of : Program → Slot → Sites
    sites_of p slot = record {
      reads = total_of slot.reads;
      writes = total_of slot.writes;
      guarded = guarded_of (against_read points facts p slot) slot.reads + guarded_of (against_write points facts p slot) slot.writes;
      array = is_array p slot.key;
    }
