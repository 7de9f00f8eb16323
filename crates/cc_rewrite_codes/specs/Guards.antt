-- Where handlers may come between two accesses of a slot that handlers write, or access at all: the flag may be on, and a handler that may
-- enter there is one from which such an access is reached.
use Rattle.std.specs.Prelude.{Bool, List, false, not, slice_get, true, ℕ, ◌&&◌, ◌++◌}
use Rattle.std.specs.List.{list_any}
use Rattle.std.specs.Option.{option_map_or}
use Rattle.cc_state_points.specs.CcFlow.declared.types.Point.{Point}
use Rattle.cc_state_points.specs.CcFlow.Points.{flow_of}
use Rattle.cc_program.specs.declared.program.Program.{Program}
use Rattle.cc_slots.specs.Judged.{is_lone}
use Rattle.cc_slots_types.specs.declared.class.Class.{Class}
use Rattle.cc_slots_types.specs.declared.class.Class.TheVariants as class
use Rattle.cc_slots_types.specs.declared.slot.Slot.{Slot}
use Rattle.cc_state_points.specs.CcStateFacts.declared.facts.Facts.{Facts}
use Rattle.cc_state_points.specs.CcStateFacts.declared.facts.PointFact.{PointFact}
use Rattle.cc_state_points.specs.CcStateFacts.Facts.{fact_at, levels_of}
use Rattle.cc_state_points.specs.CcStateFacts.Levels.{one_may_enter}

abbrev pub is_written : Class → Bool
is_written class.Lone = false
is_written class.Read = false
is_written class.Written = true

module _ {I : Type 0} (p : Program) (facts : Facts I) where
  abbrev pub func_at : ℕ → ℕ
  func_at n = option_map_or (λ (q : Point). q.func) (slice_get (flow_of p).points n) 0

  abbrev pub may_be_on : ℕ → Bool
  may_be_on n = option_map_or (λ (fact : PointFact I). fact.on) (fact_at facts n) false

  -- while a run stands at the one point, a handler may enter from which the other is reached
  abbrev pub may_enter_from : ℕ → ℕ → Bool
  may_enter_from n h = one_may_enter (levels_of facts.levels (func_at n)) (levels_of facts.from (func_at h))

  abbrev pub may_come : ℕ → List ℕ → Bool
  may_come n accesses = may_be_on n && list_any (may_enter_from n) accesses

  abbrev pub may_write : ℕ → List Slot → Bool
  may_write n slots = list_any (λ (s : Slot). is_written s.class && may_come n s.writes) slots

  abbrev pub may_touch : ℕ → List Slot → Bool
  may_touch n slots = list_any (λ (s : Slot). not (is_lone s.class) && may_come n (s.reads ++ s.writes)) slots
