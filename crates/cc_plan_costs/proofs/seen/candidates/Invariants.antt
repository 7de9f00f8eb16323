use Rattle.std.proofs.Common.{◌≡◌, map, take}
use Rattle.cc_plan_legal.specs.Candidates.{candidate_of}
use Rattle.cc_slots_accesses.specs.Arrays.{is_array}
use Rattle.cc_plan_costs.proofs.seen.candidates.Given as goal

abbrev pub invariant-loop-slot : goal.invariant-loop-slot
invariant-loop-slot l = l.seen.items ≡ map (λ slot. candidate_of slot (is_array l.p slot.key)) (take l.slot-index l.slots)
