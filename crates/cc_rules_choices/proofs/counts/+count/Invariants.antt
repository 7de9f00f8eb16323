use Rattle.std.proofs.Common.{◌≡◌, ◌-◌, ◌^◌, take, min}
use Rattle.cc_flow.specs.Points.{total_of}
use Rattle.cc_flow.specs.View.{total_of_cases}
use Rattle.cc_rules_choices.proofs.counts.+count.Given as goal

abbrev pub invariant-count_list-loop-s : goal.invariant-count_list-loop-s
invariant-count_list-loop-s l = l.count ≡ min (total_of (take l.s-index l.list)) (2 ^ 64 - 1)

abbrev pub invariant-count_cases-loop-case : goal.invariant-count_cases-loop-case
invariant-count_cases-loop-case l = l.count ≡ min (total_of_cases (take l.case-index l.cases)) (2 ^ 64 - 1)
