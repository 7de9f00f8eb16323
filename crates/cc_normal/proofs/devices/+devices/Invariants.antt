use Rattle.std.proofs.Common.{◌≡◌, take, map, Some}
use Rattle.std.specs.List.{flat_map}
use Rattle.cc_program.specs.declared.stmt.Case.{out-Case}
use Rattle.cc_syntax.specs.Normal.{next_of, devices_of, devices_in}
use Rattle.cc_normal.proofs.devices.+devices.Given as goal

abbrev pub invariant-behind_list-loop-s : goal.invariant-behind_list-loop-s
invariant-behind_list-loop-s l = next_of l.next (flat_map (λ ds. ds) (map devices_of (take l.s-index l.s-items))) ≡ Some l.last

abbrev pub invariant-behind_cases-loop-case : goal.invariant-behind_cases-loop-case
invariant-behind_cases-loop-case l = next_of l.next (flat_map (λ c. devices_in (out-Case c).body) (take l.case-index l.case-items)) ≡ Some l.last
