use Rattle.std.proofs.Common.{◌≡◌, ◌+◌, map, take}
use Rattle.cc_lower_continues.specs.Continues.{case_flagging, flags_of, flagged_list, flags_in_cases, cases_become}
use Rattle.cc_lower_continues.proofs.statements.+flagged.Given as goal

abbrev pub invariant-flagged_list-loop-s : goal.invariant-flagged_list-loop-s
invariant-flagged_list-loop-s l = (l.out.items ≡ flagged_list (take l.s-index l.s-items) l.first) × (l.behind ≡ l.first + flags_of (take l.s-index l.s-items))

abbrev pub invariant-flagged_cases-loop-case : goal.invariant-flagged_cases-loop-case
invariant-flagged_cases-loop-case l =
    (l.out.items ≡ cases_become (map case_flagging (take l.case-index l.case-items)) l.first) × (l.behind ≡ l.first + flags_in_cases (map case_flagging (take l.case-index l.case-items)))
