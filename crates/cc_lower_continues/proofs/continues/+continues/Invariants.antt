use Rattle.std.proofs.Common.{◌≡◌, map, take}
use Rattle.cc_lower_continues.specs.Continues.{any_continues, any_case_continues, flagging, case_flagging}
use Rattle.cc_lower_continues.proofs.continues.+continues.Given as goal

abbrev pub invariant-list_continues-loop-s : goal.invariant-list_continues-loop-s
invariant-list_continues-loop-s l = l.found ≡ any_continues (map flagging (take l.s-index l.s-items))

abbrev pub invariant-cases_continue-loop-case : goal.invariant-cases_continue-loop-case
invariant-cases_continue-loop-case l = l.found ≡ any_case_continues (map case_flagging (take l.case-index l.case-items))
