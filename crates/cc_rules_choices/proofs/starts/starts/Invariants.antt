use Rattle.std.proofs.Common.{◌≡◌, ◌≤◌, ◌+◌, ◌++◌, drop, map, replicate, take}
use Rattle.cc_flow.specs.Laws.{starts}
use Rattle.cc_flow.specs.View.{case_total, total_of_cases}
use Rattle.cc_rules_choices.proofs.starts.starts.Given as goal

abbrev pub invariant-loop-case : goal.invariant-loop-case
invariant-loop-case l = record {
  waits : l.waiting ≤ l.case-index;
  here : l.number ≡ l.fn.first + total_of_cases (take l.case-index l.cases);
  all : l.all.items ++ starts l.number l.behind (replicate l.waiting 0 ++ map case_total (drop l.case-index l.cases)) ≡ starts l.fn.first l.behind (map case_total l.cases);
}
