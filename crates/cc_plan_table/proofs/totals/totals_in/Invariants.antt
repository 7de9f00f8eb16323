use Rattle.std.proofs.Common.{◌≡◌, ◌≤◌, ◌+◌, ◌*◌, ◌^◌, length}
use Rattle.cc_plan_table.specs.Totals.{totals_from, totals_of}
use Rattle.cc_plan_table.proofs.totals.totals_in.Given as goal

abbrev pub invariant-loop-left : goal.invariant-loop-left
invariant-loop-left l = record {
  number : l.number + length l.left ≡ length l.slots;
  totals : totals_from l.plan l.costs l.totals l.number l.left ≡ totals_of l.plan l.costs l.slots;
  rom : l.totals.rom ≤ l.number * 2 ^ 96;
  code : l.totals.code ≤ l.number * 2 ^ 96;
  time : l.totals.time ≤ l.number * 2 ^ 96;
  coded : l.totals.coded ≤ l.number * 2 ^ 96;
}

abbrev pub decreases-loop-left : goal.decreases-loop-left
decreases-loop-left l = length l.left
