use Rattle.cc_fix.proofs.Steps.{AreFrom}
use Rattle.cc_fix.specs.Work.{listed}
use Rattle.cc_fix.proofs.work.every.Given as goal

-- those from `number` on are pending
abbrev pub invariant-loop-number : goal.invariant-loop-number
invariant-loop-number g l = AreFrom l.number l.count l.work.pending.items (listed l.work)
