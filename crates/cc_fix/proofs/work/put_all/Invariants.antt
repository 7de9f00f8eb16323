use Rattle.std.proofs.Common.{take}
use Rattle.cc_fix.specs.Work.{listed, ArePut}
use Rattle.cc_fix.proofs.work.put_all.Given as goal

abbrev pub invariant-loop-index : goal.invariant-loop-index
invariant-loop-index g l = ArePut (take l.index-index l.list) l.fn.work.pending.items (listed l.fn.work) l.work.pending.items (listed l.work)
