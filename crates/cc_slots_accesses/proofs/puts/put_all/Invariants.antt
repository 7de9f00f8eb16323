use Rattle.std.proofs.Common.{take}
use Rattle.cc_slots_accesses.proofs.PutAll.{ArePut}
use Rattle.cc_slots_accesses.proofs.puts.put_all.Given as goal

abbrev pub invariant-loop-key : goal.invariant-loop-key
invariant-loop-key l = ArePut l.p l.access l.fn.lists (take l.key-index l.named) l.lists
