use Rattle.std.proofs.Common.{◌≡◌, length}
use Rattle.cc_registers.proofs.KeptLemmas.{AreKeptBelow}
use Rattle.cc_registers.proofs.registers.registers_of.Given as goal

abbrev pub invariant-loop-local : goal.invariant-loop-local
invariant-loop-local l = (length l.kept.items ≡ l.local) × AreKeptBelow l.f l.kept.items l.local
