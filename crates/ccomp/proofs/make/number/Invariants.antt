use Rattle.ccomp.proofs.Numbers.{ReadTo}
use Rattle.ccomp.proofs.make.number.Given as goal

abbrev pub invariant-loop-byte : goal.invariant-loop-byte
invariant-loop-byte l = ReadTo l.word l.byte-index l.number
