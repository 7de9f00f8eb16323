use Rattle.std.proofs.Common.{◌≡◌, drop}
use Rattle.cc_operands.specs.Operands.{first_with}
use Rattle.cc_operands.proofs.operand.first_with.Given as goal

abbrev pub invariant-loop-t : goal.invariant-loop-t
invariant-loop-t l = first_with l.target l.n (drop l.t-index l.types) ≡ first_with l.target l.n l.types
