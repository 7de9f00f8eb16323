use Rattle.std.proofs.Common.{◌≡◌, map, take}
use Rattle.cc_lower_statements.specs.Statements.{lower_func}
use Rattle.cc_lower_statements.proofs.program.lower_funcs.Given as goal

abbrev pub invariant-loop-f : goal.invariant-loop-f
invariant-loop-f l = l.out.items ≡ map lower_func (take l.f-index l.f-items)
