use Rattle.std.proofs.Common.{◌≡◌, map, take}
use Rattle.cc_lower_expressions.specs.Programs.{lower_func}
use Rattle.cc_lower_bodies.proofs.program.lower_funcs.Given as goal

abbrev pub invariant-loop-f : goal.invariant-loop-f
invariant-loop-f l = l.out.items ≡ map (lower_func l.p) (take l.f-index l.f-items)
