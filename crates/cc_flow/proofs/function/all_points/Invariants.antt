use Rattle.cc_flow.proofs.Functions.{FuncsLeft}
use Rattle.cc_flow.proofs.function.all_points.Given as goal

abbrev pub invariant-loop-func : goal.invariant-loop-func
invariant-loop-func l = FuncsLeft l.funcs l.func l.number l.points.items l.first.items
