use Rattle.std.proofs.Common.{◌≡◌, ◌-◌, ◌^◌, take, min}
use Rattle.cc_flow.specs.Points.{count_in}
use Rattle.cc_flow.proofs.counts.count_funcs.Given as goal

abbrev pub invariant-loop-f : goal.invariant-loop-f
invariant-loop-f l = l.count ≡ min (count_in (take l.f-index l.funcs)) (2 ^ 64 - 1)
