use Rattle.std.proofs.Common.{take}
use Rattle.std.specs.List.{AllZip}
use Rattle.cc_state_shape.specs.Lowest.{IsNoneOfResult}
use Rattle.cc_state_shape.proofs.facts.no_results.Given as goal

abbrev pub invariant-loop-func : goal.invariant-loop-func
invariant-loop-func g l = AllZip (IsNoneOfResult g.I.Concrete.Has) (take l.func-index l.funcs) l.sets.items
