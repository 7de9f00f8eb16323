use Rattle.std.proofs.Common.{take}
use Rattle.std.specs.List.{AllZip}
use Rattle.cc_state_shape.specs.Lowest.{IsNoneOfKey}
use Rattle.cc_state_shape.proofs.facts.no_values.Given as goal

abbrev pub invariant-loop-key : goal.invariant-loop-key
invariant-loop-key g l = AllZip (IsNoneOfKey g.I.Concrete.Has l.p) (take l.key-index l.keys) l.sets.items
