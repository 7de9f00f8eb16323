use Rattle.std.proofs.Common.{◌≡◌, ◌++◌, List, take}
use Rattle.std.specs.List.{AllZip}
use Rattle.cc_rules_asked.specs.CcPlaces.declared.abs.Abs.{Abs}
use Rattle.cc_state_shape.specs.Empty.{IsNone}
use Rattle.cc_rules_raised.proofs.completed.put_nones.Given as goal

abbrev pub invariant-loop-kind : goal.invariant-loop-kind
invariant-loop-kind g l = (nones : List (Abs g.row.I.Denot)) × (l.sets.items ≡ l.initial.sets.items ++ nones) × AllZip (IsNone g.I.Concrete.Has) (take l.kind-index l.kinds) nones
