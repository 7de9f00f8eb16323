use Rattle.std.proofs.Common.{◌≡◌, take}
use Rattle.std.specs.List.{flat_map}
use Rattle.cc_type.specs.Defined.{defined_by}
use Rattle.cc_type.proofs.defined.defined_names.Given as goal

abbrev pub invariant-loop-item : goal.invariant-loop-item
invariant-loop-item l = l.names.items ≡ flat_map (λ i. defined_by i.node) (take l.item-index l.item-items)
