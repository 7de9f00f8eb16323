use Rattle.std.proofs.Common.{◌≡◌, ◌++◌, map, take}
use Rattle.cc_bins.specs.Placing.{field_of}
use Rattle.cc_bins.proofs.placing.add_fields.Given as goal

abbrev pub invariant-loop-placed : goal.invariant-loop-placed
invariant-loop-placed l = l.fields.items ≡ l.initial.fields.items ++ map (field_of l.word) (take l.placed-index l.slots)
