use Rattle.std.proofs.Common.{◌≡◌, map, take}
use Rattle.cc_cells.specs.Cells.{cells_of}
use Rattle.cc_steps.specs.Whole.{values_over}
use Rattle.cc_steps.proofs.initial.statics.Given as goal

abbrev pub invariant-loop-object : goal.invariant-loop-object
invariant-loop-object l = cells_of l.all.items ≡ map (values_over l.structures) (take l.object-index l.objects)
