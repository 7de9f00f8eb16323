use Rattle.std.proofs.Common.{◌≡◌, take}
use Rattle.cc_cells.specs.Scalars.{structure_zeros}
use Rattle.cc_cells.proofs.scalars.structure_zeros.Given as goal

abbrev pub invariant-loop-structure : goal.invariant-loop-structure
invariant-loop-structure l = l.before.items ≡ structure_zeros (take l.structure-index l.structures)
