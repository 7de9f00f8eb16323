use Rattle.std.proofs.Common.{◌≡◌, false, take}
use Rattle.cc_rules_sides.specs.Refined.{has_pairs_in}
use Rattle.cc_rules_sides.proofs.cells.has_pairs_in.Given as goal

abbrev pub invariant-loop-pair : goal.invariant-loop-pair
invariant-loop-pair l = has_pairs_in (take l.pair-index l.pairs) l.row ≡ false
