use Rattle.std.proofs.Common.{◌≡◌, take}
use Rattle.std.specs.List.{filter}
use Rattle.cc_rules_flows.specs.Known.{is_of_other_cell}
use Rattle.cc_rules_flows.proofs.known.without_cell.Given as goal

abbrev pub invariant-loop-pair : goal.invariant-loop-pair
invariant-loop-pair l = l.kept.items ≡ filter (is_of_other_cell l.cell) (take l.pair-index l.pairs)
