use Rattle.std.proofs.Common.{◌≡◌, take}
use Rattle.std.specs.List.{filter}
use Rattle.cc_rules_raised.specs.Completed.{is_other_pair}
use Rattle.cc_rules_raised.proofs.changed.other_pairs.Given as goal

abbrev pub invariant-loop-pair : goal.invariant-loop-pair
invariant-loop-pair l = l.others.items ≡ filter (is_other_pair l.register l.cell) (take l.pair-index l.pairs)
