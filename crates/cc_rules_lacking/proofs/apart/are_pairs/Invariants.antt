use Rattle.std.proofs.Common.{◌≡◌, true, take}
use Rattle.std.specs.List.{list_all}
use Rattle.cc_rules_lacking.proofs.apart.are_pairs.Given as goal
use Rattle.cc_rules_asked.specs.CcStateFacts.Orders.{is_same}

abbrev pub invariant-loop-pair : goal.invariant-loop-pair
invariant-loop-pair g l = list_all (is_same l.flow) (take l.pair-index l.pairs) ≡ true
