use Rattle.std.proofs.Common.{◌≡◌, take}
use Rattle.std.specs.List.{filter}
use Rattle.cc_state_facts.specs.Orders.{is_same}
use Rattle.cc_state_facts.proofs.pairs.common_pairs.Given as goal

abbrev pub invariant-loop-pair : goal.invariant-loop-pair
invariant-loop-pair g l = l.common.items ≡ filter (is_same l.fact) (take l.pair-index l.pairs)
