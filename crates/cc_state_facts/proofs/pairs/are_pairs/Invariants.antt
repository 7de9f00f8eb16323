use Rattle.std.proofs.Common.{◌≡◌, true, take}
use Rattle.std.specs.List.{list_all}
use Rattle.cc_state_facts.specs.Orders.{is_same}
use Rattle.cc_state_facts.proofs.pairs.are_pairs.Given as goal

abbrev pub invariant-loop-pair : goal.invariant-loop-pair
invariant-loop-pair g l = list_all (is_same l.fact) (take l.pair-index l.pairs) ≡ true
