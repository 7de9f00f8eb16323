use Rattle.std.proofs.Common.{◌≡◌, take}
use Rattle.std.specs.List.{filter}
use Rattle.cc_rules_flows.specs.Known.{is_of_other_register}
use Rattle.cc_rules_flows.proofs.known.without_register.Given as goal

abbrev pub invariant-loop-pair : goal.invariant-loop-pair
invariant-loop-pair l = l.kept.items ≡ filter (is_of_other_register l.register) (take l.pair-index l.pairs)
