use Rattle.std.proofs.Common.{◌≡◌, ◌++◌, map, take}
use Rattle.cc_rules_again.specs.Again.{number_at}
use Rattle.cc_rules_numbered.specs.Numbered.{rule_view}
use Rattle.cc_rules_readers.proofs.lists.put_rule.Given as goal

abbrev pub invariant-loop-point : goal.invariant-loop-point
invariant-loop-point l = l.list.items ≡ l.initial.list.items ++ map (number_at (rule_view l.rule)) (take l.point-index l.points)
