use Rattle.std.proofs.Common.{◌≡◌, ◌≤◌, ◌++◌, map, drop, All}
use Rattle.cc_rules_again.specs.Again.{number_at}
use Rattle.cc_rules_numbered.specs.Numbered.{rule_view}
use Rattle.cc_rules_readers.specs.Points.{merged}
use Rattle.cc_rules_readers.proofs.lists.put_merged.Given as goal

abbrev pub invariant-loop-point : goal.invariant-loop-point
invariant-loop-point l = record {
  low : All (λ n. n ≤ 65536) l.left;
  list : l.list.items ++ map (number_at (rule_view l.rule)) (merged (drop l.point-index l.these) l.left) ≡ l.initial.list.items ++ map (number_at (rule_view l.rule)) (merged l.these l.initial.left);
}
