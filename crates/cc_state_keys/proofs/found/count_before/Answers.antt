use Rattle.std.proofs.Common.{rules}
use Rattle.std.proofs.lemmas.List.Sorted.{IsPartitionPoint-from_clause}
use Rattle.cc_state_keys.specs.Order.{is_before}
use Rattle.cc_state_keys.proofs.Orders.{parted}
use Rattle.cc_state_keys.proofs.found.count_before.Goals as goal

pub returns-clause-point : goal.returns-clause-point
returns-clause-point c = λ up. IsPartitionPoint-from_clause (λ k. is_before k c.args.key) _ _ c.partition_point.ensures.partitioned (parted c.args.keys.now c.args.key up) (λ a r q k. search rules)
