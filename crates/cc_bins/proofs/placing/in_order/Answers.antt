use Rattle.std.proofs.Common.{rules}
use Rattle.std.proofs.lemmas.Fn.{always_returns_same}
use Rattle.cc_bins.specs.declared.types.Want.{Want}
use Rattle.cc_bins.proofs.placing.in_order.Goals as goal

pub returns-clause-sorted : goal.returns-clause-sorted
returns-clause-sorted c = c.in_ok-sort_by_key.ensures.sorted (λ (w : Want). (w.group, record { 0 = w.bits }, w.slot)) (always_returns_same _ _ _ (λ a r q k. search rules))
