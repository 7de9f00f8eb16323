use Rattle.std.proofs.Common.{rules}
use Rattle.std.proofs.lemmas.Fn.{always_returns_same}
use Rattle.cc_bins.specs.declared.types.Field.{Field}
use Rattle.cc_plan_choice.proofs.order.by_slot.Goals as goal

pub returns-clause-sorted : goal.returns-clause-sorted
returns-clause-sorted c = c.in_ok-sort_by_key.ensures.sorted (λ (f : Field). f.slot) (always_returns_same _ _ _ (λ a r q k. search rules))
