use Rattle.cc_cost.proofs.RoleLemmas.{profile-counted, counts-apart, weighed}
use Rattle.cc_cost.proofs.given.profile_of.Goals as goal

pub invariant_of-result : goal.invariant_of-result
invariant_of-result c = record {
  counted = profile-counted c.args.lines.now c.in_ok-counts.counts c.in_ok-counts.ensures;
  counts_apart = counts-apart c.args.lines.now c.in_ok-counts.counts c.in_ok-counts.ensures c.requires;
  weighed = weighed c.weight_for.result c.weight_for-2.result c.weight_for.ensures.bound c.weight_for-2.ensures.bound;
  code_budgeted = c.budget_for.ensures.bound;
  time_budgeted = c.budget_for-2.ensures.bound;
}
