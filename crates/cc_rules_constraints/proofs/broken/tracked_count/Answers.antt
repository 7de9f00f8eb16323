use Rattle.std.proofs.Common.{arith, length, ap}
use Rattle.cc_rules_constraints.proofs.broken.tracked_count.Goals as goal
use Rattle.cc_rules_asked.proofs.CcStateKeys.FactCounts.{few_tracked}

pub overflow_cast-result : goal.overflow_cast-result
overflow_cast-result c = let few = few_tracked c.args.rules.now.program.now in omega (arith, few, ap length c.requires.tracked, ap length c.all.ensures)

pub returns : goal.returns
returns c = omega (arith, ap length c.requires.tracked, ap length c.all.ensures)
