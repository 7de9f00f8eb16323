use Rattle.std.proofs.Common.{arith, length, ap}
use Rattle.cc_rules_asked.proofs.CcFlow.Paths.{all_counted}
use Rattle.cc_rules_asked.specs.CcFlow.declared.types.Flow.{Flow}
use Rattle.cc_rules_constraints.proofs.broken.point_count.Goals as goal

pub overflow_cast-result : goal.overflow_cast-result
overflow_cast-result c =
    let count = all_counted c.args.rules.now.program.now in omega (arith, count, c.requires.few, ap (λ (flow : Flow). length flow.points) c.requires.rules.flow, ap length c.all.ensures)

pub returns : goal.returns
returns c = let count = all_counted c.args.rules.now.program.now in omega (arith, count, ap (λ (flow : Flow). length flow.points) c.requires.rules.flow, ap length c.all.ensures)
