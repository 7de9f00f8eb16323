use Rattle.std.proofs.Common.{length}
use Rattle.cc_rules_flows.proofs.statements.+descended.Given as goal

abbrev pub decreases-descended : goal.decreases-descended
decreases-descended l = length l.path.now
