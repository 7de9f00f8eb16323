use Rattle.std.proofs.Common.{length}
use Rattle.cc_rules_made.proofs.handlers.+named_level.Given as goal

abbrev pub decreases-named_level : goal.decreases-named_level
decreases-named_level l = length l.levels.now
