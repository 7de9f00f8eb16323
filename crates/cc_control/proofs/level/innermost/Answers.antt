use Rattle.cc_control.proofs.LevelLemmas.{levels_of-innermost}
use Rattle.cc_control.proofs.level.innermost.Goals as goal

pub returns-clause-parts : goal.returns-clause-parts
returns-clause-parts c = levels_of-innermost c.args.levels.now c.split_last.result c.split_last.ensures.cases
