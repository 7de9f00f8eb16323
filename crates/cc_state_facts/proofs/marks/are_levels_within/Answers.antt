use Rattle.cc_state_facts.proofs.LevelBits.{within_test}
use Rattle.cc_state_facts.proofs.marks.are_levels_within.Goals as goal

pub returns : goal.returns
returns c = within_test c.args.levels c.args.others
