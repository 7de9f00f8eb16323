use Rattle.cc_state_shaped.proofs.Names.{all_same, not_same}
use Rattle.cc_state_shaped.proofs.keys.are_same.Goals as goal

pub returns-then-keys-others : goal.returns-then-keys-others
returns-then-keys-others c = all_same c.args.keys.now c.args.others.now c.have_same.result c.if-keys-others.true c.have_same.ensures

pub returns-else-keys-others : goal.returns-else-keys-others
returns-else-keys-others c = not_same c.args.keys.now c.args.others.now c.if-keys-others.false
