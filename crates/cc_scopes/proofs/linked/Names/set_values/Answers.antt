use Rattle.cc_scopes.specs.Definitions.{with_values}
use Rattle.cc_scopes.proofs.LinkedLemmas.{change_at-set}
use Rattle.cc_scopes.proofs.linked.Names.set_values.Goals as goal

pub returns-then-id-len : goal.returns-then-id-len
returns-then-id-len c = change_at-set (with_values c.args.leaves) c.args.self.now.all.items c.args.id c.index_mut-d.result.now c.index_mut-d.ensures.value
