use Rattle.std.proofs.Common.{rules}
use Rattle.cc_rules_readers.proofs.Grouping.{one_longer}
use Rattle.cc_rules_readers.proofs.groups.put_at.Goals as goal

pub returns : goal.returns
returns c b = one_longer c.args.lists.now.items c.args.number c.push.new.self c.index_mut.result.now c.args.point b (search rules) c.index_mut.ensures.value c.in_ok-push.ensures.items
