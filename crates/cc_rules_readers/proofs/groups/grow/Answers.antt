use Rattle.std.proofs.Common.{ap, ◌∙◌}
use Rattle.cc_rules_readers.specs.Points.{list_at}
use Rattle.cc_rules_readers.proofs.Grouping.{empty_behind}
use Rattle.cc_rules_readers.proofs.groups.grow.Goals as goal

pub loop-alloc-preserved : goal.loop-alloc-preserved
loop-alloc-preserved c b = ap (λ ls. list_at ls b) c.in_ok-push.ensures.items ∙ (empty_behind c.loop-alloc.lists.items c.new.result b c.new.ensures.items ∙ c.loop-alloc.invariant b)
