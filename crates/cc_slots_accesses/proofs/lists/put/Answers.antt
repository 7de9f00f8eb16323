use Rattle.std.proofs.Common.{◌∙◌}
use Rattle.cc_slots_accesses.proofs.PutLemmas.{put-is}
use Rattle.cc_slots_accesses.proofs.lists.put.Goals as goal

pub returns : goal.returns
returns c =
    put-is c.args.lists.now c.args.number c.replace-list.new.dest c.of-2.result c.into_vec-items.result.items c.index-lists-number-2.result c.index-lists-number.result c.all.result.now c.args.access c.ends_at.result
    c.requires c.index-lists-number-2.is (c.into_vec-items.ensures ∙ c.replace-list.ensures.value)
    c.all.ensures c.ends_at.ensures c.if-ends_at.false (c.of-2.ensures ∙ c.in_ok-push.ensures.items)
