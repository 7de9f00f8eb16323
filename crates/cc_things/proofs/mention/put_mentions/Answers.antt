use Rattle.std.proofs.Common.{rules, ◌∙◌, ap, nat_eq}
use Rattle.std.specs.List.{list_any}
use Rattle.cc_unit.specs.Mentioned.{mentioned}
use Rattle.cc_things.specs.View.{views_of}
use Rattle.cc_things.proofs.Counted.{put-more, mention-same, used-is}
use Rattle.cc_things.proofs.mention.put_mentions.Goals as goal

pub loop-name-preserved : goal.loop-name-preserved
loop-name-preserved c =
    let names = c.all-names.result.now in
    let i = c.loop-name.name-index in
    record {
      counted = search rules;
      put = put-more c.args.text (mentioned names) names i c.name-item.result _ c.loop-name.mentions.items c.push.new.list.items (views_of c.args.mentions.now.items)
          c.in_ok-push.ensures c.loop-name.invariant.put c.loop-name-test.true c.name-item.is
          (mention-same c.args.text (mentioned names) i c.loop-name.position c.name-item.result _ c.loop-name.invariant.counted
          (used-is c.in_ok-used.used.items (mentioned names) i c.loop-name.position _ c.index-used.result.now c.index-used.ensures c.loop-name.invariant.counted c.in_ok-used.ensures.count (search rules)
          (λ k h. c.in_ok-used.ensures.flags k h ∙ ap (λ ns. list_any (nat_eq k) ns) (c.as_slice.ensures.value ∙ c.in_ok-numbers.ensures))));
    }
