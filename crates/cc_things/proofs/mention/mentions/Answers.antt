use Rattle.std.proofs.Common.{◌∙◌, refl, rules, ap, sym, List}
use Rattle.std.proofs.lemmas.List.{take_all}
use Rattle.cc_things.specs.Mentions.{mentions}
use Rattle.cc_things.specs.View.{views_of}
use Rattle.cc_things.specs.declared.text.Text.{Text}
use Rattle.cc_things.proofs.Counted.{source-more, views-nil, mentions-nil}
use Rattle.cc_things.proofs.mention.mentions.Goals as goal

pub loop-x-init : goal.loop-x-init
loop-x-init c = record { counted = refl; put = ap views_of c.new-mentions.ensures.items ∙ (views-nil ∙ sym mentions-nil) }

pub loop-x-preserved : goal.loop-x-preserved
loop-x-preserved c = record {
  counted = search rules;
  put = source-more c.args.texts.now c.loop-x.x-index c.loop-x.text c.x-item.result c.loop-x.mentions.items c.put_mentions.new.mentions.items c.in_ok-put_mentions.ensures c.loop-x.invariant.put c.loop-x.invariant.counted c.loop-x-test.true c.x-item.is;
}

pub returns : goal.returns
returns c = c.loop-x.invariant.put ∙ ap (λ (xs : List Text). mentions xs) (take_all c.loop-x.x-index c.args.texts.now c.loop-x-test.false)
