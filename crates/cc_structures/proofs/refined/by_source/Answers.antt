use Rattle.std.proofs.Common.{◌∙◌, ap, length, take, drop}
use Rattle.cc_structures.proofs.Steps.{sources-step, sources-end}
use Rattle.cc_structures.proofs.refined.by_source.Goals as goal

pub loop-x-preserved : goal.loop-x-preserved
loop-x-preserved c =
    sources-step c.args.texts.now c.loop-x.x-index c.x-item.result c.loop-x.sources.items c.push.new.self.items _ c.loop-x.rest.now c.of.result c.split_front-parts.result.1.now
    c.loop-x-test.true c.x-item.is c.in_ok-push.ensures.items
    (c.of.ensures ∙ (c.in_ok-from_slice.ensures.items ∙ (c.split_front-parts.ensures.front ∙ ap (λ l. take (length l) c.loop-x.rest.now) c.all.ensures)))
    (c.split_front-parts.ensures.others ∙ ap (λ l. drop (length l) c.loop-x.rest.now) c.all.ensures) c.loop-x.invariant

pub returns : goal.returns
returns c = sources-end c.args.texts.now c.loop-x.x-index c.loop-x.sources.items _ c.loop-x.rest.now c.loop-x-test.false c.loop-x.invariant
