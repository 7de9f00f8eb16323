use Rattle.std.proofs.Common.{get_or, map}
use Rattle.std.proofs.lemmas.List.{get_or_default}
use Rattle.cc_definitions.specs.Definitions.{thing_at}
use Rattle.cc_linked_names.proofs.Giving.{wished_more, wished_end}
use Rattle.cc_linked_names.specs.Given.{thing_wish}
use Rattle.cc_things.specs.View.{thing_view}
use Rattle.cc_linked_names.proofs.wishes.thing_wishes.Goals as goal

pub loop-number-preserved : goal.loop-number-preserved
loop-number-preserved c =
    let named = c.args.named.now in
    let i = c.loop-number.number-index in
    wished_more (λ k. thing_wish (thing_at (map thing_view c.args.things.now) k)) named i (get_or named i 0) c.loop-number.wishes.items c.push.new.self.items c.thing_wish.result c.loop-number-test.true (get_or_default named i 0 (get_or named i 0) c.loop-number-test.true) c.thing_wish.ensures c.in_ok-push.ensures.items c.loop-number.invariant

pub returns : goal.returns
returns c = wished_end (λ k. thing_wish (thing_at (map thing_view c.args.things.now) k)) c.args.named.now c.loop-number.number-index c.loop-number.wishes.items c.loop-number-test.false c.loop-number.invariant
