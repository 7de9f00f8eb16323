use Rattle.std.proofs.Common.{◌∙◌, sym}
use Rattle.cc_linked_names.proofs.Giving.{tags_wished, wished_more, wished_end}
use Rattle.cc_linked_names.specs.Given.{tag_wish}
use Rattle.cc_structures.specs.View.{known_of}
use Rattle.cc_structures.specs.declared.known.Known.{Known as KnownOf}
use Rattle.cc_linked_names.proofs.wishes.tag_wishes.Goals as goal

pub loop-known-preserved : goal.loop-known-preserved
loop-known-preserved c =
    wished_more (λ (k : KnownOf). tag_wish (known_of k)) c.args.firsts.now c.loop-known.known-index c.known-item.result c.loop-known.wishes.items c.push.new.self.items c.tag_wish.result c.loop-known-test.true c.known-item.is c.tag_wish.ensures c.in_ok-push.ensures.items c.loop-known.invariant

pub returns : goal.returns
returns c =
    wished_end (λ (k : KnownOf). tag_wish (known_of k)) c.args.firsts.now c.loop-known.known-index c.loop-known.wishes.items c.loop-known-test.false c.loop-known.invariant ∙ sym (tags_wished c.args.firsts.now)
