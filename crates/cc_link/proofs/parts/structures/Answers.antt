use Rattle.std.proofs.Common.{◌≡◌, ◌∙◌, ◌+◌, ◌++◌, [], ◌∷◌, Some, ap}
use Rattle.std.specs.Prelude.{slice_get}
use Rattle.cc_link.proofs.Loops.{tagged, with_tags}
use Rattle.cc_relocation.proofs.Locals.{pairs_more, pairs_short, pairs_end}
use Rattle.cc_link.proofs.parts.structures.Goals as goal

pub returns-in_default : goal.returns-in_default
returns-in_default c =
    let tags = c.args.tags.now in
    c.of.ensures
    ∙ (pairs_short (tagged c.args.numbers.now) tags c.args.firsts.now c.loop-known.known-index c.loop-known.structures.items (c.in_default.ensures ∙ ap (slice_get tags) c.loop-known.invariant.at) c.loop-known.invariant.done
    ∙ with_tags c.args.numbers.now tags c.args.firsts.now)

pub loop-known-preserved : goal.loop-known-preserved
loop-known-preserved c =
    let f = tagged c.args.numbers.now in
    let tags = c.args.tags.now in
    let done = c.loop-known.structures.items in
    let there : Some c.in-Some.tag.now ≡ slice_get tags c.loop-known.known-index = c.in-Some.ensures ∙ ap (slice_get tags) c.loop-known.invariant.at in
    let all : c.push.new.self.items ≡ done ++ f (c.in-Some.tag.now, c.known-item.result) ∷ [] = c.in_ok-push.ensures.items ∙ ap (λ v. done ++ v ∷ []) c.in_ok-tagged.ensures in
    record {
      at = ap (λ n. n + 1) c.loop-known.invariant.at;
      done = pairs_more f tags c.args.firsts.now c.loop-known.known-index c.in-Some.tag.now c.known-item.result done c.push.new.self.items there c.loop-known-test.true c.known-item.is c.loop-known.invariant.done all;
    }

pub returns : goal.returns
returns c =
    c.of-2.ensures
    ∙ (pairs_end (tagged c.args.numbers.now) c.args.tags.now c.args.firsts.now c.loop-known.known-index c.loop-known.structures.items c.loop-known-test.false c.loop-known.invariant.done
    ∙ with_tags c.args.numbers.now c.args.tags.now c.args.firsts.now)
