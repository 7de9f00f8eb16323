use Rattle.std.proofs.Common.{◌∙◌, ap, sym, map, List}
use Rattle.std.proofs.lemmas.List.{take_all}
use Rattle.cc_things.specs.Things.{identities, things_in, numbers_in}
use Rattle.cc_things.specs.View.{view_of, views_of, identity_view, thing_view}
use Rattle.cc_things.specs.declared.mention.Mention.{Mention as MentionOf}
use Rattle.cc_things.proofs.Counted.{views-nil, views-take}
use Rattle.cc_things.proofs.OneMore.{identities-step, things-step, numbers-step, identities-nil, things-nil, numbers-nil}
use Rattle.cc_things.proofs.thing.put_all.Goals as goal

pub loop-m-init : goal.loop-m-init
loop-m-init c = record {
  identities = c.requires.identities ∙ sym (ap identities views-nil ∙ identities-nil);
  things = ap (map thing_view) c.requires.things ∙ sym (ap things_in views-nil ∙ things-nil);
  numbers = c.requires.numbers ∙ sym (ap numbers_in views-nil ∙ numbers-nil);
}

pub loop-m-preserved : goal.loop-m-preserved
loop-m-preserved c =
    let ms = c.args.mentions.now in
    let i = c.loop-m.m-index in
    let m = c.m-item.result in
    let more = views-take ms i m c.loop-m-test.true c.m-item.is in
    let its = c.identity_of-identity.ensures in
    let was = c.loop-m.invariant.identities in
    let number = c.in_ok-number.ensures.number in
    record {
      identities = identities-step _ _ (view_of m) (identity_view c.identity_of-identity.result) more its _ _ c.in_ok-number.ensures.identities was;
      things = things-step _ _ (view_of m) (identity_view c.identity_of-identity.result) more its _ _ _ c.in_ok-number.number c.in_ok-put.ensures c.loop-m.invariant.things was number;
      numbers = numbers-step _ _ (view_of m) (identity_view c.identity_of-identity.result) more its _ _ _ c.in_ok-number.number c.in_ok-push.ensures c.loop-m.invariant.numbers was number;
    }

pub returns-clause-things : goal.returns-clause-things
returns-clause-things c =
    c.loop-m.invariant.things ∙ ap (λ (ms : List MentionOf). things_in (views_of ms)) (take_all c.loop-m.m-index c.args.mentions.now c.loop-m-test.false)

pub returns-clause-numbers : goal.returns-clause-numbers
returns-clause-numbers c =
    c.loop-m.invariant.numbers ∙ ap (λ (ms : List MentionOf). numbers_in (views_of ms)) (take_all c.loop-m.m-index c.args.mentions.now c.loop-m-test.false)
