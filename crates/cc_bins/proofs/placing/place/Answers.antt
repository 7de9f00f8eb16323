use Rattle.std.proofs.Common.{◌<◌, ◌^◌, ap, ◌∙◌, subst, All}
use Rattle.std.proofs.lemmas.Result.{IfOk-weaker}
use Rattle.cc_bins.specs.declared.types.Want.{Want}
use Rattle.cc_bins.specs.Placing.{opens, bins_of}
use Rattle.cc_bins.proofs.Once.{words_few, one_field}
use Rattle.cc_bins.proofs.placing.place.Goals as goal

pub kept-requires : goal.kept-requires
kept-requires c =
    let order = c.in_ok-order.order.items in
    let slots = subst (All (λ (x : Want). x.slot < 2 ^ 32)) c.deref.ensures.value c.in_ok-words.ensures.slots in
    let e = c.deref-2.ensures.value ∙ c.in_ok-words.ensures.words ∙ ap opens c.deref.ensures.value in
    words_few (2 ^ 32) c.args.wants.now order c.in_ok-order.ensures.permuted c.requires.slots slots c.deref-2.result.now e

pub returns-clause-once : goal.returns-clause-once
returns-clause-once c =
    let e = c.deref-2.ensures.value ∙ c.in_ok-words.ensures.words ∙ ap opens c.deref.ensures.value in
    IfOk-weaker c.kept.result _ _ (λ bins h slot. one_field slot c.args.wants.now c.in_ok-order.order.items c.in_ok-order.ensures.permuted c.requires.slots bins (h ∙ ap bins_of e)) c.kept.ensures
