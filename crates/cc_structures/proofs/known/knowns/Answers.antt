use Rattle.std.proofs.Common.{◌∙◌, refl, rules, ap, sym, List}
use Rattle.std.proofs.lemmas.List.{take_all}
use Rattle.cc_structures.specs.Structures.{structures}
use Rattle.cc_structures.specs.View.{knowns_of, units_of}
use Rattle.cc_things.specs.declared.text.Text.{Text}
use Rattle.cc_structures.proofs.KnownLemmas.{source-more, knowns-nil, structures-nil}
use Rattle.cc_structures.proofs.known.knowns.Goals as goal

pub loop-x-init : goal.loop-x-init
loop-x-init c = record { counted = refl; put = ap knowns_of c.new-knowns.ensures.items ∙ (knowns-nil ∙ sym structures-nil) }

pub loop-x-preserved : goal.loop-x-preserved
loop-x-preserved c = record {
  counted = search rules;
  put = source-more c.args.texts.now c.loop-x.x-index c.loop-x.text c.x-item.result c.loop-x.knowns.items c.put_knowns.new.knowns.items c.in_ok-put_knowns.ensures c.loop-x.invariant.put c.loop-x.invariant.counted c.loop-x-test.true c.x-item.is;
}

pub returns : goal.returns
returns c = c.loop-x.invariant.put ∙ ap (λ (xs : List Text). structures (units_of xs)) (take_all c.loop-x.x-index c.args.texts.now c.loop-x-test.false)
