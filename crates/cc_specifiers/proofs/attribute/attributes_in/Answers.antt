use Rattle.std.proofs.Common.{◌∙◌, Ok, refl, ap, sym, ℕ, List, Option}
use Rattle.cc_operands.specs.declared.rule.Rule.TheVariants as rule
use Rattle.cc_specifiers.specs.Attributes.{attribute_of, attributes_in}
use Rattle.cc_specifiers.specs.Places.{ahead}
use Rattle.cc_specifiers.specs.declared.attribute.Attribute.{Attribute}
use Rattle.cc_specifiers.proofs.Lists.{ahead-none, each-more, each-breaks, each-end}
use Rattle.cc_specifiers.proofs.attribute.attributes_in.Goals as goal

abbrev said : (List ℕ × Option (List ℕ)) → Option Attribute
said w = attribute_of w.0 w.1

pub loop-word-init : goal.loop-word-init
loop-word-init c = ap (λ (ms : List Attribute). ahead ms (attributes_in c.args.words.now)) c.new-out.ensures.items ∙ ahead-none (attributes_in c.args.words.now)

pub loop-word-preserved : goal.loop-word-preserved
loop-word-preserved c =
    let x = c.word-item.result in
    each-more rule.Attribute said attributes_in refl (λ _ _. refl) c.args.words.now c.loop-word.word-index c.loop-word.out.items c.loop-word.invariant x c.loop-word-test.true c.word-item.is c.in-Some.m
    (ap (λ (n : List ℕ). attribute_of n x.1) (sym c.all.ensures) ∙ (sym c.attribute_of.ensures ∙ c.in-Some.is)) c.push.new.self.items c.in_ok-push.ensures.items

pub returns-in_default : goal.returns-in_default
returns-in_default c =
    let x = c.word-item.result in
    each-breaks rule.Attribute said attributes_in refl (λ _ _. refl) c.args.words.now c.loop-word.word-index c.loop-word.out.items c.loop-word.invariant x c.loop-word-test.true c.word-item.is
    (ap (λ (n : List ℕ). attribute_of n x.1) (sym c.all.ensures) ∙ (sym c.attribute_of.ensures ∙ c.in_default.is))

pub returns : goal.returns
returns c =
    each-end rule.Attribute said attributes_in refl (λ _ _. refl) c.args.words.now c.loop-word.word-index c.loop-word.out.items c.loop-word.invariant c.loop-word-test.false
    ∙ ap (λ (ms : List Attribute). Ok ms) (sym c.of.ensures)
