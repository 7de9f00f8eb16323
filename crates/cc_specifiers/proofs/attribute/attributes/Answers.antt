use Rattle.std.proofs.Common.{◌∙◌, Ok, refl, ap, sym, List}
use Rattle.cc_specifiers.specs.Attributes.{attribute_judged, attributes}
use Rattle.cc_specifiers.specs.Places.{JudgedAt, behind, judged_at}
use Rattle.cc_specifiers.specs.declared.attribute.Attribute.{Attribute}
use Rattle.cc_specifiers.specs.declared.attribute.Entity.{Entity}
use Rattle.cc_specifiers.proofs.Lists.{behind-none, judged-more, judged-end}
use Rattle.cc_tree.specs.declared.at.At.{At}
use Rattle.cc_tree.specs.declared.tree.Attr.{Attr}
use Rattle.cc_specifiers.proofs.attribute.attributes.Goals as goal

abbrev said : List Entity → At Attr → JudgedAt (List Attribute)
said entities a = judged_at a.at (attribute_judged entities a.node.words)

abbrev there : At Attr → List Attribute → At (List Attribute)
there a ms = record { at = a.at; node = ms }

pub loop-a-init : goal.loop-a-init
loop-a-init c =
    let all = attributes c.args.entities.now c.args.attrs.now in
    ap (λ (ms : List (At (List Attribute))). behind ms all) c.new-out.ensures.items ∙ behind-none all

pub loop-a-preserved : goal.loop-a-preserved
loop-a-preserved c =
    let entities = c.args.entities.now in
    let a = c.a-item.result in
    judged-more (said entities) there (attributes entities) refl (λ _ _. refl) c.args.attrs.now c.loop-a.a-index c.loop-a.out.items c.loop-a.invariant a c.loop-a-test.true c.a-item.is c.in-Ok.node
    (ap (judged_at a.at) (ap (attribute_judged entities) (sym c.all.ensures) ∙ c.in-Ok.ensures)) c.push.new.self.items c.in_ok-push-in-Ok.ensures.items

pub returns : goal.returns
returns c =
    let entities = c.args.entities.now in
    judged-end (said entities) there (attributes entities) refl (λ _ _. refl) c.args.attrs.now c.loop-a.a-index c.loop-a.out.items c.loop-a.invariant c.loop-a-test.false
    ∙ ap (λ (ms : List (At (List Attribute))). Ok ms) (sym c.of.ensures)
