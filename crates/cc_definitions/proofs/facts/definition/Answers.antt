use Rattle.std.proofs.Common.{◌∙◌, map, ap, sym}
use Rattle.std.specs.Prelude.{find}
use Rattle.cc_definitions.proofs.Finding.{passed, found, nowhere, views-is}
use Rattle.cc_things.specs.Things.{is_definition}
use Rattle.cc_things.specs.View.{view_of}
use Rattle.cc_definitions.proofs.facts.definition.Goals as goal

pub loop-m-preserved : goal.loop-m-preserved
loop-m-preserved c =
    passed view_of is_definition c.as_slice-m-items.result.now c.loop-m.m-index c.m-item.result c.loop-m-test.true c.m-item.is c.loop-m.invariant
    (sym c.is_definition.ensures ∙ c.if-is_definition.false)

pub returns-then-is_definition : goal.returns-then-is_definition
returns-then-is_definition c =
    sym (ap (find is_definition) (views-is c.args.t.now.mentions.items ∙ ap (map view_of) (sym c.as_slice-m-items.ensures.value))
    ∙ found view_of is_definition c.as_slice-m-items.result.now c.loop-m.m-index c.m-item.result c.loop-m-test.true c.m-item.is c.loop-m.invariant
    (sym c.is_definition.ensures ∙ c.if-is_definition.true))

pub returns : goal.returns
returns c =
    sym (ap (find is_definition) (views-is c.args.t.now.mentions.items ∙ ap (map view_of) (sym c.as_slice-m-items.ensures.value))
    ∙ nowhere view_of is_definition c.as_slice-m-items.result.now c.loop-m.m-index c.loop-m-test.false c.loop-m.invariant)
