use Rattle.std.proofs.Common.{◌∙◌, map, ap, sym}
use Rattle.std.specs.List.{list_all}
use Rattle.std.specs.Prelude.{Bool}
use Rattle.cc_definitions.proofs.Finding.{all_passed, one_fails, all_end, views-is}
use Rattle.cc_definitions.specs.Handlers.{takes_and_gives_nothing}
use Rattle.cc_program.specs.declared.types.Shape.{out-Shape}
use Rattle.cc_things.specs.Mentions.{Mention}
use Rattle.cc_things.specs.View.{view_of}
use Rattle.cc_definitions.proofs.handler.has_handler_type.Goals as goal

abbrev fits : Mention → Bool
fits m = takes_and_gives_nothing (out-Shape m.name.ctype.shape)

pub loop-m-preserved : goal.loop-m-preserved
loop-m-preserved c =
    all_passed view_of fits c.as_slice-m-items.result.now c.loop-m.m-index c.m-item.result c.loop-m-test.true c.m-item.is c.loop-m.invariant
    (sym c.takes_and_gives_nothing.ensures ∙ c.if-not-takes_and_gives_nothing.false)

pub returns-then-not-takes_and_gives_nothing : goal.returns-then-not-takes_and_gives_nothing
returns-then-not-takes_and_gives_nothing c =
    sym (ap (list_all fits) (views-is c.args.t.now.mentions.items ∙ ap (map view_of) (sym c.as_slice-m-items.ensures.value))
    ∙ one_fails view_of fits c.as_slice-m-items.result.now c.loop-m.m-index c.m-item.result c.loop-m-test.true c.m-item.is c.loop-m.invariant
    (sym c.takes_and_gives_nothing.ensures ∙ c.if-not-takes_and_gives_nothing.true))

pub returns : goal.returns
returns c =
    sym (ap (list_all fits) (views-is c.args.t.now.mentions.items ∙ ap (map view_of) (sym c.as_slice-m-items.ensures.value))
    ∙ all_end view_of fits c.as_slice-m-items.result.now c.loop-m.m-index c.loop-m-test.false c.loop-m.invariant)
