use Rattle.std.proofs.Common.{◌∙◌, ap, sym}
use Rattle.std.specs.Prelude.{option_and_then}
use Rattle.cc_definitions.proofs.Finding.{passed, found, nowhere}
use Rattle.cc_causes.specs.Causes.{is_twice}
use Rattle.cc_things.specs.Things.{own_name}
use Rattle.cc_things.specs.View.{thing_view}
use Rattle.cc_causes.proofs.causes.first_defined_twice.Goals as goal

pub loop-t-preserved : goal.loop-t-preserved
loop-t-preserved c = passed thing_view is_twice c.args.things.now c.loop-t.t-index c.t-item.result c.loop-t-test.true c.t-item.is c.loop-t.invariant (sym c.is_defined_twice.ensures ∙ c.if-is_defined_twice.false)

pub returns-then-is_defined_twice : goal.returns-then-is_defined_twice
returns-then-is_defined_twice c =
    c.own_name.ensures ∙ sym (ap (option_and_then own_name) (found thing_view is_twice c.args.things.now c.loop-t.t-index c.t-item.result c.loop-t-test.true c.t-item.is c.loop-t.invariant (sym c.is_defined_twice.ensures ∙ c.if-is_defined_twice.true)))

pub returns : goal.returns
returns c = sym (ap (option_and_then own_name) (nowhere thing_view is_twice c.args.things.now c.loop-t.t-index c.loop-t-test.false c.loop-t.invariant))
