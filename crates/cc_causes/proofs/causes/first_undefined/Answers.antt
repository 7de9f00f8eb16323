use Rattle.std.proofs.Common.{◌∙◌, ap, sym}
use Rattle.std.specs.Prelude.{option_and_then}
use Rattle.cc_definitions.proofs.Finding.{passed, found, nowhere}
use Rattle.cc_causes.specs.Causes.{is_undefined}
use Rattle.cc_things.specs.Things.{own_name}
use Rattle.cc_things.specs.View.{thing_view}
use Rattle.cc_causes.proofs.causes.first_undefined.Goals as goal

pub loop-t-preserved : goal.loop-t-preserved
loop-t-preserved c = passed thing_view is_undefined c.args.things.now c.loop-t.t-index c.t-item.result c.loop-t-test.true c.t-item.is c.loop-t.invariant (sym c.is_undefined.ensures ∙ c.if-is_undefined.false)

pub returns-then-is_undefined : goal.returns-then-is_undefined
returns-then-is_undefined c =
    c.own_name.ensures ∙ sym (ap (option_and_then own_name) (found thing_view is_undefined c.args.things.now c.loop-t.t-index c.t-item.result c.loop-t-test.true c.t-item.is c.loop-t.invariant (sym c.is_undefined.ensures ∙ c.if-is_undefined.true)))

pub returns : goal.returns
returns c = sym (ap (option_and_then own_name) (nowhere thing_view is_undefined c.args.things.now c.loop-t.t-index c.loop-t-test.false c.loop-t.invariant))
