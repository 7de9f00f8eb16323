use Rattle.std.proofs.Common.{◌∙◌, sym}
use Rattle.cc_causes.proofs.Loops.{any_not, any_found, any_end}
use Rattle.cc_causes.specs.Causes.{is_main}
use Rattle.cc_things.specs.View.{thing_view}
use Rattle.cc_causes.proofs.causes.has_main.Goals as goal

pub loop-t-preserved : goal.loop-t-preserved
loop-t-preserved c = any_not thing_view is_main c.args.things.now c.loop-t.t-index c.t-item.result c.loop-t-test.true c.t-item.is c.loop-t.invariant (sym c.is_main.ensures ∙ c.if-is_main.false)

pub returns-then-is_main : goal.returns-then-is_main
returns-then-is_main c = sym (any_found thing_view is_main c.args.things.now c.loop-t.t-index c.t-item.result c.loop-t-test.true c.t-item.is c.loop-t.invariant (sym c.is_main.ensures ∙ c.if-is_main.true))

pub returns : goal.returns
returns c = sym (any_end thing_view is_main c.args.things.now c.loop-t.t-index c.loop-t-test.false c.loop-t.invariant)
