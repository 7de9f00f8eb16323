use Rattle.std.proofs.Common.{◌∙◌, [], get_or, map, ap}
use Rattle.std.proofs.lemmas.List.{get_or_default}
use Rattle.std.specs.Prelude.{filter_map}
use Rattle.cc_link.proofs.Loops.{made_more, made_end}
use Rattle.cc_link.specs.Linked.{func_at}
use Rattle.cc_linked_names.specs.Given.{given_name}
use Rattle.cc_things.specs.View.{thing_view}
use Rattle.cc_link.proofs.parts.funcs.Goals as goal

pub loop-function-preserved : goal.loop-function-preserved
loop-function-preserved c =
    let i = c.loop-function.function-index in
    made_more (func_at (map thing_view c.args.things.now) (given_name c.args.given.now) c.args.roles.now c.args.ids.now) c.as_slice-function-items.result.now i c.function-item.result c.in_ok-func.func c.loop-function.funcs.items c.put.new.made.items c.loop-function-test.true c.function-item.is c.in_ok-func.ensures c.loop-function.invariant c.in_ok-put.ensures

pub returns : goal.returns
returns c = c.of.ensures ∙ (made_end (func_at (map thing_view c.args.things.now) (given_name c.args.given.now) c.args.roles.now c.args.ids.now) c.as_slice-function-items.result.now c.loop-function.function-index c.loop-function.funcs.items c.loop-function-test.false c.loop-function.invariant ∙ ap (filter_map (func_at (map thing_view c.args.things.now) (given_name c.args.given.now) c.args.roles.now c.args.ids.now)) c.as_slice-function-items.ensures.value)
