use Rattle.std.proofs.Common.{arith, ◌++◌, List, map, ap, ◌∙◌}
use Rattle.cc_program.specs.declared.stmt.Stmt.{Stmt}
use Rattle.cc_state_keys.specs.Addressed.{all_taken, taken_in_stmt, taken_in_func}
use Rattle.cc_state_keys.specs.Lists.{all_from}
use Rattle.cc_state_keys.proofs.Grown.{all_grown, whole}
use Rattle.cc_state_keys.proofs.text.put_taken_in_funcs.Goals as goal

pub loop-id-preserved : goal.loop-id-preserved
loop-id-preserved c =
    all_grown (taken_in_func c.args.p.now) c.args.keys.now.items c.loop-id.keys.items c.put_taken_in_list.new.keys.items c.all-func-items.result.now c.loop-id.id c.func-item.result
    c.loop-id.invariant (c.in_ok-put_taken_in_list.ensures ∙ ap (λ (ss : List Stmt). c.loop-id.keys.items ++ all_taken (map (taken_in_stmt c.args.p.now c.loop-id.id c.func-item.result) ss)) c.all-body.ensures) c.loop-id-test.true c.func-item.is

pub returns : goal.returns
returns c =
    whole (all_from (taken_in_func c.args.p.now) 0) c.args.keys.now.items c.loop-id.keys.items c.all-func-items.result.now c.args.p.now.funcs c.loop-id.id
    c.loop-id.invariant (omega (arith, c.loop-id-test.false)) c.all-func-items.ensures
