-- The functions so far, and those that are to come, are all.
use Rattle.std.proofs.Common.{◌<◌, ◌++◌, List, length, ap, ◌∙◌, arith}
use Rattle.cc_program.specs.declared.stmt.Stmt.{Stmt}
use Rattle.cc_flow.specs.Points.{total_of, body_count, body_points}
use Rattle.cc_flow.proofs.Functions.{funcs_room, funcs_more}
use Rattle.cc_flow.proofs.function.all_points.Goals as goal

pub put_body-requires : goal.put_body-requires
put_body-requires c =
    let l : c.loop-func.func < length c.args.funcs.now = omega (arith, c.loop-func-test.true) in
    let room = funcs_room c.args.funcs.now c.loop-func.func c.loop-func.number c.loop-func.points.items c.loop-func.first.items c.index-funcs-func.result l c.index-funcs-func.is c.loop-func.invariant in
    let body = ap body_count c.all-body.ensures in
    omega (arith, room, body, c.requires)

pub loop-func-preserved : goal.loop-func-preserved
loop-func-preserved c =
    let l : c.loop-func.func < length c.args.funcs.now = omega (arith, c.loop-func-test.true) in
    let points = c.loop-func.points.items in
    let body = ap total_of c.all-body.ensures in
    funcs_more c.args.funcs.now c.loop-func.func c.loop-func.number points c.loop-func.first.items c.index-funcs-func.result l c.index-funcs-func.is c.loop-func.invariant
    _ c.put_body.new.points.items c.push.new.self.items (omega (arith, body, c.size.ensures))
    (c.in_ok-put_body.ensures ∙ ap (λ (ss : List Stmt). points ++ body_points c.loop-func.func c.loop-func.number ss) c.all-body.ensures)
    c.in_ok-push.ensures.items
