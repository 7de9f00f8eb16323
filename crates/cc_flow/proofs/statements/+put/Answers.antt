use Rattle.std.proofs.Common.{arith, ◌≡◌, ◌+◌, ◌++◌, List, length, ap, ◌∙◌}
use Rattle.cc_program.specs.declared.stmt.Case.{out-Case}
use Rattle.cc_program.specs.declared.stmt.Stmt.{Stmt}
use Rattle.cc_flow.specs.Points.{pieces, size_of, total_of, list_points}
use Rattle.cc_flow.specs.View.{case_total, total_of_cases}
use Rattle.cc_flow.proofs.Cases.{cases_room, cases_more}
use Rattle.cc_flow.proofs.Lists.{list_room, list_more}
use Rattle.cc_flow.proofs.Pieces.{count-If, count-While, count-Switch, length-le, part_le}
use Rattle.cc_flow.proofs.statements.+put.Goals as goal

pub put_stmt-put_if-requires : goal.put_stmt-put_if-requires
put_stmt-put_if-requires t c =
    let count = count-If c.args.s.now c.in-If.field-0 c.in-If.a c.in-If.b c.in-If.is in
    let these = ap total_of c.all.ensures in
    let those = ap total_of c.all-in-If.ensures in
    (omega (arith, count, these, those), omega (arith, count, these, those, c.requires))

pub put_stmt-put_loop-requires : goal.put_stmt-put_loop-requires
put_stmt-put_loop-requires t c =
    let count = count-While c.args.s.now c.in-While.field-0 c.in-While.a c.in-While.is in
    let body = ap total_of c.all-in-While.ensures in
    (omega (arith, count, body), omega (arith, count, body, c.requires))

pub put_stmt-put_switch-requires : goal.put_stmt-put_switch-requires
put_stmt-put_switch-requires t c =
    let count = count-Switch c.args.s.now c.in-Switch.field-0 c.in-Switch.cases c.in-Switch.is in
    let cases = ap total_of_cases c.all-in-Switch.ensures in
    (omega (arith, count, cases), omega (arith, count, cases, c.requires))

pub put_if-put_list-requires-2 : goal.put_if-put_list-requires-2
put_if-put_list-requires-2 t c =
    let few = length-le c.args.a.now in
    (omega arith, (omega (arith, c.size-these.ensures, c.requires), omega (arith, few, c.size-these.ensures)))

pub put_list-put_stmt-requires : goal.put_list-put_stmt-requires
put_list-put_stmt-requires t c =
    let room = list_room c.args.list.now c.args.path.now c.args.site (c.args.site.number + c.size.result) (c.args.points.now.items ++ list_points (pieces c.args.list.now) c.args.path.now c.args.first c.args.site)
    c.loop-s.s-index c.loop-s.position c.loop-s.number c.loop-s.points.items c.s-item.result c.loop-s-test.true c.s-item.is c.loop-s.invariant in
    let part = part_le size_of c.args.list.now c.loop-s.s-index c.s-item.result c.loop-s-test.true c.s-item.is in
    (omega (arith, part), omega (arith, room.0, c.size.ensures, c.requires.few))

pub put_cases-put_list-requires : goal.put_cases-put_list-requires
put_cases-put_list-requires t c =
    let room = cases_room c.args.cases.now c.args.path.now c.args.site (c.args.site.number + c.size_of_cases.result) _
    c.loop-case.case-index c.loop-case.position c.loop-case.number c.loop-case.points.items c.case-item.result c.loop-case-test.true c.case-item.is c.loop-case.invariant in
    let part = part_le case_total c.args.cases.now c.loop-case.case-index c.case-item.result c.loop-case-test.true c.case-item.is in
    let body = ap total_of c.all-body.ensures in
    (omega (arith, part, body), (omega (arith, room.0, body, c.size_of_cases.ensures, c.requires), c.loop-case.invariant.low))

pub put_list-overflow_add-position : goal.put_list-overflow_add-position
put_list-overflow_add-position t c =
    let room = list_room c.args.list.now c.args.path.now c.args.site (c.args.site.number + c.size.result) (c.args.points.now.items ++ list_points (pieces c.args.list.now) c.args.path.now c.args.first c.args.site)
    c.loop-s.s-index c.loop-s.position c.loop-s.number c.loop-s.points.items c.s-item.result c.loop-s-test.true c.s-item.is c.loop-s.invariant in
    record { fits = omega (arith, room.1, c.size.ensures, c.requires.few) }

pub put_list-loop-s-preserved : goal.put_list-loop-s-preserved
put_list-loop-s-preserved t c =
    list_more c.args.list.now c.args.path.now c.args.site (c.args.site.number + c.size.result) (c.args.points.now.items ++ list_points (pieces c.args.list.now) c.args.path.now c.args.first c.args.site)
    c.loop-s.s-index c.loop-s.position c.loop-s.number c.loop-s.points.items c.s-item.result c.loop-s-test.true c.s-item.is c.loop-s.invariant
    c.deref.result.now (c.loop-s.number + c.size_of.result) c.reached-behind.result c.put_stmt.new.points.items (c.deref.ensures.value ∙ c.in_ok-inner.ensures) (ap (λ m. c.loop-s.number + m) c.size_of.ensures) c.reached-behind.ensures c.in_ok-put_stmt.ensures

pub put_cases-overflow_cast-position : goal.put_cases-overflow_cast-position
put_cases-overflow_cast-position t c =
    let room = cases_room c.args.cases.now c.args.path.now c.args.site (c.args.site.number + c.size_of_cases.result) _
    c.loop-case.case-index c.loop-case.position c.loop-case.number c.loop-case.points.items c.case-item.result c.loop-case-test.true c.case-item.is c.loop-case.invariant in
    let lengths : length c.all-body.result.now ≡ length (out-Case c.case-item.result).body = ap length c.all-body.ensures in
    record { fits = omega (arith, room.1, lengths, c.size_of_cases.ensures, c.requires) }

pub put_cases-overflow_add-position : goal.put_cases-overflow_add-position
put_cases-overflow_add-position t c =
    let room = cases_room c.args.cases.now c.args.path.now c.args.site (c.args.site.number + c.size_of_cases.result) _
    c.loop-case.case-index c.loop-case.position c.loop-case.number c.loop-case.points.items c.case-item.result c.loop-case-test.true c.case-item.is c.loop-case.invariant in
    let lengths : length c.all-body.result.now ≡ length (out-Case c.case-item.result).body = ap length c.all-body.ensures in
    record { fits = omega (arith, room.1, lengths, c.size_of_cases.ensures, c.requires) }

pub put_cases-loop-case-preserved : goal.put_cases-loop-case-preserved
put_cases-loop-case-preserved t c =
    let lengths : length c.all-body.result.now ≡ length (out-Case c.case-item.result).body = ap length c.all-body.ensures in
    let points = c.loop-case.points.items in
    let number = c.loop-case.number in
    cases_more c.args.cases.now c.args.path.now c.args.site (c.args.site.number + c.size_of_cases.result) _
    c.loop-case.case-index c.loop-case.position c.loop-case.number c.loop-case.points.items c.case-item.result c.loop-case-test.true c.case-item.is c.loop-case.invariant
    (number + c.size.result) c.reached-falls_to.result (c.loop-case.position + length c.all-body.result.now) c.put_list.new.points.items
    (ap (λ m. number + m) (c.size.ensures ∙ ap total_of c.all-body.ensures)) c.reached-falls_to.ensures (ap (λ m. c.loop-case.position + m) lengths)
    (c.in_ok-put_list.ensures ∙ ap (λ (ss : List Stmt). points ++ list_points (pieces ss) c.args.path.now c.loop-case.position (record c.args.site { number = number; behind = c.reached-falls_to.result })) c.all-body.ensures)
