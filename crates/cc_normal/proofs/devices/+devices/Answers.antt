use Rattle.std.proofs.Common.{rules, ◌≡◌, ◌∙◌, ap, sym, List, Some, None}
use Rattle.std.specs.List.{flat_map}
use Rattle.cc_program.specs.declared.stmt.Case.{Case}
use Rattle.cc_program.specs.declared.stmt.Stmt.{Stmt}
use Rattle.cc_syntax.specs.Normal.{next_of, devices_of, devices_in}
use Rattle.cc_normal.proofs.DeviceLemmas.{next_none, next_both, next_more, next_stops, mapped_more, mapped_stops, case_devices, if_devices, switch_devices}
use Rattle.cc_normal.proofs.devices.+devices.Goals as goal

pub behind_cases-loop-case-preserved : goal.behind_cases-loop-case-preserved
behind_cases-loop-case-preserved t c =
    let q : next_of c.loop-case.last (case_devices c.case-item.result) ≡ Some c.in_ok-last.last = search rules in
    next_more case_devices c.args.next c.loop-case.last c.in_ok-last.last c.all-case-items.result.now c.loop-case.case-index c.case-item.result c.loop-case-test.true c.case-item.is c.loop-case.invariant q

pub behind_cases-returns-in_err-last : goal.behind_cases-returns-in_err-last
behind_cases-returns-in_err-last t c =
    let q : next_of c.loop-case.last (case_devices c.case-item.result) ≡ None = search rules in
    c.from_residual.ensures ∙ next_stops case_devices c.args.next c.loop-case.last c.all-case-items.result.now c.loop-case.case-index c.case-item.result c.loop-case-test.true c.case-item.is c.loop-case.invariant q
    ∙ ap (λ (cs : List Case). next_of c.args.next (flat_map case_devices cs)) c.all-case-items.ensures

pub behind_list-loop-s-preserved : goal.behind_list-loop-s-preserved
behind_list-loop-s-preserved t c =
    let q : next_of c.loop-s.last (devices_of c.s-item.result) ≡ Some c.in_ok-last.last = search rules in
    mapped_more devices_of c.args.next c.loop-s.last c.in_ok-last.last c.all-s-items.result.now c.loop-s.s-index c.s-item.result c.loop-s-test.true c.s-item.is c.loop-s.invariant q

pub behind_list-returns-in_err-last : goal.behind_list-returns-in_err-last
behind_list-returns-in_err-last t c =
    let q : next_of c.loop-s.last (devices_of c.s-item.result) ≡ None = search rules in
    c.from_residual.ensures ∙ mapped_stops devices_of c.args.next c.loop-s.last c.all-s-items.result.now c.loop-s.s-index c.s-item.result c.loop-s-test.true c.s-item.is c.loop-s.invariant q
    ∙ ap (λ (ss : List Stmt). next_of c.args.next (devices_in ss)) c.all-s-items.ensures

pub behind_stmt-returns-in_err-next-in-If : goal.behind_stmt-returns-in_err-next-in-If
behind_stmt-returns-in_err-next-in-If t c =
    let n = c.args.next in
    let h : next_of n (devices_in c.in-If.a) ≡ None = sym c.behind_list.ensures ∙ c.in_err-next-in-If.was in
    c.from_residual.ensures ∙ next_none n (devices_in c.in-If.a) (devices_in c.in-If.b) h ∙ ap (next_of n) (sym (if_devices c.args.s.now c.in-If.field-0 c.in-If.a c.in-If.b c.in-If.is))

pub behind_stmt-returns-in_ok-next-in-If : goal.behind_stmt-returns-in_ok-next-in-If
behind_stmt-returns-in_ok-next-in-If t c =
    let n = c.args.next in
    let m = c.in_ok-next-in-If.next in
    let h : next_of n (devices_in c.in-If.a) ≡ Some m = sym c.behind_list.ensures ∙ c.in_ok-next-in-If.was in
    next_both n m (devices_in c.in-If.a) (devices_in c.in-If.b) c.behind_list-in-If.result h c.behind_list-in-If.ensures ∙ ap (next_of n) (sym (if_devices c.args.s.now c.in-If.field-0 c.in-If.a c.in-If.b c.in-If.is))

pub behind_stmt-returns-in-Switch : goal.behind_stmt-returns-in-Switch
behind_stmt-returns-in-Switch t c =
    c.behind_cases.ensures ∙ ap (next_of c.args.next) (sym (switch_devices c.args.s.now c.in-Switch.field-0 c.in-Switch.cases c.in-Switch.is))
