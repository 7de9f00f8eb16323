use Rattle.std.proofs.Common.{arith, append_assoc, ◌++◌, List, map, refl, ap, ◌∙◌}
use Rattle.std.proofs.lemmas.Grind.{common_steps}
use Rattle.std.specs.List.{flat_map}
use Rattle.cc_program.specs.declared.stmt.Stmt.{Stmt}
use Rattle.cc_state_keys.specs.Addressed.{all_taken, taken_in_stmt}
use Rattle.cc_state_keys.proofs.Grown.{flat_grown, mapped_grown, whole}
use Rattle.cc_state_keys.proofs.Switches.{case_keys, if-is, while-is, do-is, for-is, switch-is}
use Rattle.cc_state_keys.proofs.taken.Text.+taken.Goals as goal

pub put_taken_in_stmt-returns-in_ok-put_taken_in_list-in-If : goal.put_taken_in_stmt-returns-in_ok-put_taken_in_list-in-If
put_taken_in_stmt-returns-in_ok-put_taken_in_list-in-If t c =
    let e = if-is c.args.self.program.now c.args.self.id c.args.self.func.now c.args.s.now c.in-If.e c.in-If.a c.in-If.b c.in-If.is in grind (arith, common_steps, append_assoc, e)

pub put_taken_in_stmt-returns-in_ok-put_taken-in-While : goal.put_taken_in_stmt-returns-in_ok-put_taken-in-While
put_taken_in_stmt-returns-in_ok-put_taken-in-While t c =
    let e = while-is c.args.self.program.now c.args.self.id c.args.self.func.now c.args.s.now c.in-While.e c.in-While.a c.in-While.is in grind (arith, common_steps, append_assoc, e)

pub put_taken_in_stmt-returns-in_ok-put_taken_in_list-in-DoWhile : goal.put_taken_in_stmt-returns-in_ok-put_taken_in_list-in-DoWhile
put_taken_in_stmt-returns-in_ok-put_taken_in_list-in-DoWhile t c =
    let e = do-is c.args.self.program.now c.args.self.id c.args.self.func.now c.args.s.now c.in-DoWhile.a c.in-DoWhile.e c.in-DoWhile.is in grind (arith, common_steps, append_assoc, e)

pub put_taken_in_stmt-returns-in_ok-put_taken_in_optional-in-For-3 : goal.put_taken_in_stmt-returns-in_ok-put_taken_in_optional-in-For-3
put_taken_in_stmt-returns-in_ok-put_taken_in_optional-in-For-3 t c =
    let e = for-is c.args.self.program.now c.args.self.id c.args.self.func.now c.args.s.now c.in-For.first c.in-For.test c.in-For.again c.in-For.a c.in-For.is in grind (arith, common_steps, append_assoc, e)

pub put_taken_in_stmt-returns-in_ok-put_taken-in-Switch : goal.put_taken_in_stmt-returns-in_ok-put_taken-in-Switch
put_taken_in_stmt-returns-in_ok-put_taken-in-Switch t c =
    let e = switch-is c.args.self.program.now c.args.self.id c.args.self.func.now c.args.s.now c.in-Switch.e c.in-Switch.cases c.in-Switch.is in grind (arith, common_steps, append_assoc, e)

pub put_taken_in_list-loop-s-preserved : goal.put_taken_in_list-loop-s-preserved
put_taken_in_list-loop-s-preserved t c =
    mapped_grown (taken_in_stmt c.args.self.program.now c.args.self.id c.args.self.func.now) c.args.keys.now.items c.loop-s.keys.items c.put_taken_in_stmt.new.keys.items c.args.list.now c.loop-s.s-index c.s-item.result
    c.loop-s.invariant c.in_ok-put_taken_in_stmt.ensures c.loop-s-test.true c.s-item.is

pub put_taken_in_list-returns : goal.put_taken_in_list-returns
put_taken_in_list-returns t c =
    whole (λ (ss : List Stmt). all_taken (map (taken_in_stmt c.args.self.program.now c.args.self.id c.args.self.func.now) ss)) c.args.keys.now.items c.loop-s.keys.items c.args.list.now c.args.list.now c.loop-s.s-index
    c.loop-s.invariant (omega (arith, c.loop-s-test.false)) refl

pub put_taken_in_cases-loop-case-preserved : goal.put_taken_in_cases-loop-case-preserved
put_taken_in_cases-loop-case-preserved t c =
    flat_grown (case_keys c.args.self.program.now c.args.self.id c.args.self.func.now) c.args.keys.now.items c.loop-case.keys.items c.put_taken_in_list.new.keys.items c.args.cases.now c.loop-case.case-index c.case-item.result
    c.loop-case.invariant (c.in_ok-put_taken_in_list.ensures ∙ ap (λ (ss : List Stmt). c.loop-case.keys.items ++ all_taken (map (taken_in_stmt c.args.self.program.now c.args.self.id c.args.self.func.now) ss)) c.all-body.ensures) c.loop-case-test.true c.case-item.is

pub put_taken_in_cases-returns : goal.put_taken_in_cases-returns
put_taken_in_cases-returns t c =
    whole (flat_map (case_keys c.args.self.program.now c.args.self.id c.args.self.func.now)) c.args.keys.now.items c.loop-case.keys.items c.args.cases.now c.args.cases.now c.loop-case.case-index
    c.loop-case.invariant (omega (arith, c.loop-case-test.false)) refl
