use Rattle.std.proofs.Common.{arith, append_assoc, List, map, refl}
use Rattle.std.proofs.lemmas.Grind.{common_steps}
use Rattle.cc_program.specs.declared.expr.Expr.{Expr}
use Rattle.cc_state_keys.specs.Addressed.{all_taken, taken_in}
use Rattle.cc_state_keys.proofs.Addressed.{two-is, assign-is, address-is, call-is}
use Rattle.cc_state_keys.proofs.Grown.{mapped_grown, whole}
use Rattle.cc_state_keys.proofs.taken.Text.+takes.Goals as goal

pub put_taken-returns-in_ok-put_some-in-AddrOf : goal.put_taken-returns-in_ok-put_some-in-AddrOf
put_taken-returns-in_ok-put_some-in-AddrOf t c =
    let e = address-is c.args.self.program.now c.args.self.id c.args.self.func.now c.args.e.now c.in-AddrOf.a c.in-AddrOf.is in grind (arith, common_steps, append_assoc, e)

pub put_taken-returns-in_ok-put_taken-in-Bin : goal.put_taken-returns-in_ok-put_taken-in-Bin
put_taken-returns-in_ok-put_taken-in-Bin t c =
    let e = two-is c.args.self.program.now c.args.self.id c.args.self.func.now c.args.e.now c.in-Bin.a c.in-Bin.b c.in-Bin.is in grind (arith, common_steps, append_assoc, e)

pub put_taken-returns-in_ok-put_taken_in_place-in-Assign : goal.put_taken-returns-in_ok-put_taken_in_place-in-Assign
put_taken-returns-in_ok-put_taken_in_place-in-Assign t c =
    let e = assign-is c.args.self.program.now c.args.self.id c.args.self.func.now c.args.e.now c.in-Assign.a c.in-Assign.e c.in-Assign.is in grind (arith, common_steps, append_assoc, e)

pub put_taken-returns-in_ok-put_taken-in-Call : goal.put_taken-returns-in_ok-put_taken-in-Call
put_taken-returns-in_ok-put_taken-in-Call t c =
    let e = call-is c.args.self.program.now c.args.self.id c.args.self.func.now c.args.e.now c.in-Call.g c.in-Call.args c.in-Call.is in grind (arith, common_steps, append_assoc, e)

pub put_all_taken-loop-e-preserved : goal.put_all_taken-loop-e-preserved
put_all_taken-loop-e-preserved t c =
    mapped_grown (taken_in c.args.self.program.now c.args.self.id c.args.self.func.now) c.args.keys.now.items c.loop-e.keys.items c.put_taken.new.keys.items c.args.es.now c.loop-e.e-index c.e-item.result
    c.loop-e.invariant c.in_ok-put_taken.ensures c.loop-e-test.true c.e-item.is

pub put_all_taken-returns : goal.put_all_taken-returns
put_all_taken-returns t c =
    whole (λ (es : List Expr). all_taken (map (taken_in c.args.self.program.now c.args.self.id c.args.self.func.now) es)) c.args.keys.now.items c.loop-e.keys.items c.args.es.now c.args.es.now c.loop-e.e-index
    c.loop-e.invariant (omega (arith, c.loop-e-test.false)) refl
