use Rattle.std.proofs.Common.{arith, append_assoc}
use Rattle.std.proofs.lemmas.Grind.{common_steps}
use Rattle.cc_lower_accesses.proofs.AssignedLemmas.{two-is, assign-is, after-is, call-is}
use Rattle.cc_lower_accesses.proofs.body.Body.+assigns.Goals as goal

pub put_registers-returns-in_ok-put_register-in-After : goal.put_registers-returns-in_ok-put_register-in-After
put_registers-returns-in_ok-put_register-in-After t c =
    let e = after-is c.args.self.func.now c.args.e.now c.in-After.a c.in-After.field-1 c.in-After.is in grind (arith, common_steps, append_assoc, e)

pub put_registers-returns-in_ok-put_registers-in-Call : goal.put_registers-returns-in_ok-put_registers-in-Call
put_registers-returns-in_ok-put_registers-in-Call t c =
    let e = call-is c.args.self.func.now c.args.e.now c.in-Call.g c.in-Call.args c.in-Call.is in grind (arith, common_steps, append_assoc, e)

pub put_registers-returns-in_ok-put_place-in-Assign : goal.put_registers-returns-in_ok-put_place-in-Assign
put_registers-returns-in_ok-put_place-in-Assign t c =
    let e = assign-is c.args.self.func.now c.args.e.now c.in-Assign.a c.in-Assign.e c.in-Assign.is in grind (arith, common_steps, append_assoc, e)

pub put_registers-returns-in_ok-put_registers-in-Bin : goal.put_registers-returns-in_ok-put_registers-in-Bin
put_registers-returns-in_ok-put_registers-in-Bin t c =
    let e = two-is c.args.self.func.now c.args.e.now c.in-Bin.a c.in-Bin.b c.in-Bin.is in grind (arith, common_steps, append_assoc, e)
