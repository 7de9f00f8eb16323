use Rattle.std.proofs.Common.{arith, append_assoc}
use Rattle.std.proofs.lemmas.Grind.{common_steps}
use Rattle.cc_registers.proofs.Lists.{two-is, assign-is, address-is, call-is}
use Rattle.cc_registers.proofs.expressions.+taken.Goals as goal

pub put_taken-returns-in_ok-put_taken-in-Call : goal.put_taken-returns-in_ok-put_taken-in-Call
put_taken-returns-in_ok-put_taken-in-Call t c =
    let e = call-is c.args.e.now c.in-Call.g c.in-Call.args c.in-Call.is in grind (arith, common_steps, append_assoc, e)

pub put_taken-returns-in_ok-put_local-in-AddrOf : goal.put_taken-returns-in_ok-put_local-in-AddrOf
put_taken-returns-in_ok-put_local-in-AddrOf t c =
    let e = address-is c.args.e.now c.in-AddrOf.a c.in-AddrOf.is in grind (arith, common_steps, append_assoc, e)

pub put_taken-returns-in_ok-put_place-in-Assign : goal.put_taken-returns-in_ok-put_place-in-Assign
put_taken-returns-in_ok-put_place-in-Assign t c =
    let e = assign-is c.args.e.now c.in-Assign.a c.in-Assign.e c.in-Assign.is in grind (arith, common_steps, append_assoc, e)

pub put_taken-returns-in_ok-put_taken-in-Bin : goal.put_taken-returns-in_ok-put_taken-in-Bin
put_taken-returns-in_ok-put_taken-in-Bin t c =
    let e = two-is c.args.e.now c.in-Bin.a c.in-Bin.b c.in-Bin.is in grind (arith, common_steps, append_assoc, e)
