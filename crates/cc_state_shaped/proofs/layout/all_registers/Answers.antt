use Rattle.std.proofs.Common.{arith, ◌<◌, ◌^◌, length, sym, subst}
use Rattle.cc_program.specs.declared.func.Func.{Func}
use Rattle.cc_state_shaped.proofs.layout.all_registers.Goals as goal

pub registers-requires : goal.registers-requires
registers-requires c = subst (λ (x : Func). length x.locals < 2 ^ 32) (sym c.func-item.is) (c.requires c.loop-func.func-index c.func-item.result (omega (arith, c.loop-func-test.true)))
