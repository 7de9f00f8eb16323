use Rattle.std.proofs.Common.{arith, ◌<◌, ◌^◌, length, ap, sym, subst}
use Rattle.cc_program.specs.declared.func.Func.{Func}
use Rattle.cc_state_keys.proofs.Grown.{get_same}
use Rattle.cc_state_keys.proofs.counts.register_counts.Goals as goal

pub register_count-requires : goal.register_count-requires
register_count-requires c =
    let small = c.requires c.loop-func.func-index c.func-item.result (omega (arith, c.loop-func-test.true, ap length c.all-func-items.ensures)) in
    subst (λ (x : Func). length x.locals < 2 ^ 32) (sym (get_same c.all-func-items.result.now c.args.p.now.funcs c.loop-func.func-index c.func-item.result c.all-func-items.ensures c.func-item.is)) small
