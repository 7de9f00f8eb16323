use Rattle.std.proofs.Common.{arith, ◌<◌, ◌^◌, length, ap, sym, subst}
use Rattle.cc_program.specs.declared.func.Func.{Func}
use Rattle.cc_state_keys.specs.Keys.{local_keys}
use Rattle.cc_state_keys.specs.Lists.{all_from}
use Rattle.cc_state_keys.proofs.Grown.{all_grown, get_same, whole}
use Rattle.cc_state_keys.proofs.listed.put_all_locals.Goals as goal

pub put_locals-requires : goal.put_locals-requires
put_locals-requires c =
    let small = c.requires.each c.loop-id.id c.func-item.result (omega (arith, c.loop-id-test.true, ap length c.all-func-items.ensures)) in
    subst (λ (x : Func). length x.locals < 2 ^ 32) (sym (get_same c.all-func-items.result.now c.args.p.now.funcs c.loop-id.id c.func-item.result c.all-func-items.ensures c.func-item.is)) small

pub loop-id-preserved : goal.loop-id-preserved
loop-id-preserved c =
    all_grown local_keys c.args.keys.now.items c.loop-id.keys.items c.put_locals.new.keys.items c.all-func-items.result.now c.loop-id.id c.func-item.result c.loop-id.invariant c.in_ok-put_locals.ensures c.loop-id-test.true c.func-item.is

pub returns : goal.returns
returns c =
    whole (all_from local_keys 0) c.args.keys.now.items c.loop-id.keys.items c.all-func-items.result.now c.args.p.now.funcs c.loop-id.id c.loop-id.invariant (omega (arith, c.loop-id-test.false)) c.all-func-items.ensures
