use Rattle.std.proofs.Common.{arith, ◌<◌, ◌^◌, length, ap, sym, subst}
use Rattle.cc_program.specs.declared.func.Func.{Func}
use Rattle.cc_rules_functions.proofs.Gets.{stands, none_made, first_on, all_made}
use Rattle.cc_rules_functions.proofs.functions.functions_of.Goals as goal
use Rattle.cc_rules_flows.proofs.CcStateKeys.Grown.{get_same}

pub function_of-requires : goal.function_of-requires
function_of-requires c = record {
  flow = c.requires.flow;
  there = stands c.all-f-items.result.now c.args.p.now.funcs c.loop-id.id c.f-item.result c.all-f-items.ensures c.loop-id-test.true c.f-item.is;
  few = c.requires.few;
  few_locals =
      let small = c.requires.few_locals c.loop-id.id c.f-item.result (omega (arith, c.loop-id-test.true, ap length c.all-f-items.ensures)) in
      subst (λ (x : Func). length x.locals < 2 ^ 32) (sym (get_same c.all-f-items.result.now c.args.p.now.funcs c.loop-id.id c.f-item.result c.all-f-items.ensures c.f-item.is)) small;
}

pub loop-id-init : goal.loop-id-init
loop-id-init c = none_made c.args.p.now c.new-functions.result.items c.new-functions.ensures.items

pub loop-id-preserved : goal.loop-id-preserved
loop-id-preserved c =
    first_on c.args.p.now c.loop-id.functions.items c.push.new.self.items c.loop-id.id c.in_ok-function.function c.loop-id.invariant c.in_ok-function.ensures (omega (arith, c.loop-id-test.true, ap length c.all-f-items.ensures)) c.in_ok-push.ensures.items

pub returns : goal.returns
returns c = all_made c.args.p.now c.loop-id.functions.items c.loop-id.id c.loop-id.invariant (omega (arith, c.loop-id-test.false, ap length c.all-f-items.ensures))
