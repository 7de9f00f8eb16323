use Rattle.std.proofs.Common.{arith, ◌<◌, ◌^◌, length, ap, sym, subst}
use Rattle.cc_program.specs.declared.types.Structure.{Structure}
use Rattle.cc_slots.specs.Keys.{member_slots}
use Rattle.cc_state_points.specs.CcStateKeys.Lists.{all_from}
use Rattle.cc_state_points.proofs.CcStateKeys.Grown.{all_grown, get_same, whole}
use Rattle.cc_slots.proofs.keys.put_all_members.Goals as goal

pub put_members-requires : goal.put_members-requires
put_members-requires c =
    let small = c.requires.each c.loop-id.id c.structure-item.result (omega (arith, c.loop-id-test.true, ap length c.all-structure-items.ensures)) in
    subst (λ (x : Structure). length x.members < 2 ^ 32) (sym (get_same c.all-structure-items.result.now c.args.p.now.structures c.loop-id.id c.structure-item.result c.all-structure-items.ensures c.structure-item.is)) small

pub loop-id-preserved : goal.loop-id-preserved
loop-id-preserved c =
    all_grown member_slots c.args.keys.now.items c.loop-id.keys.items c.put_members.new.keys.items c.all-structure-items.result.now c.loop-id.id c.structure-item.result c.loop-id.invariant c.in_ok-put_members.ensures c.loop-id-test.true c.structure-item.is

pub returns : goal.returns
returns c =
    whole (all_from member_slots 0) c.args.keys.now.items c.loop-id.keys.items c.all-structure-items.result.now c.args.p.now.structures c.loop-id.id c.loop-id.invariant (omega (arith, c.loop-id-test.false)) c.all-structure-items.ensures
