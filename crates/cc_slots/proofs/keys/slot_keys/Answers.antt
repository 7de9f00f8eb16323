use Rattle.cc_state_points.proofs.CcStateKeys.Typed.{few-objects, few-structures, few-members}
use Rattle.cc_slots.proofs.keys.slot_keys.Goals as goal

pub put_objects-requires : goal.put_objects-requires
put_objects-requires c = few-objects c.args.p.now c.requires

pub put_all_members-requires-clause-few : goal.put_all_members-requires-clause-few
put_all_members-requires-clause-few c = few-structures c.args.p.now c.requires

pub put_all_members-requires-clause-each : goal.put_all_members-requires-clause-each
put_all_members-requires-clause-each c = few-members c.args.p.now c.requires
