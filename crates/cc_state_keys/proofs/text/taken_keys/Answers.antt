use Rattle.cc_state_keys.proofs.Typed.{sized, few-funcs}
use Rattle.cc_state_keys.proofs.text.taken_keys.Goals as goal

pub put_taken_in_funcs-requires-clause-sized : goal.put_taken_in_funcs-requires-clause-sized
put_taken_in_funcs-requires-clause-sized c = sized c.args.p.now c.requires

pub put_taken_in_funcs-requires-clause-few : goal.put_taken_in_funcs-requires-clause-few
put_taken_in_funcs-requires-clause-few c = few-funcs c.args.p.now c.requires
