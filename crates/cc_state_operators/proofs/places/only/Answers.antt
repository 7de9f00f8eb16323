use Rattle.cc_state_operators.proofs.Sets.{both_ok, only_is}
use Rattle.cc_state_operators.proofs.places.only.Goals as goal

pub returns : goal.returns
returns c = both_ok c.one.result _ _ _ (λ s p e. only_is c.args.a.now s p e) c.one.ensures.exact c.one.ensures.members
