-- Normal form and shape give what is asked for.
use Rattle.cc_state_reads.specs.CcStateOperators.Domains.{domain}
use Rattle.cc_state.proofs.Sets.{sets_at, normal_sized, few_locals}
use Rattle.cc_state.proofs.points.keys_of.Goals as goal

pub keys_by-requires-clause-sized : goal.keys_by-requires-clause-sized
keys_by-requires-clause-sized g c = normal_sized c.args.p.now c.requires.normal

pub keys_by-requires-clause-few : goal.keys_by-requires-clause-few
keys_by-requires-clause-few g c = few_locals c.args.p.now c.requires.normal c.args.point

pub keys_by-requires-clause-flow : goal.keys_by-requires-clause-flow
keys_by-requires-clause-flow g c = c.requires.flow

pub keys_by-requires-clause-sets : goal.keys_by-requires-clause-sets
keys_by-requires-clause-sets g c = sets_at (domain g.I.Concrete.Has g.I.Lattice.IsBelow g.I.IntDomain.OpGives g.I.IntDomain.OpOneGives g.I.IntDomain.ToGives g.I.IntDomain.KeepGives g.I.IntDomain.members_of) c.args.p.now c.args.facts.now c.requires.shape c.args.point c.requires.reached

pub keys_by-requires-clause-keys : goal.keys_by-requires-clause-keys
keys_by-requires-clause-keys g c = c.requires.shape.keys

pub keys_by-requires-clause-reached : goal.keys_by-requires-clause-reached
keys_by-requires-clause-reached g c = c.requires.reached

pub keys_by-requires-clause-pure : goal.keys_by-requires-clause-pure
keys_by-requires-clause-pure g c = c.requires.pure

pub returns : goal.returns
returns g c = c.keys_by.ensures
