-- Normal form and shape give what is asked for.
use Rattle.cc_state_reads.specs.CcStateOperators.Domains.{domain}
use Rattle.cc_state.proofs.Sets.{sets_at, normal_sized, few_locals}
use Rattle.cc_state.proofs.points.value_of.Goals as goal

pub value_by-requires-clause-sized : goal.value_by-requires-clause-sized
value_by-requires-clause-sized g c = normal_sized c.args.p.now c.requires.normal

pub value_by-requires-clause-few : goal.value_by-requires-clause-few
value_by-requires-clause-few g c = few_locals c.args.p.now c.requires.normal c.args.point

pub value_by-requires-clause-flow : goal.value_by-requires-clause-flow
value_by-requires-clause-flow g c = c.requires.flow

pub value_by-requires-clause-sets : goal.value_by-requires-clause-sets
value_by-requires-clause-sets g c = sets_at (domain g.I.Concrete.Has g.I.Lattice.IsBelow g.I.IntDomain.OpGives g.I.IntDomain.OpOneGives g.I.IntDomain.ToGives g.I.IntDomain.KeepGives g.I.IntDomain.members_of) c.args.p.now c.args.facts.now c.requires.shape c.args.point c.requires.reached

pub value_by-requires-clause-reached : goal.value_by-requires-clause-reached
value_by-requires-clause-reached g c = c.requires.reached

pub value_by-requires-clause-pure : goal.value_by-requires-clause-pure
value_by-requires-clause-pure g c = c.requires.pure

pub returns : goal.returns
returns g c = c.value_by.ensures
