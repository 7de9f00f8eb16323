-- Normal form and shape give what is asked for.
use Rattle.std.proofs.Common.{◌∙◌}
use Rattle.cc_state_reads.specs.CcStateOperators.Domains.{domain}
use Rattle.cc_state.proofs.KeyKinds.{kinds_at}
use Rattle.cc_state.proofs.Sets.{sets_at, cells_of_point, normal_sized, few_locals}
use Rattle.cc_state.proofs.points.read_of.Goals as goal
use Rattle.cc_state_reads.proofs.CcSyntax.NameRules.{sound-typed}

pub tracked-requires : goal.tracked-requires
tracked-requires g c = sound-typed c.args.p.now c.requires.normal.sound

pub read_by-requires-clause-sized : goal.read_by-requires-clause-sized
read_by-requires-clause-sized g c = normal_sized c.args.p.now c.requires.normal

pub read_by-requires-clause-few : goal.read_by-requires-clause-few
read_by-requires-clause-few g c = few_locals c.args.p.now c.requires.normal c.args.point

pub read_by-requires-clause-flow : goal.read_by-requires-clause-flow
read_by-requires-clause-flow g c = c.requires.flow

pub read_by-requires-clause-sets : goal.read_by-requires-clause-sets
read_by-requires-clause-sets g c = sets_at (domain g.I.Concrete.Has g.I.Lattice.IsBelow g.I.IntDomain.OpGives g.I.IntDomain.OpOneGives g.I.IntDomain.ToGives g.I.IntDomain.KeepGives g.I.IntDomain.members_of) c.args.p.now c.args.facts.now c.requires.shape c.args.point c.requires.reached

pub read_by-requires-clause-kinds : goal.read_by-requires-clause-kinds
read_by-requires-clause-kinds g c = kinds_at (domain g.I.Concrete.Has g.I.Lattice.IsBelow g.I.IntDomain.OpGives g.I.IntDomain.OpOneGives g.I.IntDomain.ToGives g.I.IntDomain.KeepGives g.I.IntDomain.members_of) c.args.p.now c.args.facts.now c.requires.shape c.args.point c.args.place.now

pub read_by-requires-clause-keys : goal.read_by-requires-clause-keys
read_by-requires-clause-keys g c = c.requires.shape.keys

pub read_by-requires-clause-tracked : goal.read_by-requires-clause-tracked
read_by-requires-clause-tracked g c = c.deref.ensures.value ∙ c.in_ok-tracked.ensures

pub read_by-requires-clause-cells : goal.read_by-requires-clause-cells
read_by-requires-clause-cells g c = cells_of_point (domain g.I.Concrete.Has g.I.Lattice.IsBelow g.I.IntDomain.OpGives g.I.IntDomain.OpOneGives g.I.IntDomain.ToGives g.I.IntDomain.KeepGives g.I.IntDomain.members_of) c.args.p.now c.args.facts.now c.requires.shape c.args.point c.requires.reached (let (q, f, k, pure, reads) = c.requires.read in (f, (q, k)))

pub read_by-requires-clause-reached : goal.read_by-requires-clause-reached
read_by-requires-clause-reached g c = c.requires.reached

pub read_by-requires-clause-read : goal.read_by-requires-clause-read
read_by-requires-clause-read g c = c.requires.read

pub returns : goal.returns
returns g c = c.read_by.ensures
