use Rattle.std.proofs.Common.{take}
use Rattle.cc_state_values.specs.CcStateOperators.Domains.{domain, IsUnion}
use Rattle.cc_state_reads.specs.Reads.{IsOfKeys}
use Rattle.cc_state_reads.proofs.unions.union_of.Given as goal

abbrev pub invariant-loop-key : goal.invariant-loop-key
invariant-loop-key g l =
    IsUnion (domain g.I.Concrete.Has g.I.Lattice.IsBelow g.I.IntDomain.OpGives g.I.IntDomain.OpOneGives g.I.IntDomain.ToGives g.I.IntDomain.KeepGives g.I.IntDomain.members_of) l.fn.none (IsOfKeys l.p l.facts (take l.key-index l.named)) l.union
