-- The laws, by the types of sets.
use Rattle.cc_state_reads.specs.CcStateOperators.Domains.{domain}
use Rattle.cc_state_shape.proofs.Alike.{facts_alike, well_formed, points_alike, fact_of}
use Rattle.cc_state_shape.proofs.law.laws.Goals as goal

pub returns : goal.returns
returns g c =
    let d = domain g.I.Concrete.Has g.I.Lattice.IsBelow g.I.IntDomain.OpGives g.I.IntDomain.OpOneGives g.I.IntDomain.ToGives g.I.IntDomain.KeepGives g.I.IntDomain.members_of in
    record {
      alike = λ p f h shape other. facts_alike d p f h shape other;
      well_formed = λ p f shape. well_formed d p f shape;
      points_alike = λ p f x y h k. points_alike d p f x y h k;
      point_of = λ p f x h. fact_of d p f x h;
    }
