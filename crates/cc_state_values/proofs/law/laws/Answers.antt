-- What expressions may give is one value: by the laws of the domain.
use Rattle.cc_state_operators.specs.Domains.{domain}
use Rattle.cc_state_values.proofs.Same.{order_of, same_value, same_set}
use Rattle.cc_state_values.proofs.law.laws.Goals as goal

pub returns : goal.returns
returns g c =
    let l = g.met.I.Lattice in
    let i = g.met.I.IntDomain in
    let d = domain g.I.Concrete.Has g.I.Lattice.IsBelow g.I.IntDomain.OpGives g.I.IntDomain.OpOneGives g.I.IntDomain.ToGives g.I.IntDomain.KeepGives g.I.IntDomain.members_of in
    let ordered = order_of d g.I.Lattice.AreAlike i.all_alike l.below_itself l.below_both_ways i.op_grows i.op_one_grows i.to_grows i.members_below in
    record {
      one_value = λ p id f register e x y h k. same_value d ordered p id f register e x y h k;
      one_set = λ p id f register a r s h k. same_set d ordered p id f register a r s h k;
    }
