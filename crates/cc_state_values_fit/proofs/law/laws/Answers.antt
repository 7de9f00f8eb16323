-- The laws, by those of the domain.
use Rattle.cc_state_reads.specs.CcStateOperators.Domains.{domain}
use Rattle.cc_state_values_fit.proofs.Sets.{IsTyping}
use Rattle.cc_state_values_fit.proofs.Values.{value_fits, pointers_fit}
use Rattle.cc_state_values_fit.proofs.law.laws.Goals as goal

pub returns : goal.returns
returns g c =
    let i = g.met.I.IntDomain in
    let d = domain g.I.Concrete.Has g.I.Lattice.IsBelow g.I.IntDomain.OpGives g.I.IntDomain.OpOneGives g.I.IntDomain.ToGives g.I.IntDomain.KeepGives g.I.IntDomain.members_of in
    let typing : IsTyping d = record {
      grows = i.below_has;
      by_members = i.members_below;
      op_typed = λ o a b r t target h k. i.op_typed o a b r t target h k;
      op_one_typed = λ o a r t target h k. i.op_one_typed o a r t target h k;
      to_typed = i.to_typed;
    } in
    record {
      values = λ p id f register wholes own fits e t y typed scalar taken val. value_fits d typing p wholes id f register own fits e y val t typed scalar taken;
      places = λ p id f register wholes own fits a u t s typed e taken keys places. pointers_fit d typing p wholes id f register own fits a s places u t typed e taken keys;
    }
