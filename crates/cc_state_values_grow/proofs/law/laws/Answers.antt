-- Each law is a lemma of its own, by the laws of the domain.
use Rattle.cc_state_values_sound.specs.CcStateOperators.Domains.{domain}
use Rattle.cc_state_values_sound.proofs.CcStateValues.Same.{order_of}
use Rattle.cc_state_values_grow.proofs.Growing.{value_more, place_more}
use Rattle.cc_state_values_grow.proofs.Images.{order_given, truth_grows}
use Rattle.cc_state_values_grow.proofs.Leading.{leads_somewhere}
use Rattle.cc_state_values_grow.proofs.law.laws.Goals as goal

pub returns : goal.returns
returns g c =
    let l = g.met.I.Lattice in
    let i = g.met.I.IntDomain in
    let d = domain g.I.Concrete.Has g.I.Lattice.IsBelow g.I.IntDomain.OpGives g.I.IntDomain.OpOneGives g.I.IntDomain.ToGives g.I.IntDomain.KeepGives g.I.IntDomain.members_of in
    let ordered = order_of d g.I.Lattice.AreAlike i.all_alike l.below_itself l.below_both_ways i.op_grows i.op_one_grows i.to_grows i.members_below in
    let order = order_given d g.I.Lattice.AreAlike i.all_alike l.below_through i.below_has in
    record {
      leads = λ p id f register own points. leads_somewhere d p id f register own points;
      values = λ p id f register more below real e x y h k. value_more d ordered order p id f register more below real e x y h k;
      places = λ p id f register more below real a r s h k. place_more d ordered order p id f register more below real a r s h k;
      tests = λ way x y h k. truth_grows d ordered order way x y h k;
    }
