-- Each law is a lemma of its own, by what the laws of the domain say of its operators.
use Rattle.cc_state_values.specs.CcStateOperators.Domains.{domain}
use Rattle.cc_state_values_sound.proofs.Choices.{all_given}
use Rattle.cc_state_values_sound.proofs.InStates.{value_in_states, place_in_states}
use Rattle.cc_state_values_sound.proofs.law.laws.Goals as goal

pub returns : goal.returns
returns g c =
    let i = g.met.I.IntDomain in
    let d = domain g.I.Concrete.Has g.I.Lattice.IsBelow g.I.IntDomain.OpGives g.I.IntDomain.OpOneGives g.I.IntDomain.ToGives g.I.IntDomain.KeepGives g.I.IntDomain.members_of in
    record {
      values = λ at openings here register e taken y h later. value_in_states d (all_given d i.below_has i.op_has i.op_one_has i.to_has) at openings here register e taken y h later;
      places = λ at openings here register a taken s h later. place_in_states d (all_given d i.below_has i.op_has i.op_one_has i.to_has) at openings here register a taken s h later;
    }
