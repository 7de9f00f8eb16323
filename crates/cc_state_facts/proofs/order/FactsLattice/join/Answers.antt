-- Facts whose parts are those of both together are their join.
use Rattle.cc_places.specs.laws.AbstractLaws.{abs_itself}
use Rattle.cc_state_facts.proofs.FactJoins.{joined_facts}
use Rattle.cc_state_facts.proofs.order.FactsLattice.join.Goals as goal

pub returns : goal.returns
returns g c =
    let m = g.I.Lattice in
    joined_facts m.IsBelow (abs_itself m.AreAlike m.IsBelow g.met.I.Lattice.below_itself g.met.I.IntDomain.all_alike) c.args.self.now c.args.other.now _ c.requires c.in_ok-join_parts.ensures
