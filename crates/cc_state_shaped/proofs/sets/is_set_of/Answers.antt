use Rattle.std.proofs.Common.{ap}
use Rattle.std.specs.Prelude.{option_map}
use Rattle.cc_state_reads.specs.CcStateOperators.Domains.{domain}
use Rattle.cc_state_shaped.proofs.Typed.{of_some, of_no_type}
use Rattle.cc_state_shaped.proofs.sets.is_set_of.Goals as goal
use Rattle.cc_state_reads.specs.CcTyped.View.{value_view}

pub returns-in-None : goal.returns-in-None
returns-in-None g c =
    let d = domain g.I.Concrete.Has g.I.Lattice.IsBelow g.I.IntDomain.OpGives g.I.IntDomain.OpOneGives g.I.IntDomain.ToGives g.I.IntDomain.KeepGives g.I.IntDomain.members_of in
    of_no_type d c.args.layout.now.program.now c.args.set.now (option_map value_view c.args.t) (ap (option_map value_view) c.in-None.is)

pub returns-in-Some : goal.returns-in-Some
returns-in-Some g c =
    let d = domain g.I.Concrete.Has g.I.Lattice.IsBelow g.I.IntDomain.OpGives g.I.IntDomain.OpOneGives g.I.IntDomain.ToGives g.I.IntDomain.KeepGives g.I.IntDomain.members_of in
    of_some d c.args.layout.now.program.now c.args.set.now (option_map value_view c.args.t) (value_view c.in-Some.t) c.is_set_in.result (ap (option_map value_view) c.in-Some.is) c.is_set_in.ensures
