use Rattle.std.specs.Prelude.{option_map}
use Rattle.cc_state_reads.specs.CcStateOperators.Domains.{domain}
use Rattle.cc_state_shaped.proofs.Typed.{of_cells}
use Rattle.cc_state_shaped.proofs.sets.is_cell_set.Goals as goal
use Rattle.cc_state_reads.specs.CcTyped.View.{value_view}

pub returns : goal.returns
returns g c =
    let d = domain g.I.Concrete.Has g.I.Lattice.IsBelow g.I.IntDomain.OpGives g.I.IntDomain.OpOneGives g.I.IntDomain.ToGives g.I.IntDomain.KeepGives g.I.IntDomain.members_of in
    of_cells d c.args.layout.now.program.now c.args.set.now c.args.t.now (option_map value_view c.cell_type.result) c.is_set_of.result c.cell_type.ensures c.is_set_of.ensures
