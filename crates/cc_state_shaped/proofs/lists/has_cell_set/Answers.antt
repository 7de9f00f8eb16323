-- By what is found at the place.
use Rattle.std.proofs.Common.{ap, sym, ◌∙◌}
use Rattle.std.specs.Option.{option_copied}
use Rattle.cc_state.specs.Shape.{IsTrackedType}
use Rattle.cc_state_reads.specs.CcStateFacts.Facts.{cell_of}
use Rattle.cc_state_reads.specs.CcStateOperators.Domains.{domain}
use Rattle.cc_state_shaped.proofs.Typed.{at_none, at_place}
use Rattle.cc_state_shaped.proofs.lists.has_cell_set.Goals as goal

pub returns-in-None : goal.returns-in-None
returns-in-None g c =
    let d = domain g.I.Concrete.Has g.I.Lattice.IsBelow g.I.IntDomain.OpGives g.I.IntDomain.OpOneGives g.I.IntDomain.ToGives g.I.IntDomain.KeepGives g.I.IntDomain.members_of in
    let p = c.args.layout.now.program.now in
    at_none d p (cell_of c.args.fact.now) (IsTrackedType d p) c.args.number (sym c.cell.ensures ∙ ap option_copied c.in-None.is)

pub returns-in-Some : goal.returns-in-Some
returns-in-Some g c =
    let d = domain g.I.Concrete.Has g.I.Lattice.IsBelow g.I.IntDomain.OpGives g.I.IntDomain.OpOneGives g.I.IntDomain.ToGives g.I.IntDomain.KeepGives g.I.IntDomain.members_of in
    let p = c.args.layout.now.program.now in
    at_place d p (cell_of c.args.fact.now) (IsTrackedType d p) c.args.number c.in-Some.set.now c.is_tracked_set.result (sym c.cell.ensures ∙ ap option_copied c.in-Some.is) c.is_tracked_set.ensures
