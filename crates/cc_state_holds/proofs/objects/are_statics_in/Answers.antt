-- By the keys of the positions.
use Rattle.cc_cells.specs.Cells.{cells_of}
use Rattle.cc_state_holds.proofs.Statics.{statics_by_keys}
use Rattle.cc_state_holds.proofs.objects.are_statics_in.Goals as goal
use Rattle.cc_state_reads.specs.CcStateOperators.Domains.{domain}

pub returns : goal.returns
returns g c =
    let w = statics_by_keys (domain g.I.Concrete.Has g.I.Lattice.IsBelow g.I.IntDomain.OpGives g.I.IntDomain.OpOneGives g.I.IntDomain.ToGives g.I.IntDomain.KeepGives g.I.IntDomain.members_of) c.args.b.now.program.now c.args.b.now.facts.now c.args.b.now.objects.now c.requires.objects (cells_of c.args.statics.now) in
    ((λ t. w.0 (c.are_objects_in.ensures.0 t)), (λ h. c.are_objects_in.ensures.1 (w.1 h)))
