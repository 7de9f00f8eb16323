use Rattle.std.proofs.Common.{arith, length, ap, ◌∙◌}
use Rattle.cc_state_reads.specs.CcStateOperators.Domains.{domain}
use Rattle.cc_state_shaped.proofs.Known.{so_many_points, not_so_many_points, points_counted}
use Rattle.cc_state_shaped.proofs.shape.have_points.Goals as goal

pub returns-then-known-all : goal.returns-then-known-all
returns-then-known-all g c =
    let d = domain g.I.Concrete.Has g.I.Lattice.IsBelow g.I.IntDomain.OpGives g.I.IntDomain.OpOneGives g.I.IntDomain.ToGives g.I.IntDomain.KeepGives g.I.IntDomain.members_of in
    let p = c.args.layout.now.program.now in
    let points = ap length c.all.ensures ∙ points_counted d p c.args.layout.now.flow.now c.requires.flow in
    so_many_points d p c.args.facts.now.at c.all-known.result.now (length c.all.result.now) c.are_known.result c.all-known.ensures points (omega (arith, c.if-known-all.true)) c.are_known.ensures

pub returns-else-known-all : goal.returns-else-known-all
returns-else-known-all g c =
    let d = domain g.I.Concrete.Has g.I.Lattice.IsBelow g.I.IntDomain.OpGives g.I.IntDomain.OpOneGives g.I.IntDomain.ToGives g.I.IntDomain.KeepGives g.I.IntDomain.members_of in
    let p = c.args.layout.now.program.now in
    let points = ap length c.all.ensures ∙ points_counted d p c.args.layout.now.flow.now c.requires.flow in
    not_so_many_points d p c.args.facts.now.at c.all-known.result.now (length c.all.result.now) c.all-known.ensures points (λ e. c.if-known-all.false (omega (arith, e)))
