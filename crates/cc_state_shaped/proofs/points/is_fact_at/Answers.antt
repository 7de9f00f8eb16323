use Rattle.std.proofs.Common.{None, Some, ap, sym, ◌∙◌}
use Rattle.std.specs.Option.{option_copied}
use Rattle.cc_state_reads.specs.CcFlow.declared.types.Flow.{Flow}
use Rattle.cc_state_reads.specs.CcFlow.Points.{flow_of}
use Rattle.cc_state_reads.specs.CcStateOperators.Domains.{domain}
use Rattle.cc_state_shaped.proofs.Known.{at_none, at_some}
use Rattle.cc_state_shaped.proofs.Typed.{found_at}
use Rattle.cc_state_shaped.proofs.points.is_fact_at.Goals as goal

pub returns-in-None : goal.returns-in-None
returns-in-None g c =
    let d = domain g.I.Concrete.Has g.I.Lattice.IsBelow g.I.IntDomain.OpGives g.I.IntDomain.OpOneGives g.I.IntDomain.ToGives g.I.IntDomain.KeepGives g.I.IntDomain.members_of in
    let p = c.args.layout.now.program.now in
    at_none d p c.args.number c.args.fact.now (found_at (flow_of p).points c.all.result.now c.args.number None (c.all.ensures ∙ ap (λ (f : Flow). f.points) c.requires.flow) (sym (ap option_copied c.in-None.is) ∙ c.at.ensures))

pub returns-in-Some : goal.returns-in-Some
returns-in-Some g c =
    let d = domain g.I.Concrete.Has g.I.Lattice.IsBelow g.I.IntDomain.OpGives g.I.IntDomain.OpOneGives g.I.IntDomain.ToGives g.I.IntDomain.KeepGives g.I.IntDomain.members_of in
    let p = c.args.layout.now.program.now in
    at_some d p c.args.number c.args.fact.now c.in-Some.point.now c.is_fact_in.result (found_at (flow_of p).points c.all.result.now c.args.number (Some c.in-Some.point.now) (c.all.ensures ∙ ap (λ (f : Flow). f.points) c.requires.flow) (sym (ap option_copied c.in-Some.is) ∙ c.at.ensures)) c.is_fact_in.ensures
