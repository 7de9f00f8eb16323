use Rattle.std.proofs.Common.{◌≡◌, sym, subst}
use Rattle.cases_facts.proofs.runs.write_run.Goals as goal
use Rattle.cc_flow.specs.Points.{flow_of}
use Rattle.cc_program.specs.declared.program.Program.{Program}
use Rattle.cc_state.specs.Shape.{HaveShape}
use Rattle.cc_state_operators.specs.Domains.{domain}
use Rattle.cc_syntax.specs.Normal.{IsNormal}

pub next_holds-requires-clause-normal : goal.next_holds-requires-clause-normal
next_holds-requires-clause-normal g c = subst IsNormal (sym c.loop-turn.invariant) c.requires.normal

pub next_holds-requires-clause-flow : goal.next_holds-requires-clause-flow
next_holds-requires-clause-flow g c = subst (λ (p : Program). c.args.flow.now ≡ flow_of p) (sym c.loop-turn.invariant) c.requires.flow

pub next_holds-requires-clause-shape : goal.next_holds-requires-clause-shape
next_holds-requires-clause-shape g c =
    subst (λ (p : Program). HaveShape (domain g.I.Concrete.Has g.I.Lattice.IsBelow g.I.IntDomain.OpGives g.I.IntDomain.OpOneGives g.I.IntDomain.ToGives g.I.IntDomain.KeepGives g.I.IntDomain.members_of) p c.args.facts.now) (sym c.loop-turn.invariant) c.requires.shape
