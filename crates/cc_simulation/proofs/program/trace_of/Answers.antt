use Rattle.std.proofs.Common.{refl}
use Rattle.cc_simulation.proofs.ProgramTraces.{rows-end}
use Rattle.cc_simulation.proofs.program.trace_of.Goals as goal

pub returns-in-None-clause-ends : goal.returns-in-None-clause-ends
returns-in-None-clause-ends c = rows-end c.args.inputs.now c.args.arrivals.now c.args.p.now c.requires (c.in-None.ensures.within refl) c.trace_over.result c.trace_over.ensures.ends
