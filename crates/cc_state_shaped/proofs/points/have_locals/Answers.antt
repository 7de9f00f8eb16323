use Rattle.std.proofs.Common.{arith, ◌≡◌, length, ap}
use Rattle.cc_state.specs.Shape.{IsRegisterType}
use Rattle.cc_state_reads.specs.CcStateKeys.Tracked.{registers}
use Rattle.cc_state_reads.specs.CcStateOperators.Domains.{domain}
use Rattle.cc_state_shaped.proofs.Tests.{so_many}
use Rattle.cc_state_shaped.proofs.points.have_locals.Goals as goal

pub returns-then-sets-registers : goal.returns-then-sets-registers
returns-then-sets-registers g c =
    let d = domain g.I.Concrete.Has g.I.Lattice.IsBelow g.I.IntDomain.OpGives g.I.IntDomain.OpOneGives g.I.IntDomain.ToGives g.I.IntDomain.KeepGives g.I.IntDomain.members_of in
    let p = c.args.layout.now.program.now in
    let f = c.args.f.now in
    let count : length c.all-sets.result.now ≡ length (registers f) = omega (arith, c.if-sets-registers.true, ap length c.requires.registers) in
    so_many d p (IsRegisterType d p f) c.args.fact.now.locals c.all-sets.result.now (length (registers f)) c.all-sets.ensures c.are_register_sets.result count c.are_register_sets.ensures
