-- By its position, and by what is known of a tracked cell.
use Rattle.std.proofs.Common.{sym}
use Rattle.cc_program.specs.declared.value.Root.TheVariants as root
use Rattle.cc_state_holds.proofs.Readings.{other_static, static_by}
use Rattle.cc_state_holds.proofs.operands.was_static_in.Goals as goal
use Rattle.cc_state_reads.specs.CcStateOperators.Domains.{domain}
use Rattle.cc_steps.specs.Step.{cell_position}

pub is_in_tracked-requires : goal.is_in_tracked-requires
is_in_tracked-requires g c = c.requires.basis.tracked

pub returns-then-not-is_static_at : goal.returns-then-not-is_static_at
returns-then-not-is_static_at g c = λ a f.
    other_static (domain g.I.Concrete.Has g.I.Lattice.IsBelow g.I.IntDomain.OpGives g.I.IntDomain.OpOneGives g.I.IntDomain.ToGives g.I.IntDomain.KeepGives g.I.IntDomain.members_of) c.args.b.now c.args.place.now c.requires.place a f c.args.value.now c.args.i c.args.path.now
    (c.if-not-is_static_at.ensures (cell_position c.args.b.now.program.now (root.Static c.args.i) c.args.path.now) (sym c.position_of-stands.ensures))

pub returns : goal.returns
returns g c = λ a f.
    static_by (domain g.I.Concrete.Has g.I.Lattice.IsBelow g.I.IntDomain.OpGives g.I.IntDomain.OpOneGives g.I.IntDomain.ToGives g.I.IntDomain.KeepGives g.I.IntDomain.members_of) c.args.b.now c.args.place.now c.requires.place a f c.args.value.now c.args.i c.args.path.now c.is_in_tracked.result
    (c.if-not-is_static_at.ensures (cell_position c.args.b.now.program.now (root.Static c.args.i) c.args.path.now) (sym c.position_of-stands.ensures)) c.is_in_tracked.ensures
