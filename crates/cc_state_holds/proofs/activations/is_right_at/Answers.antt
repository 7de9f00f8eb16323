-- By the registers, the memory and the operands.
use Rattle.std.proofs.Common.{ap, true}
use Rattle.std.specs.Option.{option_copied}
use Rattle.std.proofs.lemmas.Result.{IfOk-weaker}
use Rattle.cc_state_holds.proofs.Right.{other_registers, other_memory, by_reads, reads_none, reads_some}
use Rattle.cc_state_holds.proofs.activations.is_right_at.Goals as goal
use Rattle.cc_state_reads.specs.CcStateOperators.Domains.{domain}
use Rattle.cc_steps.specs.View.{active_of}

pub is_memory_at-requires-clause-basis : goal.is_memory_at-requires-clause-basis
is_memory_at-requires-clause-basis g c = c.requires.basis

pub is_memory_at-requires-clause-place : goal.is_memory_at-requires-clause-place
is_memory_at-requires-clause-place g c = c.requires.place

pub are_reads_in-requires-clause-basis : goal.are_reads_in-requires-clause-basis
are_reads_in-requires-clause-basis g c = c.requires.basis

pub are_reads_in-requires-clause-place : goal.are_reads_in-requires-clause-place
are_reads_in-requires-clause-place g c = c.requires.place

pub returns-then-not-are_registers_held : goal.returns-then-not-are_registers_held
returns-then-not-are_registers_held g c = λ f m e s.
    (let here = c.requires.place in
    other_registers (domain g.I.Concrete.Has g.I.Lattice.IsBelow g.I.IntDomain.OpGives g.I.IntDomain.OpOneGives g.I.IntDomain.ToGives g.I.IntDomain.KeepGives g.I.IntDomain.members_of) c.args.b.now c.requires.basis c.args.place.now here m (active_of c.args.a.now) (option_copied c.args.pending) f c.args.own.now e c.args.around.now.flag (c.if-not-are_registers_held.ensures here.func here.registers))

pub returns-then-not-is_memory_at : goal.returns-then-not-is_memory_at
returns-then-not-is_memory_at g c = λ f m e s.
    other_memory (domain g.I.Concrete.Has g.I.Lattice.IsBelow g.I.IntDomain.OpGives g.I.IntDomain.OpOneGives g.I.IntDomain.ToGives g.I.IntDomain.KeepGives g.I.IntDomain.members_of) c.args.b.now c.requires.basis c.args.place.now c.requires.place m (active_of c.args.a.now) (option_copied c.args.pending) f c.args.own.now e c.args.around.now.flag (c.if-not-is_memory_at.ensures m s)

pub returns-in-None : goal.returns-in-None
returns-in-None g c =
    let d = domain g.I.Concrete.Has g.I.Lattice.IsBelow g.I.IntDomain.OpGives g.I.IntDomain.OpOneGives g.I.IntDomain.ToGives g.I.IntDomain.KeepGives g.I.IntDomain.members_of in
    let here = c.requires.place in
    let a = active_of c.args.a.now in
    let result = option_copied c.args.pending in
    IfOk-weaker c.are_reads_in.result _ _
    (λ yes k f m e s.
    by_reads d c.args.b.now c.requires.basis c.args.place.now here m a result f c.args.own.now e c.args.around.now.flag yes c.requires.stands (c.if-not-are_registers_held.ensures here.func here.registers) (c.if-not-is_memory_at.ensures m s)
    (reads_none d c.args.b.now c.requires.basis c.args.place.now here m a result f c.args.own.now e c.args.around.now.flag yes (ap option_copied c.in-None.is) (k f e)))
    c.are_reads_in.ensures

pub returns-in-Some : goal.returns-in-Some
returns-in-Some g c = λ f m e s.
    (let d = domain g.I.Concrete.Has g.I.Lattice.IsBelow g.I.IntDomain.OpGives g.I.IntDomain.OpOneGives g.I.IntDomain.ToGives g.I.IntDomain.KeepGives g.I.IntDomain.members_of in
    let here = c.requires.place in
    let a = active_of c.args.a.now in
    let result = option_copied c.args.pending in
    by_reads d c.args.b.now c.requires.basis c.args.place.now here m a result f c.args.own.now e c.args.around.now.flag true c.requires.stands (c.if-not-are_registers_held.ensures here.func here.registers) (c.if-not-is_memory_at.ensures m s)
    (reads_some d c.args.b.now c.requires.basis c.args.place.now here m a result f c.args.own.now e c.args.around.now.flag c.in-Some.field-0.now (ap option_copied c.in-Some.is)))
