-- By its set as a register, and by its key as another local.
use Rattle.std.proofs.lemmas.Result.{IfOk-weaker}
use Rattle.cc_state_holds.proofs.Readings.{other_register, auto_by}
use Rattle.cc_state_holds.proofs.operands.was_auto_in.Goals as goal
use Rattle.cc_state_reads.specs.CcStateOperators.Domains.{domain}
use Rattle.cc_steps.specs.View.{active_of}

pub was_local_in-requires : goal.was_local_in-requires
was_local_in-requires g c = c.requires.basis

pub returns-then-not-was_register_in : goal.returns-then-not-was_register_in
returns-then-not-was_register_in g c = λ f e.
    (let l = c.args.local in
    let here = c.requires.place in
    other_register (domain g.I.Concrete.Has g.I.Lattice.IsBelow g.I.IntDomain.OpGives g.I.IntDomain.OpOneGives g.I.IntDomain.ToGives g.I.IntDomain.KeepGives g.I.IntDomain.members_of) c.args.b.now c.args.place.now here (active_of c.args.a.now) f c.args.value.now l.activation l.func l.local c.args.path.now (c.if-not-was_register_in.ensures here.func f here.registers e))

pub returns : goal.returns
returns g c =
    let l = c.args.local in
    let here = c.requires.place in
    IfOk-weaker c.was_local_in.result _ _
    (λ yes k f e. auto_by (domain g.I.Concrete.Has g.I.Lattice.IsBelow g.I.IntDomain.OpGives g.I.IntDomain.OpOneGives g.I.IntDomain.ToGives g.I.IntDomain.KeepGives g.I.IntDomain.members_of) c.args.b.now c.args.place.now here (active_of c.args.a.now) f c.args.value.now l.activation l.func l.local c.args.path.now yes (c.if-not-was_register_in.ensures here.func f here.registers e) k)
    c.was_local_in.ensures
