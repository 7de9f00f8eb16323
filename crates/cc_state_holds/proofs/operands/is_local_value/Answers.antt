-- By its position, where it is no register.
use Rattle.std.proofs.Common.{sym, ◌∙◌}
use Rattle.std.proofs.lemmas.Result.{IfOk-weaker}
use Rattle.cc_program.specs.declared.value.Root.TheVariants as root
use Rattle.cc_state.proofs.Sets.{function_few}
use Rattle.cc_state_holds.proofs.Positions.{register_read, other_read}
use Rattle.cc_state_holds.proofs.operands.is_local_value.Goals as goal
use Rattle.cc_state_reads.specs.CcStateOperators.Domains.{domain}
use Rattle.cc_steps.specs.Step.{cell_position}

pub registers-requires : goal.registers-requires
registers-requires g c = function_few c.args.b.now.program.now c.requires.basis.normal c.args.local.func c.args.f.now c.requires.there

pub is_local_at-requires-clause-basis : goal.is_local_at-requires-clause-basis
is_local_at-requires-clause-basis g c = c.requires.basis

pub is_local_at-requires-clause-there : goal.is_local_at-requires-clause-there
is_local_at-requires-clause-there g c = c.requires.there

pub returns-then-is_register_among : goal.returns-then-is_register_among
returns-then-is_register_among g c =
    let l = c.args.local in
    register_read (domain g.I.Concrete.Has g.I.Lattice.IsBelow g.I.IntDomain.OpGives g.I.IntDomain.OpOneGives g.I.IntDomain.ToGives g.I.IntDomain.KeepGives g.I.IntDomain.members_of) c.args.b.now.program.now c.args.b.now.facts.now l.activation l.func l.local c.args.path.now c.args.value.now c.args.f.now c.requires.there (c.if-is_register_among.ensures c.args.f.now (c.deref.ensures.value ∙ c.in_ok-registers.ensures))

pub returns : goal.returns
returns g c =
    let l = c.args.local in
    IfOk-weaker c.is_local_at.result _ _
    (λ yes k.
    other_read (domain g.I.Concrete.Has g.I.Lattice.IsBelow g.I.IntDomain.OpGives g.I.IntDomain.OpOneGives g.I.IntDomain.ToGives g.I.IntDomain.KeepGives g.I.IntDomain.members_of) c.args.b.now.program.now c.args.b.now.facts.now l.activation l.func l.local c.args.path.now c.args.value.now c.args.f.now c.requires.there yes
    (c.if-is_register_among.ensures c.args.f.now (c.deref.ensures.value ∙ c.in_ok-registers.ensures)) (k (cell_position c.args.b.now.program.now (root.Auto l.activation l.func l.local) c.args.path.now) (sym c.position_of-stands.ensures)))
    c.is_local_at.ensures
