-- A register has a set.
use Rattle.std.proofs.Common.{◌∙◌, Some, ap, sym}
use Rattle.std.specs.Option.{option_copied}
use Rattle.std.proofs.lemmas.Result.{IfOk-weaker}
use Rattle.cc_state_operators.specs.Domains.{domain}
use Rattle.cc_state_values.proofs.Arms.{kinds_same, no_register, register_given}
use Rattle.cc_state_values.proofs.values.register.Goals as goal

pub unreachable-requires : goal.unreachable-requires
unreachable-requires g c =
    no_register (domain g.I.Concrete.Has g.I.Lattice.IsBelow g.I.IntDomain.OpGives g.I.IntDomain.OpOneGives g.I.IntDomain.ToGives g.I.IntDomain.KeepGives g.I.IntDomain.members_of) c.args.c.now c.requires.sets c.args.a.now c.requires.pure (sym (ap option_copied c.in-None.is) ∙ c.set_at.ensures)

pub copied-requires : goal.copied-requires
copied-requires g c = kinds_same c.in-Some.set.now

pub returns : goal.returns
returns g c =
    IfOk-weaker c.copied.result _ _
    (λ y k. register_given (domain g.I.Concrete.Has g.I.Lattice.IsBelow g.I.IntDomain.OpGives g.I.IntDomain.OpOneGives g.I.IntDomain.ToGives g.I.IntDomain.KeepGives g.I.IntDomain.members_of) c.args.c.now c.requires.sets c.args.a.now y (ap Some k ∙ (sym (ap option_copied c.in-Some.is) ∙ c.set_at.ensures))) c.copied.ensures
