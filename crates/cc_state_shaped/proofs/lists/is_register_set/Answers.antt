-- By what is found at the place.
use Rattle.std.proofs.Common.{None, Some, ap, sym, ◌∙◌}
use Rattle.std.specs.Prelude.{option_map}
use Rattle.std.specs.Option.{option_copied}
use Rattle.cc_state_reads.specs.CcStateKeys.Tracked.{registers}
use Rattle.cc_state_reads.specs.CcStateOperators.Domains.{domain}
use Rattle.cc_state_shaped.proofs.Typed.{found_at, no_register, no_local, of_register}
use Rattle.cc_state_shaped.proofs.lists.is_register_set.Goals as goal
use Rattle.cc_state_reads.specs.CcTyped.View.{value_view}

pub returns-in-None : goal.returns-in-None
returns-in-None g c =
    let d = domain g.I.Concrete.Has g.I.Lattice.IsBelow g.I.IntDomain.OpGives g.I.IntDomain.OpOneGives g.I.IntDomain.ToGives g.I.IntDomain.KeepGives g.I.IntDomain.members_of in
    let p = c.args.layout.now.program.now in
    let f = c.args.f.now in
    no_register d p c.args.set.now c.args.number f (found_at (registers f) c.args.registers.now c.args.number None c.requires.registers (sym (ap option_copied c.in-None.is) ∙ c.at.ensures))

pub returns-in-None-at : goal.returns-in-None-at
returns-in-None-at g c =
    let d = domain g.I.Concrete.Has g.I.Lattice.IsBelow g.I.IntDomain.OpGives g.I.IntDomain.OpOneGives g.I.IntDomain.ToGives g.I.IntDomain.KeepGives g.I.IntDomain.members_of in
    let p = c.args.layout.now.program.now in
    let f = c.args.f.now in
    no_local d p c.args.set.now c.args.number f c.in-Some.register.now (found_at (registers f) c.args.registers.now c.args.number (Some c.in-Some.register.now) c.requires.registers (sym (ap option_copied c.in-Some.is) ∙ c.at.ensures))
    (found_at f.locals c.all.result.now c.in-Some.register.now None (c.all.ensures) (sym (ap option_copied c.in-None-at.is) ∙ c.at-in-Some.ensures))

pub returns-in-Some-at : goal.returns-in-Some-at
returns-in-Some-at g c =
    let d = domain g.I.Concrete.Has g.I.Lattice.IsBelow g.I.IntDomain.OpGives g.I.IntDomain.OpOneGives g.I.IntDomain.ToGives g.I.IntDomain.KeepGives g.I.IntDomain.members_of in
    let p = c.args.layout.now.program.now in
    let f = c.args.f.now in
    of_register d p c.args.set.now c.args.number f c.in-Some.register.now c.in-Some-at.local.now (option_map value_view c.scalar_value.result) c.is_set_of.result
    (found_at (registers f) c.args.registers.now c.args.number (Some c.in-Some.register.now) c.requires.registers (sym (ap option_copied c.in-Some.is) ∙ c.at.ensures))
    (found_at f.locals c.all.result.now c.in-Some.register.now (Some c.in-Some-at.local.now) (c.all.ensures) (sym (ap option_copied c.in-Some-at.is) ∙ c.at-in-Some.ensures)) c.scalar_value.ensures c.is_set_of.ensures
