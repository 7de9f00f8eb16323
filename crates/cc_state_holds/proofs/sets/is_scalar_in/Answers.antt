-- By what is held, if it was written.
use Rattle.std.proofs.Common.{ap, subst}
use Rattle.std.specs.Option.{option_copied}
use Rattle.std.specs.Prelude.{◌↔◌, IsTrue}
use Rattle.cc_program.specs.declared.value.Value.{Value}
use Rattle.cc_state.specs.View.{InWhole}
use Rattle.cc_state_holds.proofs.Held.{held_some, held_none}
use Rattle.cc_state_holds.proofs.sets.is_scalar_in.Goals as goal
use Rattle.cc_state_holds.specs.Parts.{HasIn}
use Rattle.cc_state_reads.specs.CcStateOperators.Domains.{domain}

pub returns-in-None : goal.returns-in-None
returns-in-None g c =
    let d = domain g.I.Concrete.Has g.I.Lattice.IsBelow g.I.IntDomain.OpGives g.I.IntDomain.OpOneGives g.I.IntDomain.ToGives g.I.IntDomain.KeepGives g.I.IntDomain.members_of in
    held_none (λ (x : Value). InWhole d c.args.b.now.program.now c.args.b.now.facts.now c.args.key x) (option_copied c.args.held) (ap option_copied c.in-None.is)

pub returns-in-Some : goal.returns-in-Some
returns-in-Some g c =
    let d = domain g.I.Concrete.Has g.I.Lattice.IsBelow g.I.IntDomain.OpGives g.I.IntDomain.OpOneGives g.I.IntDomain.ToGives g.I.IntDomain.KeepGives g.I.IntDomain.members_of in
    let v = c.in-Some.value.now in
    held_some (λ (x : Value). InWhole d c.args.b.now.program.now c.args.b.now.facts.now c.args.key x) (option_copied c.args.held) v c.has.result (ap option_copied c.in-Some.is)
    (subst (λ y. IsTrue c.has.result ↔ HasIn d y v) (c.whole_of.ensures c.args.b.now.program.now c.requires) c.has.ensures)
