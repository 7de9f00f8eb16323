-- By what is held, if it was written.
use Rattle.std.proofs.Common.{ap}
use Rattle.std.specs.Option.{option_copied}
use Rattle.cc_program.specs.declared.value.Value.{Value}
use Rattle.cc_state_holds.proofs.Held.{held_some, held_none}
use Rattle.cc_state_holds.proofs.registers.is_register_held.Goals as goal
use Rattle.cc_state_holds.specs.Parts.{IsInRegisterSet}
use Rattle.cc_state_reads.specs.CcStateOperators.Domains.{domain}

pub returns-in-None : goal.returns-in-None
returns-in-None g c = λ f e.
    (let d = domain g.I.Concrete.Has g.I.Lattice.IsBelow g.I.IntDomain.OpGives g.I.IntDomain.OpOneGives g.I.IntDomain.ToGives g.I.IntDomain.KeepGives g.I.IntDomain.members_of in
    held_none (λ (x : Value). IsInRegisterSet d c.args.fact.now f c.args.r x) (option_copied c.args.held) (ap option_copied c.in-None.is))

pub returns-in-Some : goal.returns-in-Some
returns-in-Some g c = λ f e.
    (let d = domain g.I.Concrete.Has g.I.Lattice.IsBelow g.I.IntDomain.OpGives g.I.IntDomain.OpOneGives g.I.IntDomain.ToGives g.I.IntDomain.KeepGives g.I.IntDomain.members_of in
    held_some (λ (x : Value). IsInRegisterSet d c.args.fact.now f c.args.r x) (option_copied c.args.held) c.in-Some.value.now c.is_in_register_set.result (ap option_copied c.in-Some.is) (c.is_in_register_set.ensures f e))
