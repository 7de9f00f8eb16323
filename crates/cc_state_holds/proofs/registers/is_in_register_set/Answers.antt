-- By the register's position.
use Rattle.std.proofs.Common.{ap, sym, ◌∙◌, subst}
use Rattle.std.specs.Prelude.{◌↔◌, ◌==◌, IsTrue, position}
use Rattle.cc_state_reads.specs.CcStateFacts.Facts.{local_of}
use Rattle.cc_state_holds.proofs.Held.{there_some, there_none}
use Rattle.cc_state_holds.proofs.registers.is_in_register_set.Goals as goal
use Rattle.cc_state_holds.specs.Parts.{HasIn}
use Rattle.cc_state_reads.specs.CcStateKeys.Tracked.{register_number}
use Rattle.cc_state_reads.specs.CcStateOperators.Domains.{domain}

pub returns-in-None : goal.returns-in-None
returns-in-None g c = λ f e.
    (let d = domain g.I.Concrete.Has g.I.Lattice.IsBelow g.I.IntDomain.OpGives g.I.IntDomain.OpOneGives g.I.IntDomain.ToGives g.I.IntDomain.KeepGives g.I.IntDomain.members_of in
    there_none (λ number. HasIn d (local_of c.args.fact.now number) c.args.value.now) (register_number f c.args.r) (ap (position (λ n. n == c.args.r)) (sym e) ∙ sym c.in-None.ensures))

pub returns-in-Some : goal.returns-in-Some
returns-in-Some g c = λ f e.
    (let d = domain g.I.Concrete.Has g.I.Lattice.IsBelow g.I.IntDomain.OpGives g.I.IntDomain.OpOneGives g.I.IntDomain.ToGives g.I.IntDomain.KeepGives g.I.IntDomain.members_of in
    there_some (λ number. HasIn d (local_of c.args.fact.now number) c.args.value.now) (register_number f c.args.r) c.in-Some.number c.has.result (ap (position (λ n. n == c.args.r)) (sym e) ∙ sym c.in-Some.ensures)
    (subst (λ y. IsTrue c.has.result ↔ HasIn d y c.args.value.now) c.local.ensures c.has.ensures))
