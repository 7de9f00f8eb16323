-- Where the flag counts.
use Rattle.std.proofs.Common.{Bool, true, Option, refl, sym, subst}
use Rattle.std.specs.Option.{option_copied}
use Rattle.std.specs.Prelude.{◌↔◌, IsTrue}
use Rattle.cc_state_holds.proofs.activations.is_memory_at.Goals as goal
use Rattle.cc_state_holds.specs.Parts.{IsMemoryAt}
use Rattle.cc_state_reads.specs.CcStateOperators.Domains.{domain}
use Rattle.cc_steps.specs.View.{active_of}

pub is_memory_in-requires-clause-basis : goal.is_memory_in-requires-clause-basis
is_memory_in-requires-clause-basis g c = c.requires.basis

pub is_memory_in-requires-clause-place : goal.is_memory_in-requires-clause-place
is_memory_in-requires-clause-place g c = c.requires.place

pub returns-in-None : goal.returns-in-None
returns-in-None g c = λ m e.
    subst (λ (o : Option Bool). IsTrue true ↔ IsMemoryAt (domain g.I.Concrete.Has g.I.Lattice.IsBelow g.I.IntDomain.OpGives g.I.IntDomain.OpOneGives g.I.IntDomain.ToGives g.I.IntDomain.KeepGives g.I.IntDomain.members_of) c.args.b.now.program.now c.args.b.now.facts.now o m (active_of c.args.a.now) c.args.place.now.number (option_copied c.args.pending)) (sym c.in-None.is) ((λ t. tt), (λ h. refl))

pub returns-in-Some : goal.returns-in-Some
returns-in-Some g c = λ m e.
    subst (λ (o : Option Bool). IsTrue c.is_memory_in.result ↔ IsMemoryAt (domain g.I.Concrete.Has g.I.Lattice.IsBelow g.I.IntDomain.OpGives g.I.IntDomain.OpOneGives g.I.IntDomain.ToGives g.I.IntDomain.KeepGives g.I.IntDomain.members_of) c.args.b.now.program.now c.args.b.now.facts.now o m (active_of c.args.a.now) c.args.place.now.number (option_copied c.args.pending)) (sym c.in-Some.is) (c.is_memory_in.ensures m e)
