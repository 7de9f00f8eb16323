-- By the keys of the object.
use Rattle.std.proofs.Common.{List, subst}
use Rattle.std.specs.Prelude.{◌↔◌, IsTrue}
use Rattle.cc_state_reads.specs.CcStateFacts.declared.facts.Key.{Key}
use Rattle.cc_state_holds.proofs.Positions.{no_static, static_listed}
use Rattle.cc_state_holds.proofs.operands.is_static_at.Goals as goal
use Rattle.cc_state_holds.specs.Parts.{IsListedIn}
use Rattle.cc_state_reads.specs.CcStateOperators.Domains.{domain}

pub is_in_listed-requires : goal.is_in_listed-requires
is_in_listed-requires g c = c.requires.shape.keys

pub returns-in-None : goal.returns-in-None
returns-in-None g c = λ n e. no_static (domain g.I.Concrete.Has g.I.Lattice.IsBelow g.I.IntDomain.OpGives g.I.IntDomain.OpOneGives g.I.IntDomain.ToGives g.I.IntDomain.KeepGives g.I.IntDomain.members_of) c.args.b.now.program.now c.args.b.now.facts.now n c.args.value.now c.args.b.now.objects.now c.requires.objects c.args.i c.in-None.ensures

pub returns-in-Some : goal.returns-in-Some
returns-in-Some g c = λ n e.
    (let d = domain g.I.Concrete.Has g.I.Lattice.IsBelow g.I.IntDomain.OpGives g.I.IntDomain.OpOneGives g.I.IntDomain.ToGives g.I.IntDomain.KeepGives g.I.IntDomain.members_of in
    let w = static_listed d c.args.b.now.program.now c.args.b.now.facts.now n c.args.value.now c.args.b.now.objects.now c.requires.objects c.args.i c.in-Some.keys.now c.in-Some.ensures in
    let h = subst (λ (ks : List Key). IsTrue c.is_in_listed.result ↔ IsListedIn d c.args.b.now.program.now c.args.b.now.facts.now ks n c.args.value.now) c.all.ensures (c.is_in_listed.ensures n e) in
    ((λ t. w.0 (h.0 t)), (λ k. h.1 (w.1 k))))
