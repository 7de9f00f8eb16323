-- By the keys of the local.
use Rattle.std.proofs.Common.{List, slice_get, ap, ◌∙◌, subst}
use Rattle.std.specs.Prelude.{◌↔◌, IsTrue}
use Rattle.cc_state_reads.specs.CcStateFacts.declared.facts.Key.{Key}
use Rattle.cc_state_holds.proofs.Positions.{no_local, local_listed}
use Rattle.cc_state_holds.proofs.operands.is_local_at.Goals as goal
use Rattle.cc_state_holds.specs.Parts.{IsListedIn}
use Rattle.cc_state_reads.specs.CcStateOperators.Domains.{domain}
use Rattle.cc_state_reads.proofs.CcSyntax.NameRules.{sound-typed}

pub local_keys-requires-clause-typed : goal.local_keys-requires-clause-typed
local_keys-requires-clause-typed g c = sound-typed c.args.b.now.program.now c.requires.basis.normal.sound

pub is_in_listed-requires : goal.is_in_listed-requires
is_in_listed-requires g c = c.requires.basis.shape.keys

pub returns-in-None : goal.returns-in-None
returns-in-None g c = λ n e.
    no_local (domain g.I.Concrete.Has g.I.Lattice.IsBelow g.I.IntDomain.OpGives g.I.IntDomain.OpOneGives g.I.IntDomain.ToGives g.I.IntDomain.KeepGives g.I.IntDomain.members_of) c.args.b.now.program.now c.args.b.now.facts.now n c.args.value.now c.args.local.func c.args.f.now c.requires.there c.in_ok-lists.lists c.in_ok-lists.ensures c.args.local.local
    (c.in-None.ensures ∙ ap (λ (ls : List (List Key)). slice_get ls c.args.local.local) c.all.ensures)

pub returns : goal.returns
returns g c = λ n e.
    (let d = domain g.I.Concrete.Has g.I.Lattice.IsBelow g.I.IntDomain.OpGives g.I.IntDomain.OpOneGives g.I.IntDomain.ToGives g.I.IntDomain.KeepGives g.I.IntDomain.members_of in
    let w = local_listed d c.args.b.now.program.now c.args.b.now.facts.now n c.args.value.now c.args.local.func c.args.f.now c.requires.there c.in_ok-lists.lists c.in_ok-lists.ensures c.args.local.local c.in-Some.keys.now
    (c.in-Some.ensures ∙ ap (λ (ls : List (List Key)). slice_get ls c.args.local.local) c.all.ensures) in
    let h = subst (λ (ks : List Key). IsTrue c.is_in_listed.result ↔ IsListedIn d c.args.b.now.program.now c.args.b.now.facts.now ks n c.args.value.now) c.all-in-Some.ensures (c.is_in_listed.ensures n e) in
    ((λ t. w.0 (h.0 t)), (λ k. h.1 (w.1 k))))
