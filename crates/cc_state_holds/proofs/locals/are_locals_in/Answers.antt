-- By the keys of the positions.
use Rattle.std.proofs.Common.{◌<◌, ◌^◌, List, length, ap, sym, ◌∙◌, subst}
use Rattle.std.specs.Prelude.{◌↔◌, IsTrue, Option, Vec}
use Rattle.std.specs.declared.alloc.Global.{Global}
use Rattle.cc_cells.specs.Cells.{cells_of}
use Rattle.cc_program.specs.declared.value.Value.{Value}
use Rattle.cc_state_reads.specs.CcStateFacts.declared.facts.Key.{Key}
use Rattle.cc_state_holds.proofs.LocalKeys.{locals_by_keys}
use Rattle.cc_state_holds.proofs.locals.are_locals_in.Goals as goal
use Rattle.cc_state_holds.specs.Parts.{AreLocalListsIn}
use Rattle.cc_state_reads.specs.CcStateOperators.Domains.{domain}
use Rattle.cc_state_scalars.proofs.Locals.{few_locals_of}
use Rattle.cc_steps.specs.View.{active_of}

pub are_local_lists_in-requires-clause-keys : goal.are_local_lists_in-requires-clause-keys
are_local_lists_in-requires-clause-keys g c = c.requires.keys

pub are_local_lists_in-requires-clause-few : goal.are_local_lists_in-requires-clause-few
are_local_lists_in-requires-clause-few g c =
    subst (λ n. n < 2 ^ 32) (sym (ap length c.all.ensures ∙ c.in_ok-keys.ensures.count)) (few_locals_of c.args.b.now.program.now c.requires.typed c.args.a.now.func c.args.f.now c.requires.there)

pub returns : goal.returns
returns g c =
    let d = domain g.I.Concrete.Has g.I.Lattice.IsBelow g.I.IntDomain.OpGives g.I.IntDomain.OpOneGives g.I.IntDomain.ToGives g.I.IntDomain.KeepGives g.I.IntDomain.members_of in
    let p = c.args.b.now.program.now in
    let a = active_of c.args.a.now in
    let w = locals_by_keys d p c.args.b.now.facts.now a c.args.f.now c.requires.there c.in_ok-keys.keys c.in_ok-keys.ensures in
    let h =
    subst (λ (ks : List (List Key)). IsTrue c.are_local_lists_in.result ↔ AreLocalListsIn d p c.args.b.now.facts.now c.args.f.now ks a.locals) c.all.ensures
    (subst (λ (ls : List (Vec (Option Value) Global)). IsTrue c.are_local_lists_in.result ↔ AreLocalListsIn d p c.args.b.now.facts.now c.args.f.now c.all.result.now (cells_of ls)) c.deref.ensures.value (c.are_local_lists_in.ensures c.args.f.now c.requires.registers)) in
    ((λ t. w.0 (h.0 t)), (λ k. h.1 (w.1 k)))
