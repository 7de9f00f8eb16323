-- By the values, if the object is there.
use Rattle.std.proofs.Common.{List, ap, subst}
use Rattle.std.specs.Option.{option_copied}
use Rattle.std.specs.Prelude.{◌↔◌, IsTrue, option_map}
use Rattle.cc_program.specs.declared.value.Value.{Value}
use Rattle.cc_state_holds.proofs.Held.{held_some, held_none}
use Rattle.cc_state_holds.proofs.objects.is_object_in.Goals as goal
use Rattle.cc_state_holds.specs.Parts.{AreScalarsIn}
use Rattle.cc_state_reads.specs.CcStateOperators.Domains.{domain}

pub returns-in-None : goal.returns-in-None
returns-in-None g c =
    let d = domain g.I.Concrete.Has g.I.Lattice.IsBelow g.I.IntDomain.OpGives g.I.IntDomain.OpOneGives g.I.IntDomain.ToGives g.I.IntDomain.KeepGives g.I.IntDomain.members_of in
    held_none (λ (x : List Value). AreScalarsIn d c.args.b.now.program.now c.args.b.now.facts.now c.args.keys.now x) (option_map (λ v. v.items) (option_copied c.args.held)) (ap (λ o. option_map (λ v. v.items) (option_copied o)) c.in-None.is)

pub returns-in-Some : goal.returns-in-Some
returns-in-Some g c =
    let d = domain g.I.Concrete.Has g.I.Lattice.IsBelow g.I.IntDomain.OpGives g.I.IntDomain.OpOneGives g.I.IntDomain.ToGives g.I.IntDomain.KeepGives g.I.IntDomain.members_of in
    held_some (λ (x : List Value). AreScalarsIn d c.args.b.now.program.now c.args.b.now.facts.now c.args.keys.now x) (option_map (λ v. v.items) (option_copied c.args.held)) c.in-Some.values.now.items c.are_scalars_in.result
    (ap (λ o. option_map (λ v. v.items) (option_copied o)) c.in-Some.is)
    (subst (λ (x : List Value). IsTrue c.are_scalars_in.result ↔ AreScalarsIn d c.args.b.now.program.now c.args.b.now.facts.now c.args.keys.now x) c.as_slice.ensures.value c.are_scalars_in.ensures)
