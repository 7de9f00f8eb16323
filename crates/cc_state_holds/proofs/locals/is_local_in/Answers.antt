-- A register lies in the whole-run sets of nothing; of another local its values do.
use Rattle.std.proofs.Common.{List, Option, true≢false, refl, ap, sym, ◌∙◌, subst}
use Rattle.std.specs.Option.{option_copied}
use Rattle.std.specs.Prelude.{◌↔◌, IsTrue, option_map}
use Rattle.cc_program.specs.declared.value.Value.{Value}
use Rattle.cc_state_holds.proofs.Held.{held_some, held_none}
use Rattle.cc_state_holds.proofs.locals.is_local_in.Goals as goal
use Rattle.cc_state_holds.specs.Parts.{AreWrittenIn}
use Rattle.cc_state_reads.specs.CcStateOperators.Domains.{domain}

pub returns-then-is_register_among : goal.returns-then-is_register_among
returns-then-is_register_among g c = λ f e. ((λ t no. absurd (true≢false (c.if-is_register_among.ensures f e ∙ no))), (λ h. refl))

pub returns-in-None : goal.returns-in-None
returns-in-None g c = λ f e.
    (let d = domain g.I.Concrete.Has g.I.Lattice.IsBelow g.I.IntDomain.OpGives g.I.IntDomain.OpOneGives g.I.IntDomain.ToGives g.I.IntDomain.KeepGives g.I.IntDomain.members_of in
    let h = held_none (λ (x : List (Option Value)). AreWrittenIn d c.args.b.now.program.now c.args.b.now.facts.now c.args.keys.now x) (option_map (λ v. v.items) (option_copied c.args.held)) (ap (λ o. option_map (λ v. v.items) (option_copied o)) c.in-None.is) in
    ((λ t no. h.0 t), (λ k. refl)))

pub returns-in-Some : goal.returns-in-Some
returns-in-Some g c = λ f e.
    (let d = domain g.I.Concrete.Has g.I.Lattice.IsBelow g.I.IntDomain.OpGives g.I.IntDomain.OpOneGives g.I.IntDomain.ToGives g.I.IntDomain.KeepGives g.I.IntDomain.members_of in
    let h =
    held_some (λ (x : List (Option Value)). AreWrittenIn d c.args.b.now.program.now c.args.b.now.facts.now c.args.keys.now x) (option_map (λ v. v.items) (option_copied c.args.held)) c.in-Some.values.now.items c.are_written_in.result
    (ap (λ o. option_map (λ v. v.items) (option_copied o)) c.in-Some.is)
    (subst (λ (x : List (Option Value)). IsTrue c.are_written_in.result ↔ AreWrittenIn d c.args.b.now.program.now c.args.b.now.facts.now c.args.keys.now x) c.as_slice.ensures.value c.are_written_in.ensures) in
    ((λ t no. h.0 t), (λ k. h.1 (k (sym (c.if-is_register_among.ensures f e))))))
