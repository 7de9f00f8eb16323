-- By the locals, and by the points at which it counts as standing.
use Rattle.std.proofs.Common.{ℕ, List, Option, sym, ◌∙◌, subst, true≢false}
use Rattle.std.specs.List.{Contains}
use Rattle.std.specs.Option.{option_copied}
use Rattle.std.specs.Prelude.{◌↔◌}
use Rattle.std.proofs.lemmas.Result.{IfOk-weaker}
use Rattle.cc_program.specs.declared.value.Value.{Value}
use Rattle.cc_proof_covers.specs.Covers.{StandsAtPoint}
use Rattle.cc_state.proofs.Sets.{normal_sized, function_few}
use Rattle.cc_state_holds.proofs.Activity.{other_locals, by_points}
use Rattle.cc_state_holds.proofs.activations.is_body_in.Goals as goal
use Rattle.cc_state_reads.specs.CcStateOperators.Domains.{domain}
use Rattle.cc_steps.specs.View.{active_of}
use Rattle.cc_state_reads.proofs.CcSyntax.NameRules.{sound-typed}

pub registers-requires : goal.registers-requires
registers-requires g c = function_few c.args.b.now.program.now c.requires.basis.normal c.args.a.now.func c.args.f.now c.requires.there

pub are_locals_in-requires-clause-typed : goal.are_locals_in-requires-clause-typed
are_locals_in-requires-clause-typed g c = sound-typed c.args.b.now.program.now c.requires.basis.normal.sound

pub are_locals_in-requires-clause-keys : goal.are_locals_in-requires-clause-keys
are_locals_in-requires-clause-keys g c = c.requires.basis.shape.keys

pub are_locals_in-requires-clause-there : goal.are_locals_in-requires-clause-there
are_locals_in-requires-clause-there g c = c.requires.there

pub are_locals_in-requires-clause-registers : goal.are_locals_in-requires-clause-registers
are_locals_in-requires-clause-registers g c = c.deref.ensures.value ∙ c.in_ok-own.ensures

pub pending-requires : goal.pending-requires
pending-requires g c = normal_sized c.args.b.now.program.now c.requires.basis.normal

pub counted_points-requires : goal.counted_points-requires
counted_points-requires g c = c.requires.basis.flow

pub is_right_among-requires-clause-basis : goal.is_right_among-requires-clause-basis
is_right_among-requires-clause-basis g c = c.requires.basis

pub is_right_among-requires-clause-stands : goal.is_right_among-requires-clause-stands
is_right_among-requires-clause-stands g c = λ n h.
    subst (λ (o : Option (ℕ × Value)). StandsAtPoint c.args.b.now.program.now (active_of c.args.a.now) o n) (c.as_ref.ensures.value ∙ sym c.as_ref-2.ensures.value) ((c.in_ok-points.ensures n).0 (subst (λ (ns : List ℕ). Contains ns n) c.deref-2.ensures.value h))

pub returns-then-not-fit : goal.returns-then-not-fit
returns-then-not-fit g c = λ m s.
    other_locals (domain g.I.Concrete.Has g.I.Lattice.IsBelow g.I.IntDomain.OpGives g.I.IntDomain.OpOneGives g.I.IntDomain.ToGives g.I.IntDomain.KeepGives g.I.IntDomain.members_of) c.args.b.now.program.now c.args.b.now.facts.now m c.args.around.now.flag (active_of c.args.a.now) c.args.f.now (λ h. true≢false (sym (c.in_ok-fit.ensures.1 h) ∙ c.if-not-fit.true))

pub returns : goal.returns
returns g c =
    let d = domain g.I.Concrete.Has g.I.Lattice.IsBelow g.I.IntDomain.OpGives g.I.IntDomain.OpOneGives g.I.IntDomain.ToGives g.I.IntDomain.KeepGives g.I.IntDomain.members_of in
    let p = c.args.b.now.program.now in
    let a = active_of c.args.a.now in
    IfOk-weaker c.is_right_among.result _ _
    (λ yes k m s.
    by_points d p c.args.b.now.facts.now m c.args.around.now.flag a c.args.f.now c.deref-2.result.now (option_copied c.as_ref-2.result) yes (c.as_ref-2.ensures.value ∙ c.in_ok-given.ensures)
    (λ n. subst (λ (ns : List ℕ). Contains ns n ↔ StandsAtPoint p a (option_copied c.as_ref-2.result) n) (sym c.deref-2.ensures.value)
    (subst (λ (o : Option (ℕ × Value)). Contains c.in_ok-points.points.items n ↔ StandsAtPoint p a o n) (c.as_ref.ensures.value ∙ sym c.as_ref-2.ensures.value) (c.in_ok-points.ensures n)))
    (c.in_ok-fit.ensures.0 c.if-not-fit.false) (k c.args.f.now m (c.deref-3.ensures.value ∙ c.in_ok-own.ensures) s))
    c.is_right_among.ensures
