-- By the cell, if one is read.
use Rattle.std.proofs.Common.{Some, refl, ◌∙◌, ap}
use Rattle.std.proofs.lemmas.Result.{IfOk-weaker}
use Rattle.cc_state.proofs.Sets.{normal_sized}
use Rattle.cc_state_holds.proofs.Readings.{none_read, one_read}
use Rattle.cc_state_holds.proofs.operands.was_given_in.Goals as goal
use Rattle.cc_state_holds.specs.Parts.{cell_waited}
use Rattle.cc_state_reads.specs.CcStateOperators.Domains.{domain}
use Rattle.cc_flow_sound.specs.CcStates.States.{expression_of}
use Rattle.cc_steps.specs.Step.{progress_at}
use Rattle.cc_steps.specs.View.{active_of}

pub progress_at-requires : goal.progress_at-requires
progress_at-requires g c = normal_sized c.args.b.now.program.now c.requires.basis.normal

pub was_in-requires-clause-basis : goal.was_in-requires-clause-basis
was_in-requires-clause-basis g c = c.requires.basis

pub was_in-requires-clause-place : goal.was_in-requires-clause-place
was_in-requires-clause-place g c = c.requires.place

pub returns-in-None : goal.returns-in-None
returns-in-None g c = λ f e.
    (let p = c.args.b.now.program.now in
    let a = active_of c.args.a.now in
    let stage = c.in_ok-stage.ensures ∙ ap (progress_at p a.number a.func c.args.front.now) c.expression-e.ensures in
    none_read (domain g.I.Concrete.Has g.I.Lattice.IsBelow g.I.IntDomain.OpGives g.I.IntDomain.OpOneGives g.I.IntDomain.ToGives g.I.IntDomain.KeepGives g.I.IntDomain.members_of) p c.args.b.now.facts.now a f c.args.place.now.number (cell_waited (progress_at p a.number a.func c.args.front.now (expression_of a))) (Some c.args.value.now) (c.in-None.ensures ∙ ap cell_waited stage))

pub returns : goal.returns
returns g c =
    let p = c.args.b.now.program.now in
    let a = active_of c.args.a.now in
    let stage = c.in_ok-stage.ensures ∙ ap (progress_at p a.number a.func c.args.front.now) c.expression-e.ensures in
    IfOk-weaker c.was_in.result _ _
    (λ yes k f e.
    one_read (domain g.I.Concrete.Has g.I.Lattice.IsBelow g.I.IntDomain.OpGives g.I.IntDomain.OpOneGives g.I.IntDomain.ToGives g.I.IntDomain.KeepGives g.I.IntDomain.members_of) p c.args.b.now.facts.now a f c.args.place.now.number (cell_waited (progress_at p a.number a.func c.args.front.now (expression_of a))) (Some c.args.value.now) c.in-Some.from.now c.args.value.now yes (c.in-Some.ensures ∙ ap cell_waited stage) refl (k f e))
    c.was_in.ensures
