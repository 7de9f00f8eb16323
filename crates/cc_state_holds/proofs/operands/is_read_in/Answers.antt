-- By what was given, if that is a good value.
use Rattle.std.proofs.Common.{Option, subst}
use Rattle.std.specs.Prelude.{◌↔◌, IsTrue}
use Rattle.std.proofs.lemmas.Result.{IfOk-weaker}
use Rattle.cc_program.specs.declared.value.Value.{Value}
use Rattle.cc_state_holds.proofs.Readings.{none_given}
use Rattle.cc_state_holds.proofs.operands.is_read_in.Goals as goal
use Rattle.cc_state_holds.specs.Parts.{cell_waited, value_given, WasReadIn}
use Rattle.cc_state_reads.specs.CcStateOperators.Domains.{domain}
use Rattle.cc_flow_sound.specs.CcStates.States.{expression_of}
use Rattle.cc_steps.specs.Step.{progress_at}
use Rattle.cc_steps.specs.View.{active_of}

pub was_given_in-requires-clause-basis : goal.was_given_in-requires-clause-basis
was_given_in-requires-clause-basis g c = c.requires.basis

pub was_given_in-requires-clause-place : goal.was_given_in-requires-clause-place
was_given_in-requires-clause-place g c = c.requires.place

pub returns-in-None : goal.returns-in-None
returns-in-None g c = λ f e.
    (let p = c.args.b.now.program.now in
    let a = active_of c.args.a.now in
    none_given (domain g.I.Concrete.Has g.I.Lattice.IsBelow g.I.IntDomain.OpGives g.I.IntDomain.OpOneGives g.I.IntDomain.ToGives g.I.IntDomain.KeepGives g.I.IntDomain.members_of) p c.args.b.now.facts.now a f c.args.place.now.number (cell_waited (progress_at p a.number a.func c.args.front.now (expression_of a))) (value_given c.args.mark.now) c.in-None.ensures)

pub returns-in-Some : goal.returns-in-Some
returns-in-Some g c =
    let p = c.args.b.now.program.now in
    let a = active_of c.args.a.now in
    IfOk-weaker c.was_given_in.result _ _
    (λ yes k f e.
    subst (λ (o : Option Value). IsTrue yes ↔ WasReadIn (domain g.I.Concrete.Has g.I.Lattice.IsBelow g.I.IntDomain.OpGives g.I.IntDomain.OpOneGives g.I.IntDomain.ToGives g.I.IntDomain.KeepGives g.I.IntDomain.members_of) p c.args.b.now.facts.now a f c.args.place.now.number (cell_waited (progress_at p a.number a.func c.args.front.now (expression_of a))) o) c.in-Some.ensures (k f e))
    c.was_given_in.ensures
