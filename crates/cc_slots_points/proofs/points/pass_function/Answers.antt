-- Where no statement stands nothing is accessed.
use Rattle.std.proofs.Common.{◌≡◌, None, refl, ap, sym, ◌∙◌}
use Rattle.cc_state_points.specs.CcFlowSound.Statements.{statement_at}
use Rattle.cc_state_points.specs.CcRulesFlows.Nexts.{statement_of}
use Rattle.cc_slots_points.specs.Points.{Quiet}
use Rattle.cc_slots_points.proofs.Acting.{no_statement}
use Rattle.cc_slots_points.proofs.FrameLemmas.{there_is}
use Rattle.cc_slots_points.proofs.points.pass_function.Goals as goal

pub returns-in-None : goal.returns-in-None
returns-in-None g c =
    let none : statement_of c.args.func.now c.args.q.now ≡ None = sym (c.in-None.ensures ∙ (ap (λ l. statement_at l c.all-2.result.now) c.all.ensures ∙ ap (statement_at c.args.func.now.body) c.all-2.ensures)) in
    Quiet (no_statement c.args.p.now c.args.point c.args.q.now c.requires.there.numbered c.args.func.now c.requires.there.function none) refl

pub unreachable-requires : goal.unreachable-requires
unreachable-requires g c = there_is c.args.p.now.funcs c.args.frames.now c.args.q.now.func c.args.func.now c.requires.frames c.requires.there.function (sym c.in-None-at.ensures)

pub pass_in-requires-clause-stands : goal.pass_in-requires-clause-stands
pass_in-requires-clause-stands g c = sym (c.in-Some.ensures ∙ (ap (λ l. statement_at l c.all-2.result.now) c.all.ensures ∙ ap (statement_at c.args.func.now.body) c.all-2.ensures))

pub pass_in-requires-clause-frame : goal.pass_in-requires-clause-frame
pass_in-requires-clause-frame g c = c.requires.frames.each c.args.q.now.func c.args.func.now c.in-Some-at.frame.now c.requires.there.function (sym c.in-Some-at.ensures)
