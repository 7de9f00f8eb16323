use Rattle.std.proofs.Common.{arith, ◌≡◌, ◌∙◌, ◌<◌, sym, ap}
use Rattle.cc_states.specs.CcSteps.Runs.{run}
use Rattle.cc_states.specs.CcSteps.Turn.{turn}
use Rattle.cc_states.specs.CcSteps.declared.event.Took.TheVariants.{Ended}
use Rattle.cc_meaning.specs.View.{state_of}
use Rattle.cc_run.specs.Driven.{arrivals_for}
use Rattle.cc_run.proofs.DriveLemmas.{ahead_next, arrives, one_made, ended_made, is_over}
use Rattle.cc_run.proofs.runs.make_turns.Goals as goal

pub returns-then-has_ended-clause-state : goal.returns-then-has_ended-clause-state
returns-then-has_ended-clause-state c =
    let over : c.in_ok-step.field-0 ≡ Ended = c.has_ended.ensures.0 c.if-has_ended.true in
    ended_made c.args.machine.now.program.now (run c.args.machine.now.program.now (state_of c.args.machine.now) (arrivals_for c.args.arrivals.now 1 c.args.turns)) (state_of c.loop-made.machine) (state_of c.step.new.self) c.args.arrivals.now c.loop-made.made c.args.turns
    (is_over c.loop-made.machine.program.now (state_of c.loop-made.machine) c.arriving-arrival.result (sym c.in_ok-step.ensures.took ∙ over)) (c.in_ok-step.ensures.ended over) c.loop-made.invariant.whole

pub loop-made-preserved : goal.loop-made-preserved
loop-made-preserved c =
    let below : c.loop-made.made < c.args.turns = c.loop-made-test.true in
    record {
      program = c.step.ensures.program ∙ c.loop-made.invariant.program;
      ahead = ahead_next c.args.arrivals.now c.loop-made.left.now c.left_behind-left.result.now c.loop-made.made c.loop-made.invariant.ahead c.left_behind-left.ensures;
      whole = one_made c.args.machine.now.program.now (run c.args.machine.now.program.now (state_of c.args.machine.now) (arrivals_for c.args.arrivals.now 1 c.args.turns)) (state_of c.loop-made.machine) (state_of c.step.new.self) c.args.arrivals.now c.loop-made.made c.args.turns c.arriving-arrival.result below c.loop-made.invariant.whole
          (arrives c.args.arrivals.now c.loop-made.left.now c.loop-made.made c.arriving-arrival.result c.loop-made.invariant.ahead c.arriving-arrival.ensures)
          (c.in_ok-step.ensures.turn ∙ ap (λ p. turn p.now (state_of c.loop-made.machine) c.arriving-arrival.result) c.loop-made.invariant.program);
      few = omega (arith, c.in_ok-step.ensures.opened, c.loop-made.invariant.few, below);
    }
