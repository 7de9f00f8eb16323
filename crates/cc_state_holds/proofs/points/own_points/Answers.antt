-- Number by number.
use Rattle.std.proofs.Common.{arith, ℕ, ◌≡◌, List, length, sym, ap, ◌∙◌, subst}
use Rattle.cc_flow_sound.specs.CcFlow.declared.types.Flow.{Flow}
use Rattle.cc_flow_sound.specs.CcFlow.Points.{flow_of}
use Rattle.cc_flow_sound.specs.Moves.{IsAt, standing}
use Rattle.cc_state_holds.proofs.Counted.{ArePassed, passed_none, passed_step, passed_all}
use Rattle.cc_state_holds.proofs.points.own_points.Goals as goal
use Rattle.cc_steps.specs.View.{active_of}

pub with_own-requires-clause-flow : goal.with_own-requires-clause-flow
with_own-requires-clause-flow g c = c.requires

pub with_own-requires-clause-path : goal.with_own-requires-clause-path
with_own-requires-clause-path g c = c.deref.ensures.value ∙ c.in_ok-path.ensures

pub loop-n-init : goal.loop-n-init
loop-n-init g c =
    let P = IsAt c.args.b.now.program.now (standing (active_of c.args.a.now)) in
    subst (λ (ns : List ℕ). ArePassed P ns 0) (sym c.new-points.ensures.items) (passed_none P)

pub loop-n-preserved : goal.loop-n-preserved
loop-n-preserved g c =
    passed_step (IsAt c.args.b.now.program.now (standing (active_of c.args.a.now))) c.loop-n.points.items c.in_ok-points.points.items c.loop-n.n c.in_ok-points.ensures c.loop-n.invariant

pub returns : goal.returns
returns g c =
    let all : length (flow_of c.args.b.now.program.now).points ≡ length c.all-count.result.now = ap length (sym (c.all-count.ensures ∙ ap (λ (z : Flow). z.points) c.requires)) in
    passed_all c.args.b.now.program.now (active_of c.args.a.now) c.loop-n.points.items c.loop-n.n (omega (arith, all, c.loop-n-test.false)) c.loop-n.invariant
