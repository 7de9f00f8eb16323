-- The points are few, and each is passed.
use Rattle.std.proofs.Common.{arith, ◌≡◌, ap, sym, ◌∙◌, length}
use Rattle.cc_state_points.specs.CcFlow.declared.types.Flow.{Flow}
use Rattle.cc_state_points.specs.CcFlow.Points.{flow_of}
use Rattle.cc_state_points.proofs.CcFlow.Paths.{all_counted}
use Rattle.cc_slots_points.proofs.Steps.{all_lists, next_lists}
use Rattle.cc_state_points.specs.CcStateOperators.Domains.{domain}
use Rattle.cc_slots_points.proofs.lists.pass_all.Goals as goal

pub overflow_cast-point : goal.overflow_cast-point
overflow_cast-point g c =
    let counted = all_counted c.args.p.now in
    let same : length c.all-point-end.result.now ≡ length (flow_of c.args.p.now).points = ap length (c.all-point-end.ensures ∙ ap (λ (z : Flow). z.points) c.requires.flow) in
    let few = c.requires.few in
    let lt = c.loop-point-test.true in
    omega (arith, counted, same, few, lt)

pub pass-requires-clause-lists : goal.pass-requires-clause-lists
pass-requires-clause-lists g c = c.loop-point.invariant.length_is ∙ ap length (sym c.requires.shape.keys)

pub loop-point-init : goal.loop-point-init
loop-point-init g c = c.requires.lists

pub loop-point-preserved : goal.loop-point-preserved
loop-point-preserved g c =
    let d = domain g.I.Concrete.Has g.I.Lattice.IsBelow g.I.IntDomain.OpGives g.I.IntDomain.OpOneGives g.I.IntDomain.ToGives g.I.IntDomain.KeepGives g.I.IntDomain.members_of in
    next_lists d c.args.p.now c.args.facts.now c.loop-point.point c.loop-point.lists c.pass.new.lists c.loop-point.invariant c.in_ok-pass.ensures

pub returns : goal.returns
returns g c =
    let d = domain g.I.Concrete.Has g.I.Lattice.IsBelow g.I.IntDomain.OpGives g.I.IntDomain.OpOneGives g.I.IntDomain.ToGives g.I.IntDomain.KeepGives g.I.IntDomain.members_of in
    let same : length c.all-point-end.result.now ≡ length (flow_of c.args.p.now).points = ap length (c.all-point-end.ensures ∙ ap (λ (z : Flow). z.points) c.requires.flow) in
    let le = c.loop-point-test.false in
    all_lists d c.args.p.now c.args.facts.now c.loop-point.point c.loop-point.lists (omega (arith, same, le)) c.loop-point.invariant
