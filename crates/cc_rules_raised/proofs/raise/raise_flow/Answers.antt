-- What flows to the point serves what is needed of it: as it is where it tells of all registers, or once it is completed.
use Rattle.std.proofs.Common.{◌≡◌, length, ap, sym, ◌∙◌}
use Rattle.cc_rules_asked.specs.CcRulesNeeds.Flowing.{of_fact, needs_at}
use Rattle.cc_rules_raised.proofs.Completing.{complete_itself}
use Rattle.cc_rules_raised.proofs.Outcomes.{laws_of, flow_serves, flow_there, flow_alike, point_outcome}
use Rattle.cc_rules_raised.proofs.Stepping.{step_itself}
use Rattle.cc_rules_raised.proofs.raise.raise_flow.Goals as goal
use Rattle.cc_rules_asked.specs.CcStateKeys.Tracked.{registers, tracked}
use Rattle.cc_rules_asked.specs.CcStateOperators.Domains.{domain}

pub raise_held_point-requires : goal.raise_held_point-requires
raise_held_point-requires g c =
    let d = domain g.I.Concrete.Has g.I.Lattice.IsBelow g.I.IntDomain.OpGives g.I.IntDomain.OpOneGives g.I.IntDomain.ToGives g.I.IntDomain.KeepGives g.I.IntDomain.members_of in
    let l = g.met.I.Lattice in
    let i = g.met.I.IntDomain in
    let laws = laws_of d g.I.Lattice.AreAlike i.all_alike l.below_itself l.below_through l.below_both_ways i.members_below i.below_has i.join_typed in
    let p = c.args.p.now in
    let f = c.args.facts.now in
    let n = c.args.number in
    let told = c.args.told.now in
    let laid = c.requires.laid_out in
    let ns = needs_at n c.args.registers (length (tracked p)) (of_fact told) in
    let each : length told.locals ≡ length (registers laid.func) = ap length (sym c.all-count.ensures) ∙ (c.if-count-registers.true ∙ laid.all_registers) in
    let serves = flow_serves d laws p f n c.args.registers told told laid c.requires.fit (complete_itself d p laid.func told each) in
    record { there = flow_there d laws p f c.requires.shape n c.args.registers told laid; alike = flow_alike d laws p f c.requires.shape n told ns serves }

pub returns-then-count-registers : goal.returns-then-count-registers
returns-then-count-registers g c =
    let d = domain g.I.Concrete.Has g.I.Lattice.IsBelow g.I.IntDomain.OpGives g.I.IntDomain.OpOneGives g.I.IntDomain.ToGives g.I.IntDomain.KeepGives g.I.IntDomain.members_of in
    let l = g.met.I.Lattice in
    let i = g.met.I.IntDomain in
    let laws = laws_of d g.I.Lattice.AreAlike i.all_alike l.below_itself l.below_through l.below_both_ways i.members_below i.below_has i.join_typed in
    let p = c.args.p.now in
    let f = c.args.facts.now in
    let n = c.args.number in
    let told = c.args.told.now in
    let laid = c.requires.laid_out in
    let ns = needs_at n c.args.registers (length (tracked p)) (of_fact told) in
    let each : length told.locals ≡ length (registers laid.func) = ap length (sym c.all-count.ensures) ∙ (c.if-count-registers.true ∙ laid.all_registers) in
    let serves = flow_serves d laws p f n c.args.registers told told laid c.requires.fit (complete_itself d p laid.func told each) in
    let is = c.raise_held_point.ensures in
    let out = point_outcome d laws p n told ns f c.raise_held_point.new.facts c.requires.shape serves (flow_there d laws p f c.requires.shape n c.args.registers told laid) c.raise_held_point.result is.rose is.had is.same in
    record { step = out.step; has = out.has; rose = out.rose; same = out.same; held = is.held }

pub completed-requires : goal.completed-requires
completed-requires g c =
    let laid = c.requires.laid_out in
    record { normal = c.requires.normal; flow = c.requires.flow; there = (laid.id, laid.func, laid.point, laid.is_point, laid.laid_out.few_locals); shape = c.requires.shape }

pub returns-in_err-whole-clause-step : goal.returns-in_err-whole-clause-step
returns-in_err-whole-clause-step g c =
    let d = domain g.I.Concrete.Has g.I.Lattice.IsBelow g.I.IntDomain.OpGives g.I.IntDomain.OpOneGives g.I.IntDomain.ToGives g.I.IntDomain.KeepGives g.I.IntDomain.members_of in
    let l = g.met.I.Lattice in
    let i = g.met.I.IntDomain in
    let laws = laws_of d g.I.Lattice.AreAlike i.all_alike l.below_itself l.below_through l.below_both_ways i.members_below i.below_has i.join_typed in
    let p = c.args.p.now in
    let f = c.args.facts.now in
    let n = c.args.number in
    let told = c.args.told.now in
    let laid = c.requires.laid_out in
    let ns = needs_at n c.args.registers (length (tracked p)) (of_fact told) in
    step_itself d laws.ordered p ns f c.requires.shape

pub raise_held_point-requires-2 : goal.raise_held_point-requires-2
raise_held_point-requires-2 g c =
    let d = domain g.I.Concrete.Has g.I.Lattice.IsBelow g.I.IntDomain.OpGives g.I.IntDomain.OpOneGives g.I.IntDomain.ToGives g.I.IntDomain.KeepGives g.I.IntDomain.members_of in
    let l = g.met.I.Lattice in
    let i = g.met.I.IntDomain in
    let laws = laws_of d g.I.Lattice.AreAlike i.all_alike l.below_itself l.below_through l.below_both_ways i.members_below i.below_has i.join_typed in
    let p = c.args.p.now in
    let f = c.args.facts.now in
    let n = c.args.number in
    let told = c.args.told.now in
    let laid = c.requires.laid_out in
    let ns = needs_at n c.args.registers (length (tracked p)) (of_fact told) in
    let whole = c.in_ok-whole.whole in
    let serves = flow_serves d laws p f n c.args.registers told whole laid c.requires.fit (c.in_ok-whole.ensures laid.id laid.func laid.point laid.is_point) in
    record { there = flow_there d laws p f c.requires.shape n c.args.registers told laid; alike = flow_alike d laws p f c.requires.shape n whole ns serves }

pub returns : goal.returns
returns g c =
    let d = domain g.I.Concrete.Has g.I.Lattice.IsBelow g.I.IntDomain.OpGives g.I.IntDomain.OpOneGives g.I.IntDomain.ToGives g.I.IntDomain.KeepGives g.I.IntDomain.members_of in
    let l = g.met.I.Lattice in
    let i = g.met.I.IntDomain in
    let laws = laws_of d g.I.Lattice.AreAlike i.all_alike l.below_itself l.below_through l.below_both_ways i.members_below i.below_has i.join_typed in
    let p = c.args.p.now in
    let f = c.args.facts.now in
    let n = c.args.number in
    let told = c.args.told.now in
    let laid = c.requires.laid_out in
    let ns = needs_at n c.args.registers (length (tracked p)) (of_fact told) in
    let whole = c.in_ok-whole.whole in
    let serves = flow_serves d laws p f n c.args.registers told whole laid c.requires.fit (c.in_ok-whole.ensures laid.id laid.func laid.point laid.is_point) in
    let is = c.raise_held_point-2.ensures in
    let out = point_outcome d laws p n whole ns f c.raise_held_point-2.new.facts c.requires.shape serves (flow_there d laws p f c.requires.shape n c.args.registers told laid) c.raise_held_point-2.result is.rose is.had is.same in
    record { step = out.step; has = out.has; rose = out.rose; same = out.same; held = is.held }
