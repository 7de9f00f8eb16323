use Rattle.std.proofs.Common.{arith, refl, sym, true≢false}
use Rattle.std.proofs.lemmas.List.Elements.{All-nil}
use Rattle.cc_rules_lacking.proofs.Firsts.{needs_on, need_first, needs_to}
use Rattle.cc_rules_lacking.proofs.sets.first_cell.Goals as goal
use Rattle.cc_rules_asked.specs.CcRulesNeeds.Flowing.{of_fact, need_cell}
use Rattle.cc_rules_asked.specs.CcRulesNeeds.Needs.{Has}

pub loop-cell-init : goal.loop-cell-init
loop-cell-init g c = All-nil (Has g.I.Lattice.IsBelow c.args.facts.now)

pub loop-cell-preserved : goal.loop-cell-preserved
loop-cell-preserved g c =
    needs_on g.I.Lattice.IsBelow c.args.facts.now (need_cell c.args.point (of_fact c.args.flow.now)) c.loop-cell.cell c.loop-cell.invariant (c.if-not-has_cell.ensures.0 refl)

pub returns : goal.returns
returns g c =
    needs_to g.I.Lattice.IsBelow c.args.facts.now (need_cell c.args.point (of_fact c.args.flow.now)) c.loop-cell.cell c.args.cells (omega (arith, c.loop-cell-test.false)) c.loop-cell.invariant

pub returns-then-not-has_cell : goal.returns-then-not-has_cell
returns-then-not-has_cell g c =
    need_first g.I.Lattice.IsBelow c.args.facts.now (need_cell c.args.point (of_fact c.args.flow.now)) c.loop-cell.cell c.args.cells c.loop-cell-test.true c.loop-cell.invariant (λ h. true≢false (sym (c.if-not-has_cell.ensures.1 h)))
