use Rattle.std.proofs.Common.{arith, true, sym, subst}
use Rattle.cc_rules_lacking.proofs.Firsts.{none_yet, all_on, all_to, first_at, apart_from, apart_lacks, row_is}
use Rattle.cc_rules_lacking.proofs.apart.first_cell.Goals as goal
use Rattle.cc_rules_lacking.specs.First.{IsFirst}
use Rattle.cc_rules_asked.specs.CcRulesNeeds.declared.needs.Part.TheVariants.{Mark}
use Rattle.cc_rules_asked.specs.CcRulesNeeds.declared.needs.Slot.TheVariants.{Apart}
use Rattle.cc_rules_asked.specs.CcRulesNeeds.Needs.{HasAll}
use Rattle.cc_rules_asked.specs.CcStateFacts.Facts.{has_pair}

pub loop-cell-init : goal.loop-cell-init
loop-cell-init g c = none_yet g.I.Lattice.IsBelow c.args.facts.now (apart_from g.I.Lattice.IsBelow c.args.facts.now c.args.point (has_pair c.args.flow.now) c.args.register)

pub loop-cell-preserved : goal.loop-cell-preserved
loop-cell-preserved g c =
    all_on g.I.Lattice.IsBelow c.args.facts.now (apart_from g.I.Lattice.IsBelow c.args.facts.now c.args.point (has_pair c.args.flow.now) c.args.register) c.loop-cell.cell c.loop-cell.invariant (c.lacks_apart.ensures.has c.if-lacks_apart.false)

pub returns : goal.returns
returns g c =
    subst (λ ns. HasAll g.I.Lattice.IsBelow ns c.args.facts.now) (sym (row_is g.I.Lattice.IsBelow c.args.facts.now c.args.point (has_pair c.args.flow.now) c.args.cells c.args.register))
    (all_to g.I.Lattice.IsBelow c.args.facts.now (apart_from g.I.Lattice.IsBelow c.args.facts.now c.args.point (has_pair c.args.flow.now) c.args.register) c.loop-cell.cell c.args.cells (omega (arith, c.loop-cell-test.false)) c.loop-cell.invariant)

pub returns-then-lacks_apart : goal.returns-then-lacks_apart
returns-then-lacks_apart g c =
    let (flows, bad) = c.lacks_apart.ensures.lacks c.if-lacks_apart.true in
    subst (λ ns. IsFirst g.I.Lattice.IsBelow ns c.args.facts.now (Apart c.args.point c.args.register c.loop-cell.cell, Mark true)) (sym (row_is g.I.Lattice.IsBelow c.args.facts.now c.args.point (has_pair c.args.flow.now) c.args.cells c.args.register))
    (first_at g.I.Lattice.IsBelow c.args.facts.now (apart_from g.I.Lattice.IsBelow c.args.facts.now c.args.point (has_pair c.args.flow.now) c.args.register) c.loop-cell.cell c.args.cells (Apart c.args.point c.args.register c.loop-cell.cell, Mark true) c.loop-cell-test.true c.loop-cell.invariant
    (apart_lacks g.I.Lattice.IsBelow c.args.facts.now c.args.point (has_pair c.args.flow.now) c.args.register c.loop-cell.cell flows bad))
