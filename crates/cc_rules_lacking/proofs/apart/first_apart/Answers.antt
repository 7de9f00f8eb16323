use Rattle.std.proofs.Common.{arith, true, sym, subst}
use Rattle.cc_rules_lacking.proofs.Firsts.{none_yet, all_on, all_to, first_at, row, rows_are}
use Rattle.cc_rules_lacking.proofs.apart.first_apart.Goals as goal
use Rattle.cc_rules_lacking.specs.First.{IsFirst}
use Rattle.cc_rules_asked.specs.CcRulesNeeds.declared.needs.Part.TheVariants.{Mark}
use Rattle.cc_rules_asked.specs.CcRulesNeeds.declared.needs.Slot.TheVariants.{Apart}
use Rattle.cc_rules_asked.specs.CcRulesNeeds.Needs.{HasAll}
use Rattle.cc_rules_asked.specs.CcStateFacts.Facts.{has_pair}

pub loop-register-init : goal.loop-register-init
loop-register-init g c = none_yet g.I.Lattice.IsBelow c.args.facts.now (row g.I.Lattice.IsBelow c.args.facts.now c.args.point (has_pair c.args.flow.now) c.args.cells)

pub returns : goal.returns
returns g c =
    subst (λ ns. HasAll g.I.Lattice.IsBelow ns c.args.facts.now) (sym (rows_are g.I.Lattice.IsBelow c.args.facts.now c.args.point (has_pair c.args.flow.now) c.args.registers c.args.cells))
    (all_to g.I.Lattice.IsBelow c.args.facts.now (row g.I.Lattice.IsBelow c.args.facts.now c.args.point (has_pair c.args.flow.now) c.args.cells) c.loop-register.register c.args.registers (omega (arith, c.loop-register-test.false)) c.loop-register.invariant)

pub loop-register-preserved : goal.loop-register-preserved
loop-register-preserved g c =
    all_on g.I.Lattice.IsBelow c.args.facts.now (row g.I.Lattice.IsBelow c.args.facts.now c.args.point (has_pair c.args.flow.now) c.args.cells) c.loop-register.register c.loop-register.invariant c.in-None.ensures

pub returns-in-Some : goal.returns-in-Some
returns-in-Some g c =
    subst (λ ns. IsFirst g.I.Lattice.IsBelow ns c.args.facts.now (Apart c.args.point c.loop-register.register c.in-Some.cell, Mark true)) (sym (rows_are g.I.Lattice.IsBelow c.args.facts.now c.args.point (has_pair c.args.flow.now) c.args.registers c.args.cells))
    (first_at g.I.Lattice.IsBelow c.args.facts.now (row g.I.Lattice.IsBelow c.args.facts.now c.args.point (has_pair c.args.flow.now) c.args.cells) c.loop-register.register c.args.registers (Apart c.args.point c.loop-register.register c.in-Some.cell, Mark true) c.loop-register-test.true c.loop-register.invariant c.in-Some.ensures)
