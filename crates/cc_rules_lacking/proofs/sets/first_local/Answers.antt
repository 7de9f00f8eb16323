use Rattle.std.proofs.Common.{arith, refl, sym, true≢false}
use Rattle.std.proofs.lemmas.List.Elements.{All-nil}
use Rattle.cc_rules_lacking.proofs.Firsts.{needs_on, need_first, needs_to}
use Rattle.cc_rules_lacking.proofs.sets.first_local.Goals as goal
use Rattle.cc_rules_asked.specs.CcRulesNeeds.Flowing.{of_fact, need_local}
use Rattle.cc_rules_asked.specs.CcRulesNeeds.Needs.{Has}

pub loop-register-init : goal.loop-register-init
loop-register-init g c = All-nil (Has g.I.Lattice.IsBelow c.args.facts.now)

pub loop-register-preserved : goal.loop-register-preserved
loop-register-preserved g c =
    needs_on g.I.Lattice.IsBelow c.args.facts.now (need_local c.args.point (of_fact c.args.flow.now)) c.loop-register.register c.loop-register.invariant (c.if-not-has_local.ensures.0 refl)

pub returns : goal.returns
returns g c =
    needs_to g.I.Lattice.IsBelow c.args.facts.now (need_local c.args.point (of_fact c.args.flow.now)) c.loop-register.register c.args.registers (omega (arith, c.loop-register-test.false)) c.loop-register.invariant

pub returns-then-not-has_local : goal.returns-then-not-has_local
returns-then-not-has_local g c =
    need_first g.I.Lattice.IsBelow c.args.facts.now (need_local c.args.point (of_fact c.args.flow.now)) c.loop-register.register c.args.registers c.loop-register-test.true c.loop-register.invariant (λ h. true≢false (sym (c.if-not-has_local.ensures.1 h)))
