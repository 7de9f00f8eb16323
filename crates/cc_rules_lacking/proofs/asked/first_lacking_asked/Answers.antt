use Rattle.std.proofs.Common.{arith, subst, take_all}
use Rattle.cc_rules_asked.specs.Asked.{all_needs, needs_of}
use Rattle.cc_rules_lacking.proofs.Firsts.{asked_on, asked_first}
use Rattle.cc_rules_lacking.proofs.asked.first_lacking_asked.Goals as goal
use Rattle.cc_rules_lacking.specs.First.{LacksFirst}
use Rattle.cc_rules_asked.specs.CcRulesNeeds.Needs.{HasAll}

pub loop-one-preserved : goal.loop-one-preserved
loop-one-preserved g c p e =
    asked_on g.I.Lattice.IsBelow c.args.facts.now (needs_of p) c.args.asked.now c.loop-one.one-index c.one-item.result c.loop-one-test.true c.one-item.is (c.loop-one.invariant p e)
    (subst (LacksFirst g.I.Lattice.IsBelow (needs_of p c.one-item.result) c.args.facts.now) c.in-None.is (c.in_ok-lacking.ensures p e))

pub returns-in-Some : goal.returns-in-Some
returns-in-Some g c p e =
    asked_first g.I.Lattice.IsBelow c.args.facts.now (needs_of p) c.args.asked.now c.loop-one.one-index c.one-item.result c.in-Some.need c.loop-one-test.true c.one-item.is (c.loop-one.invariant p e)
    (subst (LacksFirst g.I.Lattice.IsBelow (needs_of p c.one-item.result) c.args.facts.now) c.in-Some.is (c.in_ok-lacking.ensures p e))

pub returns : goal.returns
returns g c p e =
    subst (λ asked. HasAll g.I.Lattice.IsBelow (all_needs p asked) c.args.facts.now) (take_all c.loop-one.one-index c.args.asked.now (omega (arith, c.loop-one-test.false))) (c.loop-one.invariant p e)
