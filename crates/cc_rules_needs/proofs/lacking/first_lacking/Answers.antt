-- Each need that was looked at is had; at the end these are all.
use Rattle.std.proofs.Common.{All, arith, refl, subst}
use Rattle.std.proofs.lemmas.List.{take_all}
use Rattle.std.proofs.lemmas.List.Elements.{All-more}
use Rattle.cc_rules_needs.specs.Needs.{Has}
use Rattle.cc_rules_needs.proofs.lacking.first_lacking.Goals as goal

pub loop-k-preserved : goal.loop-k-preserved
loop-k-preserved g c =
    All-more (Has g.I.Lattice.IsBelow c.args.facts.now) c.args.needs.now c.loop-k.k c.index-needs-k.result c.loop-k-test.true c.loop-k.invariant
    (subst (Has g.I.Lattice.IsBelow c.args.facts.now) c.index-needs-k.is (c.if-not-has.ensures.0 refl))

pub returns : goal.returns
returns g c = subst (All (Has g.I.Lattice.IsBelow c.args.facts.now)) (take_all c.loop-k.k c.args.needs.now (let f = c.loop-k-test.false in omega (arith, f))) c.loop-k.invariant
