use Rattle.std.proofs.Common.{arith, subst}
use Rattle.cc_rules_constraints.proofs.Breaks.{none_met, met_on, first_in, all_met}
use Rattle.cc_rules_constraints.proofs.broken.first_broken.Goals as goal
use Rattle.cc_rules_constraints.specs.Broken.{IsBrokenAt}
use Rattle.cc_rules_asked.specs.CcStateOperators.Domains.{domain}

pub constraint_count-count-requires : goal.constraint_count-count-requires
constraint_count-count-requires g c = let e = c.point_count-points.ensures in let few = c.requires.few in omega (arith, e, few)

pub broken_at-requires-clause-there : goal.broken_at-requires-clause-there
broken_at-requires-clause-there g c =
    let count = c.constraint_count-count.ensures c.args.rules.now.program.now c.point_count-points.ensures in omega (arith, count, c.loop-number-test.true)

pub loop-number-init : goal.loop-number-init
loop-number-init g c = none_met (domain g.I.Concrete.Has g.I.Lattice.IsBelow g.I.IntDomain.OpGives g.I.IntDomain.OpOneGives g.I.IntDomain.ToGives g.I.IntDomain.KeepGives g.I.IntDomain.members_of) c.args.rules.now.program.now c.args.facts.now

pub loop-number-preserved : goal.loop-number-preserved
loop-number-preserved g c =
    met_on (domain g.I.Concrete.Has g.I.Lattice.IsBelow g.I.IntDomain.OpGives g.I.IntDomain.OpOneGives g.I.IntDomain.ToGives g.I.IntDomain.KeepGives g.I.IntDomain.members_of) c.args.rules.now.program.now c.args.facts.now c.loop-number.number c.loop-number.invariant (subst (IsBrokenAt (domain g.I.Concrete.Has g.I.Lattice.IsBelow g.I.IntDomain.OpGives g.I.IntDomain.OpOneGives g.I.IntDomain.ToGives g.I.IntDomain.KeepGives g.I.IntDomain.members_of) c.args.rules.now.program.now c.args.facts.now c.loop-number.number) c.in-None.is c.in_ok-broken.ensures)

pub returns-in-Some : goal.returns-in-Some
returns-in-Some g c =
    let count = c.constraint_count-count.ensures c.args.rules.now.program.now c.point_count-points.ensures in
    first_in (domain g.I.Concrete.Has g.I.Lattice.IsBelow g.I.IntDomain.OpGives g.I.IntDomain.OpOneGives g.I.IntDomain.ToGives g.I.IntDomain.KeepGives g.I.IntDomain.members_of) c.args.rules.now.program.now c.args.facts.now c.loop-number.number c.in-Some.found (omega (arith, count, c.loop-number-test.true)) c.loop-number.invariant
    (subst (IsBrokenAt (domain g.I.Concrete.Has g.I.Lattice.IsBelow g.I.IntDomain.OpGives g.I.IntDomain.OpOneGives g.I.IntDomain.ToGives g.I.IntDomain.KeepGives g.I.IntDomain.members_of) c.args.rules.now.program.now c.args.facts.now c.loop-number.number) c.in-Some.is c.in_ok-broken.ensures)

pub returns : goal.returns
returns g c =
    let count = c.constraint_count-count.ensures c.args.rules.now.program.now c.point_count-points.ensures in
    all_met (domain g.I.Concrete.Has g.I.Lattice.IsBelow g.I.IntDomain.OpGives g.I.IntDomain.OpOneGives g.I.IntDomain.ToGives g.I.IntDomain.KeepGives g.I.IntDomain.members_of) c.args.rules.now.program.now c.args.facts.now c.loop-number.number (omega (arith, count, c.loop-number-test.false)) c.loop-number.invariant
