use Rattle.std.proofs.Common.{take, length, subst, arith}
use Rattle.std.proofs.lemmas.List.{take_all}
use Rattle.cc_state_reads.specs.CcPlaces.laws.AbstractLaws.{abs_itself, abs_through}
use Rattle.cc_rules_flows.proofs.JoinLemmas.{AreKnownTo, facts_to, item_in, known_next, like_next, all_together, as_those}
use Rattle.cc_rules_flows.proofs.together.joined.Goals as goal

pub with_told-requires : goal.with_told-requires
with_told-requires g c =
    let self = abs_itself g.I.Lattice.AreAlike g.I.Lattice.IsBelow g.met.I.Lattice.below_itself g.met.I.IntDomain.all_alike in
    let through = abs_through g.I.Lattice.AreAlike g.I.Lattice.IsBelow g.met.I.Lattice.below_through g.met.I.IntDomain.all_alike in
    like_next g.I.Lattice.IsBelow self through c.args.point c.args.told.now (facts_to c.args.point (take c.loop-flow.flow-index c.args.told.now)) c.loop-flow.both c.flow-item.result
    (item_in c.args.told.now c.loop-flow.flow-index c.flow-item.result c.loop-flow-test.true c.flow-item.is) c.loop-flow.invariant

pub loop-flow-preserved : goal.loop-flow-preserved
loop-flow-preserved g c =
    let self = abs_itself g.I.Lattice.AreAlike g.I.Lattice.IsBelow g.met.I.Lattice.below_itself g.met.I.IntDomain.all_alike in
    let through = abs_through g.I.Lattice.AreAlike g.I.Lattice.IsBelow g.met.I.Lattice.below_through g.met.I.IntDomain.all_alike in
    known_next g.I.Lattice.IsBelow self through c.args.point c.args.told.now c.loop-flow.flow-index c.flow-item.result c.loop-flow.both c.in_ok-both.both c.requires.alike c.loop-flow-test.true c.flow-item.is
    (item_in c.args.told.now c.loop-flow.flow-index c.flow-item.result c.loop-flow-test.true c.flow-item.is) c.loop-flow.invariant c.in_ok-both.ensures

pub returns : goal.returns
returns g c =
    let self = abs_itself g.I.Lattice.AreAlike g.I.Lattice.IsBelow g.met.I.Lattice.below_itself g.met.I.IntDomain.all_alike in
    let through = abs_through g.I.Lattice.AreAlike g.I.Lattice.IsBelow g.met.I.Lattice.below_through g.met.I.IntDomain.all_alike in
    let all = subst (λ told. AreKnownTo g.I.Lattice.IsBelow c.args.point c.args.told.now (facts_to c.args.point told) c.loop-flow.both) (take_all c.loop-flow.flow-index c.args.told.now (omega arith)) c.loop-flow.invariant in
    record {
      together = all_together g.I.Lattice.IsBelow self through c.args.point c.args.told.now c.loop-flow.both all;
      kept = as_those g.I.Lattice.IsBelow self through c.args.point c.args.told.now (facts_to c.args.point c.args.told.now) c.loop-flow.both all;
    }
