-- Each set that was joined stands in the list; at the end these are all.
use Rattle.std.proofs.Common.{◌<◌, length, arith}
use Rattle.std.proofs.lemmas.List.Elements.{length_all_zip}
use Rattle.cc_lattice.specs.Orders.{IsLeastUpperBound}
use Rattle.cc_lattice.proofs.Joins.{joins_more, joins_all}
use Rattle.cc_lattice.proofs.Parts.{zip_at}
use Rattle.cc_state_facts.proofs.shared_sets.shared_joins.Goals as goal

pub bounds-others-at : goal.bounds-others-at
bounds-others-at g c =
    let same = length_all_zip g.L.Lattice.AreAlike c.args.sets.now c.args.others.now c.requires in
    omega (arith, c.loop-at-test.true)

pub shared_join-requires : goal.shared_join-requires
shared_join-requires g c =
    let m = g.L.Lattice in
    let xs = c.args.sets.now in
    let ys = c.args.others.now in
    let lx : c.loop-at.at < length xs = omega (arith, c.loop-at-test.true) in
    zip_at m.AreAlike xs ys c.loop-at.at c.index-sets-at.result c.index-others-at.result c.requires lx c.index-sets-at.is c.index-others-at.is

pub loop-at-preserved : goal.loop-at-preserved
loop-at-preserved g c =
    let m = g.L.Lattice in
    let xs = c.args.sets.now in
    let ys = c.args.others.now in
    let same = length_all_zip m.AreAlike xs ys c.requires in
    let lx : c.loop-at.at < length xs = omega (arith, c.loop-at-test.true) in
    let ly : c.loop-at.at < length ys = omega arith in
    rw c.in_ok-push.ensures.items
    (joins_more (IsLeastUpperBound m.AreAlike m.IsBelow) xs ys c.loop-at.both.items c.loop-at.at c.index-sets-at.result c.index-others-at.result c.in_ok-shared_join.field-0 lx ly c.index-sets-at.is c.index-others-at.is c.loop-at.invariant c.in_ok-shared_join.ensures)

pub returns : goal.returns
returns g c =
    let m = g.L.Lattice in
    let xs = c.args.sets.now in
    let ys = c.args.others.now in
    let same = length_all_zip m.AreAlike xs ys c.requires in
    joins_all (IsLeastUpperBound m.AreAlike m.IsBelow) xs ys c.loop-at.both.items c.loop-at.at (omega arith) same c.loop-at.invariant
