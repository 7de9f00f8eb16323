-- Each point that was compared is below the other; at the end these are all.
use Rattle.std.proofs.Common.{◌<◌, length, refl, arith}
use Rattle.std.proofs.lemmas.List.Elements.{length_all_zip}
use Rattle.cc_lattice.proofs.Parts.{zip_at, zip_more, zip_all}
use Rattle.cc_state_facts.specs.Orders.{AreKnownAlike, IsKnownBelow}
use Rattle.cc_state_facts.proofs.points.are_known_below.Goals as goal

pub bounds-others-at : goal.bounds-others-at
bounds-others-at g c =
    let same = length_all_zip AreKnownAlike c.args.points.now c.args.others.now c.requires in
    omega (arith, c.loop-at-test.true)

pub is_known_below-requires : goal.is_known_below-requires
is_known_below-requires g c =
    let xs = c.args.points.now in
    let ys = c.args.others.now in
    let lx : c.loop-at.at < length xs = omega (arith, c.loop-at-test.true) in
    zip_at AreKnownAlike xs ys c.loop-at.at c.index-points-at.result c.index-others-at.result c.requires lx c.index-points-at.is c.index-others-at.is

pub loop-at-preserved : goal.loop-at-preserved
loop-at-preserved g c =
    let xs = c.args.points.now in
    let ys = c.args.others.now in
    let same = length_all_zip AreKnownAlike xs ys c.requires in
    let lx : c.loop-at.at < length xs = omega (arith, c.loop-at-test.true) in
    let ly : c.loop-at.at < length ys = omega arith in
    zip_more (IsKnownBelow g.I.Lattice.IsBelow) xs ys c.loop-at.at c.index-points-at.result c.index-others-at.result lx ly c.index-points-at.is c.index-others-at.is c.loop-at.invariant (c.if-not-is_known_below.ensures.0 refl)

pub returns-then-not-is_known_below : goal.returns-then-not-is_known_below
returns-then-not-is_known_below g c =
    let xs = c.args.points.now in
    let ys = c.args.others.now in
    let lx : c.loop-at.at < length xs = omega (arith, c.loop-at-test.true) in
    ((λ e. cc), (λ h. c.if-not-is_known_below.ensures.1 (zip_at (IsKnownBelow g.I.Lattice.IsBelow) xs ys c.loop-at.at c.index-points-at.result c.index-others-at.result h lx c.index-points-at.is c.index-others-at.is)))

pub returns : goal.returns
returns g c =
    let xs = c.args.points.now in
    let ys = c.args.others.now in
    let same = length_all_zip AreKnownAlike xs ys c.requires in
    ((λ e. zip_all (IsKnownBelow g.I.Lattice.IsBelow) xs ys c.loop-at.at (omega arith) same c.loop-at.invariant), (λ h. refl))
