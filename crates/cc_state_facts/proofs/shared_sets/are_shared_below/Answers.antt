-- Each set that was compared is below the other; at the end these are all.
use Rattle.std.proofs.Common.{◌<◌, length, refl, arith}
use Rattle.std.proofs.lemmas.List.Elements.{length_all_zip}
use Rattle.cc_lattice.proofs.Parts.{zip_at, zip_more, zip_all}
use Rattle.cc_state_facts.proofs.shared_sets.are_shared_below.Goals as goal

pub bounds-others-at : goal.bounds-others-at
bounds-others-at g c =
    let same = length_all_zip g.L.Lattice.AreAlike c.args.sets.now c.args.others.now c.requires in
    omega (arith, c.loop-at-test.true)

pub is_shared_below-requires : goal.is_shared_below-requires
is_shared_below-requires g c =
    let m = g.L.Lattice in
    let xs = c.args.sets.now in
    let ys = c.args.others.now in
    let lx : c.loop-at.at < length xs = omega (arith, c.loop-at-test.true) in
    zip_at m.AreAlike xs ys c.loop-at.at c.index-sets-at.result c.index-others-at.result c.requires lx c.index-sets-at.is c.index-others-at.is

pub loop-at-preserved : goal.loop-at-preserved
loop-at-preserved g c =
    let m = g.L.Lattice in
    let xs = c.args.sets.now in
    let ys = c.args.others.now in
    let same = length_all_zip m.AreAlike xs ys c.requires in
    let lx : c.loop-at.at < length xs = omega (arith, c.loop-at-test.true) in
    let ly : c.loop-at.at < length ys = omega arith in
    zip_more m.IsBelow xs ys c.loop-at.at c.index-sets-at.result c.index-others-at.result lx ly c.index-sets-at.is c.index-others-at.is c.loop-at.invariant (c.if-not-is_shared_below.ensures.0 refl)

pub returns-then-not-is_shared_below : goal.returns-then-not-is_shared_below
returns-then-not-is_shared_below g c =
    let m = g.L.Lattice in
    let xs = c.args.sets.now in
    let ys = c.args.others.now in
    let lx : c.loop-at.at < length xs = omega (arith, c.loop-at-test.true) in
    ((λ e. cc), (λ h. c.if-not-is_shared_below.ensures.1 (zip_at m.IsBelow xs ys c.loop-at.at c.index-sets-at.result c.index-others-at.result h lx c.index-sets-at.is c.index-others-at.is)))

pub returns : goal.returns
returns g c =
    let m = g.L.Lattice in
    let xs = c.args.sets.now in
    let ys = c.args.others.now in
    let same = length_all_zip m.AreAlike xs ys c.requires in
    ((λ e. zip_all m.IsBelow xs ys c.loop-at.at (omega arith) same c.loop-at.invariant), (λ h. refl))
