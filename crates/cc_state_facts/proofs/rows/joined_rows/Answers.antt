-- Each row that was joined stands in the list; at the end these are all.
use Rattle.std.proofs.Common.{◌<◌, length, arith}
use Rattle.std.proofs.lemmas.List.Elements.{length_all_zip}
use Rattle.cc_lattice.proofs.Joins.{joins_more, joins_all}
use Rattle.cc_lattice.proofs.Parts.{zip_at}
use Rattle.cc_state_facts.specs.Orders.{AreRowsAlike, IsRowJoin}
use Rattle.cc_state_facts.proofs.rows.joined_rows.Goals as goal

pub bounds-others-at : goal.bounds-others-at
bounds-others-at g c =
    let same = length_all_zip AreRowsAlike c.args.rows.now c.args.others.now c.requires in
    omega (arith, c.loop-at-test.true)

pub joined_row-requires : goal.joined_row-requires
joined_row-requires g c =
    let xs = c.args.rows.now in
    let ys = c.args.others.now in
    let lx : c.loop-at.at < length xs = omega (arith, c.loop-at-test.true) in
    zip_at AreRowsAlike xs ys c.loop-at.at c.index-rows-at.result c.index-others-at.result c.requires lx c.index-rows-at.is c.index-others-at.is

pub loop-at-preserved : goal.loop-at-preserved
loop-at-preserved g c =
    let xs = c.args.rows.now in
    let ys = c.args.others.now in
    let same = length_all_zip AreRowsAlike xs ys c.requires in
    let lx : c.loop-at.at < length xs = omega (arith, c.loop-at-test.true) in
    let ly : c.loop-at.at < length ys = omega arith in
    rw c.in_ok-push.ensures.items
    (joins_more (IsRowJoin g.I.Lattice.IsBelow) xs ys c.loop-at.both.items c.loop-at.at c.index-rows-at.result c.index-others-at.result c.in_ok-joined_row.field-0 lx ly c.index-rows-at.is c.index-others-at.is c.loop-at.invariant c.in_ok-joined_row.ensures)

pub returns : goal.returns
returns g c =
    let xs = c.args.rows.now in
    let ys = c.args.others.now in
    let same = length_all_zip AreRowsAlike xs ys c.requires in
    joins_all (IsRowJoin g.I.Lattice.IsBelow) xs ys c.loop-at.both.items c.loop-at.at (omega arith) same c.loop-at.invariant
