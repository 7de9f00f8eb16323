use Rattle.std.proofs.Common.{◌<◌, length, sym, ◌∙◌, arith}
use Rattle.cc_bins.specs.Placing.{has_room}
use Rattle.cc_bins.proofs.Rooms.{goes_past, stops_at, first_within}
use Rattle.cc_bins.proofs.placing.first_with_room.Goals as goal

pub loop-at-preserved : goal.loop-at-preserved
loop-at-preserved c =
    let x = c.args.want.now in
    let l : c.loop-at.at < length c.args.words.now = omega (arith, c.loop-at-test.true) in
    goes_past (has_room x.group x.bits) c.args.words.now c.loop-at.at c.index-words-at.result l c.index-words-at.is (sym c.has_room.ensures ∙ c.if-not-has_room.true) c.loop-at.invariant

pub returns-else-not-has_room : goal.returns-else-not-has_room
returns-else-not-has_room c =
    let x = c.args.want.now in
    let l : c.loop-at.at < length c.args.words.now = omega (arith, c.loop-at-test.true) in
    let s = stops_at (has_room x.group x.bits) c.args.words.now c.loop-at.at c.index-words-at.result l c.index-words-at.is (sym c.has_room.ensures ∙ c.if-not-has_room.false) in
    omega (arith, s, c.loop-at.invariant)

pub returns-after-loop-at : goal.returns-after-loop-at
returns-after-loop-at c =
    let x = c.args.want.now in
    let s = first_within (has_room x.group x.bits) c.args.words.now in
    omega (arith, s, c.loop-at.invariant, c.loop-at-test.false)
