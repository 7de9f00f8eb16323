use Rattle.std.proofs.Common.{arith}
use Rattle.std.proofs.lemmas.Grind.{common_steps}
use Rattle.cc_edge.proofs.Places.{found-at, found-set, room-at}
use Rattle.cc_edge.proofs.memory.extend.Goals as goal

pub returns-in_err-extend_from_slice-clause-err : goal.returns-in_err-extend_from_slice-clause-err
returns-in_err-extend_from_slice-clause-err c =
    let now = found-at c.args.name.now c.args.i c.args.files.now c.index-files-i.result c.requires.place in
    let next = found-set c.args.name.now c.args.i c.args.files.now c.index-files-i.result c.extend_from_slice.new.self c.requires.place in
    let room = room-at c.args.name.now c.args.i c.args.files.now c.index-files-i.result c.requires.place in
    let h = c.in_err-extend_from_slice.ensures in
    grind (arith, common_steps, h, now, next, room)
