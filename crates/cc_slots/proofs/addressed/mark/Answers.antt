use Rattle.std.proofs.Common.{arith, ◌≡◌, ◌<◌, Some, length, ap, sym, ◌∙◌}
use Rattle.cc_slots_accesses.proofs.PutAll.{number_below}
use Rattle.cc_state_points.specs.CcStateKeys.Keys.{key_number, keys_of}
use Rattle.cc_slots.proofs.addressed.mark.Goals as goal

pub bounds-marks-number : goal.bounds-marks-number
bounds-marks-number c =
    let is : key_number c.args.p.now c.args.key ≡ Some c.in-Some.number = sym (c.key_number.ensures c.args.p.now c.requires.keys) ∙ c.in-Some.is in
    let below : c.in-Some.number < length (keys_of c.args.p.now) = number_below c.args.p.now c.args.key c.in-Some.number is in
    omega (arith, below, c.requires.marks, ap length c.requires.keys)
