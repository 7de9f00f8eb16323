use Rattle.std.proofs.Common.{◌≡◌, ◌<◌, length, arith}
use Rattle.std.proofs.lemmas.Option.{slice_get_within}
use Rattle.cc_normal.proofs.registers.keep_registers.Goals as goal

pub returns : goal.returns
returns c = λ local is e.
    let within : local < length c.loop-i.kept = slice_get_within c.loop-i.kept local is e in
    c.loop-i.invariant.1 local is (omega (arith, within, c.loop-i.invariant.0, c.loop-i-test.false)) e
