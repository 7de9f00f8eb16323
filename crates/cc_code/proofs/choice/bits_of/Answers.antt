use Rattle.std.proofs.Common.{arith}
use Rattle.cc_code.proofs.KindLemmas.{greater_bits}
use Rattle.cc_code.proofs.choice.bits_of.Goals as goal

pub returns : goal.returns
returns c =
    let same = c.count_of.ensures in
    let enough = c.bits_for.ensures.enough in
    greater_bits c.args.values.now c.args.least_bits c.bits_for.result c.max.result c.max.ensures (omega (arith, enough, same)) (λ b h. c.bits_for.ensures.least b (omega (arith, same, h)))
