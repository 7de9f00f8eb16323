use Rattle.std.proofs.Common.{◌∙◌, arith}
use Rattle.std.proofs.lemmas.Bool.{le-leb}
use Rattle.cc_code.proofs.KindLemmas.{in_word, shifted_out}
use Rattle.cc_code.proofs.choice.has_bits.Goals as goal

pub returns-then-bits-ge-BITS : goal.returns-then-bits-ge-BITS
returns-then-bits-ge-BITS c = le-leb 128 c.args.bits (omega arith) ∙ in_word c.args.n c.args.bits c.ranges.n.fits (omega arith)

pub returns-else-bits-ge-BITS : goal.returns-else-bits-ge-BITS
returns-else-bits-ge-BITS c = shifted_out c.args.n c.args.bits
