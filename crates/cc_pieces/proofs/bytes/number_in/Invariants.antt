use Rattle.std.proofs.Common.{◌≡◌, take}
use Rattle.cc_pieces.specs.View.{number_in}
use Rattle.cc_pieces.proofs.bytes.number_in.Given as goal

abbrev pub invariant-loop-byte : goal.invariant-loop-byte
invariant-loop-byte l = l.number ≡ number_in (take l.byte-index l.bytes)
