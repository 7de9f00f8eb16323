use Rattle.std.proofs.Common.{◌≡◌, take}
use Rattle.cc_read.specs.Texts.{identifiers_of}
use Rattle.cc_read.proofs.text.identifiers.Given as goal

abbrev pub invariant-loop-token : goal.invariant-loop-token
invariant-loop-token l = l.names.items ≡ identifiers_of (take l.token-index l.tokens)
