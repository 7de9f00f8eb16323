use Rattle.std.proofs.Common.{◌≡◌, take}
use Rattle.cc_unit.specs.Mentioned.{mentioned}
use Rattle.cc_unit.proofs.mentions.mentioned.Given as goal

abbrev pub invariant-loop-name : goal.invariant-loop-name
invariant-loop-name l = l.numbers.items ≡ mentioned (take l.name-index l.names)
