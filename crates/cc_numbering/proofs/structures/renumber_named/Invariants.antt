use Rattle.std.proofs.Common.{◌≡◌, take, map}
use Rattle.cc_numbering.specs.Structures.{named_in}
use Rattle.cc_numbering.proofs.structures.renumber_named.Given as goal

abbrev pub invariant-loop-one : goal.invariant-loop-one
invariant-loop-one l = l.renumbered.items ≡ map (named_in l.numbers) (take l.one-index l.named)
