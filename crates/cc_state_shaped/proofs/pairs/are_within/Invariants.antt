use Rattle.std.proofs.Common.{take}
use Rattle.std.specs.List.{All}
use Rattle.cc_state_shaped.specs.Parts.{IsWithin}
use Rattle.cc_state_shaped.proofs.pairs.are_within.Given as goal

abbrev pub invariant-loop-pair : goal.invariant-loop-pair
invariant-loop-pair l = All (IsWithin l.registers l.cells) (take l.pair-index l.pairs)
