use Rattle.std.proofs.Common.{◌≡◌, take}
use Rattle.std.specs.List.{flat_map}
use Rattle.cc_numbering.specs.Structures.{structure_at}
use Rattle.cc_scopes.specs.View.{state_of}
use Rattle.cc_numbering.proofs.structures.structures_in.Given as goal

abbrev pub invariant-loop-id : goal.invariant-loop-id
invariant-loop-id l = l.structures.items ≡ flat_map (structure_at l.numbers (state_of l.state).structures) (take l.id-index l.order)
