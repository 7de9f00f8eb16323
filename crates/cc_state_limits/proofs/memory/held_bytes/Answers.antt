-- A byte is at most 255.
use Rattle.std.proofs.Common.{arith}
use Rattle.std.proofs.lemmas.List.Elements.{All-from_get_or}
use Rattle.cc_state_limits.proofs.memory.held_bytes.Goals as goal
use Rattle.cc_state_room.specs.Small.{IsByte}

pub returns : goal.returns
returns c = All-from_get_or IsByte c.args.levels.now 0 (λ i within. omega (arith, c.type_inv.levels i))
