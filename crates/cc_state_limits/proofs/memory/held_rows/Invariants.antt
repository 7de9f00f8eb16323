use Rattle.std.proofs.Common.{All, take}
use Rattle.cc_state_limits.specs.Held.{IsHeldRow}
use Rattle.cc_state_limits.proofs.memory.held_rows.Given as goal

abbrev pub invariant-loop-row : goal.invariant-loop-row
invariant-loop-row g l = All IsHeldRow (take l.row-index l.rows)
