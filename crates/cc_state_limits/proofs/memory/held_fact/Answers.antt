use Rattle.std.proofs.Common.{All, subst}
use Rattle.cc_state_limits.proofs.memory.held_fact.Goals as goal
use Rattle.cc_state_limits.specs.Held.{IsHeldSet, IsHeldRow}

pub returns : goal.returns
returns g c = record { locals = subst (All IsHeldSet) c.all.ensures c.held_shared.ensures; rows = subst (All IsHeldRow) c.all-2.ensures c.held_rows.ensures }
