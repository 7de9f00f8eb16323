-- By the forms of statements.
use Rattle.cc_state_points.proofs.Acting.{operands_at}
use Rattle.cc_state_points.proofs.law.points.Goals as goal

pub returns : goal.returns
returns c = record { operands = operands_at }
