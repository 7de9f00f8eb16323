use Rattle.cc_standing_units.proofs.Closed.{are_closed}
use Rattle.cc_standing_units.proofs.closing_law.closing_laws.Goals as goal

pub returns : goal.returns
returns c = record { closed = λ target t ordered some apart closings. are_closed target t ordered some apart closings }
