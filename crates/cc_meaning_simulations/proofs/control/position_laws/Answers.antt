use Rattle.cc_meaning_simulations.proofs.Positions.{turn_same, enters_same, boundary_same}
use Rattle.cc_meaning_simulations.proofs.control.position_laws.Goals as goal

pub returns : goal.returns
returns c = record { turns = turn_same; entries = enters_same; boundaries = boundary_same }
