use Rattle.cc_standing_units.proofs.LeftViews.{left_renumbered}
use Rattle.cc_standing_units.proofs.left_law.left_unit_laws.Goals as goal

pub returns : goal.returns
returns c = record { renumbers = λ target s ordered laid. left_renumbered target s ordered laid }
