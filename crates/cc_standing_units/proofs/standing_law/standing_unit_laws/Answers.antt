use Rattle.cc_standing_units.proofs.Standing.{left_standing}
use Rattle.cc_standing_units.proofs.standing_law.standing_unit_laws.Goals as goal

pub returns : goal.returns
returns c = record { standing = λ target s ordered closed text. left_standing target s ordered closed text }
