use Rattle.cc_relocated_units.proofs.UnitKinds.{unit_kind}
use Rattle.cc_relocated_units.proofs.source_law.view_laws.Goals as goal

pub returns : goal.returns
returns c = record { kinds = λ target u t. unit_kind target u t }
