use Rattle.cc_relocated_units.proofs.Leaves.{initial_numbered}
use Rattle.cc_relocated_units.proofs.Statements.{body_numbered}
use Rattle.cc_relocated_units.proofs.unit_law.relocated_laws.Goals as goal

pub returns : goal.returns
returns c = record {
  bodies = λ v w ids among r before after l result body m h. body_numbered v w ids among r before after l result body m h;
  values = λ v w ids among r t leaves m h. initial_numbered v w ids among r t leaves m h;
}
