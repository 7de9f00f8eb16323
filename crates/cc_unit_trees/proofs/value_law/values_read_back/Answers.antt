use Rattle.cc_unit_trees.proofs.Starts.{object-values}
use Rattle.cc_unit_trees.proofs.value_law.values_read_back.Goals as goal

pub returns : goal.returns
returns c = record {
  values = λ p sound i o h at ps. (object-values p sound i o h ps).reads at;
  values_part = λ p sound names i o h ps f s. (object-values p sound i o h ps).fits names f s;
}
