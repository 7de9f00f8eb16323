-- Each law is a lemma of its own.
use Rattle.cc_lattice.proofs.IntValues.{value_is_int, int_is_value, passing}
use Rattle.cc_lattice.proofs.law.laws.Goals as goal

pub returns : goal.returns
returns c = record {
  value = value_is_int;
  only_values = int_is_value;
  comparison = passing;
}
