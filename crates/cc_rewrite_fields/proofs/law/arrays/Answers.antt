-- By the lemmas on packed arrays.
use Rattle.cc_rewrite_fields.proofs.ArrayLemmas.{elements_beside, element_fits, div_result, rem_result, mul_result, not_result, element_put}
use Rattle.cc_rewrite_fields.proofs.law.arrays.Goals as goal

pub returns : goal.returns
returns g = record {
  apart = elements_beside;
  within = element_fits;
  quotient = div_result;
  remainder = rem_result;
  product = mul_result;
  complement = not_result;
  put_in = element_put;
}
