use Rattle.std.proofs.Common.{refl}
use Rattle.cc_unit_faults.proofs.Units.{broken-first, first-broken, typed-breaks-none, none-typed}
use Rattle.cc_unit_faults.proofs.law.a_refusal_names_the_first_fault.Goals as goal

pub returns : goal.returns
returns c = record {
  first = λ target roles u rule at h. (h.0, broken-first target roles u h.0 h.1, h.2, h.3);
  alone = λ target roles u f h. (f, first-broken target roles u f h, refl, refl);
  typed = λ target roles u t h. typed-breaks-none target roles u t h;
  whole = λ target roles u h. none-typed target roles u h;
}
