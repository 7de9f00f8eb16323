use Rattle.cc_shown_expressions.proofs.Constants.{integer-found, zero-found}
use Rattle.cc_shown_expressions.proofs.constant_law.constants_are_typed.Goals as goal

pub returns : goal.returns
returns c = record {
  integers = λ target roles s n t x h v at. let q = integer-found target roles s n t x h v at in (q.type, q.is, q.own);
  zeros = zero-found;
}
