-- By the lemmas on operators.
use Rattle.cc_rewrite_fields.proofs.OperatorLemmas.{field_result, put_result, shl_result, code_fits}
use Rattle.std.proofs.Common.{pow_pos}
use Rattle.cc_rewrite_fields.proofs.law.operators.Goals as goal

pub returns : goal.returns
returns g = record {
  shifted = λ t n w s b few within small h. (field_result t n few w s b within small h).0;
  masked = λ t n w s b few within small h. (field_result t n few w s b within small h).1;
  kept = λ t n w s b c few within small h. (put_result t n few w s b within small c h).0;
  put_in = λ t n w s b c few within small h. (put_result t n few w s b within small c h).1;
  raised = λ t n s b c few within k h. shl_result t c s k (code_fits t n few 0 s b within (pow_pos n) c h);
}
