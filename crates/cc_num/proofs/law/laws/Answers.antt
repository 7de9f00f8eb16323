-- Each law is a lemma of its own.
use Rattle.cc_num.proofs.Conversions.{converted-IsValueOf, converted-same, converted-modulo}
use Rattle.cc_num.proofs.PromotionLaws.{promoted-promoted, promoted-usual_of, usual_of-comm, usual_of-same}
use Rattle.cc_num.proofs.ResultLaws.{value_test, represents_test, result_lands, unary_result_lands}
use Rattle.cc_num.proofs.DivisionLaws.{divides, division_traps, floor_low, floor_high}
use Rattle.cc_num.proofs.ComplementLaws.{signed_complement, unsigned_complement}
use Rattle.cc_num.proofs.law.laws.Goals as goal

pub returns : goal.returns
returns c = record {
  conversion_lands = converted-IsValueOf;
  conversion_keeps = λ v t target. converted-same t target v;
  conversion_modulo = converted-modulo;
  value_test = value_test;
  representation_test = represents_test;
  promotion_stays = promoted-promoted;
  usual_is_promoted = promoted-usual_of;
  usual_of_one = usual_of-same;
  usual_commutes = usual_of-comm;
  result_lands = result_lands;
  unary_lands = unary_result_lands;
  division = divides;
  division_traps = division_traps;
  floor_low = floor_low;
  floor_high = floor_high;
  signed_complement = signed_complement;
  unsigned_complement = unsigned_complement;
}
