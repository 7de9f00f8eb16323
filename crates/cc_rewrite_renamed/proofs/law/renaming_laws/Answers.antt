use Rattle.cc_rewrite_renamed.proofs.Laws.{does_same, types_same, effects_same}
use Rattle.cc_rewrite_renamed.proofs.Stays.{expr_stays}
use Rattle.cc_rewrite_renamed.proofs.law.renaming_laws.Goals as goal

pub returns : goal.returns
returns c = record {
  does = does_same;
  stays = expr_stays;
  types = types_same;
  known_before = effects_same;
}
