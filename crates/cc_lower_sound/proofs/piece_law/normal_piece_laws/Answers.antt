use Rattle.cc_lower_sound.proofs.PieceLaws.{effect_normal, operand_normal, whole_normal}
use Rattle.cc_lower_sound.proofs.piece_law.normal_piece_laws.Goals as goal

pub returns : goal.returns
returns c = record {
  operand = operand_normal;
  whole = whole_normal;
  effect = effect_normal;
}
