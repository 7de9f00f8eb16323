use Rattle.cc_lower_sound.proofs.PieceLaws.{effect_typed, operand_typed, whole_typed}
use Rattle.cc_lower_sound.proofs.piece_law.typed_piece_laws.Goals as goal

pub returns : goal.returns
returns c = record {
  operand = operand_typed;
  whole = whole_typed;
  effect = effect_typed;
}
