use Rattle.cc_lower_sound.proofs.FlaggedFolded.{flagged_folded}
use Rattle.cc_lower_sound.proofs.FoldedStatements.{lowered_folded}
use Rattle.cc_lower_sound.proofs.LoweredPrograms.{lowered_typed}
use Rattle.cc_lower_sound.proofs.PlainStatements.{lowered_plain}
use Rattle.cc_lower_sound.proofs.program_law.lowered_statement_laws.Goals as goal

pub returns : goal.returns
returns c = record {
  typed = lowered_typed;
  plain = lowered_plain;
  folded = lowered_folded;
  flagged_folded = flagged_folded;
}
