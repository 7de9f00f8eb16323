-- Flags, statements and expressions, one after the other.
use Rattle.std.proofs.Common.{◌≡◌, true, All}
use Rattle.cc_lower_continues.specs.Continues.{HasFewLocals, flagged_program}
use Rattle.cc_lower_expressions.specs.Programs.{lower_expressions_program}
use Rattle.cc_lower_statements.specs.Statements.{lower_program}
use Rattle.cc_program.specs.declared.program.Program.{Program}
use Rattle.cc_eval.specs.CcSyntax.Sound.{IsTypedProgram}
use Rattle.cc_lower_sound.specs.Folded.{has_folded_expressions}
use Rattle.cc_lower_sound.specs.Normal.{IsNormalButForNames}
use Rattle.cc_lower_sound.proofs.FlaggedFolded.{flagged_folded}
use Rattle.cc_lower_sound.proofs.FoldedStatements.{lowered_folded}
use Rattle.cc_lower_sound.proofs.LoweredPrograms.{lowered_typed}
use Rattle.cc_lower_sound.proofs.NormalPrograms.{lowered_program_normal}
use Rattle.cc_lower_sound.proofs.PlainStatements.{lowered_plain}
use Rattle.cc_lower_sound.proofs.TypedPrograms.{lowered_program_typed}

pub whole_typed : (p : Program) → IsTypedProgram (flagged_program p) → All HasFewLocals (lower_expressions_program (lower_program (flagged_program p))).funcs → IsTypedProgram (lower_expressions_program (lower_program (flagged_program p)))
whole_typed p h few = lowered_program_typed (lower_program (flagged_program p)) (lowered_typed (flagged_program p) h) (lowered_plain (flagged_program p)) few

pub whole_normal : (p : Program) → IsTypedProgram (flagged_program p) → has_folded_expressions p ≡ true → All HasFewLocals (lower_expressions_program (lower_program (flagged_program p))).funcs →
    IsNormalButForNames (lower_expressions_program (lower_program (flagged_program p)))
whole_normal p h folded few =
    lowered_program_normal (lower_program (flagged_program p)) (lowered_typed (flagged_program p) h) (lowered_plain (flagged_program p)) (lowered_folded (flagged_program p) (flagged_folded p folded)) few
