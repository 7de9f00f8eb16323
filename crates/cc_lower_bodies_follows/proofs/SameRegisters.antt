-- The registers of a lowered function below its source's count of locals are those of the source.
use Rattle.std.proofs.Common.{◌≡◌, Bool, true, not, ◌&&◌, length, Option, slice_get, ap, ◌∙◌}
use Rattle.std.proofs.lemmas.Bool.{lt-ltb}
use Rattle.cc_program.specs.declared.program.Program.{Program}
use Rattle.cc_states.specs.CcSyntax.Registers.{may_be_register, is_addressed, is_register}
use Rattle.cc_states.specs.CcSyntax.Sound.{IsTypedProgram}
use Rattle.cc_states.specs.CcSyntax.Types.{Named}
use Rattle.cc_lower_expressions.specs.Programs.{temporaries, lower_func}
use Rattle.cc_lower_sound.specs.Statements.{has_plain_statements}
use Rattle.cc_lower_expressions_follows.proofs.WholePrograms.{SameRegisters}
use Rattle.cc_meaning_simulations.proofs.MoreLocals.{get_before}
use Rattle.cc_lower_bodies_follows.proofs.AddressedStatements.{body_takes}
use Rattle.cc_lower_bodies_follows.proofs.LowerableStatements.{body_lowerable}

pub same_registers : (P : Program) → IsTypedProgram P → has_plain_statements P ≡ true → SameRegisters P
unfolding is_register
same_registers P typed plain id f there i below =
    ap (λ (o : Option Named). may_be_register o && not (is_addressed (lower_func P f) i)) (get_before f.locals (temporaries P f) i (lt-ltb i (length f.locals) below))
    ∙ ap (λ (b : Bool). may_be_register (slice_get f.locals i) && not b) (body_takes i P f f.body (body_lowerable P typed plain id f there) (length f.locals))
