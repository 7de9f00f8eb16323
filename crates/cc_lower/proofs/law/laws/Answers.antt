use Rattle.std.proofs.Common.{refl}
use Rattle.cc_layout.specs.Seats.{ram}
use Rattle.cc_lower.specs.Lowered.{lowered}
use Rattle.cc_lower.proofs.law.laws.Goals as goal
use Rattle.cc_lower_continues.specs.Continues.{flagged_program}
use Rattle.cc_lower_normal.specs.Lowered.{lowered_but_for_names}
use Rattle.cc_lower_normal.proofs.LoweredPrograms.{few_flags}
use Rattle.cc_lower_statements.specs.Statements.{lower_program}
use Rattle.cc_states.proofs.CcSteps.RunLaws.{Follows-trans, Answers-trans}
use Rattle.cc_states.proofs.CcSyntax.NameRules.{sound-typed}

pub returns-clause-follows : goal.returns-clause-follows
unfolding lowered
returns-clause-follows c = λ p sound few.
    let typed = sound-typed p sound in
    let flags = few_flags p few in
    let named = c.numbered_program_laws.ensures.follows (lowered_but_for_names p) (c.lowered_laws.ensures.typed p typed few) (c.lowered_temporary_laws.ensures.registers p sound flags) in
    let expressions = c.expression_laws.ensures.follows (lower_program (flagged_program p)) (c.lowering_laws.ensures.typed p typed flags) (c.lowered_statement_laws.ensures.plain (flagged_program p)) in
    Follows-trans (lowered p) (lowered_but_for_names p) p named (Follows-trans (lowered_but_for_names p) (lower_program (flagged_program p)) p expressions (c.lowering_laws.ensures.follows p typed))

pub returns-clause-answers : goal.returns-clause-answers
unfolding lowered
returns-clause-answers c = λ p sound few.
    let typed = sound-typed p sound in
    let flags = few_flags p few in
    let named = c.numbered_program_laws.ensures.answers (lowered_but_for_names p) (c.lowered_laws.ensures.typed p typed few) (c.lowered_temporary_laws.ensures.registers p sound flags) in
    let expressions = c.expression_laws.ensures.answers (lower_program (flagged_program p)) (c.lowering_laws.ensures.typed p typed flags) (c.lowered_statement_laws.ensures.plain (flagged_program p)) in
    Answers-trans (lowered p) (lowered_but_for_names p) p named (Answers-trans (lowered_but_for_names p) (lower_program (flagged_program p)) p expressions (c.lowering_laws.ensures.answers p typed))

pub returns-clause-sound : goal.returns-clause-sound
unfolding lowered
returns-clause-sound c = λ p sound few. c.lowered_laws.ensures.sound p sound few

pub returns-clause-normal : goal.returns-clause-normal
unfolding lowered
returns-clause-normal c = λ p sound folded accessed few. c.lowered_laws.ensures.normal p sound folded accessed few

pub returns-clause-target : goal.returns-clause-target
unfolding lowered
returns-clause-target c = λ p. refl

pub returns-clause-roles : goal.returns-clause-roles
unfolding lowered
returns-clause-roles c = λ p. refl

pub returns-clause-objects : goal.returns-clause-objects
unfolding lowered
returns-clause-objects c = λ p. refl

pub returns-clause-ram : goal.returns-clause-ram
unfolding lowered ram
returns-clause-ram c = λ p. refl
