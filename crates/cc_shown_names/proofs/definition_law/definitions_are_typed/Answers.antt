use Rattle.std.proofs.Common.{length}
use Rattle.cc_program.specs.declared.program.Program.{Program}
use Rattle.cc_type.specs.CcSyntax.Sizes.{AreSized}
use Rattle.cc_type.specs.CcSyntax.Sound.{IsSound}
use Rattle.cc_type.proofs.CcSyntax.StructureLemmas.{structures_sized}
use Rattle.cc_shown_names.proofs.Definitions.{all-behind, all-found}
use Rattle.cc_shown_names.proofs.definition_law.definitions_are_typed.Goals as goal

sized : (p : Program) → IsSound p → AreSized p.structures p.target
sized p h = structures_sized (length p.structures) p.target p.structures h.structures

pub returns : goal.returns
returns c = record {
  definitions = λ p n first behind i s sound normal defined fs xs left shown known next few.
      all-found p n sound (sized p sound) normal defined fs xs shown i first behind s left known next few;
  behind = λ p n first behind i s sound fs xs left long known next few. all-behind p n sound fs xs i first behind s left long known next few;
}
