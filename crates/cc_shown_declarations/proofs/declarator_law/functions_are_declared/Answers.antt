use Rattle.std.proofs.Common.{length}
use Rattle.cc_program.specs.declared.program.Program.{Program}
use Rattle.cc_program.specs.declared.types.Sig.{out-Sig}
use Rattle.cc_type.specs.CcSyntax.Sizes.{AreSized}
use Rattle.cc_type.specs.CcSyntax.Sound.{IsSound}
use Rattle.cc_type.proofs.CcSyntax.StructureLemmas.{structures_sized}
use Rattle.cc_shown_declarations.proofs.Forms.{function-form, object-form}
use Rattle.cc_shown_declarations.proofs.Functions.{are-scalars, is-declared}
use Rattle.cc_shown_declarations.proofs.declarator_law.functions_are_declared.Goals as goal

pub sized : (p : Program) → IsSound p → AreSized p.structures p.target
sized p h = structures_sized (length p.structures) p.target p.structures h.structures

pub returns : goal.returns
returns c = record {
  functions = λ p number roles s sound known sig x entries types result scalars names allowed named b d h at.
      is-declared p number roles (sized p sound) s known sig x entries types result (are-scalars p entries (out-Sig sig).params types scalars) allowed names named b d h at;
  forms = λ p b t d x entries h. function-form p.structures b t d x entries h;
  objects = λ p b t d x h k. object-form p.structures b t d x h k;
}
