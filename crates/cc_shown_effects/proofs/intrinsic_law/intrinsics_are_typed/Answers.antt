use Rattle.std.proofs.Common.{length}
use Rattle.cc_program.specs.declared.program.Program.{Program}
use Rattle.cc_typed_bodies.specs.CcSyntax.Sizes.{AreSized}
use Rattle.cc_typed_bodies.specs.CcSyntax.Sound.{IsSound}
use Rattle.cc_typed_bodies.proofs.CcSyntax.StructureLemmas.{structures_sized}
use Rattle.cc_shown_expressions.proofs.Stand.{types-stand}
use Rattle.cc_shown_effects.proofs.Intrinsics.{intrinsic-shown, argument-shown}
use Rattle.cc_shown_effects.proofs.intrinsic_law.intrinsics_are_typed.Goals as goal

sized : (p : Program) → IsSound p → AreSized p.structures p.target
sized p h = structures_sized (length p.structures) p.target p.structures h.structures

pub returns : goal.returns
returns c = record {
  alone = λ p i f n s sound there names e a v j at h t. intrinsic-shown p f sound (types-stand p sound i f there) n (sized p sound) s names e a v j at h t;
  with_operand = λ p i f n s sound there names e b a v j at x h t shown o. argument-shown p f sound (types-stand p sound i f there) n (sized p sound) s names e b a v j at x h t shown o;
}
