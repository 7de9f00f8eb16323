use Rattle.std.proofs.Common.{length}
use Rattle.cc_program.specs.declared.program.Program.{Program}
use Rattle.cc_typed_bodies.specs.CcSyntax.Sizes.{AreSized}
use Rattle.cc_typed_bodies.specs.CcSyntax.Sound.{IsSound}
use Rattle.cc_typed_bodies.proofs.CcSyntax.StructureLemmas.{structures_sized}
use Rattle.cc_shown_effects.proofs.Calls.{call-shown}
use Rattle.cc_shown_expressions.proofs.Stand.{types-stand}
use Rattle.cc_shown_effects.proofs.call_law.calls_are_typed.Goals as goal

sized : (p : Program) → IsSound p → AreSized p.structures p.target
sized p h = structures_sized (length p.structures) p.target p.structures h.structures

pub returns : goal.returns
returns c = λ p i f n s sound there names e g args v x xs h t shown passed callee operands at.
    call-shown p f sound (types-stand p sound i f there) n (sized p sound) s names e g args v x xs at h t shown passed callee operands
