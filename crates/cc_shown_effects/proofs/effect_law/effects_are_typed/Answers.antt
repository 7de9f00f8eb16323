use Rattle.std.proofs.Common.{length}
use Rattle.cc_program.specs.declared.program.Program.{Program}
use Rattle.cc_typed_bodies.specs.CcSyntax.Sizes.{AreSized}
use Rattle.cc_typed_bodies.specs.CcSyntax.Sound.{IsSound}
use Rattle.cc_typed_bodies.proofs.CcSyntax.StructureLemmas.{structures_sized}
use Rattle.cc_shown_effects.proofs.Effects.{effect-done, names-after}
use Rattle.cc_shown_expressions.proofs.Stand.{types-stand}
use Rattle.cc_shown_effects.proofs.effect_law.effects_are_typed.Goals as goal

sized : (p : Program) → IsSound p → AreSized p.structures p.target
sized p h = structures_sized (length p.structures) p.target p.structures h.structures

pub returns : goal.returns
returns c = record {
  effects = λ p i f n s u sound there names e v x h typed normal steps at. effect-done p f n sound (sized p sound) (types-stand p sound i f there) s u names e x h v at typed normal steps;
  behind = λ p i f n s u sound there names e steps. names-after p f n sound (sized p sound) (types-stand p sound i f there) s u e names steps;
}
