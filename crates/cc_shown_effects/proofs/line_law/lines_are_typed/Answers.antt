use Rattle.std.proofs.Common.{◌≡◌, ◌∙◌, Some, length, subst}
use Rattle.cc_program.specs.declared.program.Program.{Program}
use Rattle.cc_program.specs.declared.types.CType.{CType}
use Rattle.cc_program.specs.declared.types.Shape.{out-Shape}
use Rattle.cc_typed_bodies.specs.CcSyntax.Sizes.{AreSized}
use Rattle.cc_typed_bodies.specs.CcSyntax.Sound.{IsSound}
use Rattle.cc_typed_bodies.specs.CcSyntax.Values.{scalar_value}
use Rattle.cc_typed_bodies.proofs.CcSyntax.StructureLemmas.{structures_sized}
use Rattle.cc_shown_effects.proofs.Effects.{effect-done}
use Rattle.cc_shown_expressions.proofs.Stand.{types-stand}
use Rattle.cc_shown_expressions.proofs.Values.{value-taken}
use Rattle.cc_shown_effects.proofs.Lines.{scalar-no-void, effect-line, break-line, continue-line, return-line, value-line}
use Rattle.cc_shown_expressions.specs.Numbers.{type_numbered, value_numbered}
use Rattle.cc_shown_expressions.proofs.Kept.{void-numbered, scalar-at}
use Rattle.cc_shown_effects.proofs.line_law.lines_are_typed.Goals as goal

sized : (p : Program) → IsSound p → AreSized p.structures p.target
sized p h = structures_sized (length p.structures) p.target p.structures h.structures

pub returns : goal.returns
returns c = record {
  effects = λ p i f n s u sound there names defined result t e v x o h typed normal steps j at.
      effect-line p n defined result s u x t e (value_numbered n.structure v) o (effect-done p f n sound (sized p sound) (types-stand p sound i f there) s u names e x.node h v x.at typed normal steps) j at;
  breaks = λ p n s defined result t o j h at. break-line p n defined result s t o j h at;
  continues = λ p n s defined result t o j h at. continue-line p n defined result s t o j h at;
  returns = λ p n s defined result t o h j at. return-line p n defined result s t o h j at;
  values = λ p i f n s sound there names defined t e r v w x o h has scalar fits a j at.
      value-line p n defined (type_numbered n.structure r) s x t e w o
      (value-taken p f n s (sized p sound) names (types-stand p sound i f there) (Some r) e x.node h x.at v w has fits a (λ u same. let g : r ≡ u = cc in subst (λ (u : CType). scalar_value u ≡ Some w) g scalar))
      (void-numbered n.structure r ∙ scalar-no-void (out-Shape r.shape) w scalar) (scalar-at n.structure r w scalar) j at;
}
