use Rattle.std.proofs.Common.{length}
use Rattle.cc_program.specs.declared.program.Program.{Program}
use Rattle.cc_typed_bodies.specs.CcSyntax.Sizes.{AreSized}
use Rattle.cc_typed_bodies.specs.CcSyntax.Sound.{IsSound}
use Rattle.cc_typed_bodies.proofs.CcSyntax.StructureLemmas.{structures_sized}
use Rattle.cc_shown_effects.proofs.Assigned.{names-behind, operand-assigned, read-assigned}
use Rattle.cc_shown_effects.proofs.Devices.{place-accessed}
use Rattle.cc_shown_expressions.proofs.Stand.{types-stand}
use Rattle.cc_shown_effects.proofs.assignment_law.assignments_are_typed.Goals as goal

sized : (p : Program) → IsSound p → AreSized p.structures p.target
sized p h = structures_sized (length p.structures) p.target p.structures h.structures

pub returns : goal.returns
returns c = record {
  places = λ p i f n s u sound there names a t x h k acc at. place-accessed p f n s sound (sized p sound) names (types-stand p sound i f there) a x h at t k u acc;
  behind = λ p f n s u names a acc. names-behind p f n s u a names acc;
  operands = λ p i f n s u sound there names a t r v w x y h g k written o fits acc at. operand-assigned p f n sound (sized p sound) (types-stand p sound i f there) s u x y at a t r v w names h g k written o fits acc;
  reads = λ p i f n s u z sound there names a b t q to r v w x y h g o k written l read fits acc more at. read-assigned p f n sound (sized p sound) (types-stand p sound i f there) s u z x y at a b t q to r v w names h g o k written l read fits acc more;
}
