use Rattle.std.proofs.Common.{length}
use Rattle.cc_program.specs.declared.program.Program.{Program}
use Rattle.cc_terms.specs.CcSyntax.Sizes.{AreSized}
use Rattle.cc_terms.specs.CcSyntax.Sound.{IsSound}
use Rattle.cc_terms.proofs.CcSyntax.StructureLemmas.{structures_sized}
use Rattle.cc_shown_expressions.proofs.Shown.{expr-shown, place-shown, pointer-shown}
use Rattle.cc_shown_expressions.proofs.Stand.{types-stand}
use Rattle.cc_shown_expressions.proofs.Values.{value-taken}
use Rattle.cc_shown_expressions.proofs.expression_law.expressions_are_typed.Goals as goal

sized : (p : Program) → IsSound p → AreSized p.structures p.target
sized p h = structures_sized (length p.structures) p.target p.structures h.structures

pub returns : goal.returns
returns c = record {
  expressions = λ p i f n s sound there names e v x h k at. (expr-shown p f n s (sized p sound) names (types-stand p sound i f there) e x h at v k).typed;
  places = λ p i f n s sound there names a t x h k plain at. (place-shown p f n s (sized p sound) names (types-stand p sound i f there) a x h at t k plain).placed;
  pointers = λ p i f n s sound there names e v x h k at. let q = pointer-shown p f n s (sized p sound) names (types-stand p sound i f there) e x h at v k in (q.shown.typed, q.address);
  values = λ p i f n s sound there names to e v w x h k g a takes at. value-taken p f n s (sized p sound) names (types-stand p sound i f there) to e x h at v w k g a takes;
}
