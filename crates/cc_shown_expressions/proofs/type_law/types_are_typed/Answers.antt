use Rattle.std.proofs.Common.{length, refl}
use Rattle.cc_program.specs.declared.program.Program.{Program}
use Rattle.cc_program.specs.declared.types.Shape.TheOpen as shape
use Rattle.cc_terms.specs.CcScopes.State.{structures_of, layouts_of}
use Rattle.cc_terms.specs.CcSyntax.Sizes.{AreSized}
use Rattle.cc_terms.specs.CcSyntax.Sound.{IsSound}
use Rattle.cc_terms.proofs.CcSyntax.StructureLemmas.{structures_sized}
use Rattle.cc_expression_trees.specs.Types.{Plain}
use Rattle.cc_shown_expressions.specs.Numbers.{type_numbered}
use Rattle.cc_shown_expressions.proofs.Bases.{specified-found}
use Rattle.cc_shown_expressions.proofs.Declared.{declared}
use Rattle.cc_shown_expressions.proofs.Derived.{fits-derived}
use Rattle.cc_shown_expressions.proofs.Identity.{stays}
use Rattle.cc_shown_expressions.proofs.Numbering.{level-at}
use Rattle.cc_shown_expressions.proofs.TypeNames.{type-name-found, void-name-found}
use Rattle.cc_shown_expressions.proofs.type_law.types_are_typed.Goals as goal

sized : (p : Program) → IsSound p → AreSized p.structures p.target
sized p h = structures_sized (length p.structures) p.target p.structures h.structures

pub returns : goal.returns
returns c = record {
  numbered = λ number t i e. level-at number t (shape.Struct i) e;
  own = stays;
  specifiers = λ p number roles s known setting b ss h. let f = specified-found p number roles s known setting b ss h in (f.specs, f.plain, f.unmarked, f.is);
  declarators = λ p number roles s sound known b t d x h k allowed u at.
      let f = declared p number roles (sized p sound) s known b t d (Plain x) x h refl k allowed u at in
      (f.derivations, f.is, fits-derived p.target (structures_of s) (layouts_of s) allowed.void (type_numbered number b) f.derivations (type_numbered number t) f.fits);
  names = λ p number roles s sound known t type h k cast. type-name-found p number roles (sized p sound) s known t type h k cast;
  void_pointers = λ p number roles s sound known t void e f c v type h. void-name-found p number roles (sized p sound) s known t void e f c v type h;
}
