use Rattle.std.proofs.Common.{Some, ◌∷◌}
use Rattle.cc_pieces.specs.Declarators.{declarator}
use Rattle.cc_pieces.specs.declared.types.Inside.TheVariants.{Nothing, Name as Named}
use Rattle.cc_pieces.specs.Pieces.{ident}
use Rattle.cc_expression_trees.specs.Types.{Plain}
use Rattle.cc_expression_trees.proofs.Declarators.{type-reads, type-fits, name-fits}
use Rattle.cc_expression_trees.proofs.TypeNames.{there, type-name-of, declared-of}
use Rattle.cc_expression_trees.proofs.Parameters.{name-reads, nothing-fits}
use Rattle.cc_expression_trees.proofs.type_law.types_read_back.Goals as goal

pub returns : goal.returns
returns c = record {
  names = λ structures target t k at ps. type-name-of structures (declarator structures t) t (type-reads structures structures target (there structures) t k) at ps;
  declarations = λ structures target t k x at ps.
      declared-of structures (declarator structures t) t (type-reads structures structures target (there structures) t k) (Plain (Some x)) (λ qs. ident x ∷ qs) (name-reads structures x t) at ps;
  names_part = λ structures target t k n ps f s. type-fits structures structures target (there structures) n t k Nothing (λ qs. qs) nothing-fits ps f s;
  declarations_part = λ structures target t k n x h ps f s. type-fits structures structures target (there structures) n t k Named (λ qs. ident x ∷ qs) (name-fits x h) ps f s;
}
