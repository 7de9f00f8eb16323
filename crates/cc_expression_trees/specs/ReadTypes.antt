-- What is read of the tokens of a printed type: a tree that shows it, and where it ends.
use Rattle.std.specs.Prelude.{ℕ, false, List, []}
use Rattle.cc_pieces.specs.Pieces.{Pieces}
use Rattle.cc_expression_trees.specs.Laid.{laid}
use Rattle.cc_program.specs.declared.types.CType.{CType}
use Rattle.cc_program.specs.declared.types.Structure.{Structure}
use Rattle.cc_tree.specs.declared.at.At.{At}
use Rattle.cc_tree.specs.declared.tree.Declr.{Declr}
use Rattle.cc_tree.specs.declared.tree.Spec.{Spec}
use Rattle.cc_tree.specs.declared.tree.TypeName.{TypeName}
use Rattle.cc_tree.specs.Terms.{IsSpecs, IsDeclr, IsTypeName}
use Rattle.cc_tree.specs.Tokens.{Tokens}
use Rattle.cc_expression_trees.specs.Types.{Core, Declares, ShowsBase, ShowsTypeName}

-- the tokens of the first pieces, from byte `at` on, are the name of the type up to those of the second pieces
pub record ReadsTypeName (structures : List Structure) (t : CType) (at : ℕ) (qs ps : Pieces) : Type 0 where
  pub type : TypeName
  pub shows : ShowsTypeName structures t type
  pub next : ℕ
  pub is : IsTypeName [] type (laid at qs) (laid next ps)

-- they are specifiers and a declarator that declare the core with the type
pub record ReadsDeclared (structures : List Structure) (core : Core) (t : CType) (at : ℕ) (qs ps : Pieces) : Type 0 where
  pub base : CType
  pub specs : List (At Spec)
  pub declr : At Declr
  pub shows_base : ShowsBase structures base specs
  pub shows : Declares structures base declr.node core t
  pub rest : Tokens
  pub next : ℕ
  pub is_specs : IsSpecs [] specs (laid at qs) rest
  pub is_declr : IsDeclr [] false declr rest (laid next ps)
