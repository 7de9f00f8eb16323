-- What is read of the tokens of a printed initialiser: one that shows what is claimed, and where it ends.
use Rattle.std.specs.Prelude.{ℕ, []}
use Rattle.cc_pieces.specs.Pieces.{Pieces}
use Rattle.cc_expression_trees.specs.Laid.{laid}
use Rattle.cc_tree.specs.declared.at.At.{At}
use Rattle.cc_tree.specs.declared.unit.Given.{Given}
use Rattle.cc_tree.specs.Statements.{IsGiven}

pub record ReadsGiven (S : Given → Type 0) (at : ℕ) (qs ps : Pieces) : Type 0 where
  pub given : At Given
  pub shows : S given.node
  pub next : ℕ
  pub is : IsGiven [] given (laid at qs) (laid next ps)
