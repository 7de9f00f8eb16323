-- What is read of the tokens of printed statements: lines that show what is claimed, and where they end.
use Rattle.std.specs.Prelude.{ℕ, List, [], ◌++◌}
use Rattle.cc_pieces.specs.Pieces.{Pieces}
use Rattle.cc_expression_trees.specs.Laid.{laid}
use Rattle.cc_tree.specs.declared.at.At.{At}
use Rattle.cc_tree.specs.declared.unit.Line.{Line}
use Rattle.cc_tree.specs.Statements.{IsStatement, IsLines}
use Rattle.cc_tree.specs.Tokens.{Tokens}

pub record ReadsLine (S : Line → Type 0) (at : ℕ) (qs ps : Pieces) : Type 0 where
  pub line : At Line
  pub shows : S line.node
  pub next : ℕ
  pub is : IsStatement [] line (laid at qs) (laid next ps)

-- behind the lines of a block that are done
pub record ReadsLines (S : List (At Line) → Type 0) (done : List (At Line)) (all : Tokens) (ps : Pieces) : Type 0 where
  pub lines : List (At Line)
  pub shows : S lines
  pub next : ℕ
  pub is : IsLines [] [] (done ++ lines) all (laid next ps)
