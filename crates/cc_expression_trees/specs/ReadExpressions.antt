-- What is read of the tokens of a printed expression: a tree that shows what is claimed, and where it ends.
use Rattle.std.specs.Prelude.{ℕ, []}
use Rattle.cc_bodies.specs.Spots.{Spot, Whole, Operand, Converted, Pointed}
use Rattle.cc_pieces.specs.Pieces.{Pieces}
use Rattle.cc_expression_trees.specs.Laid.{laid}
use Rattle.cc_tree.specs.declared.at.At.{At}
use Rattle.cc_tree.specs.declared.tree.Tree.{Tree}
use Rattle.cc_tree.specs.Terms.{IsTree}

-- the tokens of the first pieces, from byte `at` on, are an expression of a level up to those of the second pieces
pub record ReadsTree (S : Tree → Type 0) (l at : ℕ) (qs ps : Pieces) : Type 0 where
  pub tree : At Tree
  pub shows : S tree.node
  pub next : ℕ
  pub is : IsTree [] l tree (laid at qs) (laid next ps)

-- the tightest level at which a text can be read, by where it stands: a whole right side is no operand of an operator
abbrev pub tightest : Spot → ℕ
tightest (Whole to) = 2
tightest Operand = 13
tightest Converted = 13
tightest Pointed = 13

abbrev pub tightest_place : Spot → ℕ
tightest_place (Whole to) = 14
tightest_place Operand = 15
tightest_place Converted = 15
tightest_place Pointed = 15
