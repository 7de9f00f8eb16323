-- What is read of the tokens of a printed declaration and definition: one that shows what is claimed, and where it ends.
use Rattle.std.specs.Prelude.{ℕ, []}
use Rattle.cc_pieces.specs.Pieces.{Pieces}
use Rattle.cc_expression_trees.specs.Laid.{laid}
use Rattle.cc_tree.specs.declared.unit.Decl.{Decl}
use Rattle.cc_tree.specs.declared.unit.Item.{Item}
use Rattle.cc_tree.specs.Sentences.{IsItem}
use Rattle.cc_tree.specs.Statements.{IsDecl}

pub record ReadsDecl (S : Decl → Type 0) (at : ℕ) (qs ps : Pieces) : Type 0 where
  pub decl : Decl
  pub shows : S decl
  pub next : ℕ
  pub is : IsDecl [] [] decl (laid at qs) (laid next ps)

pub record ReadsItem (S : Item → Type 0) (at : ℕ) (qs ps : Pieces) : Type 0 where
  pub item : Item
  pub shows : S item
  pub next : ℕ
  pub is : IsItem [] [] item (laid at qs) (laid next ps)
