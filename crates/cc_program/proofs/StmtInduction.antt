-- Induction over statements and cases: a claim holds of all where it holds of each one whose parts it
-- holds of. A proof goes by cases on one level, and a fold opens at it by `fold-roll-Stmt`.
use Rattle.std.proofs.Common.{List, subst}
use Rattle.cc_program.specs.declared.stmt.Case.{Case, roll-Case, ind-Case, map-Case}
use Rattle.cc_program.specs.declared.stmt.Stmt.{Stmt, roll-Stmt, ind-Stmt, map-Stmt}
use Rattle.cc_program.specs.declared.stmt.Stmt.TheOpen as one
use Rattle.cc_program.proofs.Each.{Each, each_of, each_kept}

module _ (P : Stmt → Type 0) (Q : Case → Type 0) where
  -- the statements and cases in a statement have P and Q
  abbrev pub StmtParts : one.Stmt-F Stmt Case → Type 0
  StmtParts (one.Do e) = Unit {0}
  StmtParts (one.If e a b) = Each P a × Each P b
  StmtParts (one.While e a) = Each P a
  StmtParts (one.DoWhile a e) = Each P a
  StmtParts (one.For first test step a) = Each P a
  StmtParts (one.Switch e cases) = Each Q cases
  StmtParts one.Break = Unit {0}
  StmtParts one.Continue = Unit {0}
  StmtParts (one.Return e) = Unit {0}
  StmtParts one.Empty = Unit {0}
  StmtParts (one.Block a) = Each P a

  -- so have those in a case
  abbrev pub CaseParts : one.Case-F Stmt Case → Type 0
  CaseParts c = Each P c.body

  abbrev SomeStmt : Type 0
  SomeStmt = (s : Stmt) × P s

  abbrev SomeCase : Type 0
  SomeCase = (c : Case) × Q c

  parts_of : (x : one.Stmt-F SomeStmt SomeCase) → StmtParts (map-Stmt SomeStmt SomeCase Stmt Case (λ s. s.0) (λ c. c.0) x)
  parts_of (one.Do e) = tt
  parts_of (one.If e a b) = (each_kept P a, each_kept P b)
  parts_of (one.While e a) = each_kept P a
  parts_of (one.DoWhile a e) = each_kept P a
  parts_of (one.For first test step a) = each_kept P a
  parts_of (one.Switch e cases) = each_kept Q cases
  parts_of one.Break = tt
  parts_of one.Continue = tt
  parts_of (one.Return e) = tt
  parts_of one.Empty = tt
  parts_of (one.Block a) = each_kept P a

  parts_of_case : (x : one.Case-F SomeStmt SomeCase) → CaseParts (map-Case SomeStmt SomeCase Stmt Case (λ s. s.0) (λ c. c.0) x)
  parts_of_case x = each_kept P x.body

  module _ (made : (x : one.Stmt-F Stmt Case) → StmtParts x → P (roll-Stmt x)) (made_case : (x : one.Case-F Stmt Case) → CaseParts x → Q (roll-Case x)) where
    pub by_stmt : (s : Stmt) → P s
    by_stmt = ind-Stmt P Q (λ x y e. made x (subst StmtParts e (parts_of y))) (λ x y e. made_case x (subst CaseParts e (parts_of_case y)))

    pub by_case : (c : Case) → Q c
    by_case = ind-Case P Q (λ x y e. made x (subst StmtParts e (parts_of y))) (λ x y e. made_case x (subst CaseParts e (parts_of_case y)))

    pub by_stmts : (list : List Stmt) → Each P list
    by_stmts = each_of P by_stmt
