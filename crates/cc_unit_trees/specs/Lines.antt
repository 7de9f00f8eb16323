-- Which statements of a tree show statements in normal form, whatever their offsets (C99 6.8).
use Rattle.std.specs.Prelude.{◌≡◌, ℕ, ℤ, List, [], ◌∷◌, ◌++◌, Option, Some, None}
use Rattle.cc_program.specs.CcNum.declared.int_type.IntType.{IntType}
use Rattle.cc_bodies.specs.Stmts.{label_type}
use Rattle.cc_expression_trees.specs.Constants.{ShowsInteger}
use Rattle.cc_expression_trees.specs.Exprs.{ShowsExpr, ShowsValue}
use Rattle.cc_program.specs.declared.expr.Expr.{Expr}
use Rattle.cc_program.specs.declared.func.Func.{Func}
use Rattle.cc_program.specs.declared.program.Program.{Program}
use Rattle.cc_program.specs.declared.stmt.Case.{Case, out-Case}
use Rattle.cc_program.specs.declared.stmt.Stmt.{Stmt, out-Stmt}
use Rattle.cc_program.specs.declared.stmt.Stmt.TheOpen as is
use Rattle.cc_program.specs.declared.types.Sig.{out-Sig}
use Rattle.cc_typed.specs.CcSyntax.Programs.{type_of}
use Rattle.cc_tree.specs.declared.at.At.{At}
use Rattle.cc_tree.specs.declared.tree.Tree.{Tree}
use Rattle.cc_tree.specs.declared.unit.Line as line
use Rattle.cc_tree.specs.declared.unit.Line.{Line}
use Rattle.cc_unit_trees.specs.Effects.{ShowsEffect}

abbrev pub block : ℕ → List (At Line) → At Line
block at ls = record { at = at; node = line.Block ls }

module _ (p : Program) (f : Func) where
  -- labels of a type round a statement
  pub data ShowsLabels (t : IntType) (inner : Line) : List (Option ℤ) → Line → Type 0 where
    NoLabel : ShowsLabels t inner [] inner
    ACase : (n : ℤ) (ls : List (Option ℤ)) (x : At Tree) (l : At Line) → ShowsInteger p.target n t x.node → ShowsLabels t inner ls l.node → ShowsLabels t inner (Some n ∷ ls) (line.Case x l)
    ADefault : (ls : List (Option ℤ)) (l : At Line) → ShowsLabels t inner ls l.node → ShowsLabels t inner (None ∷ ls) (line.Default l)

  mutual
    pub data ShowsStmt : Stmt → Line → Type 0 where
      ShowsDo : (s : Stmt) (e : Expr) (x : At Tree) → out-Stmt s ≡ is.Do e → ShowsEffect p f e x.node → ShowsStmt s (line.Expr (Some x))
      ShowsIf : (s : Stmt) (e : Expr) (a : List Stmt) (x : At Tree) (at : ℕ) (ls : List (At Line)) → out-Stmt s ≡ is.If e a [] → ShowsExpr p f e x.node → ShowsStmts a ls → ShowsStmt s (line.If x (block at ls) None)
      ShowsIfElse : (s : Stmt) (e : Expr) (a b : List Stmt) (x : At Tree) (i j : ℕ) (ls ms : List (At Line)) → out-Stmt s ≡ is.If e a b → ShowsExpr p f e x.node → ShowsStmts a ls → ShowsStmts b ms →
          ShowsStmt s (line.If x (block i ls) (Some (block j ms)))
      ShowsWhile : (s : Stmt) (e : Expr) (a : List Stmt) (x : At Tree) (at : ℕ) (ls : List (At Line)) → out-Stmt s ≡ is.While e a → ShowsExpr p f e x.node → ShowsStmts a ls → ShowsStmt s (line.While x (block at ls))
      ShowsSwitch : (s : Stmt) (e : Expr) (cases : List Case) (x : At Tree) (at : ℕ) (ls : List (At Line)) → out-Stmt s ≡ is.Switch e cases → ShowsExpr p f e x.node → ShowsCases (label_type (type_of p f.locals e)) cases ls →
          ShowsStmt s (line.Switch x (block at ls))
      ShowsBreak : (s : Stmt) → out-Stmt s ≡ is.Break → ShowsStmt s line.Break
      ShowsContinue : (s : Stmt) → out-Stmt s ≡ is.Continue → ShowsStmt s line.Continue
      ShowsReturn : (s : Stmt) → out-Stmt s ≡ is.Return None → ShowsStmt s (line.Return None)
      ShowsReturnOf : (s : Stmt) (e : Expr) (x : At Tree) → out-Stmt s ≡ is.Return (Some e) → ShowsValue p f (Some (out-Sig f.sig).result) e x.node → ShowsStmt s (line.Return (Some x))

    pub data ShowsStmts : List Stmt → List (At Line) → Type 0 where
      NoStmt : ShowsStmts [] []
      MoreStmts : (s : Stmt) (ss : List Stmt) (l : At Line) (ls : List (At Line)) → ShowsStmt s l.node → ShowsStmts ss ls → ShowsStmts (s ∷ ss) (l ∷ ls)

    -- The labels of a case stand round its first statement, or round `;` where it has none; the others follow it.
    pub data ShowsCase : IntType → Case → List (At Line) → Type 0 where
      EmptyCase : (t : IntType) (c : Case) (l : At Line) → (out-Case c).body ≡ [] → ShowsLabels t (line.Expr None) (out-Case c).labels l.node → ShowsCase t c (l ∷ [])
      FullCase : (t : IntType) (c : Case) (s : Stmt) (ss : List Stmt) (inner : Line) (l : At Line) (ls : List (At Line)) → (out-Case c).body ≡ s ∷ ss → ShowsStmt s inner → ShowsLabels t inner (out-Case c).labels l.node → ShowsStmts ss ls →
          ShowsCase t c (l ∷ ls)

    pub data ShowsCases : IntType → List Case → List (At Line) → Type 0 where
      NoCase : (t : IntType) → ShowsCases t [] []
      MoreCases : (t : IntType) (c : Case) (cs : List Case) (ls ms : List (At Line)) → ShowsCase t c ls → ShowsCases t cs ms → ShowsCases t (c ∷ cs) (ls ++ ms)
