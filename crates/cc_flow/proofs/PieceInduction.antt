-- Induction over the pieces of statements: a claim holds of all where it holds of each whose lists it holds of.
use Rattle.std.proofs.Common.{List, [], ◌∷◌, map, sym, subst}
use Rattle.cc_program.proofs.Each.{Each, each_of}
use Rattle.cc_program.proofs.StmtInduction.{StmtParts, CaseParts, by_stmt}
use Rattle.cc_program.specs.declared.stmt.Case.{Case, fold-Case, roll-Case, fold-roll-Case}
use Rattle.cc_program.specs.declared.stmt.Stmt.{Stmt, roll-Stmt, fold-Stmt, fold-roll-Stmt}
use Rattle.cc_program.specs.declared.stmt.Stmt.TheOpen as is
use Rattle.cc_flow.specs.Points.{Piece, CasePiece, flow_step, case_step, piece_of, pieces}

module _ (P : Piece → Type 0) where
  abbrev pub InCase : CasePiece → Type 0
  InCase c = Each P c.body

  -- the pieces that are the lists of a normal statement have P
  abbrev pub PieceParts : is.Stmt-F Piece CasePiece → Type 0
  PieceParts (is.Do e) = Unit {0}
  PieceParts (is.If e a b) = Each P a × Each P b
  PieceParts (is.While e a) = Each P a
  PieceParts (is.DoWhile a e) = Unit {0}
  PieceParts (is.For first test step a) = Unit {0}
  PieceParts (is.Switch e cases) = Each InCase cases
  PieceParts is.Break = Unit {0}
  PieceParts is.Continue = Unit {0}
  PieceParts (is.Return e) = Unit {0}
  PieceParts is.Empty = Unit {0}
  PieceParts (is.Block a) = Unit {0}

  abbrev folded : Stmt → Piece
  folded s = fold-Stmt Piece CasePiece flow_step case_step s

  abbrev folded_case : Case → CasePiece
  folded_case c = fold-Case Piece CasePiece flow_step case_step c

  abbrev OfStmt : Stmt → Type 0
  OfStmt s = P (folded s)

  abbrev OfCase : Case → Type 0
  OfCase c = InCase (folded_case c)

  each_piece : (list : List Stmt) → Each OfStmt list → Each P (map folded list)
  each_piece [] h = tt
  each_piece (s ∷ list) h = (h.0, each_piece list h.1)

  each_case : (cases : List Case) → Each OfCase cases → Each InCase (map folded_case cases)
  each_case [] h = tt
  each_case (c ∷ cases) h = (h.0, each_case cases h.1)

  module _ (made : (x : is.Stmt-F Piece CasePiece) → PieceParts x → P (flow_step x)) where
    rolled : (x : is.Stmt-F Stmt Case) → StmtParts OfStmt OfCase x → OfStmt (roll-Stmt x)
    rolled (is.Do e) h = subst P (sym (fold-roll-Stmt Piece CasePiece flow_step case_step (is.Do e))) (made (is.Do e) tt)
    rolled (is.If e a b) h = subst P (sym (fold-roll-Stmt Piece CasePiece flow_step case_step (is.If e a b))) (made (is.If e (map folded a) (map folded b)) (each_piece a h.0, each_piece b h.1))
    rolled (is.While e a) h = subst P (sym (fold-roll-Stmt Piece CasePiece flow_step case_step (is.While e a))) (made (is.While e (map folded a)) (each_piece a h))
    rolled (is.DoWhile a e) h = subst P (sym (fold-roll-Stmt Piece CasePiece flow_step case_step (is.DoWhile a e))) (made (is.DoWhile (map folded a) e) tt)
    rolled (is.For first test step a) h = subst P (sym (fold-roll-Stmt Piece CasePiece flow_step case_step (is.For first test step a))) (made (is.For first test step (map folded a)) tt)
    rolled (is.Switch e cases) h = subst P (sym (fold-roll-Stmt Piece CasePiece flow_step case_step (is.Switch e cases))) (made (is.Switch e (map folded_case cases)) (each_case cases h))
    rolled is.Break h = subst P (sym (fold-roll-Stmt Piece CasePiece flow_step case_step is.Break)) (made is.Break tt)
    rolled is.Continue h = subst P (sym (fold-roll-Stmt Piece CasePiece flow_step case_step is.Continue)) (made is.Continue tt)
    rolled (is.Return e) h = subst P (sym (fold-roll-Stmt Piece CasePiece flow_step case_step (is.Return e))) (made (is.Return e) tt)
    rolled is.Empty h = subst P (sym (fold-roll-Stmt Piece CasePiece flow_step case_step is.Empty)) (made is.Empty tt)
    rolled (is.Block a) h = subst P (sym (fold-roll-Stmt Piece CasePiece flow_step case_step (is.Block a))) (made (is.Block (map folded a)) tt)

    rolled_case : (x : is.Case-F Stmt Case) → CaseParts OfStmt OfCase x → OfCase (roll-Case x)
    rolled_case x h = subst InCase (sym (fold-roll-Case Piece CasePiece flow_step case_step x)) (each_piece x.body h)

    pub all_pieces : (list : List Stmt) → Each P (pieces list)
    unfolding piece_of
    all_pieces list = each_piece list (each_of OfStmt (by_stmt OfStmt OfCase rolled rolled_case) list)
