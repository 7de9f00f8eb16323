-- Blocks, lists of statements and labels, over what their statements are read as.
use Rattle.std.proofs.Common.{◌≡◌, ℕ, ◌+◌, ℤ, List, [], ◌∷◌, ◌++◌, map, length, Option, Some, None, refl, sym, subst, append_assoc, append-nil}
use Rattle.cc_program.specs.CcNum.declared.int_type.IntType.{IntType}
use Rattle.cc_lex.specs.declared.token.Mark.TheVariants as m
use Rattle.cc_bodies.specs.Stmts.{StmtText, all_lines, opened, ended, label_lines}
use Rattle.cc_expression_trees.proofs.Integers.{constant-read}
use Rattle.cc_pieces.specs.Pieces.{Pieces, punct, indent, indentation, end_of_line}
use Rattle.cc_expression_trees.specs.Laid.{laid}
use Rattle.cc_program.specs.declared.func.Func.{Func}
use Rattle.cc_program.specs.declared.program.Program.{Program}
use Rattle.cc_program.specs.declared.stmt.Stmt.{Stmt}
use Rattle.cc_tree.specs.declared.at.At.{At}
use Rattle.cc_tree.specs.declared.unit.Line as line
use Rattle.cc_tree.specs.declared.unit.Line.{Line}
use Rattle.cc_tree.specs.Statements.{IsStatement, ABlock, AnExprStatement, NoExpr, ACase as CaseLine, ADefault as DefaultLine, IsLines, NoLine, AStatement}
use Rattle.cc_tree.specs.Tokens.{Tokens, at as at_of}
use Rattle.cc_unit_trees.specs.Lines.{block, ShowsLabels, NoLabel, ACase, ADefault, ShowsStmt, ShowsStmts, NoStmt, MoreStmts}
use Rattle.cc_unit_trees.specs.ReadStatements.{ReadsLine, ReadsLines}

-- ---- blocks

pub record ReadsBlock (S : List (At Line) → Type 0) (at : ℕ) (qs ps : Pieces) : Type 0 where
  pub lines : List (At Line)
  pub shows : S lines
  pub brace : ℕ
  pub next : ℕ
  pub is : IsStatement [] (block brace lines) (laid at qs) (laid next ps)

-- what a list of lines is read as, behind any others
abbrev pub ReadsBody : (List (At Line) → Type 0) → (Pieces → Pieces) → Type 0
ReadsBody S body = (at : ℕ) (done : List (At Line)) (all : Tokens) (ps : Pieces) → IsLines [] [] done all (laid at (body ps)) → ReadsLines S done all ps

pub block-read : (S : List (At Line) → Type 0) (body : Pieces → Pieces) (level : ℕ) → ReadsBody S body → (at : ℕ) (ps : Pieces) → ReadsBlock S at (opened (body (indent level ∷ punct m.RBrace ∷ ps))) ps
block-read S body level h at ps =
    let inner = at + 1 + 1 + 1 in
    let qs = indent level ∷ punct m.RBrace ∷ ps in
    let b = h inner [] (laid inner (body qs)) qs (NoLine [] _) in
    record {
      lines = b.lines;
      shows = b.shows;
      brace = at + 1;
      next = b.next + length (indentation level) + 1;
      is = ABlock [] [] b.lines (at + 1, 1) (b.next + length (indentation level), 1) _ _ b.is;
    }

-- `;`
pub empty-read : (level at : ℕ) (ps : Pieces) → ReadsLine (λ l. l ≡ line.Expr None) at (indent level ∷ ended ps) ps
empty-read level at ps =
    let here = at + length (indentation level) in
    record { line = at_of (laid here (ended ps)) (line.Expr None); shows = refl; next = here + 1 + 1; is = AnExprStatement [] None (here, 1) _ _ (NoExpr [] _) }

module _ (p : Program) (f : Func) where
  -- ---- statements one behind another

  abbrev pub ReadsStmtText : Stmt → StmtText → Type 0
  ReadsStmtText s text = (level at : ℕ) (ps : Pieces) → ReadsLine (ShowsStmt p f s) at (text level ps) ps

  abbrev pub EachReads : (Stmt → StmtText) → List Stmt → Type 0
  EachReads text [] = Unit {0}
  EachReads text (s ∷ ss) = ReadsStmtText s (text s) × EachReads text ss

  pub stmts-read : (text : Stmt → StmtText) (ss : List Stmt) → EachReads text ss → (level : ℕ) → ReadsBody (ShowsStmts p f ss) (λ ps. all_lines (map text ss) level ps)
  stmts-read text [] h level at done all ps k = record { lines = []; shows = NoStmt; next = at; is = subst (λ ls. IsLines [] [] ls all (laid at ps)) (sym (append-nil done)) k }
  stmts-read text (s ∷ ss) h level at done all ps k =
      let r = h.0 level at (all_lines (map text ss) level ps) in
      let b = stmts-read text ss h.1 level r.next (done ++ r.line ∷ []) all ps (AStatement [] [] done r.line all _ _ k r.is) in
      record {
        lines = r.line ∷ b.lines;
        shows = MoreStmts s ss r.line b.lines r.shows b.shows;
        next = b.next;
        is = subst (λ ls. IsLines [] [] ls all (laid b.next ps)) (append_assoc done (r.line ∷ []) b.lines) b.is;
      }

  -- ---- labels

  pub record Labelled (t : IntType) (S : Line → Type 0) (labels : List (Option ℤ)) (l : Line) : Type 0 where
    pub inner : Line
    pub shows : S inner
    pub labelled : ShowsLabels p f t inner labels l

  pub labels-read : (t : IntType) (S : Line → Type 0) (labels : List (Option ℤ)) (level : ℕ) (qs ps : Pieces) → ((at : ℕ) → ReadsLine S at qs ps) → (at : ℕ) → ReadsLine (Labelled t S labels) at (label_lines p.target t level labels qs) ps
  labels-read t S [] level qs ps h at = let r = h at in record { line = r.line; shows = record { inner = r.line.node; shows = r.shows; labelled = NoLabel }; next = r.next; is = r.is }
  labels-read t S (Some n ∷ labels) level qs ps h at =
      let here = at + length (indentation level) in
      let rest = label_lines p.target t level labels qs in
      let c = constant-read p.target n t 2 (here + 4 + 1) (punct m.Colon ∷ end_of_line ∷ rest) in
      let r = labels-read t S labels level qs ps h (c.next + 1 + 1) in
      record {
        line = record { at = here; node = line.Case c.tree r.line };
        shows = record { inner = r.shows.inner; shows = r.shows.shows; labelled = ACase n labels c.tree r.line c.shows r.shows.labelled };
        next = r.next;
        is = CaseLine [] c.tree r.line (here, 4) (c.next, 1) _ _ _ c.is r.is;
      }
  labels-read t S (None ∷ labels) level qs ps h at =
      let here = at + length (indentation level) in
      let r = labels-read t S labels level qs ps h (here + 7 + 1 + 1) in
      record {
        line = record { at = here; node = line.Default r.line };
        shows = record { inner = r.shows.inner; shows = r.shows.shows; labelled = ADefault labels r.line r.shows.labelled };
        next = r.next;
        is = DefaultLine [] r.line (here, 7) (here + 7, 1) _ _ r.is;
      }
