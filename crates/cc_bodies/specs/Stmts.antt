-- The pieces of statements in normal form (C99 6.8), a line each, in front of those that follow.
use Rattle.std.specs.Prelude.{ℕ, ◌+◌, ℤ, List, [], ◌∷◌, Option, Some, None, slice_get, map}
use Rattle.cc_program.specs.CcNum.declared.int_type.IntType.{IntType}
use Rattle.cc_program.specs.CcNum.declared.int_type.IntType.TheVariants as int
use Rattle.cc_program.specs.CcNum.declared.target.Target.{Target}
use Rattle.cc_program.specs.CcWords.declared.word.Word.{Word}
use Rattle.cc_program.specs.CcWords.declared.word.Word.TheVariants as w
use Rattle.cc_lex.specs.declared.token.Mark.TheVariants as m
use Rattle.cc_program.specs.declared.expr.Expr.{Expr, out-Expr}
use Rattle.cc_program.specs.declared.expr.Expr.TheOpen as one
use Rattle.cc_program.specs.declared.expr.Intr.{Intr}
use Rattle.cc_program.specs.declared.expr.Intr.TheVariants as intr
use Rattle.cc_program.specs.declared.expr.Place.{Place}
use Rattle.cc_program.specs.declared.func.Func.{Func}
use Rattle.cc_program.specs.declared.program.Program.{Program}
use Rattle.cc_program.specs.declared.program.Roles.{Roles}
use Rattle.cc_program.specs.declared.stmt.Case.{Case, out-Case}
use Rattle.cc_program.specs.declared.stmt.Stmt.{Stmt, fold-Stmt}
use Rattle.cc_program.specs.declared.stmt.Stmt.TheOpen as is
use Rattle.cc_program.specs.declared.types.CType.{CType}
use Rattle.cc_program.specs.declared.types.Sig.{Sig, out-Sig}
use Rattle.cc_typed.specs.CcSyntax.Programs.{type_of, place_type}
use Rattle.cc_typed.specs.CcSyntax.Values.{ValueType, NoValue, Integer, ToObject, ToFunction, PlaceType, DevicePlace, ObjectPlace, FunctionPlace}
use Rattle.cc_pieces.specs.Constants.{constant}
use Rattle.cc_pieces.specs.Pieces.{Pieces, punct, keyword, ident, space, indent, end_of_line}
use Rattle.cc_bodies.specs.Exprs.{expr, place_text, spaced}
use Rattle.cc_bodies.specs.Spots.{Whole, Operand}

-- ---- lines

-- the end of a statement's line
abbrev pub ended : Pieces → Pieces
ended ps = punct m.Semi ∷ end_of_line ∷ ps

-- `{` at the end of a line
abbrev pub opened : Pieces → Pieces
opened ps = space ∷ punct m.LBrace ∷ end_of_line ∷ ps

-- the line `}`
abbrev pub closed : ℕ → Pieces → Pieces
closed level ps = indent level ∷ punct m.RBrace ∷ end_of_line ∷ ps

-- the text of a statement, by the level at which it stands
abbrev pub StmtText : Type 0
StmtText = ℕ → Pieces → Pieces

abbrev pub all_lines : List StmtText → StmtText
all_lines [] level ps = ps
all_lines (s ∷ ss) level ps = s level (all_lines ss level ps)

-- an else stands only where it is not empty
abbrev pub else_lines : List StmtText → StmtText
else_lines [] level ps = ps
else_lines (s ∷ ss) level ps = indent level ∷ punct m.RBrace ∷ space ∷ keyword w.Else ∷ opened (all_lines (s ∷ ss) (level + 1) ps)

-- the statements behind labels, or `;` where there are none
abbrev pub case_body : List StmtText → StmtText
case_body [] level ps = indent level ∷ ended ps
case_body (s ∷ ss) level ps = all_lines (s ∷ ss) level ps

-- a case, by the type of its labels
abbrev pub CaseText : Type 0
CaseText = IntType → StmtText

abbrev pub case_lines : IntType → List CaseText → StmtText
case_lines t [] level ps = ps
case_lines t (c ∷ cs) level ps = c t level (case_lines t cs level ps)

-- a line for each label
abbrev pub label_line : Target → IntType → ℕ → Option ℤ → Pieces → Pieces
label_line target t level None ps = indent level ∷ keyword w.Default ∷ punct m.Colon ∷ end_of_line ∷ ps
label_line target t level (Some n) ps = indent level ∷ keyword w.Case ∷ space ∷ constant target n t (punct m.Colon ∷ end_of_line ∷ ps)

abbrev pub label_lines : Target → IntType → ℕ → List (Option ℤ) → Pieces → Pieces
label_lines target t level [] ps = ps
label_lines target t level (l ∷ ls) ps = label_line target t level l (label_lines target t level ls ps)

-- ---- what takes a value

-- the type of an object that is assigned; a device takes no pointer
abbrev pub taker : Option PlaceType → Option CType
taker None = None
taker (Some (DevicePlace constant t)) = None
taker (Some (ObjectPlace constant volatile t)) = Some t
taker (Some (FunctionPlace sig)) = None

-- the parameters of what is called
abbrev pub parameters_of : Option ValueType → List CType
parameters_of None = []
parameters_of (Some NoValue) = []
parameters_of (Some (Integer t)) = []
parameters_of (Some (ToObject constant volatile t)) = []
parameters_of (Some (ToFunction sig)) = (out-Sig sig).params

abbrev pub first : List CType → Option CType
first [] = None
first (t ∷ ts) = Some t

abbrev pub behind_first : List CType → List CType
behind_first [] = []
behind_first (t ∷ ts) = ts

-- the type of a label is that of the operand
abbrev pub label_type : Option ValueType → IntType
label_type None = int.Int
label_type (Some NoValue) = int.Int
label_type (Some (Integer t)) = t
label_type (Some (ToObject constant volatile t)) = int.Int
label_type (Some (ToFunction sig)) = int.Int

-- ---- what an expression of a normal statement does

pub data Effect : Type 0 where
  Assigns : Place → Expr → Effect
  Calls : Expr → List Expr → Effect
  -- an intrinsic
  Acts : Intr → Option Expr → Effect
  -- another one, which has a value alone
  Computes : Effect

abbrev pub effect_at : one.Expr-F Expr Place → Effect
effect_at (one.Assign a e) = Assigns a e
effect_at (one.Call g args) = Calls g args
effect_at (one.Intr i a) = Acts i a
effect_at (one.Const n t) = Computes
effect_at (one.Null t) = Computes
effect_at (one.FuncAddr i) = Computes
effect_at (one.Load a) = Computes
effect_at (one.AddrOf a) = Computes
effect_at (one.Un o t a) = Computes
effect_at (one.Bin o t a b) = Computes
effect_at (one.Conv t a) = Computes
effect_at (one.Qualify t a) = Computes
effect_at (one.Move a b back) = Computes
effect_at (one.Gap a b) = Computes
effect_at (one.Compare o a b) = Computes
effect_at (one.Both a b) = Computes
effect_at (one.Either a b) = Computes
effect_at (one.Choose c a b) = Computes
effect_at (one.Change a o t e) = Computes
effect_at (one.After a down) = Computes
effect_at (one.Seq a b) = Computes

-- ---- intrinsics

abbrev pub intrinsic_name : Roles → Intr → List ℕ
intrinsic_name roles intr.Off = roles.off
intrinsic_name roles intr.On = roles.on
intrinsic_name roles intr.Save = roles.save
intrinsic_name roles intr.Restore = roles.restore

module _ (p : Program) (f : Func) where
  abbrev pub optional_argument : Option Expr → Pieces → Pieces
  optional_argument None ps = ps
  optional_argument (Some e) ps = expr p f e (Whole None) ps

  abbrev pub intrinsic : Intr → Option Expr → Pieces → Pieces
  intrinsic i a ps = ident (intrinsic_name p.roles i) ∷ punct m.LParen ∷ optional_argument a (punct m.RParen ∷ ps)

  -- ---- calls

  abbrev pub further_arguments : List CType → List Expr → Pieces → Pieces
  further_arguments ts [] ps = ps
  further_arguments ts (e ∷ es) ps = punct m.Comma ∷ space ∷ expr p f e (Whole (first ts)) (further_arguments (behind_first ts) es ps)

  abbrev pub arguments : List CType → List Expr → Pieces → Pieces
  arguments ts [] ps = ps
  arguments ts (e ∷ es) ps = expr p f e (Whole (first ts)) (further_arguments (behind_first ts) es ps)

  abbrev pub call : Expr → List Expr → Pieces → Pieces
  call g args ps = expr p f g Operand (punct m.LParen ∷ arguments (parameters_of (type_of p f.locals g)) args (punct m.RParen ∷ ps))

  -- ---- what is assigned, and expression statements

  abbrev pub right_side_at : Option CType → Expr → Effect → Pieces → Pieces
  right_side_at to e (Calls g args) ps = call g args ps
  right_side_at to e (Acts i a) ps = intrinsic i a ps
  right_side_at to e (Assigns a b) ps = expr p f e (Whole to) ps
  right_side_at to e Computes ps = expr p f e (Whole to) ps

  -- a call, an intrinsic, or another expression, which the type takes
  abbrev pub right_side : Option CType → Expr → Pieces → Pieces
  right_side to e ps = right_side_at to e (effect_at (out-Expr e)) ps

  abbrev pub assignment : Place → Expr → Pieces → Pieces
  assignment a e ps = place_text p f a Operand (spaced m.Assign (right_side (taker (place_type p f.locals a)) e ps))

  abbrev pub done_at : Expr → Effect → Pieces → Pieces
  done_at e (Assigns a b) ps = assignment a b ps
  done_at e (Calls g args) ps = right_side None e ps
  done_at e (Acts i a) ps = right_side None e ps
  done_at e Computes ps = right_side None e ps

  -- an expression statement without its `;`
  abbrev pub done : Expr → Pieces → Pieces
  done e ps = done_at e (effect_at (out-Expr e)) ps

  -- ---- statements

  -- `if`, `while` or `switch`, with its condition
  abbrev pub head : Word → Expr → StmtText
  head word e level ps = indent level ∷ keyword word ∷ space ∷ punct m.LParen ∷ expr p f e Operand (punct m.RParen ∷ opened ps)

  abbrev pub if_lines : Expr → List StmtText → List StmtText → StmtText
  if_lines e a b level ps = head w.If e level (all_lines a (level + 1) (else_lines b level (closed level ps)))

  abbrev pub while_lines : Expr → List StmtText → StmtText
  while_lines e a level ps = head w.While e level (all_lines a (level + 1) (closed level ps))

  abbrev pub case_step : is.Case-F StmtText CaseText → CaseText
  case_step c = λ t level ps. label_lines p.target t level c.labels (case_body c.body (level + 1) ps)

  abbrev pub switch_lines : Expr → List CaseText → StmtText
  switch_lines e cases level ps = head w.Switch e level (case_lines (label_type (type_of p f.locals e)) cases level (closed level ps))

  abbrev pub returned : Option Expr → Pieces → Pieces
  returned None ps = ps
  returned (Some e) ps = space ∷ expr p f e (Whole (Some (out-Sig f.sig).result)) ps

  -- other loops, blocks and empty statements are none of a normal program
  abbrev pub stmt_step : is.Stmt-F StmtText CaseText → StmtText
  stmt_step (is.Do e) = λ level ps. indent level ∷ done e (ended ps)
  stmt_step (is.If e a b) = if_lines e a b
  stmt_step (is.While e a) = while_lines e a
  stmt_step (is.DoWhile a e) = λ level ps. ps
  stmt_step (is.For start test step a) = λ level ps. ps
  stmt_step (is.Switch e cases) = switch_lines e cases
  stmt_step is.Break = λ level ps. indent level ∷ keyword w.Break ∷ ended ps
  stmt_step is.Continue = λ level ps. indent level ∷ keyword w.Continue ∷ ended ps
  stmt_step (is.Return e) = λ level ps. indent level ∷ keyword w.Return ∷ returned e (ended ps)
  stmt_step is.Empty = λ level ps. ps
  stmt_step (is.Block a) = λ level ps. ps

  abbrev pub stmt : Stmt → StmtText
  stmt s = fold-Stmt StmtText CaseText stmt_step case_step s

  abbrev pub stmts : List Stmt → StmtText
  stmts list = all_lines (map stmt list)

  abbrev pub case_text : Case → CaseText
  case_text c = case_step (record { labels = (out-Case c).labels; body = map stmt (out-Case c).body })
