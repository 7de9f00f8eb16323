-- A `do` with a `continue` of its own, whose test may fail, as a `while (1)` with a flag that is set in its first turn alone (C99 6.8.5, 6.8.6.2):
-- `{ t = 1; while (1) { if (t) { t = 0; } else { if (c) { } else { break; } } S } }`, where each `continue` stays as it is. All else stays as it
-- is. The flags of a function are new locals behind its own, unsigned chars without names, in the order of the text.
use Rattle.std.specs.Prelude.{ℕ, zero, suc, length, ◌+◌, ◌<◌, ◌^◌, pos, Bool, true, false, not, ◌&&◌, ◌||◌, List, [], ◌∷◌, ◌++◌, map}
use Rattle.std.specs.List.{list_any}
use Rattle.cc_program.specs.CcNum.declared.int_type.IntType.TheVariants as int
use Rattle.cc_program.specs.declared.expr.Expr.{Expr, roll-Expr}
use Rattle.cc_program.specs.declared.expr.Expr.TheOpen as one
use Rattle.cc_program.specs.declared.expr.Place.{roll-Place}
use Rattle.cc_program.specs.declared.func.Func.{Func}
use Rattle.cc_program.specs.declared.program.Program.{Program}
use Rattle.cc_program.specs.declared.stmt.Case.{Case, roll-Case, fold-Case}
use Rattle.cc_program.specs.declared.stmt.Stmt.{Stmt, roll-Stmt, fold-Stmt}
use Rattle.cc_program.specs.declared.stmt.Stmt.TheOpen as is
use Rattle.cc_program.specs.declared.types.CType.{CType}
use Rattle.cc_program.specs.declared.types.Shape.{Int}
use Rattle.cc_lower_statements.specs.Statements.{expression_statement, break_statement, endless_loop, is_nonzero_constant}

-- a flag, by its local, is written and read
abbrev pub assign_flag : ℕ → ℕ → Stmt
assign_flag t n = expression_statement (roll-Expr (one.Assign (roll-Place (one.Local t)) (roll-Expr (one.Const (pos n) int.UChar))))

abbrev pub read_flag : ℕ → Expr
read_flag t = roll-Expr (one.Load (roll-Place (one.Local t)))

-- out of the loop where the test fails
abbrev pub leave_unless : Expr → Stmt
leave_unless e = roll-Stmt (is.If e [] (break_statement ∷ []))

-- the test, but in the first turn
abbrev pub test_but_first : ℕ → Expr → Stmt
test_but_first t e = roll-Stmt (is.If (read_flag t) (assign_flag t 0 ∷ []) (leave_unless e ∷ []))

abbrev pub flagged_body : ℕ → Expr → List Stmt → List Stmt
flagged_body t e body = test_but_first t e ∷ body

abbrev pub flagged_do : ℕ → Expr → List Stmt → Stmt
flagged_do t e body = roll-Stmt (is.Block (assign_flag t 1 ∷ endless_loop (flagged_body t e body) ∷ []))

-- of a statement: whether it has a `continue` of the loop around it, how many flags it takes, and what it becomes, by the first of them
pub record Flagging : Type 0 where
  pub continues : Bool
  pub flags : ℕ
  pub becomes : ℕ → Stmt

pub record CaseFlagging : Type 0 where
  pub continues : Bool
  pub flags : ℕ
  pub becomes : ℕ → Case

abbrev pub any_continues : List Flagging → Bool
any_continues list = list_any (λ s. s.continues) list

abbrev pub any_case_continues : List CaseFlagging → Bool
any_case_continues list = list_any (λ c. c.continues) list

abbrev pub flags_in : List Flagging → ℕ
flags_in [] = 0
flags_in (s ∷ list) = s.flags + flags_in list

abbrev pub flags_in_cases : List CaseFlagging → ℕ
flags_in_cases [] = 0
flags_in_cases (c ∷ list) = c.flags + flags_in_cases list

abbrev pub all_become : List Flagging → ℕ → List Stmt
all_become [] n = []
all_become (s ∷ list) n = s.becomes n ∷ all_become list (n + s.flags)

abbrev pub cases_become : List CaseFlagging → ℕ → List Case
cases_become [] n = []
cases_become (c ∷ list) n = c.becomes n ∷ cases_become list (n + c.flags)

-- whether a `do` takes a flag
abbrev pub needs_flag : Bool → Expr → Bool
needs_flag continues e = continues && not (is_nonzero_constant e)

abbrev pub do_flagging : Bool → List Flagging → Expr → Flagging
do_flagging true body e = record { continues = false; flags = 1 + flags_in body; becomes = λ n. flagged_do n e (all_become body (n + 1)) }
do_flagging false body e = record { continues = false; flags = flags_in body; becomes = λ n. roll-Stmt (is.DoWhile (all_become body n) e) }

abbrev pub unchanged : Stmt → Flagging
unchanged s = record { continues = false; flags = 0; becomes = λ n. s }

abbrev pub flagging_in : is.Stmt-F Flagging CaseFlagging → Flagging
flagging_in (is.Do e) = unchanged (roll-Stmt (is.Do e))
flagging_in (is.If e these those) =
    record { continues = any_continues these || any_continues those; flags = flags_in these + flags_in those; becomes = λ n. roll-Stmt (is.If e (all_become these n) (all_become those (n + flags_in these))) }
flagging_in (is.While e body) = record { continues = false; flags = flags_in body; becomes = λ n. roll-Stmt (is.While e (all_become body n)) }
flagging_in (is.DoWhile body e) = do_flagging (needs_flag (any_continues body) e) body e
flagging_in (is.For first test again body) = record { continues = false; flags = flags_in body; becomes = λ n. roll-Stmt (is.For first test again (all_become body n)) }
flagging_in (is.Switch e cases) = record { continues = any_case_continues cases; flags = flags_in_cases cases; becomes = λ n. roll-Stmt (is.Switch e (cases_become cases n)) }
flagging_in is.Break = unchanged break_statement
flagging_in is.Continue = record { continues = true; flags = 0; becomes = λ n. roll-Stmt is.Continue }
flagging_in (is.Return e) = unchanged (roll-Stmt (is.Return e))
flagging_in is.Empty = unchanged (roll-Stmt is.Empty)
flagging_in (is.Block body) = record { continues = any_continues body; flags = flags_in body; becomes = λ n. roll-Stmt (is.Block (all_become body n)) }

abbrev pub case_flagging_in : is.Case-F Flagging CaseFlagging → CaseFlagging
case_flagging_in c = record { continues = any_continues c.body; flags = flags_in c.body; becomes = λ n. roll-Case (record { labels = c.labels; body = all_become c.body n }) }

unfoldable pub flagging : Stmt → Flagging
flagging s = fold-Stmt Flagging CaseFlagging flagging_in case_flagging_in s

unfoldable pub case_flagging : Case → CaseFlagging
case_flagging c = fold-Case Flagging CaseFlagging flagging_in case_flagging_in c

abbrev pub flags_of : List Stmt → ℕ
flags_of list = flags_in (map flagging list)

abbrev pub flagged_list : List Stmt → ℕ → List Stmt
flagged_list list n = all_become (map flagging list) n

abbrev pub unsigned_char : CType
unsigned_char = record { constant = false; volatile = false; shape = Int int.UChar }

abbrev pub flag_locals : ℕ → List (List ℕ × CType)
flag_locals zero = []
flag_locals (suc n) = ([], unsigned_char) ∷ flag_locals n

-- the locals of the flags of a function, and its new body
abbrev pub new_locals : Func → List (List ℕ × CType)
new_locals f = flag_locals (flags_of f.body)

abbrev pub new_body : Func → List Stmt
new_body f = flagged_list f.body (length f.locals)

abbrev pub flagged_func : Func → Func
flagged_func f = record { name = f.name; sig = f.sig; entry = f.entry; params = f.params; locals = f.locals ++ new_locals f; body = new_body f }

-- each local has an id of 32 bits
abbrev pub HasFewLocals : Func → Type 0
HasFewLocals f = length f.locals < 2 ^ 32

-- the program with other bodies and more locals; all else is the same
abbrev pub flagged_program : Program → Program
flagged_program p =
    record { target = p.target; roles = p.roles; structures = p.structures; devices = p.devices; objects = p.objects; funcs = map flagged_func p.funcs; main = p.main }
