-- The temporaries of a function: the locals behind its parameters and behind all that have names. They are numbered in the order in
-- which the text of a program in normal form first writes them.
use Rattle.std.specs.Prelude.{ℕ, suc, ◌-◌, max, min, Bool, not, ◌||◌, nat_eq, List, [], ◌∷◌, ◌++◌, length, map, flat_map, if◌then◌else◌}
use Rattle.std.specs.List.{list_any}
use Rattle.cc_program.specs.declared.expr.Expr.{Expr}
use Rattle.cc_program.specs.declared.expr.Expr.TheOpen as one
use Rattle.cc_program.specs.declared.expr.Place.{Place, out-Place}
use Rattle.cc_program.specs.declared.func.Func.{Func}
use Rattle.cc_program.specs.declared.stmt.Stmt.{Stmt, fold-Stmt}
use Rattle.cc_program.specs.declared.stmt.Stmt.TheOpen as is
use Rattle.cc_syntax.specs.Forms.{Form, ConstantForm, FunctionForm, LoadForm, AssignForm, CallForm, IntrinsicForm, OtherForm, form_of}
use Rattle.cc_syntax.specs.Types.{Named}
use Rattle.cc_lower_numbers.specs.Order.{ordered}

abbrev pub has_name : Named → Bool
has_name l = not (nat_eq (length l.0) 0)

-- how many locals stand up to the last one that has a name
abbrev pub named_count : List Named → ℕ
named_count [] = 0
named_count (l ∷ ls) = if has_name l || list_any has_name ls then suc (named_count ls) else 0

-- how many locals are no temporaries
abbrev pub kept_count : Func → ℕ
kept_count f = min (max f.params (named_count f.locals)) (length f.locals)

abbrev pub temporary_count : Func → ℕ
temporary_count f = length f.locals - kept_count f

-- ---- the locals that a text writes, from its beginning to its end

abbrev pub local_in : one.Place-F Expr Place → List ℕ
local_in (one.Local r) = r ∷ []
local_in (one.Static i) = []
local_in (one.Device d) = []
local_in (one.Element a i) = []
local_in (one.Member a m) = []
local_in (one.Deref e) = []

abbrev pub local_written : Form → List ℕ
local_written (AssignForm a e) = local_in (out-Place a)
local_written (ConstantForm n t) = []
local_written FunctionForm = []
local_written (LoadForm a) = []
local_written (CallForm g args) = []
local_written (IntrinsicForm a) = []
local_written OtherForm = []

abbrev pub written_step : is.Stmt-F (List ℕ) (List ℕ) → List ℕ
written_step (is.Do e) = local_written (form_of e)
written_step (is.If e a b) = flat_map (λ rs. rs) a ++ flat_map (λ rs. rs) b
written_step (is.While e a) = flat_map (λ rs. rs) a
written_step (is.DoWhile a e) = flat_map (λ rs. rs) a
written_step (is.For first test again a) = flat_map (λ rs. rs) a
written_step (is.Switch e cases) = flat_map (λ rs. rs) cases
written_step is.Break = []
written_step is.Continue = []
written_step (is.Return e) = []
written_step is.Empty = []
written_step (is.Block a) = flat_map (λ rs. rs) a

abbrev pub written_by : Stmt → List ℕ
written_by s = fold-Stmt (List ℕ) (List ℕ) written_step (λ c. flat_map (λ rs. rs) c.body) s

abbrev pub written_in : List Stmt → List ℕ
written_in list = flat_map (λ rs. rs) (map written_by list)

-- the temporaries in their new order: those that are never written stand behind the others
abbrev pub temporaries : Func → List ℕ
temporaries f = ordered (kept_count f) (length f.locals) (written_in f.body)
