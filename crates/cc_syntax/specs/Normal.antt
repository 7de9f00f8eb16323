-- Programs in normal form: each statement has at most one access to a cell that is no register, its operands
-- are pure and folded, and the printed text gives the program back.
use Rattle.std.specs.Prelude.{◌≡◌, ℕ, ◌+◌, pos, Bool, true, false, not, ◌&&◌, ◌||◌, nat_eq, nat_lt, List, [], ◌∷◌, ◌++◌, length, Option, Some, None, is_some, if◌then◌else◌, map}
use Rattle.std.specs.List.{list_all, flat_map, filter}
use Rattle.std.specs.Ordering.{int_eq}
use Rattle.cc_program.specs.CcNum.declared.int_type.IntType.TheVariants as int
use Rattle.cc_program.specs.CcNum.declared.target.Target.{Target}
use Rattle.cc_program.specs.declared.expr.Expr.{Expr}
use Rattle.cc_program.specs.declared.expr.Expr.TheOpen as one
use Rattle.cc_program.specs.declared.expr.Place.{Place, out-Place}
use Rattle.cc_program.specs.declared.func.Func.{Func}
use Rattle.cc_program.specs.declared.object.Device.{Device}
use Rattle.cc_program.specs.declared.program.Program.{Program}
use Rattle.cc_program.specs.declared.stmt.Stmt.{Stmt, fold-Stmt}
use Rattle.cc_program.specs.declared.stmt.Stmt.TheOpen as is
use Rattle.cc_syntax.specs.Effects.{no_one, effects_of, place_effects_of}
use Rattle.cc_syntax.specs.Folding.{is_folded, is_folded_place}
use Rattle.cc_syntax.specs.Forms.{Form, ConstantForm, FunctionForm, LoadForm, AssignForm, CallForm, IntrinsicForm, OtherForm, form_of}
use Rattle.cc_syntax.specs.Lists.{come_first, is_count}
use Rattle.cc_syntax.specs.SameTypes.{same_int}
use Rattle.cc_syntax.specs.Sound.{IsSound, is_numbered}

-- `1` of type int
abbrev pub is_one : Form → Bool
is_one (ConstantForm n t) = int_eq n (pos 1) && same_int t int.Int
is_one FunctionForm = false
is_one (LoadForm a) = false
is_one (AssignForm a e) = false
is_one (CallForm g args) = false
is_one (IntrinsicForm a) = false
is_one OtherForm = false

module _ (target : Target) (f : Func) where
  -- an operand: a pure expression, of which reading leaves each part as it is. No operand assigns anything.
  abbrev pub is_operand : Expr → Bool
  is_operand e = (effects_of f e).pure no_one && is_folded target e

  abbrev pub is_optional_operand : Option Expr → Bool
  is_optional_operand None = true
  is_optional_operand (Some e) = is_operand e

  abbrev pub is_register_place : Place → Bool
  is_register_place a = is_some (place_effects_of f a).register

  -- a place that is no register, with such operands
  abbrev pub is_other_place : Place → Bool
  is_other_place a = not (is_register_place a) && ((place_effects_of f a).pure no_one && is_folded_place target a)

  -- what is called: a function or a register
  abbrev pub is_callee : Form → Bool
  is_callee FunctionForm = true
  is_callee (LoadForm a) = is_register_place a
  is_callee (ConstantForm n t) = false
  is_callee (AssignForm a e) = false
  is_callee (CallForm g args) = false
  is_callee (IntrinsicForm a) = false
  is_callee OtherForm = false

  -- a call whose arguments are operands, or an intrinsic
  abbrev pub is_call : Form → Bool
  is_call (CallForm g args) = is_callee (form_of g) && list_all is_operand args
  is_call (IntrinsicForm a) = is_optional_operand a
  is_call FunctionForm = false
  is_call (LoadForm a) = false
  is_call (ConstantForm n t) = false
  is_call (AssignForm a e) = false
  is_call OtherForm = false

  -- the read of a place that is no register
  abbrev pub is_place_read : Form → Bool
  is_place_read (LoadForm a) = is_other_place a
  is_place_read (CallForm g args) = false
  is_place_read (IntrinsicForm a) = false
  is_place_read FunctionForm = false
  is_place_read (ConstantForm n t) = false
  is_place_read (AssignForm a e) = false
  is_place_read OtherForm = false

  -- `register = operand`, `register = place`, `register = call`, `place = operand`
  abbrev pub is_assignment : Place → Expr → Bool
  is_assignment a e =
      if is_register_place a then is_operand e || (is_place_read (form_of e) || is_call (form_of e))
      else is_other_place a && is_operand e

  -- an assignment, or a call whose result is not used
  abbrev pub is_expression_statement : Form → Bool
  is_expression_statement (AssignForm a e) = is_assignment a e
  is_expression_statement (CallForm g args) = is_call (CallForm g args)
  is_expression_statement (IntrinsicForm a) = is_call (IntrinsicForm a)
  is_expression_statement FunctionForm = false
  is_expression_statement (LoadForm a) = false
  is_expression_statement (ConstantForm n t) = false
  is_expression_statement OtherForm = false

  -- a statement in normal form; of loops there is `while (1)` alone, and no statement is a block or empty
  abbrev pub normal_step : is.Stmt-F Bool Bool → Bool
  normal_step (is.Do e) = is_expression_statement (form_of e)
  normal_step (is.If e a b) = is_operand e && (list_all (λ b. b) a && list_all (λ b. b) b)
  normal_step (is.While e a) = is_one (form_of e) && list_all (λ b. b) a
  normal_step (is.DoWhile a e) = false
  normal_step (is.For first test step a) = false
  normal_step (is.Switch e cases) = is_operand e && list_all (λ b. b) cases
  normal_step is.Break = true
  normal_step is.Continue = true
  normal_step (is.Return e) = is_optional_operand e
  normal_step is.Empty = false
  normal_step (is.Block a) = false

  abbrev pub is_normal_stmt : Stmt → Bool
  is_normal_stmt s = fold-Stmt Bool Bool normal_step (λ c. list_all (λ b. b) c.body) s

abbrev pub is_normal_body : Target → Func → Bool
is_normal_body target f = list_all (λ b. b) (map (is_normal_stmt target f) f.body)

-- devices in the order of the text: those with names are declared first, the others are numbered where they
-- first stand in a function
abbrev pub has_name : Device → Bool
has_name d = not (is_numbered d)

abbrev pub count_named : List Device → ℕ
count_named devices = length (filter has_name devices)

-- the devices that an expression in normal form accesses, from left to right
abbrev pub device_in : one.Place-F Expr Place → List ℕ
device_in (one.Device d) = d ∷ []
device_in (one.Local r) = []
device_in (one.Static i) = []
device_in (one.Element a i) = []
device_in (one.Member a m) = []
device_in (one.Deref e) = []

abbrev pub device_read : Form → List ℕ
device_read (LoadForm a) = device_in (out-Place a)
device_read FunctionForm = []
device_read (ConstantForm n t) = []
device_read (AssignForm a e) = []
device_read (CallForm g args) = []
device_read (IntrinsicForm a) = []
device_read OtherForm = []

abbrev pub devices_accessed : Form → List ℕ
devices_accessed (AssignForm a e) = device_in (out-Place a) ++ device_read (form_of e)
devices_accessed (LoadForm a) = []
devices_accessed FunctionForm = []
devices_accessed (ConstantForm n t) = []
devices_accessed (CallForm g args) = []
devices_accessed (IntrinsicForm a) = []
devices_accessed OtherForm = []

abbrev pub devices_step : is.Stmt-F (List ℕ) (List ℕ) → List ℕ
devices_step (is.Do e) = devices_accessed (form_of e)
devices_step (is.If e a b) = flat_map (λ ds. ds) a ++ flat_map (λ ds. ds) b
devices_step (is.While e a) = flat_map (λ ds. ds) a
devices_step (is.DoWhile a e) = flat_map (λ ds. ds) a
devices_step (is.For first test step a) = flat_map (λ ds. ds) a
devices_step (is.Switch e cases) = flat_map (λ ds. ds) cases
devices_step is.Break = []
devices_step is.Continue = []
devices_step (is.Return e) = []
devices_step is.Empty = []
devices_step (is.Block a) = flat_map (λ ds. ds) a

-- the devices that a statement in normal form accesses, in order
abbrev pub devices_of : Stmt → List ℕ
devices_of s = fold-Stmt (List ℕ) (List ℕ) devices_step (λ c. flat_map (λ ds. ds) c.body) s

abbrev pub devices_in : List Stmt → List ℕ
devices_in list = flat_map (λ ds. ds) (map devices_of list)

abbrev pub devices_in_text : Program → List ℕ
devices_in_text p = flat_map (λ f. devices_in f.body) p.funcs

-- numbers in the order of their first appearance: each is below `next`, and so was there before, or is it;
-- what is next behind all of them
abbrev pub next_of : ℕ → List ℕ → Option ℕ
next_of next [] = Some next
next_of next (d ∷ ds) = if nat_lt d next then next_of next ds else (if nat_eq d next then next_of (next + 1) ds else None)

abbrev pub devices_in_order : Program → Bool
devices_in_order p = come_first has_name p.devices && is_count (length p.devices) (next_of (count_named p.devices) (devices_in_text p))

pub record IsNormal (p : Program) : Type 0 where
  pub sound : IsSound p
  pub bodies : list_all (λ f. is_normal_body p.target f) p.funcs ≡ true
  pub devices : devices_in_order p ≡ true
