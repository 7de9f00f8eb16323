-- Full expressions as normal statements: reads of places, calls and intrinsics stand in statements of their own, and what is
-- left of an expression is pure. An expression is lowered as an operand, as the whole right side of an assignment to a register,
-- or as an expression statement. New temporaries are the locals from a number on, in the order of the lists.
use Rattle.std.specs.Prelude.{ℕ, ◌+◌, nat_le, pos, Bool, true, false, ◌||◌, List, [], ◌∷◌, ◌++◌, map, length, Option, Some, None, is_some, option_and_then, if◌then◌else◌}
use Rattle.cc_program.specs.CcNum.declared.int_type.IntType.{IntType}
use Rattle.cc_program.specs.CcNum.declared.int_type.IntType.TheVariants as int
use Rattle.cc_program.specs.CcNum.declared.op.BinOp.{BinOp}
use Rattle.cc_program.specs.CcNum.declared.op.BinOp.TheVariants as op
use Rattle.cc_program.specs.CcNum.declared.op.UnOp.{UnOp}
use Rattle.cc_program.specs.CcNum.declared.target.Target.{Target}
use Rattle.cc_program.specs.CcNum.Promotions.{promoted}
use Rattle.cc_program.specs.declared.expr.Expr.{Expr, Const, Null, Load, AddrOf, Un, Bin, Conv, Qualify, Move, Gap, Compare, Assign, Call, Intr, out-Expr, roll-Expr, map-Expr, fold-Expr}
use Rattle.cc_program.specs.declared.expr.Expr.TheOpen as one
use Rattle.cc_program.specs.declared.expr.Place.{Place, Local, Element, Member, Deref, out-Place, roll-Place, map-Place, fold-Place}
use Rattle.cc_program.specs.declared.func.Func.{Func}
use Rattle.cc_program.specs.declared.program.Program.{Program}
use Rattle.cc_program.specs.declared.stmt.Stmt.{Stmt, Do, If}
use Rattle.cc_program.specs.declared.types.CType.{CType}
use Rattle.cc_eval.specs.CcSyntax.Effects.{Registers, also, Effects, PlaceEffects, is_soft, all_assigned, effect_step, place_effect_step}
use Rattle.cc_eval.specs.CcSyntax.Folding.{Constant, NoConstant, Value, Traps, unary_constant, binary_constant, converted_constant}
use Rattle.cc_eval.specs.CcSyntax.Forms.{Form, ConstantForm, FunctionForm, LoadForm, AssignForm, CallForm, IntrinsicForm, OtherForm, form_of}
use Rattle.cc_eval.specs.CcSyntax.Operators.{is_comparison, unary_result}
use Rattle.cc_eval.specs.CcSyntax.Programs.{expr_step, place_step}
use Rattle.cc_eval.specs.CcSyntax.Registers.{is_register}
use Rattle.cc_eval.specs.CcSyntax.SameTypes.{same_int}
use Rattle.cc_eval.specs.CcSyntax.Values.{ValueType, NoValue, Integer, ToObject, ToFunction, PlaceType, read_from}
use Rattle.cc_eval.specs.Eval.{is_back, sum_or_difference, one_more_type}

-- the types of new temporaries
abbrev pub Temps : Type 0
Temps = List (Option ValueType)

-- new temporaries, statements, and what stands for the value behind them
pub record Piece (A : Type 0) : Type 0 where
  pub temps : Temps
  pub stmts : List Stmt
  pub value : A

abbrev pub piece : {A : Type 0} → Temps → List Stmt → A → Piece A
piece temps stmts value = record { temps = temps; stmts = stmts; value = value }

-- with the first temporary of this number
abbrev pub Make : Type 0 → Type 0
Make A = ℕ → Piece A

abbrev pub done : {A : Type 0} → A → Make A
done x k = piece [] [] x

abbrev pub onto : {A B : Type 0} → Piece A → Piece B → Piece B
onto x y = piece (x.temps ++ y.temps) (x.stmts ++ y.stmts) y.value

infixl 10 ◌>>=◌
abbrev pub ◌>>=◌ : {A B : Type 0} → Make A → (A → Make B) → Make B
◌>>=◌ m f k = onto (m k) (f (m k).value (k + length (m k).temps))

abbrev pub fresh : Option ValueType → Make ℕ
fresh t k = piece (t ∷ []) [] k

abbrev pub emit : Stmt → Make (Unit {0})
emit s k = piece [] (s ∷ []) tt

-- an `if` between two pieces
abbrev pub either_of : Expr → Piece (Unit {0}) → Piece (Unit {0}) → Piece (Unit {0})
either_of c x y = piece (x.temps ++ y.temps) (If c x.stmts y.stmts ∷ []) tt

abbrev pub fork : Expr → Make (Unit {0}) → Make (Unit {0}) → Make (Unit {0})
fork c these those k = either_of c (these k) (those (k + length (these k).temps))

abbrev pub temp : ℕ → Expr
temp t = Load (Local t)

abbrev pub set : ℕ → Expr → Stmt
set t e = Do (Assign (Local t) e)

-- a right side goes to a new temporary
abbrev pub into : Option ValueType → Expr → Make Expr
into t e k = piece (t ∷ []) (set k e ∷ []) (temp k)

abbrev pub mapped : {A B : Type 0} → (A → B) → Piece A → Piece B
mapped f x = piece x.temps x.stmts (f x.value)

abbrev pub joined : {A B C : Type 0} → (A → B → C) → Piece A → Piece B → Piece C
joined f x y = piece (x.temps ++ y.temps) (x.stmts ++ y.stmts) (f x.value y.value)

abbrev pub with_both : {A B C : Type 0} → (A → B → C) → Make A → Make B → Make C
with_both f a b k = joined f (a k) (b (k + length (a k).temps))

-- where later operands assign these registers
abbrev pub Lowers : Type 0 → Type 0
Lowers A = Registers → Make A

abbrev pub from_one : {A B : Type 0} → (A → B) → Lowers A → Lowers B
from_one f a later k = mapped f (a later k)

-- two operands, of which the second one assigns these registers
abbrev pub from_two : {A B C : Type 0} → (A → B → C) → Registers → Lowers A → Lowers B → Lowers C
from_two f assigned a b later = with_both f (a (also assigned later)) (b later)

-- the condition, and arms that set a temporary
abbrev pub branch : Option ValueType → Make Expr → (ℕ → Make (Unit {0})) → (ℕ → Make (Unit {0})) → Make Expr
branch t c these those = c >>= (λ v. fresh t >>= (λ n. fork v (these n) (those n) >>= (λ u. done (temp n))))

-- ---- constants

abbrev pub constant_in : Form → Constant
constant_in (ConstantForm n t) = Value n
constant_in FunctionForm = NoConstant
constant_in (LoadForm a) = NoConstant
constant_in (AssignForm a e) = NoConstant
constant_in (CallForm g args) = NoConstant
constant_in (IntrinsicForm a) = NoConstant
constant_in OtherForm = NoConstant

abbrev pub constant_or : IntType → Constant → Expr → Expr
constant_or t NoConstant e = e
constant_or t (Value n) e = Const n t
constant_or t Traps e = e

abbrev pub binary_type : BinOp → IntType → IntType
binary_type o t = if is_comparison o then int.Int else t

-- a constant, or a null
abbrev pub is_idle : one.Expr-F Expr Place → Bool
is_idle (one.Const n t) = true
is_idle (one.Null t) = true
is_idle (one.FuncAddr f) = false
is_idle (one.Load a) = false
is_idle (one.AddrOf a) = false
is_idle (one.Un o t a) = false
is_idle (one.Bin o t a b) = false
is_idle (one.Conv t a) = false
is_idle (one.Qualify t a) = false
is_idle (one.Move a b back) = false
is_idle (one.Gap a b) = false
is_idle (one.Compare o a b) = false
is_idle (one.Both a b) = false
is_idle (one.Either a b) = false
is_idle (one.Choose c a b) = false
is_idle (one.Assign a e) = false
is_idle (one.Change a o t e) = false
is_idle (one.After a down) = false
is_idle (one.Call f args) = false
is_idle (one.Intr i a) = false
is_idle (one.Seq a b) = false

abbrev pub is_local_register : Func → one.Place-F Expr Place → Bool
is_local_register f (one.Local r) = is_register f r || nat_le (length f.locals) r
is_local_register f (one.Static i) = false
is_local_register f (one.Device d) = false
is_local_register f (one.Element a e) = false
is_local_register f (one.Member a m) = false
is_local_register f (one.Deref e) = false

-- what may be called in a normal statement: a function or a register
abbrev pub is_callee : Func → Form → Bool
is_callee f FunctionForm = true
is_callee f (LoadForm a) = is_local_register f (out-Place a)
is_callee f (ConstantForm n t) = false
is_callee f (AssignForm a e) = false
is_callee f (CallForm g args) = false
is_callee f (IntrinsicForm a) = false
is_callee f OtherForm = false

-- ---- what is made of an expression, and of a place

pub record Lowering : Type 0 where
  pub itself : Expr
  pub ctype : Option ValueType
  pub effects : Effects
  pub operand : Lowers Expr
  -- as the whole right side of an assignment to a register of this type
  pub whole : Option ValueType → ℕ → Lowers (Unit {0})
  pub effect : Lowers (Unit {0})

pub record PlaceLowering : Type 0 where
  pub itself : Place
  pub ctype : Option PlaceType
  pub effects : PlaceEffects
  pub operands : Lowers Place

abbrev pub value_of : PlaceLowering → Option ValueType
value_of a = option_and_then read_from a.ctype

abbrev pub number_of : Option ℕ → ℕ
number_of None = 0
number_of (Some n) = n

abbrev pub is_void_value : Option ValueType → Bool
is_void_value None = false
is_void_value (Some NoValue) = true
is_void_value (Some (Integer t)) = false
is_void_value (Some (ToObject constant volatile t)) = false
is_void_value (Some (ToFunction sig)) = false

abbrev pub all_args : List Lowering → Registers
all_args args = all_assigned (map (λ a. a.effects) args)

abbrev pub arguments : List Lowering → Lowers (List Expr)
arguments [] later = done []
arguments (a ∷ rest) later = with_both (λ x xs. x ∷ xs) (a.operand (also (all_args rest) later)) (arguments rest later)

-- ---- by default

abbrev pub whole_by : Lowers Expr → Option ValueType → ℕ → Lowers (Unit {0})
whole_by operand t n later = operand later >>= (λ v. emit (set n v))

-- a value that nobody uses: nothing where it is a constant
abbrev pub unused : Option ValueType → Expr → Make (Unit {0})
unused t v = if is_idle (out-Expr v) then done tt else (into t v >>= (λ u. done tt))

abbrev pub effect_by : Option ValueType → Lowers Expr → Lowers (Unit {0})
effect_by t operand later = operand later >>= unused t

-- ---- places

abbrev pub place_and : PlaceLowering → Lowering → Lowers (Place × Expr)
place_and a e = from_two (λ b v. (b, v)) e.effects.assigned a.operands e.operand

-- a register that no later operand assigns is read where it stands
abbrev pub read_at : PlaceLowering → Registers → Place → Make Expr
read_at a later b = if is_soft a.effects.register later then done (Load b) else into (value_of a) (Load b)

abbrev pub read : PlaceLowering → Lowers Expr
read a later = a.operands later >>= read_at a later

-- ---- assignments

abbrev pub assigned_value : PlaceLowering → Lowering → Lowers Expr
assigned_value a e later =
    a.operands (also e.effects.assigned later) >>=
    (λ b. fresh (value_of a) >>= (λ n. e.whole (value_of a) n later >>= (λ u. emit (Do (Assign b (temp n))) >>= (λ u. done (temp n)))))

abbrev pub assignment : PlaceLowering → Lowering → Lowers (Unit {0})
assignment a e later =
    if is_some a.effects.register then e.whole (value_of a) (number_of a.effects.register) later
    else (place_and a e later >>= (λ x. emit (Do (Assign x.0 x.1))))

abbrev pub int_value : Option ValueType
int_value = Some (Integer int.Int)

abbrev pub arm_as : ℕ → ℕ → Make (Unit {0})
arm_as x n = emit (set n (Const (pos x) int.Int))

abbrev pub condition_of : Lowering → Lowering → Lowering → Lowers Expr
condition_of c a b later = c.operand (also a.effects.assigned (also b.effects.assigned later))

-- an expression that is pure stays as it is
abbrev pub unless_pure : Effects → Expr → Lowers Expr → Lowers Expr
unless_pure effects itself impure later = if effects.pure later then done itself else impure later

abbrev pub branch_alone : Effects → Option ValueType → Lowers Expr → Lowers (Unit {0})
branch_alone effects t operand later = if effects.pure later then effect_by t operand later else (operand later >>= (λ v. done tt))

abbrev pub choose_alone : Effects → Option ValueType → Lowers Expr → Lowers (Unit {0}) → Lowers (Unit {0})
choose_alone effects t operand void later = if is_void_value t then void later else branch_alone effects t operand later

abbrev pub intr_operand : Option Lowering → Lowers (Option Expr)
intr_operand None later = done None
intr_operand (Some a) later = from_one (λ v. Some v) a.operand later

abbrev pub right_value : Option ValueType → Lowers Expr → Lowers Expr
right_value t right later = right later >>= into t

abbrev pub right_alone : Lowers Expr → Lowers (Unit {0})
right_alone right later = right later >>= (λ e. emit (Do e))

abbrev pub choose_void : Lowering → Lowering → Lowering → Lowers (Unit {0})
choose_void c a b later = condition_of c a b later >>= (λ v. fork v (a.effect (also b.effects.assigned later)) (b.effect later))

abbrev pub choose_value : Option ValueType → Lowering → Lowering → Lowering → Lowers Expr
choose_value t c a b later = branch t (condition_of c a b later) (λ n. a.whole t n (also b.effects.assigned later)) (λ n. b.whole t n later)

-- the types that temporaries are declared with, and when two types are one
module _ (p : Program) (f : Func) (declared : Option ValueType → CType) (is_same : Option ValueType → Option ValueType → Bool) where
  abbrev target : Target
  target = p.target

  abbrev pub folded_conv : IntType → Expr → Expr
  folded_conv t e = constant_or t (converted_constant target t (constant_in (form_of e))) (Conv t e)

  abbrev pub conv_unless : IntType → IntType → Expr → Expr
  conv_unless s t e = if same_int s t then e else folded_conv t e

  abbrev pub folded_un : UnOp → IntType → Expr → Expr
  folded_un o t a = constant_or (unary_result o t) (unary_constant target o t (constant_in (form_of a))) (Un o t a)

  abbrev pub folded_bin : BinOp → IntType → Expr → Expr → Expr
  folded_bin o t a b = constant_or (binary_type o t) (binary_constant target o t (constant_in (form_of a)) (constant_in (form_of b))) (Bin o t a b)

  -- `e != 0`
  abbrev pub truth_of : Option ValueType → Expr → Expr
  truth_of None e = e
  truth_of (Some NoValue) e = e
  truth_of (Some (Integer t)) e = folded_bin op.Ne (promoted t target) (conv_unless t (promoted t target) e) (Const (pos 0) (promoted t target))
  truth_of (Some (ToObject constant volatile to)) e = Compare op.Ne e (Null (declared (Some (ToObject constant volatile to))))
  truth_of (Some (ToFunction sig)) e = Compare op.Ne e (Null (declared (Some (ToFunction sig))))

  -- `a op b` in the type t, and then in that of the place; a pointer is moved. A conversion between equal types is not written.
  abbrev pub changed : BinOp → IntType → Option ValueType → Expr → Expr → Expr
  changed o t None old b = old
  changed o t (Some NoValue) old b = old
  changed o t (Some (Integer s)) old b = conv_unless t s (folded_bin o t (conv_unless s t old) b)
  changed o t (Some (ToObject constant volatile to)) old b = Move old b (is_back o)
  changed o t (Some (ToFunction sig)) old b = old

  -- right sides that stand in a statement of their own: reads of places, calls, intrinsics
  abbrev pub whole_right : Option ValueType → Lowers Expr → Option ValueType → ℕ → Lowers (Unit {0})
  whole_right own right t n later = right later >>= (λ e. if is_same own t then emit (set n e) else (into own e >>= (λ v. emit (set n v))))

  abbrev pub whole_read : PlaceLowering → Option ValueType → ℕ → Lowers (Unit {0})
  whole_read a t n later = if is_some a.effects.register then whole_by (read a) t n later else whole_right (value_of a) (from_one Load a.operands) t n later

  abbrev pub read_unused : PlaceLowering → Lowers (Unit {0})
  read_unused a later = fresh (value_of a) >>= (λ n. whole_read a (value_of a) n later)

  -- `op=`, and `++` and `--`: the new value, and that of the whole
  abbrev pub change : PlaceLowering → BinOp → IntType → Place × Expr → Registers → Make Expr
  change a o t x later = read_at a later x.0 >>= (λ old. done (changed o t (value_of a) old x.1))

  abbrev pub changed_value : PlaceLowering → BinOp → IntType → Lowering → Lowers Expr
  changed_value a o t e later =
      place_and a e later >>= (λ x. change a o t x later >>= (λ v. into (value_of a) v >>= (λ n. emit (Do (Assign x.0 n)) >>= (λ u. done n))))

  abbrev pub change_alone : PlaceLowering → BinOp → IntType → Lowering → Lowers (Unit {0})
  change_alone a o t e later = place_and a e later >>= (λ x. change a o t x later >>= (λ v. emit (Do (Assign x.0 v))))

  abbrev pub step_type : PlaceLowering → IntType
  step_type a = one_more_type target (value_of a)

  abbrev pub stepped : PlaceLowering → Bool → Expr → Expr
  stepped a down old = changed (sum_or_difference down) (step_type a) (value_of a) old (Const (pos 1) (step_type a))

  abbrev pub step_value : PlaceLowering → Bool → Lowers Expr
  step_value a down later = a.operands later >>= (λ b. into (value_of a) (Load b) >>= (λ old. emit (Do (Assign b (stepped a down old))) >>= (λ u. done old)))

  abbrev pub step_alone : PlaceLowering → Bool → Lowers (Unit {0})
  step_alone a down later = a.operands later >>= (λ b. read_at a later b >>= (λ old. emit (Do (Assign b (stepped a down old)))))

  -- ---- branches

  abbrev pub arm_of : Lowering → Registers → ℕ → Make (Unit {0})
  arm_of b later n = b.operand later >>= (λ v. emit (set n (truth_of b.ctype v)))

  abbrev pub both_value : Lowering → Lowering → Lowers Expr
  both_value a b later = branch int_value (a.operand (also b.effects.assigned later)) (arm_of b later) (arm_as 0)

  abbrev pub either_value : Lowering → Lowering → Lowers Expr
  either_value a b later = branch int_value (a.operand (also b.effects.assigned later)) (arm_as 1) (arm_of b later)

  -- ---- calls

  -- a callee that is no function and no register goes to a temporary, behind the lowered arguments, right before the call
  abbrev pub call_of : Expr → List Expr → Expr
  call_of h xs = Call h xs

  abbrev pub by_temp : Option ValueType → Piece (Expr × List Expr) → ℕ → Piece Expr
  by_temp t z n = piece (z.temps ++ t ∷ []) (z.stmts ++ set n z.value.0 ∷ []) (call_of (temp n) z.value.1)

  abbrev pub called : Option ValueType → Piece (Expr × List Expr) → Make Expr
  called t z k = if is_callee f (form_of z.value.0) then mapped (λ x. call_of x.0 x.1) z else by_temp t z (k + length z.temps)

  abbrev pub call : Lowering → List Lowering → Lowers Expr
  call g args later k = called g.ctype (from_two (λ e xs. (e, xs)) (all_args args) g.operand (arguments args) later k) k

  -- ---- a line for each variant

  abbrev pub effects_at : one.Expr-F Lowering PlaceLowering → Effects
  effects_at x = effect_step (map-Expr Lowering PlaceLowering Effects PlaceEffects (λ a. a.effects) (λ a. a.effects) x)

  abbrev pub type_at : one.Expr-F Lowering PlaceLowering → Option ValueType
  type_at x = expr_step p f.locals (map-Expr Lowering PlaceLowering (Option ValueType) (Option PlaceType) (λ a. a.ctype) (λ a. a.ctype) x)

  abbrev pub itself_at : one.Expr-F Lowering PlaceLowering → Expr
  itself_at x = roll-Expr (map-Expr Lowering PlaceLowering Expr Place (λ a. a.itself) (λ a. a.itself) x)

  abbrev pub operand_at : Effects → Option ValueType → Expr → one.Expr-F Lowering PlaceLowering → Lowers Expr
  operand_at whole t itself (one.Const n i) = λ later. done itself
  operand_at whole t itself (one.Null i) = λ later. done itself
  operand_at whole t itself (one.FuncAddr g) = λ later. done itself
  operand_at whole t itself (one.Load a) = read a
  operand_at whole t itself (one.AddrOf a) = from_one AddrOf a.operands
  operand_at whole t itself (one.Un o i a) = from_one (folded_un o i) a.operand
  operand_at whole t itself (one.Bin o i a b) = from_two (folded_bin o i) b.effects.assigned a.operand b.operand
  operand_at whole t itself (one.Conv i a) = from_one (folded_conv i) a.operand
  operand_at whole t itself (one.Qualify c a) = from_one (Qualify c) a.operand
  operand_at whole t itself (one.Move a b back) = from_two (λ x y. Move x y back) b.effects.assigned a.operand b.operand
  operand_at whole t itself (one.Gap a b) = from_two Gap b.effects.assigned a.operand b.operand
  operand_at whole t itself (one.Compare o a b) = from_two (Compare o) b.effects.assigned a.operand b.operand
  operand_at whole t itself (one.Both a b) = unless_pure whole itself (both_value a b)
  operand_at whole t itself (one.Either a b) = unless_pure whole itself (either_value a b)
  operand_at whole t itself (one.Choose c a b) = unless_pure whole itself (choose_value t c a b)
  operand_at whole t itself (one.Assign a e) = assigned_value a e
  operand_at whole t itself (one.Change a o i e) = changed_value a o i e
  operand_at whole t itself (one.After a down) = step_value a down
  operand_at whole t itself (one.Call g args) = right_value t (call g args)
  operand_at whole t itself (one.Intr i a) = right_value t (from_one (Intr i) (intr_operand a))
  operand_at whole t itself (one.Seq a b) = λ later. a.effect (also b.effects.assigned later) >>= (λ u. b.operand later)

  abbrev pub whole_at : Option ValueType → Lowers Expr → one.Expr-F Lowering PlaceLowering → Option ValueType → ℕ → Lowers (Unit {0})
  whole_at t operand (one.Const n i) = whole_by operand
  whole_at t operand (one.Null i) = whole_by operand
  whole_at t operand (one.FuncAddr g) = whole_by operand
  whole_at t operand (one.Load a) = whole_read a
  whole_at t operand (one.AddrOf a) = whole_by operand
  whole_at t operand (one.Un o i a) = whole_by operand
  whole_at t operand (one.Bin o i a b) = whole_by operand
  whole_at t operand (one.Conv i a) = whole_by operand
  whole_at t operand (one.Qualify c a) = whole_by operand
  whole_at t operand (one.Move a b back) = whole_by operand
  whole_at t operand (one.Gap a b) = whole_by operand
  whole_at t operand (one.Compare o a b) = whole_by operand
  whole_at t operand (one.Both a b) = whole_by operand
  whole_at t operand (one.Either a b) = whole_by operand
  whole_at t operand (one.Choose c a b) = whole_by operand
  whole_at t operand (one.Assign a e) = whole_by operand
  whole_at t operand (one.Change a o i e) = whole_by operand
  whole_at t operand (one.After a down) = whole_by operand
  whole_at t operand (one.Call g args) = whole_right t (call g args)
  whole_at t operand (one.Intr i a) = whole_right t (from_one (Intr i) (intr_operand a))
  whole_at t operand (one.Seq a b) = λ u n later. a.effect (also b.effects.assigned later) >>= (λ x. b.whole u n later)

  abbrev pub effect_at : Effects → Option ValueType → Lowers Expr → one.Expr-F Lowering PlaceLowering → Lowers (Unit {0})
  effect_at whole t operand (one.Const n i) = effect_by t operand
  effect_at whole t operand (one.Null i) = effect_by t operand
  effect_at whole t operand (one.FuncAddr g) = effect_by t operand
  effect_at whole t operand (one.Load a) = read_unused a
  effect_at whole t operand (one.AddrOf a) = effect_by t operand
  effect_at whole t operand (one.Un o i a) = effect_by t operand
  effect_at whole t operand (one.Bin o i a b) = effect_by t operand
  effect_at whole t operand (one.Conv i a) = effect_by t operand
  effect_at whole t operand (one.Qualify c a) = effect_by t operand
  effect_at whole t operand (one.Move a b back) = effect_by t operand
  effect_at whole t operand (one.Gap a b) = effect_by t operand
  effect_at whole t operand (one.Compare o a b) = effect_by t operand
  effect_at whole t operand (one.Both a b) = branch_alone whole t operand
  effect_at whole t operand (one.Either a b) = branch_alone whole t operand
  effect_at whole t operand (one.Choose c a b) = choose_alone whole t operand (choose_void c a b)
  effect_at whole t operand (one.Assign a e) = assignment a e
  effect_at whole t operand (one.Change a o i e) = change_alone a o i e
  effect_at whole t operand (one.After a down) = step_alone a down
  effect_at whole t operand (one.Call g args) = right_alone (call g args)
  effect_at whole t operand (one.Intr i a) = right_alone (from_one (Intr i) (intr_operand a))
  effect_at whole t operand (one.Seq a b) = λ later. a.effect (also b.effects.assigned later) >>= (λ u. b.effect later)

  abbrev pub lower_step : one.Expr-F Lowering PlaceLowering → Lowering
  lower_step x = record {
    itself = itself_at x;
    ctype = type_at x;
    effects = effects_at x;
    operand = operand_at (effects_at x) (type_at x) (itself_at x) x;
    whole = whole_at (type_at x) (operand_at (effects_at x) (type_at x) (itself_at x) x) x;
    effect = effect_at (effects_at x) (type_at x) (operand_at (effects_at x) (type_at x) (itself_at x) x) x;
  }

  abbrev pub operands_at : Place → one.Place-F Lowering PlaceLowering → Lowers Place
  operands_at itself (one.Local r) = λ later. done itself
  operands_at itself (one.Static i) = λ later. done itself
  operands_at itself (one.Device d) = λ later. done itself
  operands_at itself (one.Element a i) = from_two Element i.effects.assigned a.operands i.operand
  operands_at itself (one.Member a m) = from_one (λ b. Member b m) a.operands
  operands_at itself (one.Deref e) = from_one Deref e.operand

  abbrev pub place_lower_step : one.Place-F Lowering PlaceLowering → PlaceLowering
  place_lower_step a = record {
    itself = roll-Place (map-Place Lowering PlaceLowering Expr Place (λ a. a.itself) (λ a. a.itself) a);
    ctype = place_step p f.locals (map-Place Lowering PlaceLowering (Option ValueType) (Option PlaceType) (λ a. a.ctype) (λ a. a.ctype) a);
    effects = place_effect_step f (map-Place Lowering PlaceLowering Effects PlaceEffects (λ a. a.effects) (λ a. a.effects) a);
    operands = operands_at (roll-Place (map-Place Lowering PlaceLowering Expr Place (λ a. a.itself) (λ a. a.itself) a)) a;
  }

  unfoldable pub lowering : Expr → Lowering
  lowering e = fold-Expr Lowering PlaceLowering lower_step place_lower_step e

  unfoldable pub place_lowering : Place → PlaceLowering
  place_lowering a = fold-Place Lowering PlaceLowering lower_step place_lower_step a
