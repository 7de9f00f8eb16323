-- What expressions, places and their parts become in a function of a program, by a word each.
use Rattle.std.specs.Prelude.{ℕ, pos, Bool, List, [], map, Option, Some, None, option_and_then, is_some, if◌then◌else◌}
use Rattle.cc_program.specs.CcNum.declared.int_type.IntType.{IntType}
use Rattle.cc_program.specs.CcNum.declared.op.BinOp.{BinOp}
use Rattle.cc_program.specs.declared.expr.Expr.{Expr, Const, Load, Intr, Qualify, Move, Gap, Compare, Assign, out-Expr}
use Rattle.cc_program.specs.declared.expr.Expr.TheOpen as one
use Rattle.cc_program.specs.declared.expr.Intr.{Intr as Intrinsic}
use Rattle.cc_program.specs.declared.expr.Place.{Place}
use Rattle.cc_program.specs.declared.func.Func.{Func}
use Rattle.cc_program.specs.declared.program.Program.{Program}
use Rattle.cc_program.specs.declared.stmt.Stmt.{Do}
use Rattle.cc_syntax.specs.Effects.{Registers, is_soft, place_effects_of}
use Rattle.cc_syntax.specs.Forms.{form_of}
use Rattle.cc_syntax.specs.Programs.{place_type}
use Rattle.cc_syntax.specs.Types.{Named}
use Rattle.cc_syntax.specs.Values.{ValueType, read_from}
use Rattle.cc_eval.specs.Eval.{sum_or_difference, one_more_type}
use Rattle.cc_lower_expressions.specs.Expressions.{Temps, Lowers, Make, done, ◌>>=◌, emit, into, set, Lowering, PlaceLowering, lowering, place_lowering, from_one, from_two, place_and, arguments, intr_operand, call, is_callee, condition_of, both_value, either_value, choose_value, choose_void, assigned_value, folded_un, folded_bin, folded_conv, changed, arm_of}
use Rattle.cc_lower_expressions.specs.Temporaries.{declared_type, is_same_type}

-- the locals of temporaries
unfoldable pub as_locals : Temps → List Named
as_locals temps = map (λ t. ([], declared_type t)) temps

module _ (p : Program) (f : Func) where
  abbrev pub lowered : Expr → Lowering
  lowered e = lowering p f declared_type is_same_type e

  abbrev pub place_lowered : Place → PlaceLowering
  place_lowered a = place_lowering p f declared_type is_same_type a

  -- the type of what is read from a place
  abbrev pub value_type : Place → Option ValueType
  value_type a = option_and_then read_from (place_type p f.locals a)

  unfoldable pub operand_of : Expr → Lowers Expr
  operand_of e = (lowered e).operand

  unfoldable pub whole_of : Expr → Option ValueType → ℕ → Lowers (Unit {0})
  whole_of e = (lowered e).whole

  unfoldable pub effect_of : Expr → Lowers (Unit {0})
  effect_of e = (lowered e).effect

  unfoldable pub place_of : Place → Lowers Place
  place_of a = (place_lowered a).operands

  -- two operands, and a place and an operand
  unfoldable pub pair_of : Expr → Expr → Lowers (Expr × Expr)
  pair_of a b = from_two (λ x y. (x, y)) (lowered b).effects.assigned (lowered a).operand (lowered b).operand

  unfoldable pub placed_of : Place → Expr → Lowers (Place × Expr)
  placed_of a e = place_and (place_lowered a) (lowered e)

  -- ---- what is left of an expression over what its operands became

  abbrev pub one_in : one.Expr-F Expr Place → Expr → Expr
  one_in (one.Un o t a) x = folded_un p f declared_type is_same_type o t x
  one_in (one.Conv t a) x = folded_conv p f declared_type is_same_type t x
  one_in (one.Qualify t a) x = Qualify t x
  one_in _ x = x

  unfoldable pub one_of : Expr → Expr → Expr
  one_of e x = one_in (out-Expr e) x

  abbrev pub two_in : one.Expr-F Expr Place → Expr → Expr → Expr
  two_in (one.Bin o t a b) x y = folded_bin p f declared_type is_same_type o t x y
  two_in (one.Move a b back) x y = Move x y back
  two_in (one.Gap a b) x y = Gap x y
  two_in (one.Compare o a b) x y = Compare o x y
  two_in _ x y = x

  unfoldable pub two_of : Expr → Expr → Expr → Expr
  two_of e x y = two_in (out-Expr e) x y

  -- ---- reads and changes of a place whose operands are lowered

  unfoldable pub read_of : Place → Registers → Place → Make Expr
  read_of a later b = if is_soft (place_effects_of f a).register later then done (Load b) else into (value_type a) (Load b)

  unfoldable pub right_of : Option ValueType → Expr → Option ValueType → ℕ → Make (Unit {0})
  right_of own e t n = if is_same_type own t then emit (set n e) else (into own e >>= (λ v. emit (set n v)))

  unfoldable pub whole_read_of : Place → Place → Option ValueType → ℕ → Registers → Make (Unit {0})
  whole_read_of a b t n later =
      if is_some (place_effects_of f a).register then (read_of a later b >>= (λ v. emit (set n v))) else right_of (value_type a) (Load b) t n

  unfoldable pub new_of : Place → BinOp → IntType → Place → Expr → Registers → Make Expr
  new_of a o t b x later = read_of a later b >>= (λ old. done (changed p f declared_type is_same_type o t (value_type a) old x))

  unfoldable pub changed_of : Place → BinOp → IntType → Place → Expr → Registers → Make Expr
  changed_of a o t b x later = new_of a o t b x later >>= (λ v. into (value_type a) v >>= (λ n. emit (Do (Assign b n)) >>= (λ u. done n)))

  unfoldable pub change_of : Place → BinOp → IntType → Place → Expr → Registers → Make (Unit {0})
  change_of a o t b x later = new_of a o t b x later >>= (λ v. emit (Do (Assign b v)))

  abbrev pub stepped_type : Place → IntType
  stepped_type a = one_more_type p.target (value_type a)

  unfoldable pub stepped_of : Place → Bool → Expr → Expr
  stepped_of a down old = changed p f declared_type is_same_type (sum_or_difference down) (stepped_type a) (value_type a) old (Const (pos 1) (stepped_type a))

  unfoldable pub step_value_of : Place → Bool → Place → Make Expr
  step_value_of a down b = into (value_type a) (Load b) >>= (λ old. emit (Do (Assign b (stepped_of a down old))) >>= (λ u. done old))

  unfoldable pub step_of : Place → Bool → Place → Registers → Make (Unit {0})
  step_of a down b later = read_of a later b >>= (λ old. emit (Do (Assign b (stepped_of a down old))))

  -- ---- calls

  unfoldable pub arguments_of : List Expr → Lowers (List Expr)
  arguments_of args = arguments (map lowered args)

  -- what is called, if it is neither a function nor a register, goes to a temporary
  unfoldable pub callee_of : Option ValueType → Expr → Make Expr
  callee_of t e = if is_callee f (form_of e) then done e else into t e

  unfoldable pub calling_of : Expr → List Expr → Lowers Expr
  calling_of g args = call p f declared_type is_same_type (lowered g) (map lowered args)

  abbrev pub lowered_some : Option Expr → Option Lowering
  lowered_some None = None
  lowered_some (Some a) = Some (lowered a)

  unfoldable pub intrinsic_of : Intrinsic → Option Expr → Lowers Expr
  intrinsic_of i a = from_one (Intr i) (intr_operand (lowered_some a))

  -- ---- branches

  unfoldable pub arm_in : Expr → Registers → ℕ → Make (Unit {0})
  arm_in b = arm_of p f declared_type is_same_type (lowered b)

  unfoldable pub both_of : Expr → Expr → Lowers Expr
  both_of a b = both_value p f declared_type is_same_type (lowered a) (lowered b)

  unfoldable pub either_of : Expr → Expr → Lowers Expr
  either_of a b = either_value p f declared_type is_same_type (lowered a) (lowered b)

  unfoldable pub condition_in : Expr → Expr → Expr → Lowers Expr
  condition_in c a b = condition_of (lowered c) (lowered a) (lowered b)

  unfoldable pub chosen_of : Option ValueType → Expr → Expr → Expr → Lowers Expr
  chosen_of t c a b = choose_value t (lowered c) (lowered a) (lowered b)

  unfoldable pub chosen_void_of : Expr → Expr → Expr → Lowers (Unit {0})
  chosen_void_of c a b = choose_void (lowered c) (lowered a) (lowered b)

  unfoldable pub assigned_of : Place → Expr → Lowers Expr
  assigned_of a e = assigned_value (place_lowered a) (lowered e)
