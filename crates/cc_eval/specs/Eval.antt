-- What a full expression does next, from what its steps have given so far (C99 6.5). Operands are worked from left to right.
-- A bad value is written None: an operator gives it where it traps, and over one. It traps where it would be written,
-- accessed through, called, passed, restored, dropped, or be the value of an `&&`, `||` or `?:` that is not pure, and where
-- one that is not pure would choose by it.
use Rattle.std.specs.Prelude.{pos, Bool, true, false, List, [], ◌∷◌, Option, Some, None, option_map, option_and_then, map}
use Rattle.cc_program.specs.CcNum.declared.int_type.IntType.{IntType}
use Rattle.cc_program.specs.CcNum.declared.int_type.IntType.TheVariants as int
use Rattle.cc_program.specs.CcNum.declared.op.BinOp.{BinOp}
use Rattle.cc_program.specs.CcNum.declared.op.BinOp.TheVariants as op
use Rattle.cc_program.specs.CcNum.declared.target.Target.{Target}
use Rattle.cc_program.specs.CcNum.Promotions.{usual_of}
use Rattle.cc_program.specs.declared.expr.Expr.{Expr, fold-Expr, map-Expr}
use Rattle.cc_program.specs.declared.expr.Expr.TheOpen as one
use Rattle.cc_program.specs.declared.expr.Intr.{Intr}
use Rattle.cc_program.specs.declared.expr.Intr.TheVariants as intr
use Rattle.cc_program.specs.declared.expr.Place.{Place as PlaceOf, map-Place, fold-Place}
use Rattle.cc_program.specs.declared.value.Address.TheVariants as address
use Rattle.cc_program.specs.declared.value.Root.TheVariants as root
use Rattle.cc_program.specs.declared.value.Value.{Value}
use Rattle.cc_program.specs.declared.value.Value.TheVariants.{Int, Place}
use Rattle.cc_syntax.specs.Expressions.{of_two}
use Rattle.cc_syntax.specs.Programs.{expr_step, place_step}
use Rattle.cc_syntax.specs.Values.{ValueType, NoValue, Integer, ToObject, ToFunction, PlaceType, read_from}
use Rattle.cc_eval.specs.declared.action.Action.TheVariants.{Read, Write, Choose, Call, Flag, Save}
use Rattle.cc_eval.specs.declared.action.Manner.{Manner}
use Rattle.cc_eval.specs.Context.{Context, reached, element, member, address_at, is_seen}
use Rattle.cc_eval.specs.declared.spots.Spot.{Spot}
use Rattle.cc_eval.specs.declared.spots.Spot.TheVariants as spot
use Rattle.cc_syntax.specs.Effects.{Registers, no_one, also, Effects, PlaceEffects, is_soft, all_assigned, effect_step, place_effect_step}
use Rattle.cc_eval.specs.Progress.{Get, known, trap, ask, bind, needs, given, chosen}
use Rattle.cc_values.specs.Values.{integer, address_in, unary, binary, conversion, truth, of_truth, movement, gap, comparison}

-- an expression: its type, what is known before it runs, and what it does where later operands of the full expression assign
-- the given registers
pub record Meaning : Type 0 where
  pub ctype : Option ValueType
  pub effects : Effects
  pub next : Registers → Get (Option Value)

-- a place, and where it leads
pub record Designation : Type 0 where
  pub ctype : Option PlaceType
  pub effects : PlaceEffects
  pub leads : Registers → Get (Option Spot)

abbrev pub manner : Designation → Registers → Manner
manner a later = record { is_event = is_seen a.ctype; may_be_bad = is_soft a.effects.register later }

-- what one and two operands give
abbrev pub from_one : {A : Type 0} → (Option Value → A) → Meaning → Registers → Get A
from_one f a later = bind (a.next later) (λ v. known (f v))

-- two operands, from left to right
abbrev pub both_values : Meaning → Meaning → Registers → Get (Option Value × Option Value)
both_values a b later = bind (a.next (also b.effects.assigned later)) (λ v. bind (b.next later) (λ w. known (v, w)))

abbrev pub from_two : {A : Type 0} → (Option Value → Option Value → A) → Meaning → Meaning → Registers → Get A
from_two f a b later = bind (both_values a b later) (λ p. known (f p.0 p.1))

-- where a place leads, and then an operand
abbrev pub place_and_value : Designation → Meaning → Registers → Get (Option Spot × Option Value)
place_and_value a e later = bind (a.leads (also e.effects.assigned later)) (λ s. bind (e.next later) (λ v. known (s, v)))

-- the branch step of a condition: a pure expression goes on with a bad one, and its value is bad
abbrev pub branch : Bool → Option Value → Get (Option Bool)
branch true v = ask (Choose (truth v)) chosen
branch false v = needs (truth v) (λ b. ask (Choose (Some b)) chosen)

-- what an arm gives is the value of the whole: a bad one traps where the whole is not pure
abbrev pub outcome : Bool → Option Value → Get (Option Value)
outcome true v = known v
outcome false v = needs v (λ w. known (Some w))

abbrev pub arms : Get (Option Value) → Get (Option Value) → Option Bool → Get (Option Value)
arms these those None = known None
arms these those (Some true) = these
arms these those (Some false) = those

abbrev pub choice : Bool → Get (Option Value) → Get (Option Value) → Get (Option Value) → Get (Option Value)
choice pure condition these those =
    bind condition (λ v. bind (branch pure v) (arms (bind these (outcome pure)) (bind those (outcome pure))))

-- `&&` and `||`: the value of the second operand is 0 or 1 (6.5.13, 6.5.14)
abbrev pub as_condition : Meaning → Registers → Get (Option Value)
as_condition b later = bind (b.next later) (λ v. known (of_truth (truth v)))

abbrev pub both : Bool → Meaning → Meaning → Registers → Get (Option Value)
both pure a b later = choice pure (a.next (also b.effects.assigned later)) (as_condition b later) (known (Some (Int (pos 0))))

abbrev pub either : Bool → Meaning → Meaning → Registers → Get (Option Value)
either pure a b later = choice pure (a.next (also b.effects.assigned later)) (known (Some (Int (pos 1)))) (as_condition b later)

-- `?:`: the other arm counts as a later operand (6.5.15)
abbrev pub chosen_arm : Bool → Meaning → Meaning → Meaning → Registers → Get (Option Value)
chosen_arm pure c a b later =
    choice pure (c.next (also a.effects.assigned (also b.effects.assigned later))) (a.next (also b.effects.assigned later)) (b.next later)

-- the arguments of a call
abbrev pub assigned_by : List Meaning → Registers
assigned_by args = all_assigned (map (λ a. a.effects) args)

abbrev pub each : List Meaning → Registers → Get (List (Option Value))
each [] later = known []
each (a ∷ rest) later = bind (a.next (also (assigned_by rest) later)) (λ v. bind (each rest later) (λ vs. known (v ∷ vs)))

abbrev pub in_front : Value → Option (List Value) → Option (List Value)
in_front v None = None
in_front v (Some vs) = Some (v ∷ vs)

-- where none of them is bad
abbrev pub all_good : List (Option Value) → Option (List Value)
all_good [] = Some []
all_good (None ∷ vs) = None
all_good (Some v ∷ vs) = in_front v (all_good vs)

-- the operands of what is called, the arguments, and the call (6.5.2.2, 10)
abbrev pub called_with : List Meaning → Registers → Option Value → Get (Option Value)
called_with args later v = bind (each args later) (λ vs. needs (address_in v) (λ callee. needs (all_good vs) (λ good. ask (Call callee good) given)))

abbrev pub called : Meaning → List Meaning → Registers → Get (Option Value)
called f args later = bind (f.next (also (assigned_by args) later)) (called_with args later)

-- `irq_off`, `irq_on`, `irq_save`, and `irq_restore` with its operand
abbrev pub restored : Option Meaning → Registers → Get (Option Value)
restored None later = trap
restored (Some a) later = bind (a.next later) (λ v. needs (truth v) (λ b. ask (Flag b) given))

abbrev pub intrinsic : Intr → Option Meaning → Registers → Get (Option Value)
intrinsic intr.Off a later = ask (Flag false) given
intrinsic intr.On a later = ask (Flag true) given
intrinsic intr.Save a later = ask Save given
intrinsic intr.Restore a later = restored a later

-- a bad left operand would be dropped (6.5.17)
abbrev pub sequence : Meaning → Meaning → Registers → Get (Option Value)
sequence a b later = bind (a.next (also b.effects.assigned later)) (λ v. needs v (λ w. b.next later))

abbrev pub is_back : BinOp → Bool
is_back op.Sub = true
is_back op.Add = false
is_back op.Mul = false
is_back op.Div = false
is_back op.Rem = false
is_back op.And = false
is_back op.Or = false
is_back op.Xor = false
is_back op.Shl = false
is_back op.Shr = false
is_back op.Lt = false
is_back op.Le = false
is_back op.Gt = false
is_back op.Ge = false
is_back op.Eq = false
is_back op.Ne = false

-- `a op b` in the type t, and then in that of the place; a pointer is moved (6.5.16.2)
abbrev pub changed : Target → BinOp → IntType → Option ValueType → Option Value → Option Value → Option Value
changed target o t None v w = None
changed target o t (Some NoValue) v w = None
changed target o t (Some (Integer s)) v w = conversion s target (binary o t target (conversion t target v) w)
changed target o t (Some (ToObject constant volatile to)) v w = movement (is_back o) v w
changed target o t (Some (ToFunction sig)) v w = None

abbrev pub sum_or_difference : Bool → BinOp
sum_or_difference false = op.Add
sum_or_difference true = op.Sub

-- the type in which `a + 1` works (6.5.2.4, 2)
abbrev pub one_more_type : Target → Option ValueType → IntType
one_more_type target None = int.Int
one_more_type target (Some NoValue) = int.Int
one_more_type target (Some (Integer s)) = usual_of s int.Int target
one_more_type target (Some (ToObject constant volatile to)) = int.Int
one_more_type target (Some (ToFunction sig)) = int.Int

abbrev pub address_of : Option Spot → Option Value
address_of s = option_map Place (option_and_then address_at s)

module _ (c : Context) where
  abbrev target : Target
  target = c.program.target

  abbrev pub value_type : Designation → Option ValueType
  value_type a = option_and_then read_from a.ctype

  -- reads, and writes, where a place leads
  abbrev pub fetched : Designation → Registers → Option Spot → Get (Option Value)
  fetched a later s = needs (reached c.program a.ctype s) (λ cell. ask (Read cell (manner a later)) given)

  abbrev pub stored : Designation → Option Spot → Option Value → Option Value → Get (Option Value)
  stored a s v answer = needs (reached c.program a.ctype s) (λ cell. needs v (λ w. ask (Write cell (is_seen a.ctype) w) (λ m. answer)))

  -- the operands of the place, the right side, and the write (6.5.16)
  abbrev pub assigned : Designation → Meaning → Registers → Get (Option Value)
  assigned a e later = bind (place_and_value a e later) (λ p. stored a p.0 p.1 p.1)

  -- the operands of the place, the right side, the read, and the write (6.5.16.2)
  abbrev pub changed_back : Designation → BinOp → IntType → Option Spot → Option Value → Option Value → Get (Option Value)
  changed_back a o t s w v = let new = changed target o t (value_type a) v w in stored a s new new

  abbrev pub changed_with : Designation → BinOp → IntType → Registers → Option Spot × Option Value → Get (Option Value)
  changed_with a o t later p = bind (fetched a later p.0) (changed_back a o t p.0 p.1)

  abbrev pub changed_by : Designation → BinOp → IntType → Meaning → Registers → Get (Option Value)
  changed_by a o t e later = bind (place_and_value a e later) (changed_with a o t later)

  -- the value is what was read (6.5.2.4)
  abbrev pub stepped_back : Designation → Bool → Option Spot → Option Value → Get (Option Value)
  stepped_back a down s v = stored a s (changed target (sum_or_difference down) (one_more_type target (value_type a)) (value_type a) v (Some (Int (pos 1)))) v

  abbrev pub stepped_with : Designation → Bool → Registers → Option Spot → Get (Option Value)
  stepped_with a down later s = bind (fetched a later s) (stepped_back a down s)

  abbrev pub stepped_by_one : Designation → Bool → Registers → Get (Option Value)
  stepped_by_one a down later = bind (a.leads later) (stepped_with a down later)

  -- by the effects of the whole: whether it is pure
  abbrev pub next_step : Effects → one.Expr-F Meaning Designation → Registers → Get (Option Value)
  next_step whole (one.Const n t) = λ later. known (Some (Int n))
  next_step whole (one.Null t) = λ later. known (Some (Place address.Null))
  next_step whole (one.FuncAddr f) = λ later. known (Some (Place (address.Func f)))
  next_step whole (one.Load a) = λ later. bind (a.leads later) (fetched a later)
  next_step whole (one.AddrOf a) = λ later. bind (a.leads later) (λ s. known (address_of s))
  next_step whole (one.Un o t a) = from_one (unary o t target) a
  next_step whole (one.Bin o t a b) = from_two (binary o t target) a b
  next_step whole (one.Conv t a) = from_one (conversion t target) a
  next_step whole (one.Qualify t a) = from_one (λ v. v) a
  next_step whole (one.Move a b back) = from_two (movement back) a b
  next_step whole (one.Gap a b) = from_two (gap target) a b
  next_step whole (one.Compare o a b) = from_two (comparison o) a b
  next_step whole (one.Both a b) = λ later. both (whole.pure later) a b later
  next_step whole (one.Either a b) = λ later. either (whole.pure later) a b later
  next_step whole (one.Choose d a b) = λ later. chosen_arm (whole.pure later) d a b later
  next_step whole (one.Assign a e) = assigned a e
  next_step whole (one.Change a o t e) = changed_by a o t e
  next_step whole (one.After a down) = stepped_by_one a down
  next_step whole (one.Call f args) = called f args
  next_step whole (one.Intr i a) = intrinsic i a
  next_step whole (one.Seq a b) = sequence a b

  abbrev pub expr_effects : one.Expr-F Meaning Designation → Effects
  expr_effects e = effect_step (map-Expr Meaning Designation Effects PlaceEffects (λ a. a.effects) (λ a. a.effects) e)

  abbrev pub expr_type : one.Expr-F Meaning Designation → Option ValueType
  expr_type e = expr_step c.program c.func.locals (map-Expr Meaning Designation (Option ValueType) (Option PlaceType) (λ a. a.ctype) (λ a. a.ctype) e)

  abbrev pub expr_meaning : one.Expr-F Meaning Designation → Meaning
  expr_meaning e = record { ctype = expr_type e; effects = expr_effects e; next = next_step (expr_effects e) e }

  -- an element (6.5.2.1)
  abbrev pub element_at : Option PlaceType → Option Spot → Option Value → Option Spot
  element_at t s v = of_two t s (λ t s. option_and_then (λ n. element c.program n t s) (integer v))

  abbrev pub leads_to : one.Place-F Meaning Designation → Registers → Get (Option Spot)
  leads_to (one.Local r) = λ later. known (Some (spot.Object (root.Auto c.number c.id r) []))
  leads_to (one.Static i) = λ later. known (Some (spot.Object (root.Static i) []))
  leads_to (one.Device d) = λ later. known (Some (spot.Device d))
  leads_to (one.Element a i) = λ later. bind (place_and_value a i later) (λ p. known (element_at a.ctype p.0 p.1))
  leads_to (one.Member a m) = λ later. bind (a.leads later) (λ s. known (of_two a.ctype s (member c.program m)))
  leads_to (one.Deref e) = from_one (λ v. option_map spot.Address (address_in v)) e

  abbrev pub place_meaning : one.Place-F Meaning Designation → Designation
  place_meaning a = record {
    ctype = place_step c.program c.func.locals (map-Place Meaning Designation (Option ValueType) (Option PlaceType) (λ a. a.ctype) (λ a. a.ctype) a);
    effects = place_effect_step c.func (map-Place Meaning Designation Effects PlaceEffects (λ a. a.effects) (λ a. a.effects) a);
    leads = leads_to a;
  }

  unfoldable pub meaning : Expr → Meaning
  meaning e = fold-Expr Meaning Designation expr_meaning place_meaning e

  unfoldable pub designation : PlaceOf → Designation
  designation a = fold-Place Meaning Designation expr_meaning place_meaning a

  -- what they mean, opened at the top
  abbrev pub opened : one.Expr-F Expr PlaceOf → Meaning
  opened x = expr_meaning (map-Expr Expr PlaceOf Meaning Designation meaning designation x)

  abbrev pub place_opened : one.Place-F Expr PlaceOf → Designation
  place_opened x = place_meaning (map-Place Expr PlaceOf Meaning Designation meaning designation x)

  -- what a full expression does next: nothing comes behind it that assigns a register
  abbrev pub next_of : Expr → Get (Option Value)
  next_of e = (meaning e).next no_one
