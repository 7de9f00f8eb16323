-- What domains of sets of numbers are asked: which numbers may stand in them, what the operands of an
-- operator are, and which numbers pass a comparison.
use Rattle.std.specs.Prelude.{ℕ, ◌^◌, ◌<◌, ◌≡◌, ◌↔◌, ◌⊎◌, Bool, true, false, not, ℤ, pos, neg_ℤ, ◌<ℤ◌, ◌≤ℤ◌, int_lt, int_le, List, slice_get, Option, Some, None, if◌then◌else◌}
use Rattle.std.specs.Ordering.{int_eq}
use Rattle.cc_num.specs.declared.int_type.IntType.{IntType}
use Rattle.cc_num.specs.declared.int_type.IntType.TheVariants as int
use Rattle.cc_num.specs.declared.target.Target.{Target}
use Rattle.cc_num.specs.declared.op.BinOp.{BinOp}
use Rattle.cc_num.specs.declared.op.BinOp.TheVariants as op
use Rattle.cc_num.specs.declared.op.UnOp.{UnOp}
use Rattle.cc_num.specs.declared.op.UnOp.TheVariants as unary
use Rattle.cc_num.specs.Integers.{IsValueOf}
use Rattle.cc_num.specs.Promotions.{promoted}
use Rattle.cc_num.specs.Results.{result_of, is_shift}

-- a value of some integer type of some target
pub record IsIntValue (v : ℤ) : Type 0 where
  pub least : neg_ℤ (pos (2 ^ 63)) ≤ℤ v
  pub most : v <ℤ pos (2 ^ 64)

-- a number of at most 65 bits in two's complement
pub record IsInReach (v : ℤ) : Type 0 where
  pub least : neg_ℤ (pos (2 ^ 64)) ≤ℤ v
  pub most : v <ℤ pos (2 ^ 64)

-- what a second operand may be: of a shift a value of any type, else one of the operator's type
abbrev pub IsSecond : Bool → IntType → Target → ℤ → Type 0
IsSecond true t target v = IsIntValue v
IsSecond false t target v = IsValueOf t target v

-- sets of operands of an operator in the promoted type t
pub record AreOperands {D : Type 0} (has : D → ℤ → Type 0) (op : BinOp) (a b : D) (t : IntType) (target : Target) : Type 0 where
  pub promotion : promoted t target ≡ t
  pub first : (v : ℤ) → has a v → IsValueOf t target v
  pub second : (v : ℤ) → has b v → IsSecond (is_shift op) t target v

-- a set of operands of an operator of one operand in the promoted type t
pub record AreOperandsOne {D : Type 0} (has : D → ℤ → Type 0) (a : D) (t : IntType) (target : Target) : Type 0 where
  pub promotion : promoted t target ≡ t
  pub first : (v : ℤ) → has a v → IsValueOf t target v

-- whether the operator compares (C99 6.5.8, 6.5.9)
abbrev pub is_comparison : BinOp → Bool
is_comparison op.Lt = true
is_comparison op.Le = true
is_comparison op.Gt = true
is_comparison op.Ge = true
is_comparison op.Eq = true
is_comparison op.Ne = true
is_comparison _ = false

-- the type of what an operator gives in a type: of a comparison, and of `!`, int (C99 6.5.3.3, 5; 6.5.8, 6; 6.5.9, 3)
abbrev pub type_given : BinOp → IntType → IntType
type_given o t = if is_comparison o then int.Int else t

abbrev pub type_given_of_one : UnOp → IntType → IntType
type_given_of_one unary.Neg t = t
type_given_of_one unary.Not t = t
type_given_of_one unary.Lnot t = int.Int

-- whether two numbers pass a comparison
abbrev pub passes : BinOp → ℤ → ℤ → Bool
passes op.Lt v w = int_lt v w
passes op.Le v w = int_le v w
passes op.Gt v w = int_lt w v
passes op.Ge v w = int_le w v
passes op.Eq v w = int_eq v w
passes op.Ne v w = not (int_eq v w)
passes _ v w = false

-- whether the comparison is one of order, and not `==` or `!=`
abbrev pub is_order : BinOp → Bool
is_order op.Lt = true
is_order op.Le = true
is_order op.Gt = true
is_order op.Ge = true
is_order _ = false

-- a result of members of two sets
abbrev pub IsResultOf : {D : Type 0} → (D → ℤ → Type 0) → BinOp → D → D → IntType → Target → ℤ → Type 0
IsResultOf has op a b t target z = (v : ℤ) × (w : ℤ) × has a v × has b w × (result_of op v w t target ≡ Some z)

-- at most one member
abbrev pub IsAtMostOne : (ℤ → Type 0) → Type 0
IsAtMostOne has = (v w : ℤ) → has v → has w → v ≡ w

-- both sets are explicit, or neither is, or one has at most one member
abbrev pub AreMatched : {D : Type 0} → (D → ℤ → Type 0) → (D → Option (List ℤ)) → D → D → Type 0
AreMatched has members a b = ((members a ≡ None) ↔ (members b ≡ None)) ⊎ (IsAtMostOne (has a) ⊎ IsAtMostOne (has b))

-- each number is less than those behind it
abbrev pub Ascends : List ℤ → Type 0
Ascends vs = (i j : ℕ) (v w : ℤ) → i < j → slice_get vs i ≡ Some v → slice_get vs j ≡ Some w → v <ℤ w

-- the least and the greatest member of a set
pub record AreEnds (has : ℤ → Type 0) (ends : ℤ × ℤ) : Type 0 where
  pub low_in : has ends.0
  pub high_in : has ends.1
  pub low : (v : ℤ) → has v → ends.0 ≤ℤ v
  pub high : (v : ℤ) → has v → v ≤ℤ ends.1
