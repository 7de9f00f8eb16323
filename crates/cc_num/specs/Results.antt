-- The results of C's integer operators (C99 6.5.3.3, 6.5.5 to 6.5.12): the exact number, and then
-- the rule of the type. `None` is a trap.
use Rattle.std.specs.Prelude.{ℕ, zero, ◌^◌, ◌<◌, ◌≡◌, ◌⊎◌, Bool, true, false, not, ℤ, pos, negsuc, neg_ℤ, ◌+ℤ◌, ◌-ℤ◌, ◌*ℤ◌, ◌≤ℤ◌, Option, Some, None, option_map, option_and_then, nat_lt, int_lt, int_le, int_div, unsigned_abs, bit_and, bit_or, bit_xor, if◌then◌else◌}
use Rattle.std.specs.Int.{int_rem_euclid, int_div_euclid}
use Rattle.std.specs.Ordering.{int_eq}
use Rattle.cc_num.specs.declared.int_type.IntType.{IntType}
use Rattle.cc_num.specs.declared.target.Target.{Target}
use Rattle.cc_num.specs.declared.op.BinOp.{BinOp}
use Rattle.cc_num.specs.declared.op.BinOp.TheVariants as op
use Rattle.cc_num.specs.declared.op.UnOp.{UnOp}
use Rattle.cc_num.specs.declared.op.UnOp.TheVariants as unary
use Rattle.cc_num.specs.Integers.{bits_of, is_signed, least_of, is_value_of, converted}

-- an exact result in its type: a signed one that is no value of the type traps (6.5, 5), an
-- unsigned one is taken modulo 2^w (6.2.5, 9)
unfoldable pub represented : ℤ → IntType → Target → Option ℤ
represented z t target = if is_signed t target then (if is_value_of t target z then Some z else None) else Some (converted z t target)

-- a / b, truncated toward zero (6.5.5, 5 and 6)
abbrev pub quotient_of : ℤ → ℤ → IntType → Target → Option ℤ
quotient_of a (pos zero) t target = None
quotient_of a b t target = represented (int_div a b) t target

-- a % b, where a / b is represented: (a / b) * b + a % b is a (6.5.5, 6)
abbrev pub remainder_of : ℤ → ℤ → IntType → Target → Option ℤ
remainder_of a b t target = option_map (λ q. a -ℤ q *ℤ b) (quotient_of a b t target)

-- q is a / b without its fraction, and r what is left, which has the sign of a
pub record IsQuotient (a b q r : ℤ) : Type 0 where
  pub sum : a ≡ q *ℤ b +ℤ r
  pub below : unsigned_abs r < unsigned_abs b
  pub positive : pos 0 ≤ℤ a → pos 0 ≤ℤ r
  pub negative : a ≤ℤ pos 0 → r ≤ℤ pos 0

-- what has no quotient: a divisor of 0, and the least value of a signed type by -1
abbrev pub IsDivisionTrap : ℤ → ℤ → IntType → Target → Type 0
IsDivisionTrap a b t target = (b ≡ pos 0) ⊎ ((is_signed t target ≡ true) × (a ≡ least_of t target) × (b ≡ neg_ℤ (pos 1)))

-- by how many places a shift goes: from 0 on, below w (6.5.7, 3)
abbrev pub places_of : ℤ → ℕ → Option ℕ
places_of (pos n) w = if nat_lt n w then Some n else None
places_of (negsuc n) w = None

-- a * 2^n, of an a that is not negative (6.5.7, 4)
abbrev pub left_of : ℤ → IntType → Target → ℕ → Option ℤ
left_of (pos a) t target n = represented (pos a *ℤ pos (2 ^ n)) t target
left_of (negsuc a) t target n = None

abbrev pub shl_of : ℤ → ℤ → IntType → Target → Option ℤ
shl_of a b t target = option_and_then (left_of a t target) (places_of b (bits_of t target))

-- the floor of a / 2^n (6.5.7, 5)
abbrev pub floor_of : ℤ → ℕ → ℤ
floor_of a n = int_div_euclid a (pos (2 ^ n))

abbrev pub shr_of : ℤ → ℤ → IntType → Target → Option ℤ
shr_of a b t target = option_map (floor_of a) (places_of b (bits_of t target))

-- the w bits of a in two's complement, as a natural number (6.2.6.2, 2)
abbrev pub pattern_of : ℕ → ℤ → ℕ
pattern_of w a = unsigned_abs (int_rem_euclid a (pos (2 ^ w)))

-- an operator on bits, applied to both patterns and read in the type (6.5.10 to 6.5.12)
abbrev pub bitwise_of : (ℕ → ℕ → ℕ) → ℤ → ℤ → IntType → Target → ℤ
bitwise_of f a b t target = converted (pos (f (pattern_of (bits_of t target) a) (pattern_of (bits_of t target) b))) t target

-- what a comparison gives (6.5.8, 6; 6.5.9, 3)
abbrev pub one_if : Bool → ℤ
one_if true = pos 1
one_if false = pos 0

-- `a op b` in the type t, to which both operands are converted; of a shift only the first is
unfoldable pub result_of : BinOp → ℤ → ℤ → IntType → Target → Option ℤ
result_of op.Add a b t target = represented (a +ℤ b) t target
result_of op.Sub a b t target = represented (a -ℤ b) t target
result_of op.Mul a b t target = represented (a *ℤ b) t target
result_of op.Div a b t target = quotient_of a b t target
result_of op.Rem a b t target = remainder_of a b t target
result_of op.And a b t target = Some (bitwise_of bit_and a b t target)
result_of op.Or a b t target = Some (bitwise_of bit_or a b t target)
result_of op.Xor a b t target = Some (bitwise_of bit_xor a b t target)
result_of op.Shl a b t target = shl_of a b t target
result_of op.Shr a b t target = shr_of a b t target
result_of op.Lt a b t target = Some (one_if (int_lt a b))
result_of op.Le a b t target = Some (one_if (int_le a b))
result_of op.Gt a b t target = Some (one_if (int_lt b a))
result_of op.Ge a b t target = Some (one_if (int_le b a))
result_of op.Eq a b t target = Some (one_if (int_eq a b))
result_of op.Ne a b t target = Some (one_if (not (int_eq a b)))

-- `-a`, `~a`, which turns each bit and so is -a - 1, read in the type, and `!a`, which is a == 0
unfoldable pub unary_result_of : UnOp → ℤ → IntType → Target → Option ℤ
unary_result_of unary.Neg a t target = represented (neg_ℤ a) t target
unary_result_of unary.Not a t target = Some (converted (neg_ℤ a -ℤ pos 1) t target)
unary_result_of unary.Lnot a t target = Some (one_if (int_eq a (pos 0)))

-- whether the second operand has a type of its own
abbrev pub is_shift : BinOp → Bool
is_shift op.Shl = true
is_shift op.Shr = true
is_shift _ = false
