-- The range rules: from the ends of two operands the ends of the results, in a promoted type t.
use Rattle.std.specs.Prelude.{ℕ, ◌^◌, ◌-◌, ◌&&◌, ◌||◌, max, min, Bool, true, false, ℤ, pos, neg_ℤ, ◌+ℤ◌, ◌-ℤ◌, ◌*ℤ◌, ◌≤ℤ◌, ◌<ℤ◌, int_le, int_lt, unsigned_abs, Some, None, if◌then◌else◌}
use Rattle.std.specs.Int.{int_max, int_min}
use Rattle.cc_num.specs.declared.int_type.IntType.{IntType}
use Rattle.cc_num.specs.declared.int_type.IntType.TheVariants as int
use Rattle.cc_num.specs.declared.target.Target.{Target}
use Rattle.cc_num.specs.declared.op.BinOp.{BinOp}
use Rattle.cc_num.specs.declared.op.BinOp.TheVariants as op
use Rattle.cc_num.specs.declared.op.UnOp.{UnOp}
use Rattle.cc_num.specs.declared.op.UnOp.TheVariants as unary
use Rattle.cc_num.specs.Integers.{bits_of, is_signed, most_of}
use Rattle.cc_num.specs.Results.{floor_of}
use Rattle.std.specs.Int.Count.{count_leading_zeros}
use Rattle.cc_ranges.specs.Ends.{Ends, between, lies_in, whole_ends, fitted}

-- the least and the greatest of four numbers
abbrev pub least_four : ℤ → ℤ → ℤ → ℤ → ℤ
least_four a b c d = int_min (int_min a b) (int_min c d)

abbrev pub greatest_four : ℤ → ℤ → ℤ → ℤ → ℤ
greatest_four a b c d = int_max (int_max a b) (int_max c d)

-- the greatest magnitude between two ends
abbrev pub magnitude : ℤ → ℤ → ℕ
magnitude low high = max (unsigned_abs low) (unsigned_abs high)

-- `*`: between the least and the greatest of the four products of ends
unfoldable pub mul_rule : ℤ → ℤ → ℤ → ℤ → IntType → Target → Ends
mul_rule la ha lb hb t target = fitted
    (least_four (la *ℤ lb) (la *ℤ hb) (ha *ℤ lb) (ha *ℤ hb))
    (greatest_four (la *ℤ lb) (la *ℤ hb) (ha *ℤ lb) (ha *ℤ hb)) t target

-- whether 0 is all that lies between two ends
abbrev pub only_zero : ℤ → ℤ → Bool
only_zero low high = int_le (pos 0) low && int_le high (pos 0)

-- `/`: no greater than what is divided
unfoldable pub div_rule : ℤ → ℤ → ℤ → ℤ → IntType → Target → Ends
div_rule la ha lb hb t target = if only_zero lb hb then None else
    (if int_le (pos 0) la && int_le (pos 0) lb then fitted (pos 0) ha t target
    else fitted (neg_ℤ (pos (magnitude la ha))) (pos (magnitude la ha)) t target)

-- `%`: no greater than what is divided, less than the divisor, and of the sign of what is divided
unfoldable pub rem_rule : ℤ → ℤ → ℤ → ℤ → IntType → Target → Ends
rem_rule la ha lb hb t target = if only_zero lb hb then None else
    (if int_le (pos 0) la then fitted (pos 0) (pos (min (magnitude la ha) (magnitude lb hb - 1))) t target
    else fitted (neg_ℤ (pos (min (magnitude la ha) (magnitude lb hb - 1)))) (pos (min (magnitude la ha) (magnitude lb hb - 1))) t target)

-- `&`: no greater than an operand that is not negative
unfoldable pub and_rule : ℤ → ℤ → ℤ → ℤ → IntType → Target → Ends
and_rule la ha lb hb t target =
    if int_le (pos 0) la then (if int_le (pos 0) lb then Some (pos 0, int_min ha hb) else Some (pos 0, ha))
    else (if int_le (pos 0) lb then Some (pos 0, hb) else whole_ends t target)

-- how many bits tell a number
abbrev pub width_of : ℤ → ℕ
width_of v = 128 - count_leading_zeros 128 (unsigned_abs v)

-- `|` and `^`: no more bits than the operand with more has
unfoldable pub or_rule : ℤ → ℤ → ℤ → ℤ → IntType → Target → Ends
or_rule la ha lb hb t target = if int_le (pos 0) la && int_le (pos 0) lb then Some (pos 0, pos (2 ^ width_of (int_max ha hb) - 1)) else whole_ends t target

-- the counts of a shift that do not trap: from 0 on, below w
abbrev pub counts_of : ℤ → ℤ → ℕ → Ends
counts_of low high w = between (int_max (pos 0) low) (int_min (pos w -ℤ pos 1) high)

-- counts that do not trap, if there are any
abbrev pub AreCountsBelow : Ends → ℕ → Type 0
AreCountsBelow None w = Unit {0}
AreCountsBelow (Some (low, high)) w = (pos 0 ≤ℤ low) × (high <ℤ pos w)

-- the highest end of a << b by the ends of the counts
abbrev pub shl_by : Ends → ℤ → IntType → Target → Ends
shl_by None ha t target = None
shl_by (Some (least, most)) ha t target = fitted (pos 0) (ha *ℤ pos (2 ^ unsigned_abs most)) t target

-- `<<`: a value that is not negative, by the greatest count
unfoldable pub shl_rule : ℤ → ℤ → ℤ → ℤ → IntType → Target → Ends
shl_rule la ha lb hb t target = if int_lt ha (pos 0) then None else shl_by (counts_of lb hb (bits_of t target)) ha t target

abbrev pub shr_by : Ends → ℤ → ℤ → Ends
shr_by None la ha = None
shr_by (Some (least, most)) la ha = Some (int_min (pos 0) la, if int_lt ha (pos 0) then neg_ℤ (pos 1) else floor_of ha (unsigned_abs least))

-- `>>`: to the least count, and never past 0 or -1
unfoldable pub shr_rule : ℤ → ℤ → ℤ → ℤ → IntType → Target → Ends
shr_rule la ha lb hb t target = shr_by (counts_of lb hb (bits_of t target)) la ha

-- 1, 0, or either
abbrev pub one_end : Ends
one_end = Some (pos 1, pos 1)

abbrev pub zero_end : Ends
zero_end = Some (pos 0, pos 0)

abbrev pub either_end : Ends
either_end = Some (pos 0, pos 1)

-- a comparison that is known to hold, known to fail, or neither
abbrev pub verdict : Bool → Bool → Ends
verdict true fails = one_end
verdict false true = zero_end
verdict false false = either_end

abbrev pub lt_rule : ℤ → ℤ → ℤ → ℤ → Ends
lt_rule la ha lb hb = verdict (int_lt ha lb) (int_le hb la)

abbrev pub le_rule : ℤ → ℤ → ℤ → ℤ → Ends
le_rule la ha lb hb = verdict (int_le ha lb) (int_lt hb la)

-- whether two intervals are one number, and whether they have none in common
abbrev pub are_one : ℤ → ℤ → ℤ → ℤ → Bool
are_one la ha lb hb = int_le ha lb && int_le hb la

abbrev pub are_apart : ℤ → ℤ → ℤ → ℤ → Bool
are_apart la ha lb hb = int_lt ha lb || int_lt hb la

abbrev pub eq_rule : ℤ → ℤ → ℤ → ℤ → Ends
eq_rule la ha lb hb = verdict (are_one la ha lb hb) (are_apart la ha lb hb)

abbrev pub ne_rule : ℤ → ℤ → ℤ → ℤ → Ends
ne_rule la ha lb hb = verdict (are_apart la ha lb hb) (are_one la ha lb hb)

-- the ends of `a op b`
unfoldable pub rule_of : BinOp → ℤ → ℤ → ℤ → ℤ → IntType → Target → Ends
rule_of op.Add la ha lb hb t target = fitted (la +ℤ lb) (ha +ℤ hb) t target
rule_of op.Sub la ha lb hb t target = fitted (la -ℤ hb) (ha -ℤ lb) t target
rule_of op.Mul la ha lb hb t target = mul_rule la ha lb hb t target
rule_of op.Div la ha lb hb t target = div_rule la ha lb hb t target
rule_of op.Rem la ha lb hb t target = rem_rule la ha lb hb t target
rule_of op.And la ha lb hb t target = and_rule la ha lb hb t target
rule_of op.Or la ha lb hb t target = or_rule la ha lb hb t target
rule_of op.Xor la ha lb hb t target = or_rule la ha lb hb t target
rule_of op.Shl la ha lb hb t target = shl_rule la ha lb hb t target
rule_of op.Shr la ha lb hb t target = shr_rule la ha lb hb t target
rule_of op.Lt la ha lb hb t target = lt_rule la ha lb hb
rule_of op.Le la ha lb hb t target = le_rule la ha lb hb
rule_of op.Gt la ha lb hb t target = lt_rule lb hb la ha
rule_of op.Ge la ha lb hb t target = le_rule lb hb la ha
rule_of op.Eq la ha lb hb t target = eq_rule la ha lb hb
rule_of op.Ne la ha lb hb t target = ne_rule la ha lb hb

-- the same of sets, of which an empty one gives nothing
abbrev pub op_ends : BinOp → Ends → Ends → IntType → Target → Ends
op_ends o None b t target = None
op_ends o (Some (la, ha)) None t target = None
op_ends o (Some (la, ha)) (Some (lb, hb)) t target = rule_of o la ha lb hb t target

-- the complement of both ends, in the type
abbrev pub not_rule : ℤ → ℤ → IntType → Target → Ends
not_rule low high t target = if is_signed t target then Some (neg_ℤ high -ℤ pos 1, neg_ℤ low -ℤ pos 1) else Some (most_of t target -ℤ high, most_of t target -ℤ low)

-- the ends of `op a`
unfoldable pub rule_of_one : UnOp → ℤ → ℤ → IntType → Target → Ends
rule_of_one unary.Neg low high t target = fitted (neg_ℤ high) (neg_ℤ low) t target
rule_of_one unary.Not low high t target = not_rule low high t target
rule_of_one unary.Lnot low high t target = eq_rule low high (pos 0) (pos 0)

abbrev pub op_one_ends : UnOp → Ends → IntType → Target → Ends
op_one_ends o None t target = None
op_one_ends o (Some (low, high)) t target = rule_of_one o low high t target

-- the same numbers where they fit the type, else the whole type; for _Bool whether they are 0
unfoldable pub conversion_rule : ℤ → ℤ → IntType → Target → Ends
conversion_rule low high int.Bool target = ne_rule low high (pos 0) (pos 0)
conversion_rule low high t target = if lies_in low high t target then Some (low, high) else whole_ends t target

abbrev pub to_ends : Ends → IntType → Target → Ends
to_ends None t target = None
to_ends (Some (low, high)) t target = conversion_rule low high t target
