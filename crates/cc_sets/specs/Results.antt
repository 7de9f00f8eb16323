-- The numbers whose hull an operator gives: the results of explicit operands that do not trap, and
-- what the range rule gives where an operand is a range.
use Rattle.std.specs.Prelude.{◌≡◌, true, ℤ, Some}
use Rattle.std.specs.List.{Contains}
use Rattle.cc_num.specs.declared.int_type.IntType.{IntType}
use Rattle.cc_num.specs.declared.target.Target.{Target}
use Rattle.cc_num.specs.declared.op.BinOp.{BinOp}
use Rattle.cc_num.specs.declared.op.UnOp.{UnOp}
use Rattle.cc_num.specs.Integers.{converted}
use Rattle.cc_num.specs.Results.{result_of, unary_result_of}
use Rattle.cc_lattice.specs.Domains.{passes}
use Rattle.cc_ranges.specs.Ends.{EndsHave}
use Rattle.cc_ranges.specs.Rules.{op_ends, op_one_ends, to_ends}
use Rattle.cc_ranges.specs.Keep.{keep_ends}
use Rattle.cc_sets.specs.declared.vals.Vals.{Vals}
use Rattle.cc_sets.specs.declared.vals.Vals.TheVariants.{Few, Many}
use Rattle.cc_sets.specs.Rungs.{ValsHas, vals_ends}

-- z is a result of `op` of the two sets
abbrev pub OpResult : BinOp → Vals → Vals → IntType → Target → ℤ → Type 0
OpResult o (Few a) (Few b) t target z = (v : ℤ) × (w : ℤ) × Contains a.items.items v × Contains b.items.items w × (result_of o v w t target ≡ Some z)
OpResult o a b t target z = EndsHave (op_ends o (vals_ends a) (vals_ends b) t target) z

-- the same of an operator of one operand
abbrev pub OneResult : UnOp → Vals → IntType → Target → ℤ → Type 0
OneResult o (Few a) t target z = (v : ℤ) × Contains a.items.items v × (unary_result_of o v t target ≡ Some z)
OneResult o (Many r) t target z = EndsHave (op_one_ends o (vals_ends (Many r)) t target) z

-- z is a member that was converted
abbrev pub IsConverted : Vals → IntType → Target → ℤ → Type 0
IsConverted (Few a) t target z = (v : ℤ) × Contains a.items.items v × (converted v t target ≡ z)
IsConverted (Many r) t target z = EndsHave (to_ends (vals_ends (Many r)) t target) z

-- a number that passes a comparison with some member
abbrev pub PassesSome : BinOp → ℤ → Vals → Type 0
PassesSome test v b = (w : ℤ) × ValsHas b w × (passes test v w ≡ true)

-- v is kept: of an explicit set a member that passes with some member of the other, of a range what
-- lies between the ends that are left
abbrev pub IsKept : BinOp → Vals → Vals → ℤ → Type 0
IsKept test (Few a) b v = Contains a.items.items v × PassesSome test v b
IsKept test (Many r) b v = EndsHave (keep_ends test (vals_ends (Many r)) (vals_ends b)) v
