-- What the tests of promoted types and of values say.
use Rattle.std.proofs.Common.{arith, rules, ◌≡◌, true, ◌&&◌, ℤ}
use Rattle.std.specs.Prelude.{◌≤ℤ◌, int_le}
use Rattle.std.proofs.lemmas.Int.{ints}
use denote.Enum.Bare.{same_true}
use Rattle.cc_program.specs.CcNum.contracts.int_type.IntType as int_type
use Rattle.cc_program.specs.CcNum.declared.int_type.IntType.{IntType}
use Rattle.cc_program.specs.CcNum.declared.target.Target.{Target}
use Rattle.cc_program.specs.CcNum.Integers.{IsValueOf, is_value_of, least_of, most_of}
use Rattle.cc_program.specs.CcNum.Promotions.{promoted}
use Rattle.cc_typed.specs.CcSyntax.Operators.{is_promoted}
use Rattle.cc_typed.specs.CcSyntax.SameTypes.{same_int}

above : (a b c : ℤ) → int_le a b && int_le b c ≡ true → a ≤ℤ b
above a b c h = grind (arith, ints)

under : (a b c : ℤ) → int_le a b && int_le b c ≡ true → b ≤ℤ c
under a b c h = grind (arith, ints)

pub value_tested : (t : IntType) (target : Target) (n : ℤ) → is_value_of t target n ≡ true → IsValueOf t target n
value_tested t target n h = record { least = above (least_of t target) n (most_of t target) h; most = under (least_of t target) n (most_of t target) h }

pub promotion_tested : (t : IntType) (target : Target) → is_promoted target t ≡ true → promoted t target ≡ t
unfolding same_int
promotion_tested t target h = same_true int_type.the_type (search rules) (promoted t target) t h

pub ruleset of_ranges = (value_tested, promotion_tested)
