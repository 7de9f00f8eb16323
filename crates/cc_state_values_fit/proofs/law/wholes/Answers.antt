-- The set of each type is made.
use Rattle.std.proofs.Common.{ℤ}
use Rattle.cc_program.specs.CcNum.declared.int_type.IntType.{IntType}
use Rattle.cc_program.specs.CcNum.declared.int_type.IntType.TheVariants as int
use Rattle.cc_program.specs.CcNum.Integers.{IsValueOf}
use Rattle.cc_state_values_fit.proofs.law.wholes.Goals as goal

pub returns : goal.returns
returns g c = each
  where
    each : (t : IntType) → (x : g.row.I.Denot) × ((n : ℤ) → (IsValueOf t c.args.target.now n → g.I.Concrete.Has x n) × (g.I.Concrete.Has x n → IsValueOf t c.args.target.now n))
    each int.Bool = (c.whole-bools.result, λ n. ((c.whole-bools.ensures n).1, (c.whole-bools.ensures n).0))
    each int.Char = (c.whole-chars.result, λ n. ((c.whole-chars.ensures n).1, (c.whole-chars.ensures n).0))
    each int.SChar = (c.whole-signed_chars.result, λ n. ((c.whole-signed_chars.ensures n).1, (c.whole-signed_chars.ensures n).0))
    each int.UChar = (c.whole-unsigned_chars.result, λ n. ((c.whole-unsigned_chars.ensures n).1, (c.whole-unsigned_chars.ensures n).0))
    each int.Short = (c.whole-shorts.result, λ n. ((c.whole-shorts.ensures n).1, (c.whole-shorts.ensures n).0))
    each int.UShort = (c.whole-unsigned_shorts.result, λ n. ((c.whole-unsigned_shorts.ensures n).1, (c.whole-unsigned_shorts.ensures n).0))
    each int.Int = (c.whole-ints.result, λ n. ((c.whole-ints.ensures n).1, (c.whole-ints.ensures n).0))
    each int.UInt = (c.whole-unsigned_ints.result, λ n. ((c.whole-unsigned_ints.ensures n).1, (c.whole-unsigned_ints.ensures n).0))
    each int.Long = (c.whole-longs.result, λ n. ((c.whole-longs.ensures n).1, (c.whole-longs.ensures n).0))
    each int.ULong = (c.whole-unsigned_longs.result, λ n. ((c.whole-unsigned_longs.ensures n).1, (c.whole-unsigned_longs.ensures n).0))
    each int.LongLong = (c.whole-long_longs.result, λ n. ((c.whole-long_longs.ensures n).1, (c.whole-long_longs.ensures n).0))
    each int.ULongLong = (c.whole-unsigned_long_longs.result, λ n. ((c.whole-unsigned_long_longs.ensures n).1, (c.whole-unsigned_long_longs.ensures n).0))
