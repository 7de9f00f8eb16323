-- What is cut to a type lies in the type.
use Rattle.std.proofs.Common.{arith}
use Rattle.std.proofs.lemmas.Int.{ints, clamps}
use Rattle.cc_ranges.proofs.ends.fitted.Goals as goal

pub between-requires-clause-least : goal.between-requires-clause-least
between-requires-clause-least c = omega (arith, ints, clamps, c.greater.ensures, c.least.ensures.low)

pub between-requires-clause-most : goal.between-requires-clause-most
between-requires-clause-most c = omega (arith, ints, clamps, c.lesser.ensures, c.most.ensures.high)
