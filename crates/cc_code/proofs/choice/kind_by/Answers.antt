use Rattle.std.proofs.Common.{sym, arith}
use Rattle.std.proofs.lemmas.Int.{ints}
use Rattle.cc_code.proofs.KindLemmas.{ends_reach}
use Rattle.cc_code.proofs.choice.kind_by.Goals as goal

pub by_ends-requires-clause-least : goal.by_ends-requires-clause-least
by_ends-requires-clause-least c =
    let ends = ends_reach _ c.in-Some.low c.in-Some.high (sym c.in-Some.ensures) in
    let low = ends.0 in
    omega (arith, ints)

pub by_ends-requires-clause-order : goal.by_ends-requires-clause-order
by_ends-requires-clause-order c =
    let ends = ends_reach _ c.in-Some.low c.in-Some.high (sym c.in-Some.ensures) in
    let low = ends.0 in
    let high = ends.1 in
    let order = ends.2 in
    omega (arith, ints)

pub by_ends-requires-clause-most : goal.by_ends-requires-clause-most
by_ends-requires-clause-most c =
    let ends = ends_reach _ c.in-Some.low c.in-Some.high (sym c.in-Some.ensures) in
    let high = ends.1 in
    omega (arith, ints)
