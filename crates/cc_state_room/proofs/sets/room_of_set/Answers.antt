-- A domain bounds the room of a set of numbers.
use Rattle.std.proofs.Common.{◌≤◌, ◌^◌, sym, subst}
use Rattle.cc_state_room.proofs.sets.room_of_set.Goals as goal

pub returns-in-Ints-clause-bound : goal.returns-in-Ints-clause-bound
returns-in-Ints-clause-bound g c = subst (λ n. n ≤ 2 ^ 70) (sym c.room.ensures) (g.met.I.IntDomain.room_bound c.in-Ints.numbers)
