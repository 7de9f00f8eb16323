-- The objects of the set, if there are any.
use Rattle.std.proofs.Common.{◌≡◌, ◌<◌, length, refl, arith}
use Rattle.std.proofs.lemmas.Bool.Decides.{nat_tests}
use Rattle.cc_places.proofs.Moving.{objects_are, no_places, places_listed, places_moved}
use Rattle.cc_places.proofs.moved.moved_places.Goals as goal

pub invariant_of-result : goal.invariant_of-result
invariant_of-result g c =
    let some : 0 < length c.in_ok-places.places.items = grind (arith, nat_tests, c.is_empty.ensures, c.if-is_empty.false) in
    let are = objects_are c.args.set.now c.all.result.now c.in_ok-places.places.items c.all.ensures c.in_ok-places.ensures in
    record { listed = places_listed c.args.set.now c.in_ok-places.places.items c.of.result c.requires are some c.of.ensures }

pub returns-then-is_empty : goal.returns-then-is_empty
returns-then-is_empty g c =
    let none : length c.in_ok-places.places.items ≡ 0 = grind (arith, nat_tests, c.is_empty.ensures, c.if-is_empty.true) in
    let are = objects_are c.args.set.now c.all.result.now c.in_ok-places.places.items c.all.ensures c.in_ok-places.ensures in
    no_places (g.I.Concrete.Has c.args.by.now) c.args.set.now c.none.result c.in_ok-places.places.items c.requires c.none.ensures.exact c.none.ensures.members are none

pub returns-else-is_empty : goal.returns-else-is_empty
returns-else-is_empty g c =
    let some : 0 < length c.in_ok-places.places.items = grind (arith, nat_tests, c.is_empty.ensures, c.if-is_empty.false) in
    let are = objects_are c.args.set.now c.all.result.now c.in_ok-places.places.items c.all.ensures c.in_ok-places.ensures in
    places_moved (g.I.Concrete.Has c.args.by.now) c.args.set.now _ c.in_ok-places.places.items c.requires refl are some c.of.ensures
