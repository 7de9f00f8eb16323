use Rattle.std.proofs.Common.{◌≡◌, take, map}
use Rattle.cc_things.specs.Things.{identities, things_in, numbers_in}
use Rattle.cc_things.specs.View.{views_of, identities_of, thing_view}
use Rattle.cc_things.proofs.thing.put_all.Given as goal

abbrev pub invariant-loop-m : goal.invariant-loop-m
invariant-loop-m l = record {
  identities : identities_of l.identities ≡ identities (views_of (take l.m-index l.mentions));
  things : map thing_view l.things.items ≡ things_in (views_of (take l.m-index l.mentions));
  numbers : l.numbers.items ≡ numbers_in (views_of (take l.m-index l.mentions));
}
