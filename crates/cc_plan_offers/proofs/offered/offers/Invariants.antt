use Rattle.std.proofs.Common.{◌≡◌, ◌+◌, ◌++◌, length}
use Rattle.cc_plan_offers.specs.Offers.{offers_from}
use Rattle.cc_plan_offers.proofs.offered.offers.Given as goal

abbrev pub invariant-loop-left : goal.invariant-loop-left
invariant-loop-left l = record {
  number : l.number + length l.left ≡ length l.slots;
  offers : l.offers.items ++ offers_from l.costs l.number l.left ≡ offers_from l.costs 0 l.slots;
}

abbrev pub decreases-loop-left : goal.decreases-loop-left
decreases-loop-left l = length l.left
