use Rattle.std.proofs.Common.{◌≡◌, take}
use Rattle.cc_rules_asked.specs.Asks.{AreNumbered}
use Rattle.cc_rules_asked.proofs.keys.numbers_of.Given as goal

abbrev pub invariant-loop-key : goal.invariant-loop-key
invariant-loop-key l = AreNumbered l.p (take l.key-index l.named) l.numbers.items
