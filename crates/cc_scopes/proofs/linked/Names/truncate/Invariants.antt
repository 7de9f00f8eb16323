use Rattle.std.proofs.Common.{◌≡◌, length, take}
use Rattle.cc_scopes.proofs.linked.Names.truncate.Given as goal

abbrev pub invariant-loop-self : goal.invariant-loop-self
invariant-loop-self l = take l.count l.self.all.items ≡ take l.count l.fn.self.all.items

abbrev pub decreases-loop-self : goal.decreases-loop-self
decreases-loop-self l = length l.self.all.items
