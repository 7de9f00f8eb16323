use Rattle.std.proofs.Common.{arith}
use Rattle.cc_rules_numbered.proofs.Places.{length-constraints}
use Rattle.cc_rules_numbered.proofs.constraints.constraint_count.Goals as goal

pub returns : goal.returns
returns c p e = let l = length-constraints p in omega (arith, l, e)
