use Rattle.std.proofs.Common.{◌^◌, arith}
use Rattle.std.proofs.lemmas.Nat.{mul-le}
use Rattle.cc_cost_ranking.proofs.costs.times.Goals as goal

pub overflow_mul-result : goal.overflow_mul-result
overflow_mul-result c = let most = mul-le c.args.count c.args.each (2 ^ 48) 512 c.requires.count c.requires.each in omega (arith, most)

pub returns-clause-most : goal.returns-clause-most
returns-clause-most c = let most = mul-le c.args.count c.args.each (2 ^ 48) 512 c.requires.count c.requires.each in omega (arith, most)
