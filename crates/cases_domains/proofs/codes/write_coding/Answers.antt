use Rattle.std.proofs.Common.{arith}
use Rattle.cases_domains.proofs.codes.write_coding.Goals as goal

pub write_codes-requires : goal.write_codes-requires
write_codes-requires c = record {
  least = c.args.least;
  bits = c.in-Some.told.1;
  short = omega arith;
  coded = c.in-Some.ensures.coding;
}
