use Rattle.std.proofs.Common.{ap}
use Rattle.std.specs.Option.{option_copied}
use Rattle.cc_designators.proofs.Positions.{position_there}
use Rattle.cc_designators.proofs.member.position_in.Goals as goal

pub returns-in-Some : goal.returns-in-Some
returns-in-Some c = position_there c.args.name.now (option_copied c.args.structure) c.in-Some.s.now c.all.result.now c.position_named.result (ap option_copied c.in-Some.is) c.all.ensures c.position_named.ensures
