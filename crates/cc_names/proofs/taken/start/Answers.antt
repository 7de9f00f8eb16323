use Rattle.std.proofs.Common.{sym}
use Rattle.cc_names.proofs.Starts.{told-taken}
use Rattle.cc_names.proofs.taken.start.Goals as goal

pub returns-else-start-from-clause-taken : goal.returns-else-start-from-clause-taken
returns-else-start-from-clause-taken c = told-taken c.args.starts.now c.args.base.now c.args.from c.in-Some.start.now (sym c.in-Some.ensures.value)
