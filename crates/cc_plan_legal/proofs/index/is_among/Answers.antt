use Rattle.std.proofs.Common.{sym}
use Rattle.cc_plan_legal.proofs.IndexLemmas.{among_at}
use Rattle.cc_plan_legal.proofs.index.is_among.Goals as goal

pub returns-in-Ok : goal.returns-in-Ok
returns-in-Ok c = sym (among_at c.args.slots.now c.args.slot _ c.in-Ok.ensures)
