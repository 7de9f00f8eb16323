use Rattle.cc_packing.proofs.ProgramTexts.{limit-ends, limit-refuses}
use Rattle.cc_packing.proofs.program.texts_of.Goals as goal

pub returns-in-Some-clause-ends : goal.returns-in-Some-clause-ends
returns-in-Some-clause-ends c = λ n. limit-ends c.args.p c.above.result c.in-Some.what c.in-Some.number c.in-Some.is c.above.ensures.above

pub returns-in-Some-clause-refusal : goal.returns-in-Some-clause-refusal
returns-in-Some-clause-refusal c = limit-refuses c.args.p c.above.result c.in-Some.what c.in-Some.number c.in-Some.is c.above.ensures.above
