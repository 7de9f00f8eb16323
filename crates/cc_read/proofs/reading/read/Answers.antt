use Rattle.cc_read.specs.Texts.{bytes_of}
use Rattle.cc_read.proofs.Refused.{answered, told}
use Rattle.cc_read.proofs.reading.read.Goals as goal

pub returns-clause-only : goal.returns-clause-only
returns-clause-only c = answered (bytes_of c.args.texts.now) c.args.target.now c.args.roles.now c.answer.result c.answer.ensures.read c.answer.ensures.refused

pub returns-clause-only_refused : goal.returns-clause-only_refused
returns-clause-only_refused c = told (bytes_of c.args.texts.now) c.args.target.now c.args.roles.now c.answer.result c.answer.ensures.read c.answer.ensures.low c.answer.ensures.refused
