use Rattle.cc_lex.proofs.Scanned.{found-of, only-of, fault-of, only_fault-of, spans-of-answer}
use Rattle.cc_lex.proofs.lexer.lex.Goals as goal

pub returns-clause-found : goal.returns-clause-found
returns-clause-found c = found-of c.scanned.result c.args.text.now c.scanned.ensures

pub returns-clause-only : goal.returns-clause-only
returns-clause-only c = only-of c.scanned.result c.args.text.now c.scanned.ensures

pub returns-clause-fault : goal.returns-clause-fault
returns-clause-fault c = fault-of c.scanned.result c.args.text.now c.scanned.ensures

pub returns-clause-only_fault : goal.returns-clause-only_fault
returns-clause-only_fault c = only_fault-of c.scanned.result c.args.text.now c.scanned.ensures

pub returns-clause-spans : goal.returns-clause-spans
returns-clause-spans c = spans-of-answer c.scanned.result c.args.text.now c.scanned.ensures
