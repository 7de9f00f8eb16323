use Rattle.cc_tree.proofs.Faults.{answered}
use Rattle.cc_gram.proofs.parser.parse.Goals as goal

pub returns-clause-complete : goal.returns-clause-complete
returns-clause-complete c = λ u h. answered c.args.tokens.now c.answer.result u c.answer.ensures.read c.answer.ensures.refused h
