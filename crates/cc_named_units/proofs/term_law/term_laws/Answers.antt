use Rattle.cc_named_units.proofs.Cycle.{tree_adds, declr_adds}
use Rattle.cc_named_units.proofs.Laws.{specifiers_add}
use Rattle.cc_named_units.proofs.term_law.term_laws.Goals as goal

pub returns : goal.returns
returns c = record {
  expressions = λ target roles most e q l at s r h. tree_adds target roles most e q l at s r h;
  specifiers = λ target roles most setting specs q l s r h. specifiers_add target roles most setting specs q l s r h;
  declarators = λ target roles most d q l allowed at s r h. declr_adds target roles most d q l allowed at s r h;
}
