use Rattle.cc_accessed_terms.proofs.Terms.{tree_accounts, value_accounts}
use Rattle.cc_accessed_terms.proofs.law.term_laws.Goals as goal

pub returns : goal.returns
returns c = record {
  designated = λ target roles e at s r h. tree_accounts target roles e at s r h;
  values = λ target roles e s r h. value_accounts target roles e s r h;
}
