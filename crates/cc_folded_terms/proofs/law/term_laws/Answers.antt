use Rattle.cc_folded_terms.proofs.TreeInduction.{tree_folds}
use Rattle.cc_folded_terms.proofs.Trees.{value_folds}
use Rattle.cc_folded_terms.proofs.law.term_laws.Goals as goal
use Rattle.cc_terms.specs.Terms.{here}

pub returns : goal.returns
returns c = record {
  designated = λ target roles e at s r h. tree_folds target roles e at s r h;
  values = λ target roles e s r h. value_folds target (here target roles e) (tree_folds target roles e.node) s r h;
}
