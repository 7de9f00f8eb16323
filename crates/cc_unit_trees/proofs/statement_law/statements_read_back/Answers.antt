use Rattle.cc_unit_trees.proofs.StatementFitting.{body-fits}
use Rattle.cc_unit_trees.proofs.Lines.{body-reads}
use Rattle.cc_unit_trees.proofs.statement_law.statements_read_back.Goals as goal

pub returns : goal.returns
returns c = record {
  statements = λ p f list b e n s level at done all ps k. body-reads p f list b e n s level at done all ps k;
  statements_part = λ p f names devices acts list b e n s level ps g. body-fits p f names devices acts list b e n s level ps g;
}
