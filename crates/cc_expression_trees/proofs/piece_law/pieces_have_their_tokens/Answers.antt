use Rattle.std.proofs.Common.{true}
use Rattle.cc_expression_trees.proofs.Inside.{none-outside, ascends}
use Rattle.cc_expression_trees.proofs.Spelling.{pieces-tokens}
use Rattle.cc_expression_trees.proofs.Worked.{sum-fits, sum-text, sum-laid, runs-on}
use Rattle.cc_expression_trees.proofs.piece_law.pieces_have_their_tokens.Goals as goal

pub returns : goal.returns
returns c = record {
  tokens = λ ps h. pieces-tokens ps h true 0;
  inside = λ ps h. none-outside ps h 0;
  ascending = λ ps. ascends ps 0;
  example = sum-fits;
  example_text = sum-text;
  example_tokens = sum-laid;
  counterexample = runs-on;
}
