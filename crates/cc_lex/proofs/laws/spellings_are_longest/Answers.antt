use Rattle.cc_lex.proofs.LongestForm.{spelling-longest}
use Rattle.cc_lex.proofs.laws.spellings_are_longest.Goals as goal

pub returns : goal.returns
returns c = spelling-longest
