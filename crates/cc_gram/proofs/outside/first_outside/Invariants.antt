use Rattle.std.proofs.Common.{◌≡◌, length}
use Rattle.cc_tree.specs.Outside.{first_outside}
use Rattle.cc_gram.proofs.outside.first_outside.Given as goal

abbrev pub invariant-loop-tokens : goal.invariant-loop-tokens
invariant-loop-tokens l = first_outside l.tokens ≡ first_outside l.fn.tokens

abbrev pub decreases-loop-tokens : goal.decreases-loop-tokens
decreases-loop-tokens l = length l.tokens
