use Rattle.std.proofs.Common.{◌≡◌, length}
use Rattle.cc_tree.specs.ReadTypes.{texts}
use Rattle.cc_tree.proofs.LoopSteps.{joined}
use Rattle.cc_turns.proofs.pieces.texts.Given as goal

abbrev pub invariant-loop-tokens : goal.invariant-loop-tokens
invariant-loop-tokens l = joined l.bytes.items (texts l.tokens) ≡ texts l.fn.tokens

abbrev pub decreases-loop-tokens : goal.decreases-loop-tokens
decreases-loop-tokens l = length l.tokens
