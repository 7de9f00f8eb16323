use Rattle.std.proofs.Common.{◌≡◌, length}
use Rattle.cc_tree.specs.ReadTypes.{begins_specs}
use Rattle.cc_turns.proofs.names.begins_specs.Given as goal

abbrev pub invariant-loop-tokens : goal.invariant-loop-tokens
invariant-loop-tokens l = begins_specs l.scope l.tokens ≡ begins_specs l.scope l.fn.tokens

abbrev pub decreases-loop-tokens : goal.decreases-loop-tokens
decreases-loop-tokens l = length l.tokens
