use Rattle.std.proofs.Common.{◌≡◌}
use Rattle.cc_tree.specs.Reading.{repeated}
use Rattle.cc_tree.specs.ReadTypes.{begins_attr, attr, turns}
use Rattle.cc_tree.proofs.LoopSteps.{behind}
use Rattle.cc_turns.proofs.attributes.attrs.Given as goal

abbrev pub invariant-loop-turns : goal.invariant-loop-turns
invariant-loop-turns l = behind l.list.items (repeated begins_attr attr l.turns l.tokens) ≡ repeated begins_attr attr (turns l.fn.tokens) l.fn.tokens

abbrev pub decreases-loop-turns : goal.decreases-loop-turns
decreases-loop-turns l = l.turns
