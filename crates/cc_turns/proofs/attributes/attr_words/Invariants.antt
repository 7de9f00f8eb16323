use Rattle.std.proofs.Common.{◌≡◌}
use Rattle.cc_tree.specs.Reading.{separated}
use Rattle.cc_tree.specs.ReadTypes.{attr_word, turns}
use Rattle.cc_tree.proofs.LoopSteps.{behind}
use Rattle.cc_turns.proofs.attributes.attr_words.Given as goal

abbrev pub invariant-loop-turns : goal.invariant-loop-turns
invariant-loop-turns l = behind l.list.items (separated attr_word l.turns l.tokens) ≡ separated attr_word (turns l.fn.tokens) l.fn.tokens

abbrev pub decreases-loop-turns : goal.decreases-loop-turns
decreases-loop-turns l = l.turns
