use Rattle.std.proofs.Common.{◌≡◌, ◌++◌, length}
use Rattle.std.specs.Option.{option_copied}
use Rattle.cc_state_texts.specs.Texts.{path_text}
use Rattle.cc_state_texts.proofs.values.put_path.Given as goal

abbrev pub invariant-loop-left : goal.invariant-loop-left
invariant-loop-left l = l.text.items ++ path_text l.p l.is_exact l.left (option_copied l.here) ≡ l.fn.text.items ++ path_text l.p l.is_exact l.path (option_copied l.start)

abbrev pub decreases-loop-left : goal.decreases-loop-left
decreases-loop-left l = length l.left
