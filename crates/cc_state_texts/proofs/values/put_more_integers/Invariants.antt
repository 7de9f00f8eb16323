use Rattle.std.proofs.Common.{◌≡◌, ◌++◌, length, map}
use Rattle.std.specs.Fmt.{signed_decimal}
use Rattle.cc_state_texts.specs.Texts.{behind_blanks}
use Rattle.cc_state_texts.proofs.values.put_more_integers.Given as goal

abbrev pub invariant-loop-left : goal.invariant-loop-left
invariant-loop-left l = l.text.items ++ behind_blanks (map signed_decimal l.left) ≡ l.fn.text.items ++ behind_blanks (map signed_decimal l.members)

abbrev pub decreases-loop-left : goal.decreases-loop-left
decreases-loop-left l = length l.left
