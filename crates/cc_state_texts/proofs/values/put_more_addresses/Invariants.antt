use Rattle.std.proofs.Common.{◌≡◌, ◌++◌, length, map}
use Rattle.cc_state_texts.specs.Texts.{address_text, behind_blanks}
use Rattle.cc_state_texts.proofs.values.put_more_addresses.Given as goal

abbrev pub invariant-loop-left : goal.invariant-loop-left
invariant-loop-left l = l.text.items ++ behind_blanks (map (address_text l.p l.is_exact) l.left) ≡ l.fn.text.items ++ behind_blanks (map (address_text l.p l.is_exact) l.members)

abbrev pub decreases-loop-left : goal.decreases-loop-left
decreases-loop-left l = length l.left
