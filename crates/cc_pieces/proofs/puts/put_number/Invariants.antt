use Rattle.std.proofs.Common.{◌≡◌, ◌++◌, ℕ, List}
use Rattle.cc_pieces.specs.View.{number_from, put_in_front}
use Rattle.cc_pieces.proofs.puts.put_number.Given as goal

-- what is left and the bytes that are put are the number
abbrev pub invariant-loop-left : goal.invariant-loop-left
invariant-loop-left l = (bytes : List ℕ) × (l.out.items ≡ l.initial.out.items ++ put_in_front bytes) × (number_from l.left bytes ≡ l.number)

abbrev pub decreases-loop-left : goal.decreases-loop-left
decreases-loop-left l = l.left
