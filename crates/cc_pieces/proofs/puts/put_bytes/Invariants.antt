use Rattle.std.proofs.Common.{◌≡◌, ◌≤◌, ◌++◌, length, drop}
use Rattle.cc_pieces.specs.View.{put_in_front}
use Rattle.cc_pieces.proofs.puts.put_bytes.Given as goal

-- the bytes from here on are put
abbrev pub invariant-loop-left : goal.invariant-loop-left
invariant-loop-left l = (l.left ≤ length l.bytes) × (l.out.items ≡ l.initial.out.items ++ put_in_front (drop l.left l.bytes))

abbrev pub decreases-loop-left : goal.decreases-loop-left
decreases-loop-left l = l.left
