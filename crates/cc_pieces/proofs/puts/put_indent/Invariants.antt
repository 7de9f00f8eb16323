use Rattle.std.proofs.Common.{◌≡◌, ◌++◌}
use Rattle.cc_pieces.specs.Pieces.{indentation}
use Rattle.cc_pieces.specs.View.{put_in_front}
use Rattle.cc_pieces.proofs.puts.put_indent.Given as goal

abbrev pub invariant-loop : goal.invariant-loop
invariant-loop l = l.out.items ≡ l.initial.out.items ++ put_in_front (indentation l.counter)
