-- What was said grew by the bytes but the rest, which each call makes shorter.
use Rattle.std.proofs.Common.{◌≡◌, ◌≤◌, IsTrue, length}
use Rattle.cc_edge.proofs.Prefixes.{IsAdded}
use Rattle.cc_edge.proofs.write.say_whole.Given as goal

abbrev pub invariant-loop-rest : goal.invariant-loop-rest
invariant-loop-rest g l = record {
  told : g.O.Sink.told l.sink ≡ g.O.Sink.told l.fn.sink;
  later : g.O.Sink.faults l.fn.sink ≤ g.O.Sink.faults l.sink;
  said : IsTrue (g.O.Sink.told l.fn.sink) → IsAdded (g.O.Sink.said l.fn.sink) l.bytes l.rest (g.O.Sink.said l.sink);
}

abbrev pub decreases-loop-rest : goal.decreases-loop-rest
decreases-loop-rest g l = length l.rest
