-- No file before the present one has the name: the name has the same bytes among the rest as among
-- all, and a place among the rest is one among all.
use Rattle.std.proofs.Common.{◌≡◌, ◌+◌, ℕ, drop}
use Rattle.cc_edge.specs.Memory.{found, IsPlace}
use Rattle.cc_edge.proofs.memory.place.Given as goal

abbrev pub invariant-loop-i : goal.invariant-loop-i
invariant-loop-i l = record {
  rest : found l.name l.files ≡ found l.name (drop l.i l.files);
  later : (j : ℕ) → IsPlace l.name j (drop l.i l.files) → IsPlace l.name (l.i + j) l.files;
}
