-- What has been read is the start of the file, and never more than limit + 1 bytes. Each turn reads
-- at least one of these.
use Rattle.std.proofs.Common.{◌≡◌, ◌≤◌, ◌+◌, ◌-◌, false, IsTrue, length, vec_len}
use Rattle.cc_edge.specs.Faults.{raised}
use Rattle.cc_edge.specs.Files.{KeepsFiles}
use Rattle.cc_edge.proofs.Prefixes.{IsStart}
use Rattle.cc_edge.proofs.read.read_whole.Given as goal

abbrev pub invariant-loop-piece : goal.invariant-loop-piece
invariant-loop-piece g l = record {
  told : g.F.Store.told l.store ≡ g.F.Store.told l.fn.store;
  later : g.F.Store.faults l.fn.store ≤ g.F.Store.faults l.store;
  size : length l.piece ≡ 4096;
  most : vec_len l.bytes ≤ l.limit + 1;
  stay : IsTrue (g.F.Store.told l.fn.store) → KeepsFiles (g.F.Store.files l.fn.store) (g.F.Store.files l.store);
  taken : g.F.Store.told l.fn.store ≡ false → g.F.Store.taken l.store ≡ raised (vec_len l.bytes) (g.F.Store.taken l.fn.store);
  start : IsTrue (g.F.Store.told l.fn.store) → IsStart l.bytes.items (g.F.Store.files l.fn.store l.name);
}

abbrev pub decreases-loop-piece : goal.decreases-loop-piece
decreases-loop-piece g l = l.limit + 1 - vec_len l.bytes
