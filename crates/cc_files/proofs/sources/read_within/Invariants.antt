-- The files before this one are read whole and within the limits.
use Rattle.std.proofs.Common.{◌≡◌, ◌≤◌, ◌+◌, false, IsTrue, length, map, sum, take}
use Rattle.cc_edge.specs.Faults.{raised}
use Rattle.cc_edge.specs.Files.{KeepsFiles}
use Rattle.cc_files.specs.Unread.{names_of, texts_of, AreWithin}
use Rattle.cc_files.proofs.sources.read_within.Given as goal

abbrev pub invariant-loop-name : goal.invariant-loop-name
invariant-loop-name g l = record {
  told : g.F.Store.told l.store ≡ g.F.Store.told l.fn.store;
  later : g.F.Store.faults l.fn.store ≤ g.F.Store.faults l.store;
  count : length l.texts.items ≡ l.name-index;
  left : l.left + sum (map length (texts_of l.texts.items)) ≡ l.total;
  stay : IsTrue (g.F.Store.told l.fn.store) → KeepsFiles (g.F.Store.files l.fn.store) (g.F.Store.files l.store);
  read : IsTrue (g.F.Store.told l.fn.store) → AreWithin (g.F.Store.files l.fn.store) l.most l.total (names_of (take l.name-index l.names)) (texts_of l.texts.items);
  taken : g.F.Store.told l.fn.store ≡ false → g.F.Store.taken l.store ≡ raised (sum (map length (texts_of l.texts.items))) (g.F.Store.taken l.fn.store);
}
