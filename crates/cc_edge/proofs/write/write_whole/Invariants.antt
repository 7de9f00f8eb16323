-- The file holds the bytes but the rest, which each append makes shorter. The other files, whether
-- they are told and what reads have given stay, and the faults do not fall.
use Rattle.std.proofs.Common.{◌≡◌, ◌≤◌, IsTrue, length}
use Rattle.cc_edge.specs.Files.{KeepsOthers}
use Rattle.cc_edge.proofs.Prefixes.{HoldsAllBut}
use Rattle.cc_edge.proofs.write.write_whole.Given as goal

abbrev pub invariant-loop-rest : goal.invariant-loop-rest
invariant-loop-rest g l = record {
  told : g.F.Store.told l.store ≡ g.F.Store.told l.fn.store;
  later : g.F.Store.faults l.fn.store ≤ g.F.Store.faults l.store;
  taken : g.F.Store.taken l.store ≡ g.F.Store.taken l.fn.store;
  end : g.F.Store.end l.store ≡ g.F.Store.end l.fn.store;
  others : IsTrue (g.F.Store.told l.fn.store) → KeepsOthers l.name (g.F.Store.files l.fn.store) (g.F.Store.files l.store);
  written : IsTrue (g.F.Store.told l.fn.store) → HoldsAllBut l.bytes l.rest (g.F.Store.files l.store l.name);
}

abbrev pub decreases-loop-rest : goal.decreases-loop-rest
decreases-loop-rest g l = length l.rest
