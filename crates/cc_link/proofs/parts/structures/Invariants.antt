use Rattle.std.proofs.Common.{◌≡◌, ◌++◌, drop}
use Rattle.std.specs.Prelude.{map, zip}
use Rattle.cc_link.proofs.Loops.{tagged}
use Rattle.cc_link.proofs.parts.structures.Given as goal

abbrev pub invariant-loop-known : goal.invariant-loop-known
invariant-loop-known l = record {
  at : l.position ≡ l.known-index;
  done : map (tagged l.numbers) (zip l.tags l.firsts) ≡ l.structures.items ++ map (tagged l.numbers) (zip (drop l.known-index l.tags) (drop l.known-index l.firsts));
}
