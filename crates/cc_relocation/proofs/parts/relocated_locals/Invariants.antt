use Rattle.std.proofs.Common.{◌≡◌, ◌++◌, drop}
use Rattle.std.specs.Prelude.{map, zip}
use Rattle.cc_relocation.specs.Relocated.{local_with}
use Rattle.cc_relocation.proofs.parts.relocated_locals.Given as goal

abbrev pub invariant-loop-local : goal.invariant-loop-local
invariant-loop-local l = record {
  at : l.position ≡ l.local-index;
  done : map (local_with l.structures) (zip l.names l.locals) ≡ l.relocated.items ++ map (local_with l.structures) (zip (drop l.local-index l.names) (drop l.local-index l.locals));
}
