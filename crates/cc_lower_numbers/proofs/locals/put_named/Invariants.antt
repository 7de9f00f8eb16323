use Rattle.std.proofs.Common.{◌≡◌, ◌++◌, drop}
use Rattle.std.specs.Prelude.{map, zip}
use Rattle.cc_lower_numbers.specs.Numbered.{with_name}
use Rattle.cc_lower_numbers.proofs.locals.put_named.Given as goal

abbrev pub invariant-loop-local : goal.invariant-loop-local
invariant-loop-local l = record {
  at : l.position ≡ l.local-index;
  done : l.initial.out.items ++ map with_name (zip l.names l.locals) ≡ l.out.items ++ map with_name (zip (drop l.local-index l.names) (drop l.local-index l.locals));
}
