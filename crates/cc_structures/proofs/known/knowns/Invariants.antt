use Rattle.std.proofs.Common.{◌≡◌, take}
use Rattle.cc_structures.specs.Structures.{structures}
use Rattle.cc_structures.specs.View.{knowns_of, units_of}
use Rattle.cc_structures.proofs.known.knowns.Given as goal

abbrev pub invariant-loop-x : goal.invariant-loop-x
invariant-loop-x l = record {
  counted : l.text ≡ l.x-index;
  put : knowns_of l.knowns.items ≡ structures (units_of (take l.x-index l.texts));
}
