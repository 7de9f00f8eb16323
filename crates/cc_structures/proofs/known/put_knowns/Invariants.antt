use Rattle.std.proofs.Common.{◌≡◌, ◌++◌, take}
use Rattle.cc_structures.specs.Structures.{known_in}
use Rattle.cc_structures.specs.View.{knowns_of}
use Rattle.cc_structures.proofs.known.put_knowns.Given as goal

abbrev pub invariant-loop-structure : goal.invariant-loop-structure
invariant-loop-structure l = record {
  counted : l.position ≡ l.structure-index;
  put : knowns_of l.knowns.items ≡ knowns_of l.initial.knowns.items ++ known_in l.text 0 (take l.structure-index l.structures);
}
