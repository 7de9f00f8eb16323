use Rattle.std.proofs.Common.{◌≡◌, [], take, fold, nat_eq}
use Rattle.indexmap.specs.IndexSet.{insert_key}
use Rattle.cc_structures.specs.Ordered.{firsts_behind, classes_of}
use Rattle.cc_structures.specs.View.{knowns_of}
use Rattle.cc_structures.proofs.ordered.put_firsts.Given as goal

abbrev pub invariant-loop-s : goal.invariant-loop-s
invariant-loop-s l = record {
  found : l.found.keys ≡ fold (insert_key nat_eq) [] (classes_of l.numbers (knowns_of (take l.s-index l.order)));
  firsts : knowns_of l.firsts.items ≡ firsts_behind l.numbers [] (knowns_of (take l.s-index l.order));
}
