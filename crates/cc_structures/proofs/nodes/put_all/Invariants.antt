use Rattle.std.proofs.Common.{◌≡◌, take, map}
use Rattle.cc_structures.specs.Looks.{look_of, node_of}
use Rattle.cc_structures.specs.View.{knowns_of, looks_of, nodes_of}
use Rattle.cc_structures.proofs.nodes.put_all.Given as goal

abbrev pub invariant-loop-s : goal.invariant-loop-s
invariant-loop-s l = record {
  looks : looks_of l.looks.items ≡ map look_of (knowns_of (take l.s-index l.knowns));
  nodes : nodes_of l.nodes.items ≡ map node_of (knowns_of (take l.s-index l.knowns));
}
