use Rattle.std.proofs.Common.{◌≡◌, take, map}
use Rattle.cc_structures.specs.Refined.{node_key}
use Rattle.cc_structures.specs.View.{nodes_of, lists_of}
use Rattle.cc_structures.proofs.refined.keys_of.Given as goal

abbrev pub invariant-loop-node : goal.invariant-loop-node
invariant-loop-node l = lists_of l.keys.items ≡ map (node_key l.numbers) (nodes_of (take l.node-index l.nodes))
