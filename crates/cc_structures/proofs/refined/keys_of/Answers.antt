use Rattle.std.proofs.Common.{◌∙◌, ap, ◌++◌, ◌∷◌, [], map}
use Rattle.cc_structures.specs.Refined.{node_key}
use Rattle.cc_structures.specs.View.{node_view, nodes_of, lists_of}
use Rattle.cc_structures.proofs.KeyLemmas.{lists-more, keys-more}
use Rattle.cc_structures.proofs.Steps.{stepped}
use Rattle.cc_structures.proofs.refined.keys_of.Goals as goal

pub loop-node-preserved : goal.loop-node-preserved
loop-node-preserved c =
    stepped (λ ns. map (node_key c.args.numbers.now) (nodes_of ns)) (λ ns b n. b ++ node_key c.args.numbers.now (node_view n) ∷ []) (keys-more c.args.numbers.now)
    c.args.nodes.now c.loop-node.node-index c.node-item.result c.loop-node-test.true c.node-item.is _ _
    (ap lists_of c.in_ok-push.ensures.items ∙ (lists-more _ _ ∙ ap (λ k. lists_of c.loop-node.keys.items ++ k ∷ []) c.in_ok-key_of.ensures)) c.loop-node.invariant
