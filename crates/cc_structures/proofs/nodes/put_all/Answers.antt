use Rattle.std.proofs.Common.{◌∙◌, ap, sym, ◌++◌, ◌∷◌, [], map, List}
use Rattle.std.proofs.lemmas.List.{take_all}
use Rattle.cc_structures.specs.Looks.{look_of, node_of}
use Rattle.cc_structures.specs.View.{known_of, knowns_of, looks_of, nodes_of}
use Rattle.cc_structures.specs.declared.known.Known.{Known as KnownOf}
use Rattle.cc_structures.proofs.Behind.{looks-nil, looks_of-more, nodes_of-more}
use Rattle.cc_structures.proofs.KeyLemmas.{nodes-nil}
use Rattle.cc_structures.proofs.KnownLemmas.{knowns-nil}
use Rattle.cc_structures.proofs.Steps.{stepped}
use Rattle.cc_structures.proofs.nodes.put_all.Goals as goal

pub loop-s-init : goal.loop-s-init
loop-s-init c = record {
  looks = ap looks_of c.requires.looks ∙ (looks-nil ∙ sym (ap (map look_of) knowns-nil));
  nodes = ap nodes_of c.requires.nodes ∙ (nodes-nil ∙ sym (ap (map node_of) knowns-nil));
}

pub loop-s-preserved : goal.loop-s-preserved
loop-s-preserved c =
    let ss = c.args.knowns.now in
    let i = c.loop-s.s-index in
    let s = c.s-item.result in
    record {
      looks = stepped (λ ks. map look_of (knowns_of ks)) (λ ks b k. b ++ look_of (known_of k) ∷ []) looks_of-more ss i s c.loop-s-test.true c.s-item.is _ _ c.in_ok-put_described.ensures.looks c.loop-s.invariant.looks;
      nodes = stepped (λ ks. map node_of (knowns_of ks)) (λ ks b k. b ++ node_of (known_of k) ∷ []) nodes_of-more ss i s c.loop-s-test.true c.s-item.is _ _ c.in_ok-put_described.ensures.nodes c.loop-s.invariant.nodes;
    }

pub returns-clause-looks : goal.returns-clause-looks
returns-clause-looks c =
    c.loop-s.invariant.looks ∙ ap (λ (ks : List KnownOf). map look_of (knowns_of ks)) (take_all c.loop-s.s-index c.args.knowns.now c.loop-s-test.false)

pub returns-clause-nodes : goal.returns-clause-nodes
returns-clause-nodes c =
    c.loop-s.invariant.nodes ∙ ap (λ (ks : List KnownOf). map node_of (knowns_of ks)) (take_all c.loop-s.s-index c.args.knowns.now c.loop-s-test.false)
