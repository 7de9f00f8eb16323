use Rattle.std.proofs.Common.{◌∙◌, ap, sym, ◌++◌, ◌∷◌, [], List, filter, not, cond, append_assoc, Bool}
use Rattle.std.proofs.lemmas.List.{append-nil, take_all}
use Rattle.cc_structures.specs.Structures.{Known, is_complete}
use Rattle.cc_structures.specs.View.{known_of, knowns_of}
use Rattle.cc_structures.specs.declared.known.Known.{Known as KnownOf}
use Rattle.cc_structures.proofs.KnownLemmas.{knowns-nil}
use Rattle.cc_structures.proofs.OrderLemmas.{named-more}
use Rattle.cc_structures.proofs.Steps.{stepped}
use Rattle.cc_structures.proofs.ordered.put_named.Goals as goal

pub loop-s-init : goal.loop-s-init
loop-s-init c =
    let base = knowns_of c.args.order.now.items in
    sym (ap (λ (ks : List Known). base ++ filter (λ (k : Known). not (is_complete k)) ks) knowns-nil ∙ append-nil base)

pub loop-s-preserved : goal.loop-s-preserved
loop-s-preserved c =
    let base = knowns_of c.args.order.now.items in
    stepped (λ (ks : List KnownOf). base ++ filter (λ (k : Known). not (is_complete k)) (knowns_of ks)) (λ ks b k. b ++ cond (not (is_complete (known_of k))) (known_of k ∷ []) [])
    (λ ks k. ap (λ l. base ++ l) (named-more ks k) ∙ sym (append_assoc base (filter (λ (k : Known). not (is_complete k)) (knowns_of ks)) (cond (not (is_complete (known_of k))) (known_of k ∷ []) [])))
    c.args.knowns.now c.loop-s.s-index c.s-item.result c.loop-s-test.true c.s-item.is _ _ (c.in_ok-put_if.ensures ∙ ap (λ (b : Bool). knowns_of c.loop-s.order.items ++ cond (not b) (known_of c.s-item.result ∷ []) []) c.is_some.ensures) c.loop-s.invariant

pub returns : goal.returns
returns c =
    c.loop-s.invariant
    ∙ ap (λ (ks : List KnownOf). knowns_of c.args.order.now.items ++ filter (λ (k : Known). not (is_complete k)) (knowns_of ks)) (take_all c.loop-s.s-index c.args.knowns.now c.loop-s-test.false)
