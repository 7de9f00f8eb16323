use Rattle.std.proofs.Common.{◌∙◌, ap, sym, ◌++◌, ◌∷◌, [], cond, fold, nat_eq, ℕ, List}
use Rattle.std.specs.List.{list_any}
use Rattle.std.proofs.lemmas.List.{take_all}
use Rattle.indexmap.specs.IndexSet.{insert_key}
use Rattle.cc_structures.specs.Ordered.{firsts_behind, classes_of}
use Rattle.cc_structures.specs.Structures.{Known, number_of}
use Rattle.cc_structures.specs.View.{known_of, knowns_of}
use Rattle.cc_structures.specs.declared.known.Known.{Known as KnownOf}
use Rattle.cc_structures.proofs.KnownLemmas.{knowns-nil}
use Rattle.cc_structures.proofs.OrderLemmas.{classes-more, firsts-more}
use Rattle.cc_structures.proofs.Steps.{stepped}
use Rattle.cc_structures.proofs.ordered.put_firsts.Goals as goal

pub loop-s-init : goal.loop-s-init
loop-s-init c =
    let n = c.args.numbers.now in
    record {
      found = c.requires.found ∙ sym (ap (λ (ks : List Known). fold (insert_key nat_eq) [] (classes_of n ks)) knowns-nil);
      firsts = ap knowns_of c.requires.firsts ∙ (knowns-nil ∙ sym (ap (firsts_behind n []) knowns-nil));
    }

pub loop-s-preserved : goal.loop-s-preserved
loop-s-preserved c =
    let n = c.args.numbers.now in
    let ss = c.args.order.now in
    let i = c.loop-s.s-index in
    let s = c.s-item.result in
    record {
      found = stepped (λ ks. fold (insert_key nat_eq) [] (classes_of n (knowns_of ks))) (λ ks b k. insert_key nat_eq b (number_of n (known_of k))) (classes-more n) ss i s c.loop-s-test.true c.s-item.is _ _
          (c.in_ok-put_first.ensures.found ∙ ap (λ (m : ℕ). insert_key nat_eq c.loop-s.found.keys m) c.number_at.ensures) c.loop-s.invariant.found;
      firsts = stepped (λ ks. firsts_behind n [] (knowns_of ks)) (λ ks b k. b ++ cond (list_any (nat_eq (number_of n (known_of k))) (fold (insert_key nat_eq) [] (classes_of n (knowns_of ks)))) [] (known_of k ∷ [])) (firsts-more n) ss i s
          c.loop-s-test.true c.s-item.is _ _
          (c.in_ok-put_first.ensures.firsts
          ∙ (ap (λ (m : ℕ). knowns_of c.loop-s.firsts.items ++ cond (list_any (nat_eq m) c.loop-s.found.keys) [] (known_of s ∷ [])) c.number_at.ensures
          ∙ ap (λ (f : List ℕ). knowns_of c.loop-s.firsts.items ++ cond (list_any (nat_eq (number_of n (known_of s))) f) [] (known_of s ∷ [])) c.loop-s.invariant.found)) c.loop-s.invariant.firsts;
    }

pub returns-clause-found : goal.returns-clause-found
returns-clause-found c =
    c.loop-s.invariant.found
    ∙ ap (λ (ks : List KnownOf). fold (insert_key nat_eq) [] (classes_of c.args.numbers.now (knowns_of ks))) (take_all c.loop-s.s-index c.args.order.now c.loop-s-test.false)

pub returns-clause-firsts : goal.returns-clause-firsts
returns-clause-firsts c =
    c.loop-s.invariant.firsts ∙ ap (λ (ks : List KnownOf). firsts_behind c.args.numbers.now [] (knowns_of ks)) (take_all c.loop-s.s-index c.args.order.now c.loop-s-test.false)
