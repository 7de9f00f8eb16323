use Rattle.std.proofs.Common.{◌∙◌, ap, sym, ◌++◌, ◌∷◌, [], cond, ℕ, Bool, List}
use Rattle.std.specs.List.{list_any}
use Rattle.std.proofs.lemmas.List.{take_all}
use Rattle.indexmap.specs.IndexSet.{insert_key}
use Rattle.cc_structures.specs.Ordered.{same_seen, seen_of, first_key, first_keys_behind}
use Rattle.cc_structures.specs.View.{known_of, knowns_of, lists_of}
use Rattle.cc_structures.specs.declared.firsts.Seen.{Seen}
use Rattle.cc_structures.specs.declared.known.Known.{Known as KnownOf}
use Rattle.cc_structures.proofs.FirstLemmas.{seen_in, seen_in-more, seen_in-nil, first_keys-more, first_keys-nil}
use Rattle.cc_structures.proofs.KeyLemmas.{lists-more, lists-nil}
use Rattle.cc_structures.proofs.Steps.{stepped}
use Rattle.cc_structures.proofs.firsts.put_first_keys.Goals as goal

pub loop-s-init : goal.loop-s-init
loop-s-init c = record {
  seen = c.requires.seen ∙ sym (seen_in-nil c.args.numbers.now);
  keys = ap lists_of c.requires.keys ∙ (lists-nil ∙ sym (first_keys-nil c.args.numbers.now));
}

pub loop-s-preserved : goal.loop-s-preserved
loop-s-preserved c =
    let n = c.args.numbers.now in
    let ss = c.args.knowns.now in
    let i = c.loop-s.s-index in
    let s = c.s-item.result in
    record {
      seen = stepped (λ ks. seen_in n (knowns_of ks)) (λ ks b k. insert_key same_seen b (seen_of n (known_of k))) (seen_in-more n) ss i s c.loop-s-test.true c.s-item.is _ _
          (c.in_ok-was_seen.ensures.seen ∙ ap (λ (m : ℕ). insert_key same_seen c.loop-s.seen.keys (record { text = s.text; number = m })) c.number_at-number.ensures) c.loop-s.invariant.seen;
      keys = stepped (λ ks. first_keys_behind n [] (knowns_of ks)) (λ ks b k. b ++ first_key n (list_any (same_seen (seen_of n (known_of k))) (seen_in n (knowns_of ks))) (known_of k) ∷ []) (first_keys-more n) ss i s c.loop-s-test.true c.s-item.is _ _
          (ap lists_of c.in_ok-push.ensures.items
          ∙ (lists-more _ _
          ∙ ap (λ k. lists_of c.loop-s.keys.items ++ k ∷ []) (c.in_ok-first_key_of.ensures
          ∙ (ap (λ (m : ℕ). m ∷ cond c.in_ok-was_seen.was_seen (s.text ∷ s.position ∷ []) []) c.number_at-number.ensures
          ∙ ap (λ (b : Bool). first_key n b (known_of s)) (c.in_ok-was_seen.ensures.was
          ∙ (ap (λ (m : ℕ). list_any (same_seen (record { text = s.text; number = m })) c.loop-s.seen.keys) c.number_at-number.ensures
          ∙ ap (λ (f : List Seen). list_any (same_seen (seen_of n (known_of s))) f) c.loop-s.invariant.seen)))))) c.loop-s.invariant.keys;
    }

pub returns : goal.returns
returns c =
    c.loop-s.invariant.keys
    ∙ ap (λ (ks : List KnownOf). first_keys_behind c.args.numbers.now [] (knowns_of ks)) (take_all c.loop-s.s-index c.args.knowns.now c.loop-s-test.false)
