use Rattle.std.proofs.Common.{◌∙◌, ap, sym, ◌++◌, ◌∷◌, [], nat_eq, ℕ, List}
use Rattle.std.specs.List.{position_or_len}
use Rattle.std.proofs.lemmas.List.{take_all}
use Rattle.cc_structures.specs.Ordered.{positions_of}
use Rattle.cc_structures.specs.Structures.{number_of}
use Rattle.cc_structures.specs.View.{known_of, knowns_of}
use Rattle.cc_structures.specs.declared.known.Known.{Known as KnownOf}
use Rattle.cc_structures.proofs.KnownLemmas.{knowns-nil}
use Rattle.cc_structures.proofs.OrderLemmas.{positions-more}
use Rattle.cc_structures.proofs.Steps.{stepped}
use Rattle.cc_structures.proofs.ordered.positions.Goals as goal

pub loop-s-init : goal.loop-s-init
loop-s-init c = c.new-positions.ensures.items ∙ sym (ap (positions_of c.args.numbers.now c.args.found.now.keys) knowns-nil)

pub loop-s-preserved : goal.loop-s-preserved
loop-s-preserved c =
    let n = c.args.numbers.now in
    let found = c.args.found.now.keys in
    stepped (λ ks. positions_of n found (knowns_of ks)) (λ ks b k. b ++ position_or_len (nat_eq (number_of n (known_of k))) found ∷ []) (positions-more n found)
    c.args.knowns.now c.loop-s.s-index c.s-item.result c.loop-s-test.true c.s-item.is _ _
    (c.in_ok-push.ensures.items ∙ ap (λ (p : ℕ). c.loop-s.positions.items ++ p ∷ []) (c.in_ok-position_in.ensures ∙ ap (λ (m : ℕ). position_or_len (nat_eq m) found) c.number_at.ensures)) c.loop-s.invariant

pub returns : goal.returns
returns c =
    c.loop-s.invariant
    ∙ ap (λ (ks : List KnownOf). positions_of c.args.numbers.now c.args.found.now.keys (knowns_of ks)) (take_all c.loop-s.s-index c.args.knowns.now c.loop-s-test.false)
