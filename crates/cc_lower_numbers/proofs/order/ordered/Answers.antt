use Rattle.std.proofs.Common.{◌≡◌, ◌∙◌, ◌∷◌, [], ap, sym, false, length, get_or, replicate}
use Rattle.std.specs.Prelude.{nat_eq, slice_index_or, filter, fold}
use Rattle.std.specs.List.{list_any}
use Rattle.std.proofs.lemmas.List.{length-replicate}
use Rattle.cc_lower_numbers.specs.Order.{is_within, with_one}
use Rattle.cc_lower_numbers.proofs.Orders.{none_seen, firsts-none, firsts-more}
use Rattle.cc_lower_numbers.proofs.order.ordered.Goals as goal

pub loop-number-init : goal.loop-number-init
loop-number-init c =
    let unseen : c.in_ok-seen.seen.items ≡ replicate c.args.end false = c.in_ok-seen.ensures in
    record {
      marks = λ i h. ap (λ l. slice_index_or l i false) unseen ∙ none_seen c.args.end i ∙ ap (list_any (nat_eq i)) (sym c.new-order.ensures.items);
      bound = ap length unseen ∙ length-replicate c.args.end false;
      done = c.new-order.ensures.items ∙ sym firsts-none;
    }

pub loop-number-preserved : goal.loop-number-preserved
loop-number-preserved c =
    let numbers = c.as_slice-numbers.result.now in
    let i = c.loop-number.number-index in
    record {
      marks = c.in_ok-put.ensures.seen;
      bound = c.in_ok-put.ensures.bound ∙ c.loop-number.invariant.bound;
      done =
          c.in_ok-put.ensures.order
          ∙ (λ j. fold with_one (c.loop-number.invariant.done j) (filter (is_within c.args.first (c.loop-number.invariant.bound j)) (get_or numbers i 0 ∷ [])))
          ∙ sym (firsts-more (is_within c.args.first c.args.end) numbers i 0 c.loop-number-test.true);
    }
