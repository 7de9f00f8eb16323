use Rattle.std.proofs.Common.{◌≡◌, ◌∙◌, ◌+◌, None, length, get_or, ap}
use Rattle.cc_order.specs.Places.{with_position}
use Rattle.std.proofs.lemmas.List.{get_or_default}
use Rattle.cc_order.proofs.Firsts.{length_with, positions_more}
use Rattle.cc_order.proofs.positions.first_positions.Goals as goal

pub loop-number-preserved : goal.loop-number-preserved
loop-number-preserved c =
    let ps = c.loop-number.positions.items in
    let i = c.loop-number.number-index in
    let numbers = c.args.numbers.now in
    let x = get_or numbers i 0 in
    let told : c.tell.new.positions.items ≡ with_position ps x i = c.tell.ensures ∙ ap (with_position ps x) c.loop-number.invariant.at in
    let next = c.in_ok-position.ensures in
    record {
      count = ap length told ∙ (length_with ps x i ∙ c.loop-number.invariant.count);
      at = next ∙ ap (λ n. n + 1) c.loop-number.invariant.at;
      told = λ k h. ap (λ l. get_or l k None) told ∙ positions_more ps numbers c.args.count i x c.loop-number.invariant.count c.loop-number-test.true (get_or_default numbers i 0 x c.loop-number-test.true) c.loop-number.invariant.told k h;
    }
