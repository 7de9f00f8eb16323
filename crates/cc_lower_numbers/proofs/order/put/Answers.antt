use Rattle.std.proofs.Common.{◌≡◌, ◌∙◌, ◌≤◌, ◌<◌, ap, sym, arith, true, false, length}
use Rattle.std.specs.Prelude.{nat_eq, slice_index_or}
use Rattle.std.specs.List.{list_any}
use Rattle.std.proofs.lemmas.Grind.{common_steps}
use Rattle.cc_lower_numbers.proofs.Orders.{seen-put, put-seen, put-high, put-low}
use Rattle.cc_lower_numbers.proofs.order.put.Goals.{else-first-number-via-then-first-number+then-number-len+else-not-index, else-first-number-via-then-first-number+else-number-len, else-first-number-via-else-first-number}
use Rattle.cc_lower_numbers.proofs.order.put.Goals as goal

pub returns-in_ok-push-clause-seen : goal.returns-in_ok-push-clause-seen
returns-in_ok-push-clause-seen c = λ i h. seen-put c.args.seen.now.items c.args.order.now.items c.args.number c.requires i h ∙ ap (list_any (nat_eq i)) (sym c.in_ok-push.ensures.items)

pub returns-else-first-number-clause-order : goal.returns-else-first-number-clause-order
returns-else-first-number-clause-order c =
    elim c.else-first-number.branch [
      | else-first-number-via-then-first-number+then-number-len+else-not-index w ↦
          let low : c.args.first ≤ c.args.number = omega arith in
          let high : c.args.number < length c.args.seen.now.items = omega arith in
          let old : slice_index_or c.args.seen.now.items c.args.number false ≡ true = grind (arith, common_steps) in
          put-seen c.args.first c.args.number c.args.seen.now.items c.args.order.now.items c.requires low high old
      | else-first-number-via-then-first-number+else-number-len w ↦
          let high : length c.args.seen.now.items ≤ c.args.number = omega arith in put-high c.args.first c.args.number c.args.seen.now.items c.args.order.now.items high
      | else-first-number-via-else-first-number w ↦
          let low : c.args.number < c.args.first = omega arith in put-low c.args.first c.args.number c.args.seen.now.items c.args.order.now.items low
    ]
