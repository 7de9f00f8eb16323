use Rattle.std.proofs.Common.{arith, ◌≡◌, ℕ, length, slice_get, ap, ◌∙◌}
use Rattle.std.specs.List.{filter}
use Rattle.cc_rules_asked.specs.CcRulesNeeds.Flowing.{numbers}
use Rattle.cc_rules_readers.specs.Points.{on, group_of, is_that, list_at}
use Rattle.cc_rules_readers.proofs.Grouping.{group_on}
use Rattle.cc_rules_readers.proofs.groups.grouped.Goals as goal

pub loop-point-init : goal.loop-point-init
loop-point-init c b = ap (λ ls. list_at ls b) c.new-lists.ensures.items

pub loop-point-preserved : goal.loop-point-preserved
loop-point-preserved c b = group_on c.args.deeds.now c.args.by b c.loop-point.point c.group_of_point-number.result _ _ (c.loop-point.invariant b) c.group_of_point-number.ensures (c.in_ok-put.ensures b)

pub returns : goal.returns
returns c b =
    let e : c.loop-point.point ≡ length c.args.deeds.now = omega arith in
    c.loop-point.invariant b ∙ ap (λ (n : ℕ). filter (λ m. on (λ deed. is_that (group_of c.args.by deed) b) (slice_get c.args.deeds.now m)) (numbers 0 n)) e
