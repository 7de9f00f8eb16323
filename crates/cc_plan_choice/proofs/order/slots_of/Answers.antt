use Rattle.std.proofs.Common.{◌∙◌, ◌≤◌, length, IsSorted, subst, sym, ap, arith}
use Rattle.std.specs.Ordering.{nat_cmp}
use Rattle.std.proofs.lemmas.List.{take_all}
use Rattle.cc_plan_legal.specs.Plans.{slots_of}
use Rattle.cc_plan_choice.proofs.Orders.{slots_sorted}
use Rattle.cc_plan_choice.proofs.order.slots_of.Goals as goal

pub returns-clause-sorted : goal.returns-clause-sorted
returns-clause-sorted c =
    let fields = c.args.fields.now in
    let l : length fields ≤ c.loop-field.field-index = omega arith in
    let e = c.loop-field.invariant ∙ ap slots_of (take_all c.loop-field.field-index fields l) in
    subst (IsSorted nat_cmp) (sym e) (slots_sorted fields c.requires)
