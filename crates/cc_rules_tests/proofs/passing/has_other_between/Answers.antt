-- The numbers that were passed are all among the others; one that no other follows on is not.
use Rattle.std.proofs.Common.{◌≡◌, ◌≤ℤ◌, ◌<ℤ◌, to_z, of_z, ap, refl, sym, subst, ◌∙◌}
use Rattle.std.specs.Int.{w128}
use mir.Facts.{of_z-to_z}
use Rattle.cc_rules_tests.specs.Passing.{IsNext}
use Rattle.cc_rules_tests.proofs.Following.{IsPassed, apart, at_most, falls, next_same, none_passed, one_left, passed_on, reach_same}
use Rattle.cc_rules_tests.proofs.passing.has_other_between.Goals as goal

pub loop-next-init : goal.loop-next-init
loop-next-init c = none_passed _ c.args.others.now (subst IsNext (sym (next_same c.args.low c.requires.start)) c.requires.start)

pub returns-then-end-next : goal.returns-then-end-next
returns-then-end-next c =
    let next = to_z w128 c.loop-next.next-bits in
    let end = c.behind-end.result in
    let same : end ≡ next = sym (next_same end c.behind-end.ensures.next) ∙ ap (to_z w128) c.if-end-next.true in
    let within = subst (λ z. next ≤ℤ z) (reach_same c.args.high c.requires.end) (at_most next (to_z w128 (of_z w128 c.args.high)) c.loop-next-test.true) in
    let passed = subst (λ z. IsPassed z c.args.others.now next) (next_same c.args.low c.requires.start) c.loop-next.invariant in
    ((λ h. one_left c.args.low c.args.high c.args.others.now next end same within c.behind-end.ensures.behind passed), (λ h. refl))

pub loop-next-smaller : goal.loop-next-smaller
loop-next-smaller c =
    let next = to_z w128 c.loop-next.next-bits in
    let end = c.behind-end.result in
    let above = apart next end c.behind-end.ensures.behind.above (λ e. c.if-end-next.false (ap (of_z w128) e ∙ of_z-to_z c.loop-next.auto.next)) in
    falls next (to_z w128 (of_z w128 end)) (to_z w128 (of_z w128 c.args.high)) (at_most next (to_z w128 (of_z w128 c.args.high)) c.loop-next-test.true) (subst (λ z. next <ℤ z) (sym (next_same end c.behind-end.ensures.next)) above)

pub loop-next-preserved : goal.loop-next-preserved
loop-next-preserved c =
    let next = to_z w128 c.loop-next.next-bits in
    let end = c.behind-end.result in
    let low = to_z w128 (of_z w128 c.args.low) in
    subst (λ z. IsPassed low c.args.others.now z) (sym (next_same end c.behind-end.ensures.next)) (passed_on low c.args.others.now next end c.behind-end.ensures.next c.behind-end.ensures.behind c.loop-next.invariant)
