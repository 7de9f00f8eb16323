-- The first that is of the register at the numbers.
use Rattle.std.proofs.Common.{◌≡◌, Some, None, true, ⊎_elim, arith, sym, subst}
use Rattle.std.specs.List.{Contains}
use Rattle.cc_rules_flows.specs.CcPlaces.laws.ListLaws.{all_taken, item_in, none_in, taken_cases}
use Rattle.cc_rules_tests.specs.Trials.{IsTriedAt}
use Rattle.cc_rules_tests.proofs.tried.tried_at.Goals as goal

pub loop-tried-init : goal.loop-tried-init
loop-tried-init g c = λ t k. absurd (none_in t k)

pub loop-tried-preserved : goal.loop-tried-preserved
loop-tried-preserved g c = λ t k at. ⊎_elim (λ l. c.loop-tried.invariant t l at)
    (λ e. let is : c.is_at.result ≡ true = c.is_at.ensures.1 (subst (λ z. IsTriedAt c.args.r c.args.numbers.now z) (sym c.get.ensures) (subst (λ z. IsTriedAt c.args.r c.args.numbers.now z) (sym e) at)) in absurd (cc))
    (taken_cases c.args.all.now c.loop-tried.tried-index c.tried-item.result t c.loop-tried-test.true c.tried-item.is k)

pub returns-then-is_at : goal.returns-then-is_at
returns-then-is_at g c =
    let at = subst (λ z. IsTriedAt c.args.r c.args.numbers.now z) c.get.ensures (c.is_at.ensures.0 c.if-is_at.true) in
    let found = c.in_ok-found.found in
    let there = item_in c.args.all.now c.loop-tried.tried-index c.tried-item.result c.loop-tried-test.true c.tried-item.is in
    record {
      there = (subst (λ z. Contains c.args.all.now z) (sym c.in_ok-found.ensures) there, subst (λ z. IsTriedAt c.args.r c.args.numbers.now z) (sym c.in_ok-found.ensures) at);
      none = λ e. let f : Some found ≡ None = e in absurd (cc);
    }

pub returns : goal.returns
returns g c = record { there = tt; none = λ e t k at. c.loop-tried.invariant t (subst (λ xs. Contains xs t) (sym (all_taken c.args.all.now c.loop-tried.tried-index (omega (arith, c.loop-tried-test.false)))) k) at }
