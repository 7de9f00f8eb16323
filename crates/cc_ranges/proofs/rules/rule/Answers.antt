-- The sums and the differences of ends are exact.
use Rattle.std.proofs.Common.{sym, ap, ap₂, ◌∙◌}
use Rattle.cc_num.proofs.Exact.{sum_exact, difference_exact}
use Rattle.cc_ranges.specs.Ends.{fitted}
use Rattle.cc_ranges.specs.Rules.{rule_of}
use Rattle.cc_ranges.proofs.Narrow.{low_narrow, high_narrow}
use Rattle.cc_ranges.proofs.rules.rule.Goals as goal

pub returns-in-Add : goal.returns-in-Add
unfolding rule_of
returns-in-Add c =
    let a = c.args.a.now in
    let b = c.args.b.now in
    c.fitted.ensures
    ∙ ap₂ (λ x y. fitted x y c.args.t c.args.target.now)
    (sum_exact a.low b.low (low_narrow a.low a.high a.ends) (low_narrow b.low b.high b.ends))
    (sum_exact a.high b.high (high_narrow a.low a.high a.ends) (high_narrow b.low b.high b.ends))
    ∙ ap (λ o. rule_of o a.low a.high b.low b.high c.args.t c.args.target.now) (sym c.in-Add.is)

pub returns-in-Sub : goal.returns-in-Sub
unfolding rule_of
returns-in-Sub c =
    let a = c.args.a.now in
    let b = c.args.b.now in
    c.fitted-in-Sub.ensures
    ∙ ap₂ (λ x y. fitted x y c.args.t c.args.target.now)
    (difference_exact a.low b.high (low_narrow a.low a.high a.ends) (high_narrow b.low b.high b.ends))
    (difference_exact a.high b.low (high_narrow a.low a.high a.ends) (low_narrow b.low b.high b.ends))
    ∙ ap (λ o. rule_of o a.low a.high b.low b.high c.args.t c.args.target.now) (sym c.in-Sub.is)
