-- The negations of ends are exact.
use Rattle.std.proofs.Common.{sym, ap, ap₂, ◌∙◌}
use Rattle.cc_ranges.specs.Ends.{fitted}
use Rattle.cc_ranges.specs.Rules.{rule_of_one}
use Rattle.cc_ranges.proofs.Narrow.{low_narrow, high_narrow, negated_exact}
use Rattle.cc_ranges.proofs.rules.rule_of_one.Goals as goal

pub returns-in-Neg : goal.returns-in-Neg
unfolding rule_of_one
returns-in-Neg c =
    let a = c.args.a.now in
    c.fitted.ensures
    ∙ ap₂ (λ x y. fitted x y c.args.t c.args.target.now) (negated_exact a.high (high_narrow a.low a.high a.ends)) (negated_exact a.low (low_narrow a.low a.high a.ends))
    ∙ ap (λ o. rule_of_one o a.low a.high c.args.t c.args.target.now) (sym c.in-Neg.is)
