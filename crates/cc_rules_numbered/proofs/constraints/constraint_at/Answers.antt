use Rattle.std.proofs.Common.{arith, ap, ◌∙◌, slice_get}
use Rattle.cc_rules.specs.Constraints.{constraints}
use Rattle.cc_rules_numbered.proofs.Places.{first_constraint, constraint_of}
use Rattle.cc_rules_numbered.proofs.constraints.constraint_at.Goals as goal
use Rattle.cc_rules_numbered.specs.Numbered.{rule_view}

pub returns-then-number-eq0 : goal.returns-then-number-eq0
returns-then-number-eq0 c p l = ap (slice_get (constraints p)) c.if-number-eq0.true ∙ first_constraint p

pub returns : goal.returns
returns c p l =
    let some = c.if-number-eq0.false in
    let b = c.args.number in
    constraint_of p c.args.number _ _ (rule_view c.rule_at-rule.result) (omega arith) (omega arith) l c.rule_at-rule.ensures
