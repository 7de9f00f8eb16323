use Rattle.std.proofs.Common.{◌∙◌}
use Rattle.cc_rules_flows.proofs.Paths.{cut, led}
use Rattle.cc_rules_flows.proofs.statements.statement_at.Goals as goal

pub returns-in_ok-at-in-len1-up : goal.returns-in_ok-at-in-len1-up
returns-in_ok-at-in-len1-up c =
    c.descended.ensures ∙ led c.args.body.now c.args.path.now _ _ c.in_ok-at-in-len1-up.field-0.now c.in_ok-at-in-len1-up.ensures (cut c.args.path.now _ c.in-len1-up.len_at_least)
