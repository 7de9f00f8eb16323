use Rattle.std.proofs.Common.{◌++◌, slice_get, sym, ap, ◌∙◌}
use Rattle.std.proofs.lemmas.Result.{on_ok_weaker}
use Rattle.cc_rules_asked.specs.CcFlow.Points.{flow_of}
use Rattle.cc_rules_again.specs.Again.{whole_readers, again_at}
use Rattle.cc_rules_again.specs.Named.{EachKey}
use Rattle.cc_rules_numbered.specs.declared.constraints.Rule.{Rule}
use Rattle.cc_rules_numbered.specs.Numbered.{rule_view}
use Rattle.cc_rules_readers.specs.View.{by_rule, start_readers}
use Rattle.cc_rules_readers.proofs.Rules.{by_default}
use Rattle.cc_rules_readers.proofs.asking.put_readers.Goals as goal

pub returns-in-Initial : goal.returns-in-Initial
returns-in-Initial g c =
    on_ok_weaker c.put_whole_readers.result
    (λ h. h ∙ ap (λ (r : Rule). c.args.list.now.items ++ by_rule r (whole_readers c.args.rules.now.program.now c.args.facts.now EachKey) (start_readers c.args.rules.now.program.now c.args.constraint.point) (again_at c.args.rules.now.program.now c.args.facts.now (rule_view c.args.constraint.rule) c.args.constraint.point (slice_get (flow_of c.args.rules.now.program.now).points c.args.constraint.point)))
    (sym c.in-Initial.is))
    c.put_whole_readers.ensures

pub returns-in-Start : goal.returns-in-Start
returns-in-Start g c =
    on_ok_weaker c.put_start_readers.result
    (λ h. h ∙ ap (λ (r : Rule). c.args.list.now.items ++ by_rule r (whole_readers c.args.rules.now.program.now c.args.facts.now EachKey) (start_readers c.args.rules.now.program.now c.args.constraint.point) (again_at c.args.rules.now.program.now c.args.facts.now (rule_view c.args.constraint.rule) c.args.constraint.point (slice_get (flow_of c.args.rules.now.program.now).points c.args.constraint.point)))
    (sym c.in-Start.is))
    c.put_start_readers.ensures

pub returns-in_default : goal.returns-in_default
returns-in_default g c =
    on_ok_weaker c.put_readers_at.result
    (λ h. h ∙ ap (λ xs. c.args.list.now.items ++ xs)
    (sym (by_default c.args.constraint.rule (whole_readers c.args.rules.now.program.now c.args.facts.now EachKey) (start_readers c.args.rules.now.program.now c.args.constraint.point) (again_at c.args.rules.now.program.now c.args.facts.now (rule_view c.args.constraint.rule) c.args.constraint.point (slice_get (flow_of c.args.rules.now.program.now).points c.args.constraint.point))
    c.in_default.not-Initial c.in_default.not-Start)))
    c.put_readers_at.ensures
