-- Constraints, as the code has them.
use Rattle.cc_rules.specs.Constraints as is
use Rattle.cc_rules_numbered.specs.declared.constraints.Constraint.{Constraint}
use Rattle.cc_rules_numbered.specs.declared.constraints.Rule.{Rule}
use Rattle.cc_rules_numbered.specs.declared.constraints.Rule.TheVariants as rule

abbrev pub rule_view : Rule → is.Rule
rule_view rule.Initial = is.Initial
rule_view rule.Start = is.Start
rule_view rule.Flow = is.Flow
rule_view rule.Write = is.Write
rule_view rule.Touch = is.Touch
rule_view rule.Call = is.Call
rule_view rule.Back = is.Back
rule_view rule.Return = is.Return
rule_view rule.Handler = is.Handler
rule_view rule.Stability = is.Stability

abbrev pub constraint_view : Constraint → is.Constraint
constraint_view c = is.at_point c.point (rule_view c.rule)
