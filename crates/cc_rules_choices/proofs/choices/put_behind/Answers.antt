-- A `switch` without `default` goes on behind it.
use Rattle.std.proofs.Common.{refl, sym, ◌∙◌}
use Rattle.cc_rules_choices.proofs.ChoiceLemmas.{choice_on, none_behind, one_behind}
use Rattle.cc_rules_choices.specs.Choices.{choices_of}
use Rattle.cc_rules_flows.specs.Nexts.{has_default}
use Rattle.cc_rules_flows.specs.Tests.{Differs}
use Rattle.cc_rules_choices.proofs.choices.put_behind.Goals as goal

pub returns-then-has_default : goal.returns-then-has_default
returns-then-has_default c =
    none_behind (choices_of c.args.all.now.items) c.args.constants.now (has_default c.args.cases.now) c.args.behind (sym c.has_default.ensures ∙ c.if-has_default.true)

pub returns : goal.returns
returns c =
    one_behind (choices_of c.args.all.now.items) (choices_of c.push.new.self.items) c.args.constants.now (has_default c.args.cases.now) c.args.behind (sym c.has_default.ensures ∙ c.if-has_default.false)
    (choice_on c.args.all.now.items c.push.new.self.items _ c.args.behind (Differs c.args.constants.now) refl c.in_ok-push.ensures.items)
