-- The tests of labels, and that of none.
use Rattle.std.proofs.Common.{◌+◌, length, ap, ◌∙◌}
use Rattle.cc_rules_choices.proofs.ChoiceLemmas.{whole}
use Rattle.cc_rules_choices.proofs.StartLemmas.{starts_length}
use Rattle.cc_rules_choices.specs.Choices.{choices_of}
use Rattle.cc_rules_choices.proofs.choices.choices.Goals as goal

pub label_choices-requires : goal.label_choices-requires
label_choices-requires c = ap length (c.deref.ensures.value ∙ c.in_ok-starts.ensures) ∙ starts_length c.args.cases.now (c.args.number + 1) c.behind_in-behind.result

pub returns : goal.returns
returns c =
    whole c.args.number c.args.cases.now c.args.next.now c.args.constants.now c.deref.result.now c.size_of_cases-size.result c.behind_in-behind.result (choices_of c.in_ok-all.all.items) (choices_of c.put_behind.new.all.items)
    c.size_of_cases-size.ensures c.behind_in-behind.ensures (c.deref.ensures.value ∙ c.in_ok-starts.ensures) c.requires.constants c.in_ok-all.ensures c.in_ok-put_behind.ensures
