use Rattle.std.proofs.Common.{◌++◌, append-nil, sym, ap, ◌∙◌}
use Rattle.cc_rules_readers.specs.Points.{concern_any}
use Rattle.cc_rules_readers.specs.View.{named_view}
use Rattle.cc_rules_readers.proofs.Unstable.{none_unstable}
use Rattle.cc_rules_readers.proofs.stability.put_stability_readers.Goals as goal

pub returns-else-has_tracked : goal.returns-else-has_tracked
returns-else-has_tracked g c =
    sym (ap (λ xs. c.args.list.now.items ++ xs) (none_unstable c.args.rules.now.program.now c.args.facts.now (named_view c.args.keys)
    (sym (c.if-has_tracked.ensures ∙ ap (concern_any (named_view c.args.keys)) (c.all-objects.ensures ∙ c.requires.rules.tracked)))) ∙ append-nil c.args.list.now.items)
