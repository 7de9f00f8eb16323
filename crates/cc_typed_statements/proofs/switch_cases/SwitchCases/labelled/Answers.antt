use Rattle.cc_typed_statements.proofs.LabelSets.{goes-labelled}
use Rattle.cc_typed_statements.proofs.switch_cases.SwitchCases.labelled.Goals as goal

pub invariant_of-result : goal.invariant_of-result
invariant_of-result c =
    rw c.in_ok-labelled.ensures (goes-labelled c.self.inside.labels.keys c.insert.new.self.keys c.self.inside.cases c.args.label c.self.invariant c.in_ok-insert.ensures.updates.0)
