use Rattle.cc_typed_statements.proofs.LabelSets.{goes-behind}
use Rattle.cc_typed_statements.proofs.switch_cases.SwitchCases.behind.Goals as goal

pub invariant_of-result : goal.invariant_of-result
invariant_of-result c = rw c.in_ok-behind.ensures (goes-behind c.self.inside.labels.keys c.self.inside.cases c.args.counts c.args.statements c.self.invariant)
