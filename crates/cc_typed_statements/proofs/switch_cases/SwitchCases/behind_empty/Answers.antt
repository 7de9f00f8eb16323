use Rattle.std.proofs.Common.{true, [], if◌then◌else◌}
use Rattle.cc_typed_statements.proofs.LabelSets.{goes-behind}
use Rattle.cc_typed_statements.proofs.switch_cases.SwitchCases.behind_empty.Goals as goal

pub invariant_of-result : goal.invariant_of-result
invariant_of-result c =
    let statements = if c.self.inside.cases.only_labels then [] else c.args.statements in
    rw c.in_ok-behind_empty.ensures (goes-behind c.self.inside.labels.keys c.self.inside.cases true statements c.self.invariant)
