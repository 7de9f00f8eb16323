use Rattle.cc_rules_flows.proofs.AfterLemmas.{of_saves_alone}
use Rattle.cc_rules_flows.proofs.after.Here.cleared.Goals as goal

pub returns : goal.returns
returns g c = of_saves_alone _ c.args.self.now c.in_ok-fact.fact c.in_ok-fact.ensures.tells c.in_ok-fact.ensures.kept
