use Rattle.cc_rules_needs.specs.Flowing.{with_flags}
use Rattle.cc_rules_flows.proofs.AfterLemmas.{changed, shaped}
use Rattle.cc_rules_flows.proofs.after.Here.with_flags.Goals as goal

pub returns : goal.returns
returns g c =
    let fact = c.args.self.now.fact.now in
    record {
      tells = changed fact c.in_ok-fact.fact c.set_flags.new.fact (with_flags c.args.off c.args.on) c.in_ok-fact.ensures c.set_flags.ensures.tells;
      kept = shaped _ _ fact c.in_ok-fact.fact c.set_flags.new.fact c.in_ok-fact.ensures (c.set_flags.ensures.kept _ _);
    }
