use Rattle.cc_rules_flows.proofs.KnownLemmas.{flags_told}
use Rattle.cc_rules_flows.proofs.ShapeLemmas.{flags_kept}
use Rattle.cc_rules_flows.proofs.known.set_flags.Goals as goal

pub returns : goal.returns
returns g c = record {
  tells = flags_told c.args.fact.now c.args.off c.args.on;
  kept = λ registers cells. flags_kept registers cells c.args.fact.now c.args.off c.args.on;
}
