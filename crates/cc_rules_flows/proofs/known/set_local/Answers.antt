use Rattle.std.proofs.Common.{slice_set, refl, ap, ◌∙◌}
use Rattle.cc_rules_flows.specs.Known.{is_of_other_register}
use Rattle.cc_rules_flows.proofs.KnownLemmas.{local_told}
use Rattle.cc_rules_flows.proofs.ShapeLemmas.{local_kept}
use Rattle.cc_rules_flows.proofs.known.set_local.Goals as goal

pub returns : goal.returns
returns g c =
    let locals = c.put.ensures ∙ ap (slice_set c.args.fact.now.locals c.args.register) c.in_ok-local.ensures in
    record {
      tells = local_told c.args.fact.now _ c.args.register c.args.set c.requires refl refl refl locals (cc (c.of.ensures, c.in_ok-same.ensures));
      kept = λ registers cells. local_kept registers cells c.args.fact.now _ c.args.register c.args.set (is_of_other_register c.args.register) refl locals (cc (c.of.ensures, c.in_ok-same.ensures));
    }
