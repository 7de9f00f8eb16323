use Rattle.std.proofs.Common.{refl}
use Rattle.cc_rules_flows.proofs.PairLemmas.{pair_told, put_between}
use Rattle.cc_rules_flows.proofs.ShapeLemmas.{pair_kept}
use Rattle.cc_rules_flows.proofs.known.put_pair.Goals as goal

pub returns : goal.returns
returns g c =
    let same = put_between (c.args.register, c.args.cell) c.args.fact.now.same c.all.result.now c.all-2.result.now c.new-same.result.items c.put_before.new.all.items c.push.new.self.items c.put_behind.new.all.items c.of.result
    c.all.ensures c.all-2.ensures c.new-same.ensures.items c.in_ok-put_before.ensures c.in_ok-push.ensures.items c.in_ok-put_behind.ensures c.of.ensures in
    record {
      tells = pair_told c.args.fact.now _ c.args.register c.args.cell refl refl refl refl same;
      kept = λ registers cells lr lc. pair_kept registers cells c.args.fact.now _ c.args.register c.args.cell lr lc refl refl same;
    }
