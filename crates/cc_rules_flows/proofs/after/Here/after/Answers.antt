use Rattle.std.proofs.Common.{◌≡◌, map, ap, ◌∙◌}
use Rattle.std.proofs.lemmas.Result.{IfOk-weaker}
use Rattle.cc_rules_flows.specs.View.{act_view}
use Rattle.cc_rules_flows.proofs.AfterLemmas.{to_each, kept_each}
use Rattle.cc_rules_flows.proofs.after.Here.after.Goals as goal

pub returns-in-Some-clause-flows : goal.returns-in-Some-clause-flows
returns-in-Some-clause-flows g c =
    let h = rw c.in-Some.is at c.in_ok-known.ensures in
    IfOk-weaker c.to_all.result (λ told. told.items ≡ map (λ k. (k, c.in-Some.fact)) c.all.result.now) _
    (λ told e. to_each _ c.args.self.now (act_view c.args.act) c.in-Some.fact told.items h (e ∙ ap (map (λ k. (k, c.in-Some.fact))) c.all.ensures)) c.to_all.ensures

pub returns-in-Some-clause-kept : goal.returns-in-Some-clause-kept
returns-in-Some-clause-kept g c =
    let h = rw c.in-Some.is at c.in_ok-known.ensures in
    IfOk-weaker c.to_all.result (λ told. told.items ≡ map (λ k. (k, c.in-Some.fact)) c.all.result.now) _
    (λ told e. kept_each _ c.args.self.now (act_view c.args.act) c.in-Some.fact told.items h (e ∙ ap (map (λ k. (k, c.in-Some.fact))) c.all.ensures)) c.to_all.ensures
