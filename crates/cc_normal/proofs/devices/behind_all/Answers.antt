use Rattle.std.proofs.Common.{rules, ◌≡◌, ◌∙◌, ap, List, Some, None}
use Rattle.std.specs.List.{flat_map}
use Rattle.cc_program.specs.declared.func.Func.{Func}
use Rattle.cc_syntax.specs.Normal.{next_of, devices_in}
use Rattle.cc_normal.proofs.DeviceLemmas.{next_more, next_stops}
use Rattle.cc_normal.proofs.devices.behind_all.Goals as goal

pub loop-f-preserved : goal.loop-f-preserved
loop-f-preserved c =
    let q : next_of c.loop-f.last (devices_in c.f-item.result.body) ≡ Some c.in_ok-last.last = search rules in
    next_more (λ (f : Func). devices_in f.body) c.args.next c.loop-f.last c.in_ok-last.last c.all-f-items.result.now c.loop-f.f-index c.f-item.result c.loop-f-test.true c.f-item.is c.loop-f.invariant q

pub returns-in_err-last : goal.returns-in_err-last
returns-in_err-last c =
    let q : next_of c.loop-f.last (devices_in c.f-item.result.body) ≡ None = search rules in
    c.from_residual.ensures ∙ next_stops (λ (f : Func). devices_in f.body) c.args.next c.loop-f.last c.all-f-items.result.now c.loop-f.f-index c.f-item.result c.loop-f-test.true c.f-item.is c.loop-f.invariant q
    ∙ ap (λ (fs : List Func). next_of c.args.next (flat_map (λ f. devices_in f.body) fs)) c.all-f-items.ensures
