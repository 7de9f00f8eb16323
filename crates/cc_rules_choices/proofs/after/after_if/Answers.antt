-- The two tests of an `if`.
use Rattle.std.proofs.Common.{◌≡◌, ◌+◌, [], ◌∷◌, List, true, false, refl, ap, ◌∙◌}
use Rattle.std.proofs.lemmas.Result.{IfOk-weaker}
use Rattle.cc_rules_choices.proofs.Flowing.{all_alike, all_kept, all_worked, does_flow}
use Rattle.cc_rules_choices.proofs.Labels.{if_labels, two_choices}
use Rattle.cc_rules_choices.specs.Choices.{choices_of}
use Rattle.cc_rules_choices.specs.declared.choices.Choice.{Choice}
use Rattle.cc_rules_flows.specs.Acts.{Act, Tests}
use Rattle.cc_rules_flows.specs.Nexts.{behind_in, sides}
use Rattle.cc_rules_tests.specs.declared.tested.Test.TheVariants as made
use Rattle.cc_rules_flows.specs.CcStateOperators.Domains.{domain}
use Rattle.cc_rules_choices.proofs.after.after_if.Goals as goal

pub sides-requires : goal.sides-requires
sides-requires g c =
    let here = c.args.here.now in
    let n = here.number in
    let these = c.args.these.now in
    let those = c.args.those.now in
    let next = here.point.now.next in
    let first = c.size-first.result in
    let second = c.size-second.result in
    let behind = c.behind_in-behind.result in
    let there = c.reached-these_start.result in
    let elsewhere = c.reached-those_start.result in
    let list : List Choice = record { test = made.Is true; point = there } ∷ record { test = made.Is false; point = elsewhere } ∷ [] in
    let same : choices_of list ≡ sides n these those next =
    two_choices n these those next first second behind there elsewhere c.size-first.ensures c.size-second.ensures (c.behind_in-behind.ensures ∙ ap (behind_in n (1 + (first + second))) c.all.ensures) c.reached-these_start.ensures c.reached-those_start.ensures in
    record { here = c.requires.here; may = c.requires.may; labels = if_labels list n these those next same }

pub returns : goal.returns
returns g c =
    let d = (domain g.I.Concrete.Has g.I.Lattice.IsBelow g.I.IntDomain.OpGives g.I.IntDomain.OpOneGives g.I.IntDomain.ToGives g.I.IntDomain.KeepGives g.I.IntDomain.members_of) in
    let e = c.args.e.now in
    let here = c.args.here.now in
    let n = here.number in
    let these = c.args.these.now in
    let those = c.args.those.now in
    let next = here.point.now.next in
    let first = c.size-first.result in
    let second = c.size-second.result in
    let behind = c.behind_in-behind.result in
    let there = c.reached-these_start.result in
    let elsewhere = c.reached-those_start.result in
    let list : List Choice = record { test = made.Is true; point = there } ∷ record { test = made.Is false; point = elsewhere } ∷ [] in
    let same : choices_of list ≡ sides n these those next =
    two_choices n these those next first second behind there elsewhere c.size-first.ensures c.size-second.ensures (c.behind_in-behind.ensures ∙ ap (behind_in n (1 + (first + second))) c.all.ensures) c.reached-these_start.ensures c.reached-those_start.ensures in
    let act : Act = Tests e these those in
    record {
      flows = IfOk-weaker c.sides.result _ _ (λ told h. does_flow d here act e (sides n these those next) refl list same told.items h) c.sides.ensures.flows;
      kept = IfOk-weaker c.sides.result _ _ (λ told h. all_kept d here told.items h) c.sides.ensures.like;
      alike = IfOk-weaker c.sides.result _ _ (λ told h. all_alike d here told.items h) c.sides.ensures.like;
      worked = IfOk-weaker c.sides.result _ _ (λ told h. all_worked d here act e (sides n these those next) refl list same h) c.sides.ensures.worked;
    }
