-- The tests of a `switch`.
use Rattle.std.proofs.Common.{◌≡◌, refl, ap, ◌∙◌}
use Rattle.std.proofs.lemmas.Result.{IfOk-weaker}
use Rattle.cc_rules_choices.proofs.Flowing.{all_alike, all_kept, all_worked, does_flow}
use Rattle.cc_rules_choices.proofs.Labels.{switch_labels}
use Rattle.cc_rules_choices.specs.Choices.{choices_of}
use Rattle.cc_rules_flows.specs.Acts.{Act, Chooses}
use Rattle.cc_rules_flows.specs.Nexts.{choices}
use Rattle.cc_rules_flows.specs.CcStateOperators.Domains.{domain}
use Rattle.cc_rules_choices.proofs.after.after_switch.Goals as goal

pub choices-requires : goal.choices-requires
choices-requires g c = record { few = c.requires.fits.few; constants = c.deref.ensures.value ∙ c.in_ok-constants.ensures }

pub sides-requires : goal.sides-requires
sides-requires g c =
    let here = c.args.here.now in
    let next = here.point.now.next in
    let cases = c.args.cases.now in
    let list = c.deref-2.result.now in
    let same : choices_of list ≡ choices here.number cases next = ap choices_of c.deref-2.ensures.value ∙ (c.in_ok-choices.ensures ∙ ap (choices here.number cases) c.all.ensures) in
    record { here = c.requires.here; may = c.requires.may; labels = switch_labels list here.number cases next same c.requires.fits.labels }

pub returns : goal.returns
returns g c =
    let d = (domain g.I.Concrete.Has g.I.Lattice.IsBelow g.I.IntDomain.OpGives g.I.IntDomain.OpOneGives g.I.IntDomain.ToGives g.I.IntDomain.KeepGives g.I.IntDomain.members_of) in
    let e = c.args.e.now in
    let here = c.args.here.now in
    let next = here.point.now.next in
    let cases = c.args.cases.now in
    let list = c.deref-2.result.now in
    let same : choices_of list ≡ choices here.number cases next = ap choices_of c.deref-2.ensures.value ∙ (c.in_ok-choices.ensures ∙ ap (choices here.number cases) c.all.ensures) in
    let act : Act = Chooses e cases in
    record {
      flows = IfOk-weaker c.sides.result _ _ (λ told h. does_flow d here act e (choices here.number cases next) refl list same told.items h) c.sides.ensures.flows;
      kept = IfOk-weaker c.sides.result _ _ (λ told h. all_kept d here told.items h) c.sides.ensures.like;
      alike = IfOk-weaker c.sides.result _ _ (λ told h. all_alike d here told.items h) c.sides.ensures.like;
      worked = IfOk-weaker c.sides.result _ _ (λ told h. all_worked d here act e (choices here.number cases next) refl list same h) c.sides.ensures.worked;
    }
