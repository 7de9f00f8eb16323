use Rattle.std.proofs.Common.{ℕ, List, All, sym, subst}
use Rattle.std.proofs.lemmas.Result.{IfOk-weaker}
use Rattle.cc_rules_asked.specs.CcRules.Constraints.{Flow}
use Rattle.cc_rules_asked.specs.Asks.{AsksHere}
use Rattle.cc_state_points.specs.CcRulesFlows.Acts.{Act, Chooses}
use Rattle.cc_state_points.specs.CcRulesFlows.Here.{FlowsHere, KeepsShapeHere}
use Rattle.cc_state_points.specs.CcRulesFlows.Joins.{AreAlikeAt}
use Rattle.cc_state_points.specs.CcRulesFlows.Known.{AreTold}
use Rattle.cc_state_points.specs.CcRulesNeeds.Flowing.{Flowing}
use Rattle.cc_state_points.specs.CcStateFacts.declared.facts.PointFact.{PointFact}
use Rattle.cc_state_points.specs.CcStateOperators.Domains.{domain}
use Rattle.cc_rules_nexts.specs.Told.{IsOnward}
use Rattle.cc_rules_onward.proofs.Untested.{always}
use Rattle.cc_rules_onward.proofs.flows.asked_by_switch.Goals as goal

pub after_switch-requires : goal.after_switch-requires
after_switch-requires g c = record { here = c.requires.here; may = c.requires.may; fits = c.requires.fits }

pub asked_of_told-requires : goal.asked_of_told-requires
asked_of_told-requires g c = record { here = c.requires.here; alike = subst (λ (told : List (ℕ × PointFact g.row.I.Denot)). (k : ℕ) → AreAlikeAt k told) (sym c.as_slice.ensures.value) c.in_ok-told.ensures.alike }

pub returns-clause-asked : goal.returns-clause-asked
returns-clause-asked g c =
    let d = (domain g.I.Concrete.Has g.I.Lattice.IsBelow g.I.IntDomain.OpGives g.I.IntDomain.OpOneGives g.I.IntDomain.ToGives g.I.IntDomain.KeepGives g.I.IntDomain.members_of) in
    let told = c.in_ok-told.ensures.flows in
    IfOk-weaker c.asked_of_told.result (λ list. (act : Act) (flows : List (ℕ × Flowing g.row.I.Denot)) → FlowsHere d c.args.here.now act flows → AreTold c.as_slice.result.now flows → AsksHere d c.args.here.now Flow act list.items) _
    (λ list h. h (Chooses c.args.e.now c.args.cases.now) told.0 told.1 (subst (λ (list : List (ℕ × PointFact g.row.I.Denot)). AreTold list told.0) (sym c.as_slice.ensures.value) told.2)) c.asked_of_told.ensures.asked

pub returns-clause-worked : goal.returns-clause-worked
returns-clause-worked g c = always c.asked_of_told.result _ c.in_ok-told.ensures.worked

pub returns-clause-onward : goal.returns-clause-onward
returns-clause-onward g c =
    let d = (domain g.I.Concrete.Has g.I.Lattice.IsBelow g.I.IntDomain.OpGives g.I.IntDomain.OpOneGives g.I.IntDomain.ToGives g.I.IntDomain.KeepGives g.I.IntDomain.members_of) in
    let kept = subst (λ (list : List (ℕ × PointFact g.row.I.Denot)). All (λ (flow : ℕ × PointFact g.row.I.Denot). KeepsShapeHere d c.args.here.now flow.1) list) (sym c.as_slice.ensures.value) c.in_ok-told.ensures.kept in
    IfOk-weaker c.asked_of_told.result (λ list. All (λ (flow : ℕ × PointFact g.row.I.Denot). KeepsShapeHere d c.args.here.now flow.1) c.as_slice.result.now → All (IsOnward d c.args.here.now) list.items) _ (λ list h. h kept) c.asked_of_told.ensures.onward
