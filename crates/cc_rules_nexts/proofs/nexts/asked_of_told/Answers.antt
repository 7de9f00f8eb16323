use Rattle.std.proofs.Common.{ℕ, List, All, Contains, subst}
use Rattle.std.proofs.lemmas.Result.{IfOk-weaker}
use Rattle.cc_rules_asked.specs.CcRulesFlows.Here.{KeepsShapeHere}
use Rattle.cc_rules_asked.specs.CcRulesFlows.Known.{AreTold}
use Rattle.cc_rules_asked.specs.CcRulesNeeds.Flowing.{Flowing}
use Rattle.cc_rules_nexts.specs.Told.{ComeToEachHere, IsOnward}
use Rattle.cc_rules_asked.specs.CcStateFacts.declared.facts.PointFact.{PointFact}
use Rattle.cc_rules_asked.specs.CcStateOperators.Domains.{domain}
use Rattle.cc_rules_nexts.proofs.nexts.asked_of_told.Goals as goal

pub asked_of_nexts-requires : goal.asked_of_nexts-requires
asked_of_nexts-requires g c = record { here = c.requires.here; alike = c.requires.alike }

pub returns : goal.returns
returns g c =
    let d = (domain g.I.Concrete.Has g.I.Lattice.IsBelow g.I.IntDomain.OpGives g.I.IntDomain.OpOneGives g.I.IntDomain.ToGives g.I.IntDomain.KeepGives g.I.IntDomain.members_of) in
    let here = c.args.here.now in
    record {
      asked =
          IfOk-weaker c.asked_of_nexts.result (λ list. (flows : List (ℕ × Flowing g.row.I.Denot)) → AreTold c.args.told.now flows → ComeToEachHere d here c.all.result.now flows list.items) _
          (λ list e act flows f t. (flows, f, subst (λ ks. ComeToEachHere d here ks flows list.items) c.all.ensures (e flows t))) c.asked_of_nexts.ensures.asked;
      onward =
          IfOk-weaker c.asked_of_nexts.result
          (λ list. All (λ (flow : ℕ × PointFact g.row.I.Denot). KeepsShapeHere d here flow.1) c.args.told.now → ((k : ℕ) → Contains c.all.result.now k → Contains here.point.now.next k) → All (IsOnward d here) list.items) _
          (λ list e kept. e kept (λ k there. subst (λ (ks : List ℕ). Contains ks k) c.all.ensures there)) c.asked_of_nexts.ensures.onward;
    }
