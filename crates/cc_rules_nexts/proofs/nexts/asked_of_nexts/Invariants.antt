use Rattle.std.proofs.Common.{ℕ, List, All, Contains, take}
use Rattle.cc_rules_asked.specs.CcRulesFlows.Here.{KeepsShapeHere}
use Rattle.cc_rules_asked.specs.CcRulesFlows.Known.{AreTold}
use Rattle.cc_rules_asked.specs.CcRulesNeeds.Flowing.{Flowing}
use Rattle.cc_rules_nexts.specs.Told.{ComeToEachHere, IsOnward}
use Rattle.cc_rules_asked.specs.CcStateFacts.declared.facts.PointFact.{PointFact}
use Rattle.cc_rules_asked.specs.CcStateOperators.Domains.{domain}
use Rattle.cc_rules_nexts.proofs.nexts.asked_of_nexts.Given as goal

abbrev pub invariant-loop-next : goal.invariant-loop-next
invariant-loop-next g l =
    let d = (domain g.I.Concrete.Has g.I.Lattice.IsBelow g.I.IntDomain.OpGives g.I.IntDomain.OpOneGives g.I.IntDomain.ToGives g.I.IntDomain.KeepGives g.I.IntDomain.members_of) in
    ((flows : List (ℕ × Flowing g.row.I.Denot)) → AreTold l.told flows → ComeToEachHere d l.here (take l.next-index l.nexts) flows l.asked.items)
    × (All (λ (flow : ℕ × PointFact g.row.I.Denot). KeepsShapeHere d l.here flow.1) l.told → ((k : ℕ) → Contains l.nexts k → Contains l.here.point.now.next k) → All (IsOnward d l.here) l.asked.items)
