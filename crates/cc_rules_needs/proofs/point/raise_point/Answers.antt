use Rattle.std.proofs.Common.{Option, Some, None, sym, subst}
use Rattle.std.specs.Prelude.{IfSome}
use Rattle.cc_rules_needs.specs.Points.{ArePointsAlike}
use Rattle.cc_state_facts.specs.declared.facts.PointFact.{PointFact}
use Rattle.cc_state_facts.specs.Facts.{fact_at}
use Rattle.cc_state_facts.specs.laws.OrderLaws.{point_back}
use Rattle.cc_rules_needs.proofs.point.raise_point.Goals as goal

some_back : {I : Type 0} (flow : PointFact I) (o : Option (PointFact I)) → IfSome o (λ fact. ArePointsAlike flow fact) → IfSome o (λ fact. ArePointsAlike fact flow)
some_back flow None h = tt
some_back flow (Some fact) h = point_back flow fact h

pub with_flow-requires : goal.with_flow-requires
with_flow-requires g c = subst (λ o. IfSome o (λ fact. ArePointsAlike fact c.args.flow.now)) (sym c.fact.ensures) (some_back c.args.flow.now (fact_at c.args.facts.now c.args.point) c.requires.alike)
