-- Facts that are raised step by step: each step leads to the least facts above the former ones, so all steps lead to the least ones that have
-- what each step needs.
use Rattle.std.proofs.Common.{◌≡◌, ℕ, ◌<◌, ◌++◌, length, subst}
use Rattle.cc_rules_asked.specs.CcFlow.declared.types.Point.{Point}
use Rattle.cc_rules_asked.specs.CcPlaces.declared.abs.Abs.{Abs}
use Rattle.cc_rules_asked.specs.CcPlaces.Abstract.{IsBelowAbs}
use Rattle.cc_program.specs.declared.func.Func.{Func}
use Rattle.cc_program.specs.declared.program.Program.{Program}
use Rattle.cc_rules_asked.specs.CcRulesFlows.Nexts.{IsPoint}
use Rattle.cc_rules_grow.proofs.Elements.{each_all, all_each, each_append, each_split}
use Rattle.cc_rules_asked.proofs.CcRulesNeeds.RaisedPoints.{raised_above, raised_has, raised_least}
use Rattle.cc_rules_asked.proofs.CcRulesNeeds.Through.{facts_itself, facts_through, has_more}
use Rattle.cc_rules_asked.specs.CcRulesNeeds.Needs.{Needs, Has, HasAll, IsBelow}
use Rattle.cc_rules_asked.specs.CcRulesNeeds.Points.{HasFlow, IsRaisedAt}
use Rattle.cc_rules_raised.specs.Steps.{IsStep}
use Rattle.cc_rules_shaped.proofs.Joining.{JoinsTyped}
use Rattle.cc_rules_shaped.proofs.Raising.{raised_shaped}
use Rattle.cc_rules_grow.specs.CcState.Shape.{IsPointFact, HaveShape}
use Rattle.cc_rules_asked.specs.CcStateFacts.declared.facts.Facts.{Facts}
use Rattle.cc_rules_asked.specs.CcStateFacts.declared.facts.PointFact.{PointFact}
use Rattle.cc_rules_asked.specs.CcStateFacts.Facts.{fact_at}
use Rattle.cc_rules_asked.specs.CcStateOperators.Domains.{Domain}

-- the order of a domain, on sets of values
pub record IsOrdered {I : Type 0} (d : Domain I) : Type 0 where
  pub itself : (x : Abs I) → IsBelowAbs d.below x x
  pub through : (x y z : Abs I) → IsBelowAbs d.below x y → IsBelowAbs d.below y z → IsBelowAbs d.below x z

module _ {I : Type 0} (d : Domain I) (o : IsOrdered d) (p : Program) where
  pub step_itself : (ns : Needs I) (f : Facts I) → HaveShape d p f → IsStep d p ns f f
  step_itself ns f shape = record { shape = shape; above = facts_itself d.below o.itself o.through f; least = λ h s b has. b }

  -- for more needs
  pub step_more : (ns ms : Needs I) (f g : Facts I) → ((h : Facts I) → HasAll d.below ms h → HasAll d.below ns h) → IsStep d p ns f g → IsStep d p ms f g
  step_more ns ms f g less s = record { shape = s.shape; above = s.above; least = λ h shape b has. s.least h shape b (less h has) }

  pub has_both : (ns ms : Needs I) (f : Facts I) → HasAll d.below ns f → HasAll d.below ms f → HasAll d.below (ns ++ ms) f
  has_both ns ms f h k = all_each (Has d.below f) (ns ++ ms) (each_append (Has d.below f) ns ms (each_all (Has d.below f) ns h) (each_all (Has d.below f) ms k))

  pub has_first : (ns ms : Needs I) (f : Facts I) → HasAll d.below (ns ++ ms) f → HasAll d.below ns f
  has_first ns ms f h = all_each (Has d.below f) ns (each_split (Has d.below f) ns ms (each_all (Has d.below f) (ns ++ ms) h)).0

  pub has_second : (ns ms : Needs I) (f : Facts I) → HasAll d.below (ns ++ ms) f → HasAll d.below ms f
  has_second ns ms f h = all_each (Has d.below f) ms (each_split (Has d.below f) ns ms (each_all (Has d.below f) (ns ++ ms) h)).1

  -- one step after another one
  pub step_through : (ns ms : Needs I) (f g h : Facts I) → IsStep d p ns f g → IsStep d p ms g h → IsStep d p (ns ++ ms) f h
  step_through ns ms f g h s t = record {
    shape = t.shape;
    above = facts_through d.below o.itself o.through f g h s.above t.above;
    least = λ k shape b has. t.least k shape (s.least k shape b (has_first ns ms k has)) (has_second ns ms k has);
  }

  pub has_later : (ns : Needs I) (f g : Facts I) → IsBelow d.below f g → HasAll d.below ns f → HasAll d.below ns g
  has_later ns f g b h = has_more d.below o.itself o.through f g ns b h

  -- ---- a point that is raised by what serves some needs

  pub record Serves (f : Facts I) (n : ℕ) (flow : PointFact I) (ns : Needs I) : Type 0 where
    pub id : ℕ
    pub func : Func
    pub point : Point
    pub is_point : IsPoint p n id func point
    pub of_flow : IsPointFact d p func flow
    pub gives : (g : Facts I) → HasFlow d.below flow (fact_at g n) → HasAll d.below ns g
    pub wants : (h : Facts I) → HaveShape d p h → IsBelow d.below f h → HasAll d.below ns h → HasFlow d.below flow (fact_at h n)

  module _ (joins : JoinsTyped d) (f g : Facts I) (shape : HaveShape d p f) (n : ℕ) (flow : PointFact I) (ns : Needs I) (serves : Serves f n flow ns) (l : n < length f.at) (raised : IsRaisedAt d.below f n flow g) where
    pub raised_step : IsStep d p ns f g
    raised_step = record {
      shape = raised_shaped d joins p f g shape n serves.id serves.func serves.point flow serves.is_point serves.of_flow raised;
      above = raised_above d.below o.itself o.through f g n flow l raised;
      least = λ h s b has. raised_least d.below o.itself o.through f g n flow l raised h b (serves.wants h s b has);
    }

    pub raised_gives : HasAll d.below ns g
    raised_gives = serves.gives g (raised_has d.below o.itself o.through f g n flow l raised)

    -- then they are other facts, where the old ones had not what flows there
    pub raised_other : (HasFlow d.below flow (fact_at f n) → ⊥) → g ≡ f → ⊥
    raised_other lacks e = lacks (subst (λ (x : Facts I). HasFlow d.below flow (fact_at x n)) e (raised_has d.below o.itself o.through f g n flow l raised))
