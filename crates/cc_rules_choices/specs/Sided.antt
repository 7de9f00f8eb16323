-- A test at a point that is reached, as the code has it, and what then flows.
use Rattle.std.specs.Prelude.{◌≡◌, ℕ, ℤ, List, [], ◌∷◌, length, Option, Some, None, slice_get}
use Rattle.cc_rules_flows.specs.CcPlaces.Abstract.{HasValue}
use Rattle.cc_rules_flows.specs.CcPlaces.declared.abs.Abs.{Abs}
use Rattle.cc_program.specs.declared.expr.Expr.{Expr}
use Rattle.cc_program.specs.declared.value.Value.{Value}
use Rattle.cc_rules_flows.specs.declared.after.Here.{Here}
use Rattle.cc_rules_flows.specs.Flows.{AreSides, Side, IsSide}
use Rattle.cc_rules_flows.specs.Here.{KeepsShapeHere}
use Rattle.cc_rules_flows.specs.Known.{AreTold}
use Rattle.cc_rules_flows.specs.Tests.{Test}
use Rattle.cc_rules_flows.specs.Worked.{AreWorked, IsMember}
use Rattle.cc_rules_flows.specs.CcRulesNeeds.Flowing.{Flowing, of_fact}
use Rattle.cc_rules_flows.specs.CcRulesNeeds.Points.{IsFactOf}
use Rattle.cc_rules_tests.specs.Tested.{IsValWith}
use Rattle.cc_rules_flows.specs.CcStateFacts.declared.facts.PointFact.{PointFact}
use Rattle.cc_rules_flows.specs.CcStateFacts.Facts.{local_of}
use Rattle.cc_rules_flows.specs.CcStateFacts.Orders.{ArePointsAlike}
use Rattle.cc_rules_flows.specs.CcStateKeys.Tracked.{registers}
use Rattle.cc_rules_flows.specs.CcStateOperators.Domains.{Domain, IsHull}
use Rattle.cc_rules_flows.specs.CcStateValues.Contexts.{IsPureIn}

-- what flows to a point, if anything does
abbrev pub flow_to : {I : Type 0} → ℕ → Option (PointFact I) → List (ℕ × Flowing I)
flow_to k None = []
flow_to k (Some fact) = (k, of_fact fact) ∷ []

module _ {I : Type 0} (d : Domain I) (here : Here I) where
  -- each register that had a value has one
  abbrev pub HasLeft : Flowing I → Type 0
  HasLeft flow = (number : ℕ) (y z : Abs I) (v : Value) → local_of here.fact.now number ≡ Some y → flow.local number ≡ Some z → HasValue d.has y v → (w : Value) × HasValue d.has z w

  -- a fact of the shape of what is known at the point, with values of the same kinds
  pub record IsLike (fact : PointFact I) : Type 0 where
    pub kept : KeepsShapeHere d here fact
    pub alike : ArePointsAlike here.fact.now fact

module _ {I : Type 0} (d : Domain I) (here : Here I) (e : Expr) where
  -- a pure expression, at a point with what is known of so many registers and tracked cells
  pub record MayTest : Type 0 where
    pub pure : IsPureIn d here.context e
    pub of : IsFactOf (length here.context.registers.now) (length here.tracked.now) here.fact.now

  abbrev pub SideHere : Test → ℕ → List (ℕ × Flowing I) → Type 0
  SideHere test k flows = Side d here.context.program.now here.context.id here.context.func.now here.facts.now here.point.now here.number here.fact.now e test k flows

  abbrev pub AreSidesHere : List (Test × ℕ) → List (ℕ × Flowing I) → Type 0
  AreSidesHere tests flows = AreSides d here.context.program.now here.context.id here.context.func.now here.facts.now here.point.now here.number here.fact.now e tests flows

  abbrev pub IsSideHere : Test → Flowing I → Type 0
  IsSideHere test flow = IsSide d here.context.program.now here.context.id here.context.func.now here.facts.now here.point.now here.number here.fact.now e test flow

  -- the value has been worked with each register at the members of its set, and of what is left of those of cells that equal it
  abbrev pub AreMembersWorked : Test → Type 0
  AreMembersWorked test = (number r : ℕ) (m : ℤ) → slice_get (registers here.context.func.now) number ≡ Some r →
      IsMember d here.context.program.now here.context.id here.context.func.now here.facts.now here.point.now here.number here.fact.now e test number r m →
      (one : I) × (y : Abs I) × IsHull d (λ k. k ≡ m) one × IsValWith d here.context r one e y

  abbrev pub AreWorkedHere : Test → Type 0
  AreWorkedHere test = AreWorked d here.context.program.now here.context.id here.context.func.now here.facts.now here.point.now here.number here.fact.now e test

  -- what is known at the point, as a test leaves it, where each register that had a value has one
  abbrev pub IsRefined : Test → Option (PointFact I) → Type 0
  IsRefined test None = (flow : Flowing I) × IsSideHere test flow × (HasLeft d here flow → ⊥)
  IsRefined test (Some fact) = IsSideHere test (of_fact fact) × HasLeft d here (of_fact fact)

  abbrev pub IsSideTold : Test → Option (PointFact I) → Type 0
  IsSideTold test told = (k : ℕ) → SideHere test k (flow_to k told)

  -- facts that tell what flows from the tests, each with the point to which it does
  abbrev pub DoFlow : List (Test × ℕ) → List (ℕ × PointFact I) → Type 0
  DoFlow tests told = (flows : List (ℕ × Flowing I)) × AreSidesHere tests flows × AreTold told flows

-- what is told of a point, if anything is
abbrev pub fact_to : {I : Type 0} → ℕ → Option (PointFact I) → List (ℕ × PointFact I)
fact_to k None = []
fact_to k (Some fact) = (k, fact) ∷ []
