-- What is asked of next points by what is told to flow there.
use Rattle.std.specs.Prelude.{◌≡◌, ℕ, List, ◌++◌, length}
use Rattle.std.specs.List.{Contains}
use Rattle.cc_rules_asked.specs.CcRules.Rules.{ComesTo, ComesToEach}
use Rattle.cc_rules_asked.specs.declared.asked.Asked.{Asked}
use Rattle.cc_rules_asked.specs.declared.asked.Asked.TheVariants as asked
use Rattle.cc_rules_asked.specs.Asked.{all_needs}
use Rattle.cc_rules_asked.specs.CcRulesFlows.declared.after.Here.{Here}
use Rattle.cc_rules_asked.specs.CcRulesFlows.Here.{KeepsShapeHere}
use Rattle.cc_rules_asked.specs.CcRulesFlows.Joins.{flows_to}
use Rattle.cc_rules_asked.specs.CcRulesNeeds.Flowing.{Flowing}
use Rattle.cc_rules_asked.specs.CcRulesNeeds.Needs.{Needs}
use Rattle.cc_rules_asked.specs.CcStateFacts.declared.facts.PointFact.{PointFact}
use Rattle.cc_rules_asked.specs.CcStateOperators.Domains.{Domain}

-- of a point of a function with so many registers
abbrev pub point_told : {I : Type 0} → ℕ → ℕ × PointFact I → Asked I
point_told registers flow = asked.Point flow.0 registers flow.1

module _ {I : Type 0} (d : Domain I) (here : Here I) where
  abbrev pub ComesToHere : ℕ → List (Flowing I) → Needs I → Type 0
  ComesToHere k flows ns = ComesTo d here.context.program.now here.facts.now here.number here.context.id here.context.func.now here.point.now here.fact.now k flows ns

  -- what is asked of one more point, by what flows to points
  abbrev pub AskMore : List (ℕ × Flowing I) → ℕ → List (Asked I) → List (Asked I) → Type 0
  AskMore flows k now new = (more : List (Asked I)) × (new ≡ now ++ more) × ComesToHere k (flows_to k flows) (all_needs here.context.program.now more)

  abbrev pub ComeToEachHere : List ℕ → List (ℕ × Flowing I) → List (Asked I) → Type 0
  ComeToEachHere nexts flows list =
      ComesToEach d here.context.program.now here.facts.now here.number here.context.id here.context.func.now here.point.now here.fact.now nexts flows (all_needs here.context.program.now list)

  -- all of a next point, with so many registers as the point's function has, and laid out as what is known at the point
  abbrev pub IsOnward : Asked I → Type 0
  IsOnward (asked.Part slot part) = ⊥
  IsOnward (asked.Point number registers flow) = Contains here.point.now.next number × (registers ≡ length here.context.registers.now) × KeepsShapeHere d here flow
