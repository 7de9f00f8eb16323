-- What flows to one point, by facts that tell what flows to each: all of it together.
use Rattle.std.specs.Prelude.{◌≡◌, ℕ, ◌==◌, List, [], ◌∷◌, map, Option, Some, None}
use Rattle.std.specs.List.{Contains, filter}
use Rattle.cc_rules_needs.specs.Flowing.{Flowing, of_fact, IsJoined}
use Rattle.cc_rules_needs.specs.Points.{IsFactOf, IsWithFlow}
use Rattle.cc_state_reads.specs.CcStateFacts.declared.facts.PointFact.{PointFact}
use Rattle.cc_state_reads.specs.CcStateFacts.Orders.{ArePointsAlike, AreOrderly}

module _ {I : Type 0} where
  abbrev pub flows_to : ℕ → List (ℕ × Flowing I) → List (Flowing I)
  flows_to k flows = map (λ (a : ℕ × Flowing I). a.1) (filter (λ (a : ℕ × Flowing I). a.0 == k) flows)

  -- those that are told of the point have as many registers and tracked cells, each with values of one kind
  abbrev pub AreAlikeAt : ℕ → List (ℕ × PointFact I) → Type 0
  AreAlikeAt k told = (x y : PointFact I) → Contains told (k, x) → Contains told (k, y) → ArePointsAlike x y

  -- a fact with what is told of a point, where that is the point
  abbrev pub IsWithTold : (I → I → Type 0) → ℕ → Option (PointFact I) → ℕ × PointFact I → Option (PointFact I) → Type 0
  IsWithTold below k known told both = (told.0 ≡ k → (fact : PointFact I) × (both ≡ Some fact) × IsWithFlow below known told.1 fact) × ((told.0 ≡ k → ⊥) → both ≡ known)

  -- none where nothing flows there
  abbrev pub IsTogether : (I → I → Type 0) → List (Flowing I) → Option (PointFact I) → Type 0
  IsTogether below [] both = both ≡ None
  IsTogether below (a ∷ flows) both = (fact : PointFact I) × (both ≡ Some fact) × IsJoined below (a ∷ flows) (of_fact fact)

  -- a fact that is like each that is told of the point; its pairs are in order, and of so many registers and tracked cells, where theirs are
  pub record IsAsThoseAt (k : ℕ) (told : List (ℕ × PointFact I)) (fact : PointFact I) : Type 0 where
    pub alike : (x : PointFact I) → Contains told (k, x) → ArePointsAlike x fact
    pub orderly : ((x : PointFact I) → Contains told (k, x) → AreOrderly x) → AreOrderly fact
    pub of : (registers cells : ℕ) → ((x : PointFact I) → Contains told (k, x) → IsFactOf registers cells x) → IsFactOf registers cells fact
