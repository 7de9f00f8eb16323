-- What is asked of the next points where the same flows to all of them.
use Rattle.std.proofs.Common.{◌≡◌, ◌⊎◌, inl, inr, ◌==◌, ◌<◌, ◌+◌, ℕ, Bool, true, false, not, ◌||◌, cond, List, [], ◌∷◌, ◌++◌, map, length, All, Contains, None, refl, ap, sym, subst, ◌∙◌}
use Rattle.std.specs.List.{filter}
use Rattle.std.proofs.lemmas.Bool.{eq-eqb}
use Rattle.std.proofs.lemmas.List.Elements.{All-nil, All-cons, All-head, All-tail, All-same}
use Rattle.cc_rules_asked.specs.CcPlaces.declared.abs.Abs.{Abs}
use Rattle.cc_rules_asked.specs.CcPlaces.declared.abs.Abs.TheVariants as abs
use Rattle.cc_rules_asked.specs.CcPlaces.Abstract.{AreOfOneKind, IsBelowAbs}
use Rattle.cc_rules_asked.specs.CcPlaces.laws.ListLaws.{at_head, behind_head}
use Rattle.cc_program.specs.declared.expr.Place.{out-Place}
use Rattle.cc_rules_asked.specs.CcRules.Constraints.{Flow}
use Rattle.cc_rules_asked.specs.CcRules.Rules.{ComesToEach}
use Rattle.cc_rules_asked.specs.declared.asked.Asked.{Asked}
use Rattle.cc_rules_asked.specs.Asked.{all_needs}
use Rattle.cc_rules_asked.specs.Asks.{AsksHere}
use Rattle.cc_rules_asked.specs.CcRulesFlows.declared.after.Here.{Here}
use Rattle.cc_rules_asked.specs.CcRulesFlows.Acts.{Act}
use Rattle.cc_rules_asked.specs.CcRulesFlows.Flows.{tests_of, OfSets, OfReads, OfWrites, OfTurns, OfSaves, OfSavesAlone, OfRestores, OfTests, OfReturns, OfPasses, OfCalls}
use Rattle.cc_rules_asked.specs.CcRulesFlows.Here.{FlowsHere, DoesFlow, KeepsShapeHere}
use Rattle.cc_rules_asked.specs.CcRulesFlows.Joins.{flows_to}
use Rattle.cc_rules_asked.specs.CcRulesFlows.Known.{Tells, AreTold}
use Rattle.cc_rules_asked.specs.CcRulesNeeds.Flowing.{Flowing, needs_at, of_fact, with_local, with_pair, with_cell, with_flags}
use Rattle.cc_rules_asked.specs.CcRulesNeeds.Needs.{Needs}
use Rattle.cc_rules_nexts.specs.Told.{point_told, ComesToHere, IsOnward}
use Rattle.cc_rules_nexts.proofs.Copies.{Same, joined_same}
use Rattle.cc_rules_asked.specs.CcStateFacts.declared.facts.PointFact.{PointFact}
use Rattle.cc_rules_asked.specs.CcStateKeys.Tracked.{registers, tracked}
use Rattle.cc_rules_asked.specs.CcStateOperators.Domains.{Domain}
use Rattle.cc_rules_asked.specs.CcStateReads.Reads.{tracked_in}

-- ---- one flow to many points

abbrev In : ℕ → List ℕ → Type 0
In k [] = ⊥
In k (j ∷ js) = (k ≡ j) ⊎ In k js

pub kind_of : {I : Type 0} (x : Abs I) → AreOfOneKind x x
kind_of (abs.Ints x) = tt
kind_of (abs.Addrs s) = tt

module _ {I : Type 0} where
  abbrev all_to : Flowing I → List ℕ → List (ℕ × Flowing I)
  all_to flow ks = map (λ k. (k, flow)) ks

  abbrev of_all : List (ℕ × Flowing I) → List (Flowing I)
  of_all flows = map (λ (a : ℕ × Flowing I). a.1) flows

  next_same : (b : Bool) (flow : Flowing I) (j : ℕ) (rest : List (ℕ × Flowing I)) → Same flow (of_all rest) → Same flow (of_all (cond b ((j, flow) ∷ rest) rest))
  next_same true flow j rest s = (refl, s)
  next_same false flow j rest s = s

  flows_same : (flow : Flowing I) (k : ℕ) (ks : List ℕ) → Same flow (flows_to k (all_to flow ks))
  flows_same flow k [] = tt
  flows_same flow k (j ∷ ks) = next_same (j == k) flow j (filter (λ (a : ℕ × Flowing I). a.0 == k) (all_to flow ks)) (flows_same flow k ks)

  -- a list that is not empty
  abbrev HasFirst : List (Flowing I) → Type 0
  HasFirst flows = (a : Flowing I) × (rest : List (Flowing I)) × (flows ≡ a ∷ rest)

  first_here : (b : Bool) (flow : Flowing I) (j : ℕ) (rest : List (ℕ × Flowing I)) → b ≡ true → HasFirst (of_all (cond b ((j, flow) ∷ rest) rest))
  first_here b flow j rest t = (flow, of_all rest, ap (λ b. of_all (cond b ((j, flow) ∷ rest) rest)) t)

  first_behind : (b : Bool) (flow : Flowing I) (j : ℕ) (rest : List (ℕ × Flowing I)) → HasFirst (of_all rest) → HasFirst (of_all (cond b ((j, flow) ∷ rest) rest))
  first_behind true flow j rest h = (flow, of_all rest, refl)
  first_behind false flow j rest h = h

  present : (flow : Flowing I) (k : ℕ) (ks : List ℕ) → In k ks → HasFirst (flows_to k (all_to flow ks))
  present flow k [] i = absurd i
  present flow k (j ∷ ks) (inl e) = first_here (j == k) flow j (filter (λ (a : ℕ × Flowing I). a.0 == k) (all_to flow ks)) (eq-eqb j k (sym e))
  present flow k (j ∷ ks) (inr i) = first_behind (j == k) flow j (filter (λ (a : ℕ × Flowing I). a.0 == k) (all_to flow ks)) (present flow k ks i)

module _ {I : Type 0} (d : Domain I) (here : Here I) where
  -- where nothing is tested, one flow goes to all next points, or nothing goes to any
  abbrev FlowsAlike : List (ℕ × Flowing I) → Type 0
  FlowsAlike flows = ((flow : Flowing I) × (flows ≡ all_to flow here.point.now.next)) ⊎ (flows ≡ [])

  of_flags : (b : Bool) (flow : Flowing I) (flows : List (ℕ × Flowing I)) → flows ≡ cond b (all_to flow here.point.now.next) [] → FlowsAlike flows
  of_flags true flow flows l = inl (flow, l)
  of_flags false flow flows l = inr l

  flow_alike : (act : Act) (flows : List (ℕ × Flowing I)) → FlowsHere d here act flows → tests_of here.number here.point.now.next act ≡ None → FlowsAlike flows
  flow_alike act flows (OfSets r number e y a b v l) t = inl (with_local number y (of_fact here.fact.now), l)
  flow_alike act flows (OfReads r number a y k b v l) t = inl (with_pair number (tracked_in here.context.program.now (out-Place a)) (with_local number y (of_fact here.fact.now)), l)
  flow_alike act flows (OfWrites a e y k v l) t = inl (with_cell (tracked_in here.context.program.now (out-Place a)) y (of_fact here.fact.now), l)
  flow_alike act flows (OfTurns on k l) t = inl (with_flags (not on) on (of_fact here.fact.now), l)
  flow_alike act flows (OfSaves r number x k b v l) t = inl (with_flags true false (with_local number (abs.Ints x) (of_fact here.fact.now)), l)
  flow_alike act flows (OfSavesAlone k l) t = inl (with_flags true false (of_fact here.fact.now), l)
  flow_alike act flows (OfRestores e y off on k v a b l) t = of_flags (off || on) (with_flags off on (of_fact here.fact.now)) flows l
  flow_alike act flows (OfTests e tests k s) t = absurd (cc)
  flow_alike act flows (OfReturns e k l) t = inl (of_fact here.fact.now, l)
  flow_alike act flows (OfPasses k l) t = inl (of_fact here.fact.now, l)
  flow_alike act flows (OfCalls result g args k l) t = inr l

  -- ---- each is of a next point, and laid out as what is known here

  abbrev IsKept : ℕ × PointFact I → Type 0
  IsKept flow = KeepsShapeHere d here flow.1

  onward_told : (flow : Flowing I) (n : ℕ) (ks : List ℕ) (told : List (ℕ × PointFact I)) → n ≡ length here.context.registers.now → ((k : ℕ) → Contains ks k → Contains here.point.now.next k) → AreTold told (all_to flow ks) → All IsKept told →
      All (IsOnward d here) (map (point_told n) told)
  onward_told flow n [] [] e within z k = All-nil (IsOnward d here)
  onward_told flow n [] (t ∷ told) e within z k = absurd z
  onward_told flow n (j ∷ ks) [] e within z k = absurd z
  onward_told flow n (j ∷ ks) (t ∷ told) e within z k =
      All-cons (IsOnward d here) (point_told n t) (map (point_told n) told) (subst (Contains here.point.now.next) (sym z.0.0) (within j (at_head j ks)), e, All-head IsKept t told k)
      (onward_told flow n ks told e (λ i c. within i (behind_head j ks i c)) z.1 (All-tail IsKept t told k))

  none_onward : (n : ℕ) (told : List (ℕ × PointFact I)) → AreTold {I = I} told [] → All (IsOnward d here) (map (point_told n) told)
  none_onward n [] z = All-nil (IsOnward d here)
  none_onward n (t ∷ told) z = absurd z

  flows_onward : (n : ℕ) (told : List (ℕ × PointFact I)) (flows : List (ℕ × Flowing I)) → FlowsAlike flows → AreTold told flows → n ≡ length here.context.registers.now → All IsKept told → All (IsOnward d here) (map (point_told n) told)
  flows_onward n told flows (inl f) z e k = onward_told f.0 n here.point.now.next told e (λ i c. c) (subst (AreTold told) f.1 z) k
  flows_onward n told flows (inr f) z e k = none_onward n told (subst (AreTold told) f z)

  pub passing_onward : (act : Act) (n : ℕ) (told : List (ℕ × PointFact I)) (list : List (Asked I)) → DoesFlow d here act told → tests_of here.number here.point.now.next act ≡ None → n ≡ length here.context.registers.now → All IsKept told →
      list ≡ map (point_told n) told → All (IsOnward d here) list
  passing_onward act n told list f t e k l = All-same (IsOnward d here) list (map (point_told n) told) l (flows_onward n told f.0 (flow_alike act f.0 f.1 t) f.2 e k)

  abbrev Each : List ℕ → List (ℕ × Flowing I) → Needs I → Type 0
  Each ks flows ns = ComesToEach d here.context.program.now here.facts.now here.number here.context.id here.context.func.now here.point.now here.fact.now ks flows ns

  none_comes : (ks : List ℕ) → Each ks [] []
  none_comes [] = refl
  none_comes (k ∷ ks) = ([], [], refl, none_comes ks, refl)

  abbrev count : ℕ
  count = length (registers here.context.func.now)

  abbrev told_at : ℕ → PointFact I → Needs I
  told_at k fact = needs_at k count (length (tracked here.context.program.now)) (of_fact fact)

  module _ (kind : (x : Abs I) → AreOfOneKind x x) (itself : (x : Abs I) → IsBelowAbs d.below x x) where
    comes : (k : ℕ) (flows : List (Flowing I)) (fact : PointFact I) (flow : Flowing I) → HasFirst flows → Same flow flows → Tells fact flow → ComesToHere d here k flows (told_at k fact)
    comes k flows fact flow f s t =
        subst (λ flows. ComesToHere d here k flows (told_at k fact)) (sym f.2) (of_fact fact, joined_same d.below kind itself flow f.0 f.1 fact (subst (Same flow) f.2 s) t, refl)

    each : (flow : Flowing I) (n : ℕ) (ks next : List ℕ) (told : List (ℕ × PointFact I)) → ((k : ℕ) → In k ks → In k next) → AreTold told (all_to flow ks) → n ≡ count →
        Each ks (all_to flow next) (all_needs here.context.program.now (map (point_told n) told))
    each flow n [] next [] within z e = refl
    each flow n [] next (t ∷ told) within z e = absurd z
    each flow n (k ∷ ks) next [] within z e = absurd z
    each flow n (k ∷ ks) next (t ∷ told) within z e = (
      told_at k t.1,
      all_needs here.context.program.now (map (point_told n) told),
      comes k (flows_to k (all_to flow next)) t.1 flow (present flow k next (within k (inl refl))) (flows_same flow k next) z.0.1,
      each flow n ks next told (λ j i. within j (inr i)) z.1 e,
      ap (λ m. needs_at t.0 m (length (tracked here.context.program.now)) (of_fact t.1) ++ all_needs here.context.program.now (map (point_told n) told)) e
          ∙ ap (λ m. told_at m t.1 ++ all_needs here.context.program.now (map (point_told n) told)) z.0.0,
    )

    none_told : (n : ℕ) (told : List (ℕ × PointFact I)) → AreTold {I = I} told [] → Each here.point.now.next [] (all_needs here.context.program.now (map (point_told n) told))
    none_told n [] z = none_comes here.point.now.next
    none_told n (t ∷ told) z = absurd z

    all_come : (n : ℕ) (told : List (ℕ × PointFact I)) (flows : List (ℕ × Flowing I)) → FlowsAlike flows → AreTold told flows → n ≡ count → Each here.point.now.next flows (all_needs here.context.program.now (map (point_told n) told))
    all_come n told flows (inl f) z e =
        subst (λ flows. Each here.point.now.next flows (all_needs here.context.program.now (map (point_told n) told))) (sym f.1)
        (each f.0 n here.point.now.next here.point.now.next told (λ k i. i) (subst (AreTold told) f.1 z) e)
    all_come n told flows (inr f) z e =
        subst (λ flows. Each here.point.now.next flows (all_needs here.context.program.now (map (point_told n) told))) (sym f) (none_told n told (subst (AreTold told) f z))

    pub passing_asked : (act : Act) (n : ℕ) (told : List (ℕ × PointFact I)) (list : List (Asked I)) → DoesFlow d here act told → tests_of here.number here.point.now.next act ≡ None → n ≡ count → list ≡ map (point_told n) told → AsksHere d here Flow act list
    passing_asked act n told list f t e l =
        subst (AsksHere d here Flow act) (sym l) (f.0, f.1, all_come n told f.0 (flow_alike act f.0 f.1 t) f.2 e)
