-- What flows to one point together is laid out as each that is told of the point.
use Rattle.std.proofs.Common.{arith, ◌≡◌, ◌==◌, ℕ, Bool, true, false, cond, List, [], ◌∷◌, map, All, Contains, Option, Some, refl, sym, subst, ◌∙◌}
use Rattle.std.specs.Prelude.{IfSome}
use Rattle.std.specs.List.{AllZip, filter}
use Rattle.std.proofs.lemmas.List.Elements.{All-contains, length_all_zip}
use Rattle.cc_rules_asked.specs.CcPlaces.Abstract.{AreOfOneKind}
use Rattle.cc_rules_asked.specs.CcPlaces.laws.ListLaws.{at_head, behind_head}
use Rattle.cc_rules_asked.specs.CcRulesFlows.Joins.{flows_to, IsTogether, IsAsThoseAt}
use Rattle.cc_rules_asked.specs.CcRulesFlows.Kept.{AreAsLong, KeepsShape}
use Rattle.cc_rules_asked.specs.CcRulesFlows.Known.{Tells, AreTold}
use Rattle.cc_rules_asked.specs.CcRulesNeeds.Flowing.{Flowing, of_fact}
use Rattle.cc_rules_asked.specs.CcStateFacts.declared.facts.PointFact.{PointFact}
use Rattle.cc_rules_asked.specs.CcStateFacts.declared.facts.Row.{Row}
use Rattle.cc_rules_asked.specs.CcStateFacts.Orders.{AreRowsAlike, ArePointsAlike}

eq_of : (m n : ℕ) → (m == n) ≡ true → m ≡ n
eq_of m n h = grind arith

module _ {I : Type 0} where
  -- ---- what is told, as it flows

  abbrev pub flows_of : List (ℕ × PointFact I) → List (ℕ × Flowing I)
  flows_of told = map (λ (a : ℕ × PointFact I). (a.0, of_fact a.1)) told

  tells_itself : (fact : PointFact I) → Tells fact (of_fact fact)
  tells_itself fact = record { off = refl; on = refl; locals = λ r. refl; cells = λ j. refl; pairs = λ r j. refl }

  pub told_flows : (told : List (ℕ × PointFact I)) → AreTold told (flows_of told)
  told_flows [] = tt
  told_flows (t ∷ told) = ((refl, tells_itself t.1), told_flows told)

  -- ---- where something flows to a point something is told of it

  abbrev IsOneTold : ℕ → List (ℕ × PointFact I) → Type 0
  IsOneTold k told = (x : PointFact I) × Contains told (k, x)

  abbrev HasFirst : List (Flowing I) → Type 0
  HasFirst flows = (a : Flowing I) × (rest : List (Flowing I)) × (flows ≡ a ∷ rest)

  one_by : (k : ℕ) (t : ℕ × PointFact I) (told : List (ℕ × PointFact I)) (b : Bool) (rest : List (ℕ × Flowing I)) → (t.0 == k) ≡ b → (HasFirst (map (λ (a : ℕ × Flowing I). a.1) rest) → IsOneTold k told) →
      HasFirst (map (λ (a : ℕ × Flowing I). a.1) (cond b ((t.0, of_fact t.1) ∷ rest) rest)) → IsOneTold k (t ∷ told)
  one_by k t told true rest is later f = (t.1, subst (λ n. Contains (t ∷ told) (n, t.1)) (eq_of t.0 k is) (at_head t told))
  one_by k t told false rest is later f = let w = later f in (w.0, behind_head t told (k, w.0) w.1)

  one_told : (k : ℕ) (told : List (ℕ × PointFact I)) → HasFirst (flows_to k (flows_of told)) → IsOneTold k told
  one_told k [] (a, rest, e) = absurd (cc)
  one_told k (t ∷ told) f = one_by k t told (t.0 == k) (filter (λ (a : ℕ × Flowing I). a.0 == k) (flows_of told)) refl (one_told k told) f

  has_first : (below : I → I → Type 0) (flows : List (Flowing I)) (fact : PointFact I) → IsTogether below flows (Some fact) → HasFirst flows
  has_first below [] fact t = absurd (cc)
  has_first below (a ∷ flows) fact t = (a, flows, refl)

  -- ---- a fact like one that keeps the shape keeps it

  rows_long : (xs ys zs : List (Row I)) → AllZip AreAsLong xs ys → AllZip AreRowsAlike ys zs → AllZip AreAsLong xs zs
  rows_long [] [] [] h k = tt
  rows_long [] [] (z ∷ zs) h k = absurd k
  rows_long [] (y ∷ ys) zs h k = absurd h
  rows_long (x ∷ xs) [] zs h k = absurd h
  rows_long (x ∷ xs) (y ∷ ys) [] h k = absurd k
  rows_long (x ∷ xs) (y ∷ ys) (z ∷ zs) h k = (h.0 ∙ length_all_zip AreOfOneKind y.cells z.cells k.0, rows_long xs ys zs h.1 k.1)

  module _ (registers cells : ℕ) (old fact : PointFact I) (k : ℕ) (told : List (ℕ × PointFact I)) where
    abbrev IsKept : ℕ × PointFact I → Type 0
    IsKept flow = KeepsShape registers cells old flow.1

    its : All IsKept told → (x : PointFact I) → Contains told (k, x) → KeepsShape registers cells old x
    its kept x c = All-contains IsKept told (k, x) kept c

    kept_by : All IsKept told → IsOneTold k told → IsAsThoseAt k told fact → KeepsShape registers cells old fact
    kept_by kept (x, c) together =
        let own : KeepsShape registers cells old x = its kept x c in
        let alike : ArePointsAlike x fact = together.alike x c in
        record {
          large = record {
            locals = sym (length_all_zip AreOfOneKind x.locals fact.locals alike.locals) ∙ own.large.locals;
            rows = rows_long old.rows x.rows fact.rows own.large.rows alike.rows;
          };
          orderly = λ o. together.orderly (λ y e. (its kept y e).orderly o);
          of = λ f. together.of registers cells (λ y e. (its kept y e).of f);
        }

    -- what flows there together keeps the shape, where all that is told does
    pub joined_kept : (below : I → I → Type 0) (both : Option (PointFact I)) → both ≡ Some fact → All IsKept told → ((flows : List (ℕ × Flowing I)) → AreTold told flows → IsTogether below (flows_to k flows) both) →
        IfSome both (λ (fact : PointFact I). IsAsThoseAt k told fact) → KeepsShape registers cells old fact
    joined_kept below both is kept flows likes =
        kept_by kept (one_told k told (has_first below (flows_to k (flows_of told)) fact (subst (IsTogether below (flows_to k (flows_of told))) is (flows (flows_of told) (told_flows told)))))
        (subst (λ (o : Option (PointFact I)). IfSome o (λ (fact : PointFact I). IsAsThoseAt k told fact)) is likes)
