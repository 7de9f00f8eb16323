-- What flows from the tests of a statement is what flows from its point.
use Rattle.std.proofs.Common.{◌≡◌, ℕ, All, List, [], ◌∷◌, map, Some, ⊎_elim, sym, subst, ◌∙◌}
use Rattle.std.specs.List.{Contains}
use Rattle.std.proofs.lemmas.List.Elements.{All-contains, All-weaker}
use Rattle.std.proofs.lemmas.Option.{same_Some}
use Rattle.cc_rules_flows.specs.CcPlaces.Abstract.{AreOfOneKind}
use Rattle.cc_rules_flows.specs.CcPlaces.declared.abs.Abs.{Abs}
use Rattle.cc_rules_flows.specs.CcPlaces.declared.abs.Abs.TheVariants as abs
use Rattle.cc_rules_flows.specs.CcPlaces.laws.ListLaws.{behind_head, cons_cases, at_head, none_in}
use Rattle.cc_program.specs.declared.expr.Expr.{Expr}
use Rattle.cc_rules_choices.specs.Choices.{AreTestsWorkedHere, choice_of, choices_of}
use Rattle.cc_rules_choices.specs.declared.choices.Choice.{Choice}
use Rattle.cc_rules_choices.specs.Sided.{AreSidesHere, AreWorkedHere, DoFlow, IsLike}
use Rattle.cc_rules_flows.specs.Acts.{Act}
use Rattle.cc_rules_flows.specs.declared.after.Here.{Here}
use Rattle.cc_rules_flows.specs.Flows.{OfTests, tests_of}
use Rattle.cc_rules_flows.specs.Here.{DoesFlow, KeepsShapeHere}
use Rattle.cc_rules_flows.specs.Joins.{AreAlikeAt}
use Rattle.cc_rules_flows.specs.Tests.{Test}
use Rattle.cc_rules_tests.specs.Tested.{test_of}
use Rattle.cc_rules_flows.specs.CcStateFacts.declared.facts.PointFact.{PointFact}
use Rattle.cc_rules_flows.specs.CcStateFacts.declared.facts.Row.{Row}
use Rattle.cc_rules_flows.specs.CcStateFacts.laws.OrderLaws.{point_back}
use Rattle.cc_rules_flows.specs.CcStateFacts.laws.Places.{zip_through}
use Rattle.cc_rules_flows.specs.CcStateFacts.Orders.{ArePointsAlike, AreRowsAlike}
use Rattle.cc_rules_flows.specs.CcStateOperators.Domains.{Domain}

in_map : {A B : Type 0} (f : A → B) (xs : List A) (y : B) → Contains (map f xs) y → (x : A) × Contains xs x × (f x ≡ y)
in_map f [] y h = absurd (none_in y h)
in_map f (x ∷ xs) y h = ⊎_elim (λ e. (x, at_head x xs, e)) (λ k. later (in_map f xs y k)) (cons_cases (f x) (map f xs) y h)
  where
    later : ((z : _) × Contains xs z × (f z ≡ y)) → (z : _) × Contains (x ∷ xs) z × (f z ≡ y)
    later (z, c, e) = (z, behind_head x xs z c, e)

module _ {I : Type 0} where
  kind_through : (x y z : Abs I) → AreOfOneKind x y → AreOfOneKind y z → AreOfOneKind x z
  kind_through (abs.Ints a) (abs.Ints b) (abs.Ints c) h k = tt
  kind_through (abs.Ints a) (abs.Ints b) (abs.Addrs s) h k = absurd k
  kind_through (abs.Ints a) (abs.Addrs r) z h k = absurd h
  kind_through (abs.Addrs r) (abs.Ints b) z h k = absurd h
  kind_through (abs.Addrs r) (abs.Addrs s) (abs.Ints c) h k = absurd k
  kind_through (abs.Addrs r) (abs.Addrs s) (abs.Addrs t) h k = tt

  row_through : (x y z : Row I) → AreRowsAlike x y → AreRowsAlike y z → AreRowsAlike x z
  row_through x y z h k = zip_through AreOfOneKind kind_through x.cells y.cells z.cells h k

  point_through : (x y z : PointFact I) → ArePointsAlike x y → ArePointsAlike y z → ArePointsAlike x z
  point_through x y z h k = record {
    locals = zip_through AreOfOneKind kind_through x.locals y.locals z.locals h.locals k.locals;
    rows = zip_through AreRowsAlike row_through x.rows y.rows z.rows h.rows k.rows;
  }

module _ {I : Type 0} (d : Domain I) (here : Here I) where
  abbrev pub IsFlowLike : ℕ × PointFact I → Type 0
  IsFlowLike flow = IsLike d here flow.1

  pub all_kept : (told : List (ℕ × PointFact I)) → All IsFlowLike told → All (λ (flow : ℕ × PointFact I). KeepsShapeHere d here flow.1) told
  all_kept told h = All-weaker IsFlowLike (λ flow. KeepsShapeHere d here flow.1) (λ flow k. k.kept) told h

  pub all_alike : (told : List (ℕ × PointFact I)) → All IsFlowLike told → (k : ℕ) → AreAlikeAt k told
  all_alike told h k x y a b =
      let first = All-contains IsFlowLike told (k, x) h a in
      let second = All-contains IsFlowLike told (k, y) h b in
      point_through x here.fact.now y (point_back here.fact.now x first.alike) second.alike

  module _ (act : Act) (e : Expr) (tests : List (Test × ℕ)) (is : tests_of here.number here.point.now.next act ≡ Some (e, tests)) (choices : List Choice) (same : choices_of choices ≡ tests) where
    pub does_flow : (told : List (ℕ × PointFact I)) → DoFlow d here e (choices_of choices) told → DoesFlow d here act told
    does_flow told (flows, sides, tell) = (flows, OfTests e tests is (subst (λ ts. AreSidesHere d here e ts flows) same sides), tell)

    worked_at : ((choice : Choice) → Contains choices choice → AreWorkedHere d here e (test_of choice.test)) → (t : Test × ℕ) → Contains tests t → AreWorkedHere d here e t.0
    worked_at h t k =
        let w = in_map choice_of choices t (subst (λ ts. Contains ts t) (sym same) k) in
        subst (λ (z : Test × ℕ). AreWorkedHere d here e z.0) w.2 (h w.0 w.1)

    abbrev ArePairsSame : Expr × List (Test × ℕ) → Expr × List (Test × ℕ) → Type 0
    ArePairsSame u v = u ≡ v

    pub all_worked : ((choice : Choice) → Contains choices choice → AreWorkedHere d here e (test_of choice.test)) → AreTestsWorkedHere d here act
    all_worked h q ts there t k =
        let pair : ArePairsSame (e, tests) (q, ts) = same_Some {A = Expr × List (Test × ℕ)} (e, tests) (q, ts) (sym is ∙ there) in
        let in_tests : Contains tests t = subst (λ (z : Expr × List (Test × ℕ)). Contains z.1 t) (sym pair) k in
        subst (λ (z : Expr × List (Test × ℕ)). AreWorkedHere d here z.0 t.0) pair (worked_at h t in_tests)
