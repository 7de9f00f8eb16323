-- What a statement lets flow from a point grows with the facts, and so does what its next points are asked to have.
use Rattle.std.proofs.Common.{arith, ◌≡◌, inl, inr, ℕ, ◌<◌, ℤ, Bool, true, false, true≢false, not, ◌||◌, List, [], ◌∷◌, length, Contains, Some, None, refl, sym, ◌∙◌, subst}
use Rattle.std.specs.Prelude.{if◌then◌else◌}
use Rattle.std.proofs.lemmas.Option.{same_Some}
use Rattle.cc_rules.specs.CcFlow.declared.types.Point.{Point}
use Rattle.cc_rules.specs.CcPlaces.Abstract.{IsBelowAbs}
use Rattle.cc_rules.specs.CcPlaces.declared.abs.Abs.{Abs}
use Rattle.cc_rules.specs.CcPlaces.declared.abs.Abs.TheVariants as abs
use Rattle.cc_program.specs.declared.expr.Expr.{Expr}
use Rattle.cc_program.specs.declared.expr.Place.{Place, out-Place}
use Rattle.cc_program.specs.declared.func.Func.{Func}
use Rattle.cc_program.specs.declared.program.Program.{Program}
use Rattle.cc_rules.specs.Rules.{flows_to, ComesTo, ComesToEach}
use Rattle.cc_rules.specs.CcRulesFlows.Acts.{Act, Sets, Reads, Writes, Calls, Saves, Turns, Restores, Tests, Chooses, Returns, Passes}
use Rattle.cc_rules.specs.CcRulesFlows.Flows.{tests_of, to_all, FlagValue, Says, AreSides, Flows, OfSets, OfReads, OfWrites, OfTurns, OfSaves, OfSavesAlone, OfRestores, OfTests, OfReturns, OfPasses, OfCalls}
use Rattle.cc_rules.specs.CcRulesFlows.Nexts.{sides, choices}
use Rattle.cc_rules.specs.CcRulesFlows.Tests.{Test}
use Rattle.cc_rules.specs.CcRulesFlows.Worked.{AreWorked}
use Rattle.cc_rules_grow.proofs.Below.{IsFactBelow, IsFullBelow, fact_flows, local_below, pair_below, cell_below, flags_below, Had, flow_had}
use Rattle.cc_rules_grow.proofs.Elements.{Each, each_append, each_split, each_map, in_map}
use Rattle.cc_rules_grow.proofs.Joined.{AreBelow, AreAllBelow, joined_below, going_below}
use Rattle.cc_rules_grow.proofs.Kept.{IsKept, ValuesGrow, abs_through, value_grows}
use Rattle.cc_rules_grow.proofs.Sides.{sides_below}
use Rattle.cc_rules.specs.CcRulesNeeds.Flowing.{Flowing, of_fact, with_local, with_pair, with_cell, with_flags}
use Rattle.cc_rules.specs.CcRulesNeeds.Needs.{Needs, Has}
use Rattle.cc_rules.specs.CcStateFacts.declared.facts.Facts.{Facts}
use Rattle.cc_rules.specs.CcStateFacts.declared.facts.PointFact.{PointFact}
use Rattle.cc_rules.specs.CcStateFacts.Facts.{fact_at}
use Rattle.cc_rules.specs.CcStateKeys.Tracked.{registers, register_number, tracked}
use Rattle.cc_rules.specs.CcStateOperators.Domains.{Domain, IsHull, MayBe}
use Rattle.cc_rules.specs.CcStateReads.Reads.{IsRead, registers_at, tracked_in}
use Rattle.cc_rules.proofs.CcStateValues.Same.{IsOrdered}
use Rattle.cc_rules.specs.CcStateValues.Values.{IsVal}
use Rattle.cc_state_points.specs.CcStateValuesGrow.Growth.{AreRegistersBelow, RegistersPoint}

-- ---- what flows, by what the statement does

module _ {I : Type 0} (d : Domain I) (p : Program) (id : ℕ) (f : Func) (facts : Facts I) (point : Point) (n : ℕ) (fact : PointFact I) where
  abbrev Value : Expr → Abs I → Type 0
  Value e y = IsVal d p id f (registers_at facts f n) e y

  abbrev All : Flowing I → List (ℕ × Flowing I)
  All flow = to_all d p id f facts point n fact flow

  abbrev here : Flowing I
  here = of_fact fact

  abbrev pub FlowsAs : Act → List (ℕ × Flowing I) → Type 0
  FlowsAs (Sets r e) flows = (number : ℕ) × (y : Abs I) × (register_number f r ≡ Some number) × Value e y × (flows ≡ All (with_local number y here))
  FlowsAs (Reads r a) flows =
      (number : ℕ) × (y : Abs I) × (register_number f r ≡ Some number) × IsRead d p id f (registers_at facts f n) facts n a y × (flows ≡ All (with_pair number (tracked_in p (out-Place a)) (with_local number y here)))
  FlowsAs (Writes a e) flows = (y : Abs I) × Value e y × (flows ≡ All (with_cell (tracked_in p (out-Place a)) y here))
  FlowsAs (Calls result g args) flows = flows ≡ []
  FlowsAs (Saves (Some r)) flows =
      (number : ℕ) × (x : I) × (register_number f r ≡ Some number) × IsHull d (FlagValue d p id f facts point n fact) x × (flows ≡ All (with_flags true false (with_local number (abs.Ints x) here)))
  FlowsAs (Saves None) flows = flows ≡ All (with_flags true false here)
  FlowsAs (Turns on) flows = flows ≡ All (with_flags (not on) on here)
  FlowsAs (Restores e) flows =
      (y : Abs I) × (off : Bool) × (on : Bool) × Value e y × Says d p id f facts point n fact off (MayBe d false y) × Says d p id f facts point n fact on (MayBe d true y)
      × (flows ≡ (if off || on then All (with_flags off on here) else []))
  FlowsAs (Tests e these those) flows = AreSides d p id f facts point n fact e (sides n these those point.next) flows
  FlowsAs (Chooses e cases) flows = AreSides d p id f facts point n fact e (choices n cases point.next) flows
  FlowsAs (Returns e) flows = flows ≡ All here
  FlowsAs Passes flows = flows ≡ All here

  tests_as : (act : Act) (e : Expr) (tests : List (Test × ℕ)) (flows : List (ℕ × Flowing I)) → tests_of n point.next act ≡ Some (e, tests) → AreSides d p id f facts point n fact e tests flows → FlowsAs act flows
  tests_as (Tests e' these those) e tests flows is s = subst (λ (t : Expr × List (Test × ℕ)). AreSides d p id f facts point n fact t.0 t.1 flows) (sym (same_Some (e', sides n these those point.next) (e, tests) is)) s
  tests_as (Chooses e' cases) e tests flows is s = subst (λ (t : Expr × List (Test × ℕ)). AreSides d p id f facts point n fact t.0 t.1 flows) (sym (same_Some (e', choices n cases point.next) (e, tests) is)) s
  tests_as (Sets r e') e tests flows is s = absurd (cc)
  tests_as (Reads r a) e tests flows is s = absurd (cc)
  tests_as (Writes a e') e tests flows is s = absurd (cc)
  tests_as (Calls r g args) e tests flows is s = absurd (cc)
  tests_as (Saves r) e tests flows is s = absurd (cc)
  tests_as (Turns on) e tests flows is s = absurd (cc)
  tests_as (Restores e') e tests flows is s = absurd (cc)
  tests_as (Returns e') e tests flows is s = absurd (cc)
  tests_as Passes e tests flows is s = absurd (cc)

  pub flows_as : (act : Act) (flows : List (ℕ × Flowing I)) → Flows d p id f facts point n fact act flows → FlowsAs act flows
  flows_as act flows (OfSets r number e y is number_is val flow) = subst (λ (a : Act). FlowsAs a flows) (sym is) (number, y, number_is, val, flow)
  flows_as act flows (OfReads r number a y is number_is read flow) = subst (λ (a : Act). FlowsAs a flows) (sym is) (number, y, number_is, read, flow)
  flows_as act flows (OfWrites a e y is val flow) = subst (λ (a : Act). FlowsAs a flows) (sym is) (y, val, flow)
  flows_as act flows (OfTurns on is flow) = subst (λ (a : Act). FlowsAs a flows) (sym is) flow
  flows_as act flows (OfSaves r number x is number_is hull flow) = subst (λ (a : Act). FlowsAs a flows) (sym is) (number, x, number_is, hull, flow)
  flows_as act flows (OfSavesAlone is flow) = subst (λ (a : Act). FlowsAs a flows) (sym is) flow
  flows_as act flows (OfRestores e y off on is val says_off says_on flow) = subst (λ (a : Act). FlowsAs a flows) (sym is) (y, off, on, val, says_off, says_on, flow)
  flows_as act flows (OfTests e tests is s) = tests_as act e tests flows is s
  flows_as act flows (OfReturns e is flow) = subst (λ (a : Act). FlowsAs a flows) (sym is) flow
  flows_as act flows (OfPasses is flow) = subst (λ (a : Act). FlowsAs a flows) (sym is) flow
  flows_as act flows (OfCalls result g args is flow) = subst (λ (a : Act). FlowsAs a flows) (sym is) flow

module _ {I : Type 0} (d : Domain I) (o : IsOrdered d) (k : IsKept d) (p : Program) (id : ℕ) (f : Func) (grown : ValuesGrow d p id f) (facts others : Facts I) (point : Point) (n : ℕ) (fact other : PointFact I)
    (points : RegistersPoint p f (registers_at facts f n)) (below : AreRegistersBelow d.below (registers_at facts f n) (registers_at others f n))
    (known : fact_at facts n ≡ Some fact) (less : IsFactBelow d (length (registers f)) (length (tracked p)) fact other) (count : length other.locals ≡ length (registers f))
    (reads_grow : (a : Place) (y z : Abs I) → IsRead d p id f (registers_at facts f n) facts n a y → IsRead d p id f (registers_at others f n) others n a z → IsBelowAbs d.below y z) where
  abbrev FlowBelow : Flowing I → Flowing I → Type 0
  FlowBelow a b = IsFullBelow d (length (registers f)) (length (tracked p)) a b

  abbrev AllBelow : List (ℕ × Flowing I) → List (ℕ × Flowing I) → Type 0
  AllBelow flows more_flows = AreAllBelow d (abs_through d k) (length (registers f)) (length (tracked p)) flows more_flows

  here_below : FlowBelow (of_fact fact) (of_fact other)
  here_below = fact_flows d (length (registers f)) (length (tracked p)) fact other less

  values_below : (e : Expr) (y z : Abs I) → IsVal d p id f (registers_at facts f n) e y → IsVal d p id f (registers_at others f n) e z → IsBelowAbs d.below y z
  values_below e y z v w = grown (registers_at facts f n) (registers_at others f n) points below e y z v w

  -- to each next point

  all_below : (a b : Flowing I) → FlowBelow a b → AllBelow (to_all d p id f facts point n fact a) (to_all d p id f others point n other b)
  all_below a b l =
      each_map (λ (x : ℕ × Flowing I). (y : Flowing I) × Contains (to_all d p id f others point n other b) (x.0, y) × FlowBelow x.1 y) (λ (m : ℕ). (m, a)) point.next
      (λ m c. (b, in_map (λ (m : ℕ). (m, b)) point.next m c, l))

  all_as : (flows more_flows : List (ℕ × Flowing I)) (a b : Flowing I) → flows ≡ to_all d p id f facts point n fact a → more_flows ≡ to_all d p id f others point n other b → FlowBelow a b → AllBelow flows more_flows
  all_as flows more_flows a b is is' l = subst (λ (s : List (ℕ × Flowing I)). AllBelow s more_flows) (sym is) (subst (λ (s : List (ℕ × Flowing I)). AllBelow (to_all d p id f facts point n fact a) s) (sym is') (all_below a b l))

  none_below : (flows more_flows : List (ℕ × Flowing I)) → flows ≡ [] → AllBelow flows more_flows
  none_below flows more_flows is = subst (λ (s : List (ℕ × Flowing I)). AllBelow s more_flows) (sym is) tt

  flag_values : (m : ℤ) → FlagValue d p id f facts point n fact m → FlagValue d p id f others point n other m
  flag_values m (inl h) = inl (less.off h.0, h.1)
  flag_values m (inr h) = inr (less.on h.0, h.1)

  may_be_more : (b : Bool) (y z : Abs I) → IsBelowAbs d.below y z → MayBe d b y → MayBe d b z
  may_be_more b y z h (v, has, truth) = (v, value_grows d k y z h v has, truth)

  restored : (off on off' on' : Bool) (flows more_flows : List (ℕ × Flowing I)) → (off ≡ true → off' ≡ true) → (on ≡ true → on' ≡ true) →
      flows ≡ (if off || on then to_all d p id f facts point n fact (with_flags off on (of_fact fact)) else []) →
      more_flows ≡ (if off' || on' then to_all d p id f others point n other (with_flags off' on' (of_fact other)) else []) → AllBelow flows more_flows
  restored off on off' on' flows more_flows h i is is' = by (off || on) (off' || on') refl refl is is'
    where
      flags : FlowBelow (with_flags off on (of_fact fact)) (with_flags off' on' (of_fact other))
      flags = flags_below d (length (registers f)) (length (tracked p)) off on off' on' (of_fact fact) (of_fact other) h i here_below

      more : (off on off' on' : Bool) → (off ≡ true → off' ≡ true) → (on ≡ true → on' ≡ true) → off || on ≡ true → off' || on' ≡ true
      more true on off' on' h i e = subst (λ (b : Bool). b || on' ≡ true) (sym (h refl)) refl
      more false on true on' h i e = refl
      more false on false on' h i e = i e

      by : (a b : Bool) → off || on ≡ a → off' || on' ≡ b → flows ≡ (if a then to_all d p id f facts point n fact (with_flags off on (of_fact fact)) else []) →
          more_flows ≡ (if b then to_all d p id f others point n other (with_flags off' on' (of_fact other)) else []) → AllBelow flows more_flows
      by true true e g is is' = all_as flows more_flows (with_flags off on (of_fact fact)) (with_flags off' on' (of_fact other)) is is' flags
      by true false e g is is' = absurd (true≢false (sym (more off on off' on' h i e) ∙ g))
      by false b e g is is' = none_below flows more_flows is

  abbrev pub AreTestsWorked : Act → Type 0
  AreTestsWorked act = (e : Expr) (tests : List (Test × ℕ)) → tests_of n point.next act ≡ Some (e, tests) → Each (λ (t : Test × ℕ). AreWorked d p id f facts point n fact e t.0) tests

  pub acts_below : (act : Act) (flows more_flows : List (ℕ × Flowing I)) → AreTestsWorked act → FlowsAs d p id f facts point n fact act flows → FlowsAs d p id f others point n other act more_flows → AllBelow flows more_flows
  acts_below (Sets r e) flows more_flows worked (m, y, number, val, is) (m', y', number', val', is') =
      let same : m' ≡ m = same_Some m' m (sym number' ∙ number) in
      all_as flows more_flows (with_local m y (of_fact fact)) (with_local m y' (of_fact other)) is (subst (λ (i : ℕ). more_flows ≡ to_all d p id f others point n other (with_local i y' (of_fact other))) same is')
      (local_below d (length (registers f)) (length (tracked p)) m y y' (of_fact fact) (of_fact other) (values_below e y y' val val') here_below)
  acts_below (Reads r a) flows more_flows worked (m, y, number, read, is) (m', y', number', read', is') =
      let same : m' ≡ m = same_Some m' m (sym number' ∙ number) in
      let cell = tracked_in p (out-Place a) in
      all_as flows more_flows (with_pair m cell (with_local m y (of_fact fact))) (with_pair m cell (with_local m y' (of_fact other))) is
      (subst (λ (i : ℕ). more_flows ≡ to_all d p id f others point n other (with_pair i (tracked_in p (out-Place a)) (with_local i y' (of_fact other)))) same is')
      (pair_below d (length (registers f)) (length (tracked p)) m cell (with_local m y (of_fact fact)) (with_local m y' (of_fact other))
      (local_below d (length (registers f)) (length (tracked p)) m y y' (of_fact fact) (of_fact other) (reads_grow a y y' read read') here_below))
  acts_below (Writes a e) flows more_flows worked (y, val, is) (y', val', is') =
      let cell = tracked_in p (out-Place a) in
      all_as flows more_flows (with_cell cell y (of_fact fact)) (with_cell cell y' (of_fact other)) is is'
      (cell_below d (length (registers f)) (length (tracked p)) cell y y' (of_fact fact) (of_fact other) (values_below e y y' val val') here_below)
  acts_below (Calls result g args) flows more_flows worked is is' = none_below flows more_flows is
  acts_below (Saves (Some r)) flows more_flows worked (m, x, number, hull, is) (m', x', number', hull', is') =
      let same : m' ≡ m = same_Some m' m (sym number' ∙ number) in
      all_as flows more_flows (with_flags true false (with_local m (abs.Ints x) (of_fact fact))) (with_flags true false (with_local m (abs.Ints x') (of_fact other))) is
      (subst (λ (i : ℕ). more_flows ≡ to_all d p id f others point n other (with_flags true false (with_local i (abs.Ints x') (of_fact other)))) same is')
      (flags_below d (length (registers f)) (length (tracked p)) true false true false (with_local m (abs.Ints x) (of_fact fact)) (with_local m (abs.Ints x') (of_fact other)) (λ h. h) (λ h. h)
      (local_below d (length (registers f)) (length (tracked p)) m (abs.Ints x) (abs.Ints x') (of_fact fact) (of_fact other) (hull.least x' (λ i g. hull'.has_all i (flag_values i g))) here_below))
  acts_below (Saves None) flows more_flows worked is is' =
      all_as flows more_flows (with_flags true false (of_fact fact)) (with_flags true false (of_fact other)) is is'
      (flags_below d (length (registers f)) (length (tracked p)) true false true false (of_fact fact) (of_fact other) (λ h. h) (λ h. h) here_below)
  acts_below (Turns on) flows more_flows worked is is' =
      all_as flows more_flows (with_flags (not on) on (of_fact fact)) (with_flags (not on) on (of_fact other)) is is'
      (flags_below d (length (registers f)) (length (tracked p)) (not on) on (not on) on (of_fact fact) (of_fact other) (λ h. h) (λ h. h) here_below)
  acts_below (Restores e) flows more_flows worked (y, off, on, val, says_off, says_on, is) (y', off', on', val', says_off', says_on', is') =
      let h = values_below e y y' val val' in
      restored off on off' on' flows more_flows (λ i. says_off'.1 (may_be_more false y y' h (says_off.0 i))) (λ i. says_on'.1 (may_be_more true y y' h (says_on.0 i))) is is'
  acts_below (Tests e these those) flows more_flows worked s s' =
      sides_below d o k p id f grown facts others point n fact other points below known less count e (sides n these those point.next) flows more_flows (worked e (sides n these those point.next) refl) s s'
  acts_below (Chooses e cases) flows more_flows worked s s' =
      sides_below d o k p id f grown facts others point n fact other points below known less count e (choices n cases point.next) flows more_flows (worked e (choices n cases point.next) refl) s s'
  acts_below (Returns e) flows more_flows worked is is' = all_as flows more_flows (of_fact fact) (of_fact other) is is' here_below
  acts_below Passes flows more_flows worked is is' = all_as flows more_flows (of_fact fact) (of_fact other) is is' here_below

  -- ---- what each next point is asked to have

  module _ (holder : Facts I) where
    abbrev AreHad : Needs I → Type 0
    AreHad ns = Had d k holder ns

    comes_to : (m : ℕ) (flows more_flows : List (Flowing I)) (ns more_ns : Needs I) → AreBelow d (abs_through d k) (length (registers f)) (length (tracked p)) flows more_flows →
        ComesTo d p facts n id f point fact m flows ns → ComesTo d p others n id f point other m more_flows more_ns → AreHad more_ns → AreHad ns
    comes_to m [] more_flows ns more_ns h is c had = subst AreHad (sym is) tt
    comes_to m (a ∷ flows) [] ns more_ns h c is had = absurd (let i : (h.0.1).0 < 0 = (h.0.1).1 in omega (arith, i))
    comes_to m (a ∷ flows) (b ∷ more_flows) ns more_ns h (x, joined, is) (y, joined', is') had =
        subst AreHad (sym is) (flow_had d k holder m (length (registers f)) (length (tracked p)) x y
        (joined_below d (abs_through d k) (length (registers f)) (length (tracked p)) a flows (b ∷ more_flows) x y h joined joined') (subst AreHad is' had))

    pub comes_to_each : (next : List ℕ) (flows more_flows : List (ℕ × Flowing I)) (ns more_ns : Needs I) → AllBelow flows more_flows →
        ComesToEach d p facts n id f point fact next flows ns → ComesToEach d p others n id f point other next more_flows more_ns → AreHad more_ns → AreHad ns
    comes_to_each [] flows more_flows ns more_ns h is is' had = subst AreHad (sym is) tt
    comes_to_each (m ∷ next) flows more_flows ns more_ns h (first, rest, to, each, is) (first', rest', to', each', is') had =
        let (had_first, had_rest) = each_split (Has d.below holder) first' rest' (subst AreHad is' had) in
        subst AreHad (sym is)
        (each_append (Has d.below holder) first rest
        (comes_to m (flows_to d p facts n id f point fact m flows) (flows_to d p others n id f point other m more_flows) first first' (going_below d (abs_through d k) (length (registers f)) (length (tracked p)) m flows more_flows h) to to' had_first)
        (comes_to_each next flows more_flows rest rest' h each each' had_rest))
