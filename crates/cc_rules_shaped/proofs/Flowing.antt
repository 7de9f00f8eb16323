-- What flows from a point to its next ones fits these: registers and cells get values of their types, whatever the statement does. So does what
-- several let flow to one point.
use Rattle.std.proofs.Common.{◌≡◌, ◌⊎◌, inl, inr, ℕ, ℤ, ◌<◌, Bool, true, false, not, ◌||◌, List, [], ◌∷◌, map, length, Contains, Option, Some, None, refl, sym, ◌∙◌, subst}
use Rattle.std.specs.Prelude.{◌==◌, if◌then◌else◌}
use Rattle.std.specs.List.{filter, list_any}
use Rattle.std.proofs.lemmas.Bool.{eqb-true}
use Rattle.std.proofs.lemmas.Option.{same_Some}
use Rattle.cc_rules_grow.specs.CcFlow.declared.types.Point.{Point}
use Rattle.cc_program.specs.CcNum.declared.int_type.IntType.TheVariants as int
use Rattle.cc_rules_grow.specs.CcPlaces.Abstract.{IsBelowAbs}
use Rattle.cc_rules_grow.specs.CcPlaces.declared.abs.Abs.{Abs}
use Rattle.cc_rules_grow.specs.CcPlaces.declared.abs.Abs.TheVariants as abs
use Rattle.cc_rules_grow.specs.CcPlaces.laws.ListLaws.{cons_cases, at_head, behind_head, none_in}
use Rattle.cc_program.specs.declared.expr.Expr.{Expr}
use Rattle.cc_program.specs.declared.expr.Place.{out-Place}
use Rattle.cc_program.specs.declared.func.Func.{Func}
use Rattle.cc_program.specs.declared.program.Program.{Program}
use Rattle.cc_program.specs.declared.types.Shape.{out-Shape}
use Rattle.cc_rules_grow.specs.CcRules.Rules.{flows_to, ComesTo, ComesToEach}
use Rattle.cc_rules_grow.specs.CcRulesFlows.Acts.{Act}
use Rattle.cc_rules_grow.specs.CcRulesFlows.Flows.{to_all, FlagValue, equal_to, IsSide, Side, Taken, Barred, Untaken, AreSides, Flows, OfSets, OfReads, OfWrites, OfTurns, OfSaves, OfSavesAlone, OfRestores, OfTests, OfReturns, OfPasses, OfCalls}
use Rattle.cc_rules_grow.specs.CcRulesFlows.Nexts.{IsPoint}
use Rattle.cc_rules_grow.specs.CcRulesFlows.Tests.{Test, IsLeft, IsLeftAlike, Alike, Unlike, IsLeftBy}
use Rattle.cc_rules_grow.proofs.Elements.{Each, each_append, each_map, each_at, map_contained}
use Rattle.cc_rules_grow.proofs.Kept.{IsKept, ValuesGrow, abs_itself}
use Rattle.cc_rules_grow.proofs.Leaving.{left_as, left_below}
use Rattle.cc_rules_grow.specs.CcRulesNeeds.Flowing.{Flowing, of_fact, with_local, with_pair, with_cell, with_flags, IsLeastOver, IsJoined}
use Rattle.cc_rules_grow.specs.CcRulesNeeds.Needs.{Needs}
use Rattle.cc_rules_shaped.proofs.Acting.{AreTaken}
use Rattle.cc_rules_shaped.proofs.Classes.{tracked_type, read_in}
use Rattle.cc_rules_shaped.proofs.Fit.{register_typed, Known, HaveThem, fit_append, FlowFits, flow_fits, some_in, cells_fit}
use Rattle.cc_rules_shaped.proofs.Here.{its_fact, its_points, value_in, register_typed as typed_at}
use Rattle.cc_rules_shaped.proofs.Points.{next_there}
use Rattle.cc_rules_shaped.proofs.Types.{one_register_type, one_tracked_type}
use Rattle.cc_rules_shaped.specs.Shaped.{AreSomeIn, IsPointIn, AreFitBehind, AreFit}
use Rattle.cc_rules_grow.proofs.CcState.Lists.{from_filter}
use Rattle.cc_rules_grow.proofs.CcState.Sets.{scalar_at}
use Rattle.cc_rules_grow.specs.CcState.Shape.{IsSetIn, IsRegisterType, IsTrackedType, IsPointFact, HaveShape}
use Rattle.cc_rules_grow.specs.CcStateFacts.declared.facts.Facts.{Facts}
use Rattle.cc_rules_grow.specs.CcStateFacts.declared.facts.PointFact.{PointFact}
use Rattle.cc_rules_grow.specs.CcStateFacts.Facts.{fact_at, local_of}
use Rattle.cc_rules_grow.specs.CcStateKeys.Tracked.{registers, tracked}
use Rattle.cc_rules_grow.specs.CcStateOperators.Domains.{Domain}
use Rattle.cc_rules_grow.specs.CcStateReads.Reads.{registers_at, tracked_in}
use Rattle.cc_rules_grow.proofs.CcStateValues.Rules.{one_there, assigned_scalar}
use Rattle.cc_rules_grow.proofs.CcStateValues.Same.{IsOrdered}
use Rattle.cc_state_values_fit.proofs.Results.{IsTruth, truth_in}
use Rattle.cc_state_values_fit.proofs.Sets.{IsTyping, holds, one_kind, wider_set, hull_in, least_in}
use Rattle.cc_state_values_fit.specs.Fit.{HasWholes}
use Rattle.cc_state_values_fit.specs.CcStateValuesGrow.Growth.{AreRegistersBelow}
use Rattle.cc_rules_grow.proofs.CcStates.GivenLemmas.{read_as_written}
use Rattle.cc_rules_grow.specs.CcSyntax.Normal.{IsNormal}
use Rattle.cc_rules_grow.specs.CcSyntax.Programs.{place_type}
use Rattle.cc_rules_grow.specs.CcSyntax.Values.{ValueType, NoValue, Integer, ToObject, ToFunction, is_scalar, read_from}

-- ---- the sets among some that may be there

somes : {A : Type 0} → List (Option A) → List A
somes [] = []
somes (None ∷ xs) = somes xs
somes (Some x ∷ xs) = x ∷ somes xs

somes_from : {A : Type 0} (xs : List (Option A)) (x : A) → Contains (somes xs) x → Contains xs (Some x)
unfolding somes
somes_from [] x c = absurd (none_in x c)
somes_from (None ∷ xs) x c = behind_head None xs (Some x) (somes_from xs x c)
somes_from {A = A} (Some y ∷ xs) x c = elim (cons_cases y (somes xs) x c) [
  | inl e ↦ subst (λ (z : A). Contains (Some y ∷ xs) (Some z)) e (at_head (Some y) xs)
  | inr r ↦ behind_head (Some y) xs (Some x) (somes_from xs x r)
]

somes_into : {A : Type 0} (xs : List (Option A)) (x : A) → Contains xs (Some x) → Contains (somes xs) x
unfolding somes
somes_into [] x c = absurd (none_in (Some x) c)
somes_into (None ∷ xs) x c = elim (cons_cases None xs (Some x) c) [ inl e ↦ absurd (cc) | inr r ↦ somes_into xs x r ]
somes_into {A = A} (Some y ∷ xs) x c = elim (cons_cases (Some y) xs (Some x) c) [
  | inl e ↦ subst (λ (z : A). Contains (y ∷ somes xs) z) (same_Some y x e) (at_head y (somes xs))
  | inr r ↦ behind_head y (somes xs) x (somes_into xs x r)
]

module _ {I : Type 0} (d : Domain I) (p : Program) (f : Func) where
  pub record IsTypedFlow (flow : Flowing I) : Type 0 where
    pub flag : (flow.off ≡ true) ⊎ (flow.on ≡ true)
    pub locals : (r : ℕ) → r < length (registers f) → (t : ValueType) × IsRegisterType d p f r t × AreSomeIn d p t (flow.local r)
    pub cells : (j : ℕ) → j < length (tracked p) → (t : ValueType) × IsTrackedType d p j t × AreSomeIn d p t (flow.cell j)

  pub flow_at : (k : ℕ) (flow : Flowing I) → IsPointIn d p k f → IsTypedFlow flow → FlowFits d p k f flow
  flow_at k flow point h = record { point = point; flag = h.flag; locals = h.locals; cells = h.cells }

  pub fact_typed : (fact : PointFact I) → IsPointFact d p f fact → IsTypedFlow (of_fact fact)
  fact_typed fact h = record {
    flag = h.flag;
    locals = λ r l. (let w = h.locals.there r l in (w.0, w.2.0, some_in d p w.0 w.1 (local_of fact r) w.2.1 w.2.2));
    cells = cells_fit d p f fact h;
  }

  -- ---- with another set, pair or flag

  some_or : (t : ValueType) (y : Abs I) (other : Option (Abs I)) (b : Bool) → (b ≡ true → IsSetIn p d t y) → (b ≡ false → AreSomeIn d p t other) → AreSomeIn d p t (if b then Some y else other)
  some_or t y other true h l = h refl
  some_or t y other false h l = l refl

  pub local_typed : (number : ℕ) (t : ValueType) (y : Abs I) (flow : Flowing I) → IsRegisterType d p f number t → IsSetIn p d t y → IsTypedFlow flow → IsTypedFlow (with_local number y flow)
  local_typed number t y flow is h l = record {
    flag = l.flag;
    locals = λ r k.
        (let w = l.locals r k in (
          w.0,
          w.1,
          some_or w.0 y (flow.local r) (r == number) (λ e. (let at = eqb-true r number e in subst (λ (u : ValueType). IsSetIn p d u y) (one_register_type d p f r t w.0 (subst (λ (i : ℕ). IsRegisterType d p f i t) (sym at) is) w.1) h)) (λ e. w.2),
        ));
    cells = l.cells;
  }

  pair_typed : (number : ℕ) (cell : Option ℕ) (flow : Flowing I) → IsTypedFlow flow → IsTypedFlow (with_pair number cell flow)
  pair_typed number None flow h = h
  pair_typed number (Some cell) flow h = record { flag = h.flag; locals = h.locals; cells = h.cells }

  cell_typed : (c : Option ℕ) (y : Abs I) (flow : Flowing I) → ((cell : ℕ) → c ≡ Some cell → (t : ValueType) × IsTrackedType d p cell t × IsSetIn p d t y) → IsTypedFlow flow → IsTypedFlow (with_cell c y flow)
  cell_typed None y flow h l = l
  cell_typed (Some cell) y flow h l = record {
    flag = l.flag;
    locals = l.locals;
    cells = λ j k.
        (let w = l.cells j k in
        let v = h cell refl in (
          w.0,
          w.1,
          some_or w.0 y (flow.cell j) (j == cell) (λ e. (let at = eqb-true j cell e in subst (λ (u : ValueType). IsSetIn p d u y) (one_tracked_type d p j v.0 w.0 (subst (λ (i : ℕ). IsTrackedType d p i v.0) (sym at) v.1) w.1) v.2)) (λ e. w.2),
        ));
  }

  flags_typed : (off on : Bool) (flow : Flowing I) → (off ≡ true) ⊎ (on ≡ true) → IsTypedFlow flow → IsTypedFlow (with_flags off on flow)
  flags_typed off on flow h l = record { flag = h; locals = l.locals; cells = l.cells }

  -- ---- what several let flow

  module _ (typing : IsTyping d) (wholes : HasWholes d p.target) where
    least_over : (t : ValueType) → is_scalar t ≡ true → (ys : List (Option (Abs I))) → ((y : Abs I) → Contains ys (Some y) → IsSetIn p d t y) → (z : Option (Abs I)) → IsLeastOver d.below ys z → AreSomeIn d p t z
    least_over t scalar ys h None l = tt
    least_over t scalar ys h (Some z) l =
        least_in d p typing wholes t scalar (somes ys) (λ y c. h y (somes_from ys y c)) z (λ y c. (l.0 y (somes_from ys y c)).1)
        (λ u k below. l.1 u (λ x c. (one_kind d p t x u (h x c) k, below x (somes_into ys x c))))

    any_flag : (flag : Flowing I → Bool) (a : Flowing I) (flows : List (Flowing I)) → flag a ≡ true → list_any flag (a ∷ flows) ≡ true
    any_flag flag a flows e = by (flag a) e
      where
        by : (b : Bool) → b ≡ true → (b || list_any flag flows) ≡ true
        by true e = refl
        by false e = absurd (cc)

    joined_flag : (a : Flowing I) (flows : List (Flowing I)) (flow : Flowing I) → IsJoined d.below (a ∷ flows) flow → (a.off ≡ true) ⊎ (a.on ≡ true) → (flow.off ≡ true) ⊎ (flow.on ≡ true)
    joined_flag a flows flow h (inl e) = inl (h.off ∙ any_flag (λ (x : Flowing I). x.off) a flows e)
    joined_flag a flows flow h (inr e) = inr (h.on ∙ any_flag (λ (x : Flowing I). x.on) a flows e)

    joined_locals : (flows : List (Flowing I)) (flow : Flowing I) → Each IsTypedFlow flows → IsJoined d.below flows flow → (r : ℕ) → r < length (registers f) → (t : ValueType) → IsRegisterType d p f r t → AreSomeIn d p t (flow.local r)
    joined_locals flows flow each h r l t is = least_over t (scalar_at (out-Shape is.1.1.shape) t is.4) (map (λ (x : Flowing I). x.local r) flows) typed (flow.local r) (h.locals r)
      where
        typed : (y : Abs I) → Contains (map (λ (x : Flowing I). x.local r) flows) (Some y) → IsSetIn p d t y
        typed y c =
            let (a, there, same) = map_contained (λ (x : Flowing I). x.local r) flows (Some y) c in
            let w = (each_at IsTypedFlow flows a each there).locals r l in
            subst (λ (u : ValueType). IsSetIn p d u y) (one_register_type d p f r w.0 t w.1 is) (subst (AreSomeIn d p w.0) same w.2)

    joined_cells : (flows : List (Flowing I)) (flow : Flowing I) → Each IsTypedFlow flows → IsJoined d.below flows flow → (j : ℕ) → j < length (tracked p) → (t : ValueType) → IsTrackedType d p j t → AreSomeIn d p t (flow.cell j)
    joined_cells flows flow each h j l t is = least_over t (scalar_at (out-Shape is.1.ctype.shape) t is.4) (map (λ (x : Flowing I). x.cell j) flows) typed (flow.cell j) (h.cells j)
      where
        typed : (y : Abs I) → Contains (map (λ (x : Flowing I). x.cell j) flows) (Some y) → IsSetIn p d t y
        typed y c =
            let (a, there, same) = map_contained (λ (x : Flowing I). x.cell j) flows (Some y) c in
            let w = (each_at IsTypedFlow flows a each there).cells j l in
            subst (λ (u : ValueType). IsSetIn p d u y) (one_tracked_type d p j w.0 t w.1 is) (subst (AreSomeIn d p w.0) same w.2)

    joined_typed : (a : Flowing I) (flows : List (Flowing I)) (flow : Flowing I) → Each IsTypedFlow (a ∷ flows) → IsJoined d.below (a ∷ flows) flow → IsTypedFlow flow
    joined_typed a flows flow each h = record {
      flag = joined_flag a flows flow h each.0.flag;
      locals = λ r l. (let w = register_typed d p f r l in (w.0, w.1, joined_locals (a ∷ flows) flow each h r l w.0 w.1));
      cells = λ j l. (let w = each.0.cells j l in (w.0, w.1, joined_cells (a ∷ flows) flow each h j l w.0 w.1));
    }

-- ---- at a point

module _ {I : Type 0} (d : Domain I) (typing : IsTyping d) (order : IsOrdered d) (kept : IsKept d) (p : Program) (wholes : HasWholes d p.target) (normal : IsNormal p) (facts : Facts I) (shape : HaveShape d p facts)
    (n id : ℕ) (f : Func) (grown : ValuesGrow d p id f) (point : Point) (fact : PointFact I) (is_point : IsPoint p n id f point) (known : fact_at facts n ≡ Some fact) where
  abbrev Typed : Flowing I → Type 0
  Typed flow = IsTypedFlow d p f flow

  abbrev AllTyped : List (ℕ × Flowing I) → Type 0
  AllTyped flows = Each (λ (a : ℕ × Flowing I). Typed a.1) flows

  of_point : IsPointFact d p f fact
  of_point = its_fact d typing p wholes normal facts shape n id f point fact is_point known

  here_typed : Typed (of_fact fact)
  here_typed = fact_typed d p f fact of_point

  -- the same to each next point
  all_typed : (flow : Flowing I) (flows : List (ℕ × Flowing I)) → flows ≡ to_all d p id f facts point n fact flow → Typed flow → AllTyped flows
  all_typed flow flows is h = subst AllTyped (sym is) (each_map (λ (a : ℕ × Flowing I). Typed a.1) (λ (k : ℕ). (k, flow)) point.next (λ k c. h))

  none_typed : (flows : List (ℕ × Flowing I)) → flows ≡ [] → AllTyped flows
  none_typed flows is = subst AllTyped (sym is) tt

  -- ---- what tests leave

  abbrev sets : ℕ → Option (Abs I)
  sets = registers_at facts f n

  not_more : AreRegistersBelow d.below sets sets
  not_more r x y e g = subst (IsBelowAbs d.below x) (same_Some x y (sym e ∙ g)) (abs_itself d kept x)

  fewer_in : (t : ValueType) (u x : I) → d.below u x → IsSetIn p d t (abs.Ints x) → IsSetIn p d t (abs.Ints u)
  fewer_in NoValue u x h l = λ m k. l m (typing.grows u x h m k)
  fewer_in (Integer t) u x h l = λ m k. l m (typing.grows u x h m k)
  fewer_in (ToObject c v t) u x h l = absurd l
  fewer_in (ToFunction sig) u x h l = absurd l

  left_in : (e : Expr) (test : Test) (r : ℕ) (t : ValueType) (y z : Abs I) → IsSetIn p d t y → IsLeft d p id f sets e test r y z → IsSetIn p d t z
  left_in e test r t (abs.Ints x) z h l =
      let points = its_points d typing p wholes normal facts shape n id f point fact is_point known in
      let (u, is, rest) = left_as d order kept p id f grown sets sets points not_more e test sets r (abs.Ints x) z l in
      let below = left_below d order kept p id f grown sets sets points not_more e test sets r (abs.Ints x) z l in
      subst (IsSetIn p d t) (sym is) (fewer_in t u x (subst (λ (s : Abs I). IsBelowAbs d.below s (abs.Ints x)) is below) h)
  left_in e test r t (abs.Addrs s) z h l =
      let points = its_points d typing p wholes normal facts shape n id f point fact is_point known in
      subst (IsSetIn p d t) (sym (left_as d order kept p id f grown sets sets points not_more e test sets r (abs.Addrs s) z l)) h

  left_by : (e : Expr) (test : Test) (rs : List ℕ) (t : ValueType) (y z : Abs I) → IsSetIn p d t y → IsLeftBy d p id f sets e test rs y z → IsSetIn p d t z
  left_by e test [] t y z h is = subst (IsSetIn p d t) (sym is) h
  left_by e test (r ∷ rs) t y z h (u, alike, rest) = left_by e test rs t u z (by alike) rest
    where
      by : IsLeftAlike d p id f sets e test r y u → IsSetIn p d t u
      by (Alike of l) = left_in e test r t y u h l
      by (Unlike none is) = subst (IsSetIn p d t) (sym is) h

  side_typed : (e : Expr) (test : Test) (flow : Flowing I) → IsSide d p id f facts point n fact e test flow → Typed flow
  side_typed e test flow h = record {
    flag = flags of_point.flag;
    locals = λ r l.
        (let w = of_point.locals.there r l in
        let (z, is, left) = h.locals r w.2.0.0 w.1 w.2.0.2 w.2.1 in
        (w.0, w.2.0, some_in d p w.0 z (flow.local r) is (left_in e test w.2.0.0 w.0 w.1 z w.2.2 left)));
    cells = λ j l.
        (let w = of_point.cells.there j l in
        let (z, is, left) = h.cells j w.1 w.2.1 in
        (w.0, w.2.0, some_in d p w.0 z (flow.cell j) is (left_by e test (equal_to d p id f facts point n fact j) w.0 w.1 z w.2.2 left)));
  }
    where
      flags : (fact.off ≡ true) ⊎ (fact.on ≡ true) → (flow.off ≡ true) ⊎ (flow.on ≡ true)
      flags (inl i) = inl (h.off ∙ i)
      flags (inr i) = inr (h.on ∙ i)

  one_side : (e : Expr) (test : Test) (k : ℕ) (flows : List (ℕ × Flowing I)) → Side d p id f facts point n fact e test k flows → AllTyped flows
  one_side e test k flows (Taken flow side taken is) = subst AllTyped (sym is) (side_typed e test flow side, tt)
  one_side e test k flows (Barred never is) = none_typed flows is
  one_side e test k flows (Untaken flow side never is) = none_typed flows is

  sides_typed : (e : Expr) (tests : List (Test × ℕ)) (flows : List (ℕ × Flowing I)) → AreSides d p id f facts point n fact e tests flows → AllTyped flows
  sides_typed e [] flows is = none_typed flows is
  sides_typed e (t ∷ tests) flows (first, rest, side, sides, is) =
      subst AllTyped (sym is) (each_append (λ (a : ℕ × Flowing I). Typed a.1) first rest (one_side e t.0 t.1 first side) (sides_typed e tests rest sides))

  -- ---- each act

  flag_truth : (m : ℤ) → FlagValue d p id f facts point n fact m → IsTruth m
  flag_truth m (inl h) = (false, sym h.1)
  flag_truth m (inr h) = (true, sym h.1)

  turned : (on : Bool) → (not on ≡ true) ⊎ (on ≡ true)
  turned true = inr refl
  turned false = inl refl

  one_way : (off on : Bool) → (off || on) ≡ true → (off ≡ true) ⊎ (on ≡ true)
  one_way true on h = inl refl
  one_way false on h = inr h

  restored : (off on : Bool) (flows : List (ℕ × Flowing I)) → flows ≡ (if off || on then to_all d p id f facts point n fact (with_flags off on (of_fact fact)) else []) → AllTyped flows
  restored off on flows is = by (off || on) refl is
    where
      by : (b : Bool) → (off || on) ≡ b → flows ≡ (if b then to_all d p id f facts point n fact (with_flags off on (of_fact fact)) else []) → AllTyped flows
      by true e is = all_typed (with_flags off on (of_fact fact)) flows is (flags_typed d p f off on (of_fact fact) (one_way off on e) here_typed)
      by false e is = none_typed flows is

  flows_typed : (act : Act) → AreTaken p id f act → (flows : List (ℕ × Flowing I)) → Flows d p id f facts point n fact act flows → AllTyped flows
  flows_typed act taken flows (OfSets r number e y is at val same) =
      let (t, of_type, takes) = subst (AreTaken p id f) is taken in
      all_typed (with_local number y (of_fact fact)) flows same
      (local_typed d p f number t y (of_fact fact) (typed_at d typing p wholes normal facts shape n id f point fact is_point known r number t at of_type) (value_in d typing p wholes normal facts shape n id f point fact is_point known t e y takes val) here_typed)
  flows_typed act taken flows (OfReads r number a y is at read same) =
      let (t, u, of_type, reads, fits) = subst (AreTaken p id f) is taken in
      let place = one_there (place_type p f.locals a) read_from u reads in
      let in_type = read_in d typing p wholes facts shape n id f sets is_point.function (its_points d typing p wholes normal facts shape n id f point fact is_point known) fact known of_point a y place.0 u place.1 place.2 (assigned_scalar t u fits) read in
      all_typed (with_pair number (tracked_in p (out-Place a)) (with_local number y (of_fact fact))) flows same
      (pair_typed d p f number (tracked_in p (out-Place a)) (with_local number y (of_fact fact))
      (local_typed d p f number t y (of_fact fact) (typed_at d typing p wholes normal facts shape n id f point fact is_point known r number t at of_type) (wider_set d p t u y fits in_type) here_typed))
  flows_typed act taken flows (OfWrites a e y is val same) =
      let (place, t, typed, written, takes) = subst (AreTaken p id f) is taken in
      let in_type = value_in d typing p wholes normal facts shape n id f point fact is_point known t e y takes val in
      all_typed (with_cell (tracked_in p (out-Place a)) y (of_fact fact)) flows same
      (cell_typed d p f (tracked_in p (out-Place a)) y (of_fact fact) (λ cell at. (t, tracked_type d p f a cell place t at typed (read_as_written place t written), in_type)) here_typed)
  flows_typed act taken flows (OfTurns on is same) = all_typed (with_flags (not on) on (of_fact fact)) flows same (flags_typed d p f (not on) on (of_fact fact) (turned on) here_typed)
  flows_typed act taken flows (OfSaves r number x is at hull same) =
      let (t, of_type, fits) = subst (AreTaken p id f) is taken in
      let in_type = wider_set d p t (Integer int.UChar) (abs.Ints x) fits
      (holds d p int.UChar x (hull_in d p typing wholes int.UChar (FlagValue d p id f facts point n fact) x hull (λ m k. truth_in int.UChar p.target m (flag_truth m k)))) in
      all_typed (with_flags true false (with_local number (abs.Ints x) (of_fact fact))) flows same
      (flags_typed d p f true false (with_local number (abs.Ints x) (of_fact fact)) (inl refl)
      (local_typed d p f number t (abs.Ints x) (of_fact fact) (typed_at d typing p wholes normal facts shape n id f point fact is_point known r number t at of_type) in_type here_typed))
  flows_typed act taken flows (OfSavesAlone is same) = all_typed (with_flags true false (of_fact fact)) flows same (flags_typed d p f true false (of_fact fact) (inl refl) here_typed)
  flows_typed act taken flows (OfRestores e y off on is val says says_on same) = restored off on flows same
  flows_typed act taken flows (OfTests e tests is sides) = sides_typed e tests flows sides
  flows_typed act taken flows (OfReturns e is same) = all_typed (of_fact fact) flows same here_typed
  flows_typed act taken flows (OfPasses is same) = all_typed (of_fact fact) flows same here_typed
  flows_typed act taken flows (OfCalls result g args is none) = none_typed flows none

  -- ---- where it comes

  going : (k : ℕ) (flows : List (ℕ × Flowing I)) → AllTyped flows → Each Typed (flows_to d p facts n id f point fact k flows)
  going k flows h = each_map Typed (λ (a : ℕ × Flowing I). a.1) (filter (λ (a : ℕ × Flowing I). a.0 == k) flows) (λ a c. each_at (λ (b : ℕ × Flowing I). Typed b.1) flows a h (from_filter (λ (b : ℕ × Flowing I). b.0 == k) flows a c).0)

  comes_fit : (k : ℕ) → IsPointIn d p k f → (list : List (Flowing I)) → Each Typed list → (ns : Needs I) → ComesTo d p facts n id f point fact k list ns → (q : Known d p) → AreFitBehind d p q ns
  comes_fit k there [] each ns is q = subst (AreFitBehind d p q) (sym is) tt
  comes_fit k there (a ∷ list) each ns (flow, joined, is) q = subst (AreFitBehind d p q) (sym is) (flow_fits d p k f flow (flow_at d p f k flow there (joined_typed d p f typing wholes a list flow each joined)) q)

  each_comes : (next : List ℕ) → ((k : ℕ) → Contains next k → IsPointIn d p k f) → (flows : List (ℕ × Flowing I)) → AllTyped flows → (ns : Needs I) → ComesToEach d p facts n id f point fact next flows ns → (q : Known d p) → AreFitBehind d p q ns
  each_comes [] there flows each ns is q = subst (AreFitBehind d p q) (sym is) tt
  each_comes (k ∷ next) there flows each ns (here, rest, comes, more, is) q =
      subst (AreFitBehind d p q) (sym is)
      (fit_append d p q here rest (comes_fit k (there k (at_head k next)) (flows_to d p facts n id f point fact k flows) (going k flows each) here comes q)
      (each_comes next (λ j c. there j (behind_head k next j c)) flows each rest more (λ g. q g × HaveThem d p here g)))

  pub flow_fit : (act : Act) → AreTaken p id f act → (flows : List (ℕ × Flowing I)) → Flows d p id f facts point n fact act flows → (ns : Needs I) → ComesToEach d p facts n id f point fact point.next flows ns → AreFit d p ns
  flow_fit act taken flows are ns comes = each_comes point.next (λ k c. next_there d p n id f point is_point k c) flows (flows_typed act taken flows are) ns comes (λ q. Unit {0})
