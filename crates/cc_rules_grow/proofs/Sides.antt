-- A side of a test that is taken is taken in greater facts, and what flows there grows.
use Rattle.std.proofs.Common.{arith, ◌≡◌, inl, inr, ℕ, ◌<◌, Bool, true, List, [], ◌∷◌, ◌++◌, length, Contains, Option, Some, None, slice_get, refl, ap, sym, ◌∙◌, subst}
use Rattle.std.specs.Prelude.{option_and_then}
use Rattle.std.specs.List.{filter}
use Rattle.std.proofs.lemmas.Option.{same_Some, slice_get_within}
use Rattle.cc_rules.specs.CcFlow.declared.types.Point.{Point}
use Rattle.cc_rules.specs.CcPlaces.Abstract.{IsBelowAbs, HasValue}
use Rattle.cc_rules.specs.CcPlaces.declared.abs.Abs.{Abs}
use Rattle.cc_rules.specs.CcPlaces.declared.abs.Abs.TheVariants as abs
use Rattle.cc_program.specs.declared.expr.Expr.{Expr}
use Rattle.cc_program.specs.declared.func.Func.{Func}
use Rattle.cc_program.specs.declared.program.Program.{Program}
use Rattle.cc_program.specs.declared.value.Value.{Value}
use Rattle.cc_program.specs.declared.value.Value.TheVariants.{Int}
use Rattle.cc_rules.specs.CcRulesFlows.Flows.{equals, IsSide, IsTaken, Side, Taken, Barred, Untaken, AreSides}
use Rattle.cc_rules.specs.CcRulesFlows.Tests.{Test, MayPass, IsLeft}
use Rattle.cc_rules.specs.CcRulesFlows.Worked.{AreWorked}
use Rattle.cc_rules_grow.proofs.Below.{AreSomeBelow, IsFactBelow, IsFullBelow}
use Rattle.cc_rules_grow.proofs.Chains.{WorkedBy, chain_grows, worked_by}
use Rattle.cc_rules_grow.proofs.Elements.{Each, each_append, in_middle, some_within}
use Rattle.cc_rules_grow.proofs.Emptied.{something_left}
use Rattle.cc_rules_grow.proofs.Kept.{IsKept, ValuesGrow, value_grows}
use Rattle.cc_rules_grow.proofs.Leaving.{AreWorkedAt, left_as, left_grows}
use Rattle.cc_rules_grow.proofs.Places.{register_at}
use Rattle.cc_rules.specs.CcRulesNeeds.Flowing.{Flowing}
use Rattle.cc_state_points.proofs.CcState.Lists.{at_contained, from_filter}
use Rattle.cc_rules.specs.CcStateFacts.declared.facts.Facts.{Facts}
use Rattle.cc_rules.specs.CcStateFacts.declared.facts.PointFact.{PointFact}
use Rattle.cc_rules.specs.CcStateFacts.Facts.{fact_at, cell_of, local_of}
use Rattle.cc_rules.specs.CcStateKeys.Tracked.{registers, register_number, tracked}
use Rattle.cc_rules.specs.CcStateOperators.Domains.{Domain}
use Rattle.cc_rules.specs.CcStateReads.Reads.{registers_at}
use Rattle.cc_rules.proofs.CcStateValues.Same.{IsOrdered}
use Rattle.cc_state_points.specs.CcStateValuesGrow.Growth.{AreRegistersBelow, RegistersPoint}
use Rattle.cc_rules.specs.CcPlaces.laws.ListLaws.{at_head}
use Rattle.std.proofs.lemmas.List.Elements.{Contains-append_left, Contains-append_right}

module _ {I : Type 0} (d : Domain I) (o : IsOrdered d) (k : IsKept d) (p : Program) (id : ℕ) (f : Func) (grown : ValuesGrow d p id f) (facts others : Facts I) (point : Point) (n : ℕ) (fact other : PointFact I)
    (points : RegistersPoint p f (registers_at facts f n)) (below : AreRegistersBelow d.below (registers_at facts f n) (registers_at others f n))
    (known : fact_at facts n ≡ Some fact) (less : IsFactBelow d (length (registers f)) (length (tracked p)) fact other) (count : length other.locals ≡ length (registers f)) where
  abbrev own : ℕ → Option (Abs I)
  own = registers_at facts f n

  abbrev more : ℕ → Option (Abs I)
  more = registers_at others f n

  abbrev FlowBelow : Flowing I → Flowing I → Type 0
  FlowBelow a b = IsFullBelow d (length (registers f)) (length (tracked p)) a b

  own_set : (number r : ℕ) (y : Abs I) → slice_get (registers f) number ≡ Some r → local_of fact number ≡ Some y → own r ≡ Some y
  own_set number r y is at =
      ap (λ (i : Option ℕ). option_and_then (λ (m : ℕ). option_and_then (λ (x : PointFact I). local_of x m) (fact_at facts n)) i) (register_at f number r is)
      ∙ (ap (λ (x : Option (PointFact I)). option_and_then (λ (x : PointFact I). local_of x number) x) known ∙ at)

  module _ (e : Expr) (test : Test) (worked : AreWorked d p id f facts point n fact e test) where
    passes_more : MayPass d p id f own e test → MayPass d p id f more e test
    passes_more may y' val' =
        let (y, val) = worked.value in
        let (v, has, truth) = may y val in
        (v, value_grows d k y y' (grown own more points below e y y' val val') v has, truth)

    module _ (may : MayPass d p id f own e test) (a b : Flowing I) (side : IsSide d p id f facts point n fact e test a) (side' : IsSide d p id f others point n other e test b) where
      worked_local : (number r : ℕ) (y : Abs I) → slice_get (registers f) number ≡ Some r → local_of fact number ≡ Some y → AreWorkedAt d o k p id f grown own more points below e test r y
      worked_local number r y is at m x members same listed c = worked.members may number r m is (inl (y, at, (x, members, same, listed, c)))

      locals_below : (number : ℕ) → number < length (registers f) → AreSomeBelow d (a.local number) (b.local number)
      locals_below number l =
          let (r, is) = some_within (registers f) number l in
          let (y, y', at, at', h) = less.locals number l in
          let (z, there, left) = side.locals number r y is at in
          let (z', there', left') = side'.locals number r y' is at' in
          (z, z', there, there', left_grows d o k p id f grown own more points below e test r y y' z z' h (worked_local number r y is at) left left')

      -- the registers that equal a cell

      fewer_equal : (cell : ℕ) (number : Option ℕ) → equals d p id f others point n other number cell ≡ true → equals d p id f facts point n fact number cell ≡ true
      fewer_equal cell None h = h
      fewer_equal cell (Some number) h = less.pairs number cell h

      abbrev equal_here : ℕ → ℕ → Bool
      equal_here cell r = equals d p id f facts point n fact (register_number f r) cell

      worked_cell : (cell : ℕ) (y : Abs I) → cell_of fact cell ≡ Some y → WorkedBy d o k p id f grown own more points below e test (filter (equal_here cell) (registers f)) y
      worked_cell cell y at =
          worked_by d o k p id f grown own more points below e test y [] (filter (equal_here cell) (registers f)) y refl
          (λ before r behind u same left of m x members is listed c.
          (let among = subst (λ (l : List ℕ). Contains l r) (sym same) (in_middle before r behind) in
          let place = at_contained (registers f) r (from_filter (equal_here cell) (registers f) r among).0 in
          worked.members may place.0 r m place.1 (inr (cell, before, behind, y, u, same, at, left, of, (x, members, is, listed, c)))))

      cells_below : (cell : ℕ) → cell < length (tracked p) → AreSomeBelow d (a.cell cell) (b.cell cell)
      cells_below cell l =
          let (y, y', at, at', h) = less.cells_below cell l in
          let (z, there, left) = side.cells cell y at in
          let (z', there', left') = side'.cells cell y' at' in (
            z,
            z',
            there,
            there',
            chain_grows d o k p id f grown own more points below e test (equal_here cell) (λ r. equals d p id f others point n other (register_number f r) cell)
                (λ r. fewer_equal cell (register_number f r)) (registers f) y y' z z' h (worked_cell cell y at) left left',
          )

      pub side_below : FlowBelow a b
      side_below = record {
        off = λ h. side'.off ∙ less.off (sym side.off ∙ h);
        on = λ h. side'.on ∙ less.on (sym side.on ∙ h);
        locals = locals_below;
        cells_below = cells_below;
        pairs = λ r j h. side.pairs r j ∙ less.pairs r j (sym (side'.pairs r j) ∙ h);
      }

      -- ---- a side that is taken

      left_more : IsTaken d p id f facts point n fact e test a → (number r : ℕ) → number < length (registers f) → slice_get (registers f) number ≡ Some r → (y y' z z' : Abs I) (v : Value) → local_of fact number ≡ Some y → IsBelowAbs d.below y y' →
          a.local number ≡ Some z → IsBelowAbs d.below z z' → IsLeft d p id f more e test r y' z' → HasValue d.has y' v → (w : Value) × HasValue d.has z' w
      left_more taken number r l is (abs.Ints x) (abs.Ints x') z z' v at h there grows left' has = elim (k.empty_or x) [
        | inl m ↦ let (w, has_w) = taken.left number (abs.Ints x) z (Int m.0) at there m.1 in (w, value_grows d k z z' grows w has_w)
        | inr none ↦
            let (y0, val) = worked.value in
            something_left d o k p id f grown own more points below e test r x (own_set number r (abs.Ints x) is at) none y0 val (taken.passes y0 val) x' z' v has left'
      ]
      left_more taken number r l is (abs.Ints x) (abs.Addrs t) z z' v at h there grows left' has = absurd h
      left_more taken number r l is (abs.Addrs s) (abs.Ints x) z z' v at h there grows left' has = absurd h
      left_more taken number r l is (abs.Addrs s) (abs.Addrs t) z z' v at h there grows left' has =
          (v, subst (λ (i : Abs I). HasValue d.has i v) (sym (left_as d o k p id f grown own more points below e test more r (abs.Addrs t) z' left')) has)

      pub taken_more : IsTaken d p id f facts point n fact e test a → IsTaken d p id f others point n other e test b
      taken_more taken = record { passes = passes_more taken.passes; left = left }
        where
          left : (number : ℕ) (y' z' : Abs I) (v : Value) → local_of other number ≡ Some y' → b.local number ≡ Some z' → HasValue d.has y' v → (w : Value) × HasValue d.has z' w
          left number y' z' v at' there' has =
              let within = slice_get_within other.locals number y' at' in
              let l : number < length (registers f) = omega (arith, within, count) in
              let (r, is) = some_within (registers f) number l in
              let (y, y1, at, at1, h) = less.locals number l in
              let same : y1 ≡ y' = same_Some y1 y' (sym at1 ∙ at') in
              let h' = subst (λ (s : Abs I). IsBelowAbs d.below y s) same h in
              let (z, there, left) = side.locals number r y is at in
              let (z1, there1, left') = side'.locals number r y' is at' in
              let same_z : z1 ≡ z' = same_Some z1 z' (sym there1 ∙ there') in
              let grows = left_grows d o k p id f grown own more points below e test r y y' z z1 h' (worked_local number r y is at) left left' in
              left_more taken number r l is y y' z z' v at h' there (subst (λ (s : Abs I). IsBelowAbs d.below z s) same_z grows) (subst (λ (s : Abs I). IsLeft d p id f more e test r y' s) same_z left') has

  -- ---- the sides of all tests

  -- each flow is below one of others to the same point
  abbrev pub AreFlowsBelow : List (ℕ × Flowing I) → List (ℕ × Flowing I) → Type 0
  AreFlowsBelow flows more_flows = Each (λ (a : ℕ × Flowing I). (b : Flowing I) × Contains more_flows (a.0, b) × FlowBelow a.1 b) flows

  flows_in : (flows first second : List (ℕ × Flowing I)) → ((x : ℕ × Flowing I) → Contains first x → Contains second x) → AreFlowsBelow flows first → AreFlowsBelow flows second
  flows_in [] first second g h = tt
  flows_in (a ∷ flows) first second g h = ((h.0.0, g (a.0, h.0.0) h.0.1, h.0.2), flows_in flows first second g h.1)

  side_flows : (e : Expr) (test : Test) (m : ℕ) (flows more_flows : List (ℕ × Flowing I)) → AreWorked d p id f facts point n fact e test → Side d p id f facts point n fact e test m flows → Side d p id f others point n other e test m more_flows → AreFlowsBelow flows more_flows
  side_flows e test m flows more_flows worked (Barred never is) s = subst (λ (l : List (ℕ × Flowing I)). AreFlowsBelow l more_flows) (sym is) tt
  side_flows e test m flows more_flows worked (Untaken a side never is) s = subst (λ (l : List (ℕ × Flowing I)). AreFlowsBelow l more_flows) (sym is) tt
  side_flows e test m flows more_flows worked (Taken a side taken is) (Barred never is') = absurd (never (passes_more e test worked taken.passes))
  side_flows e test m flows more_flows worked (Taken a side taken is) (Untaken b side' never is') = absurd (never (taken_more e test worked taken.passes a b side side' taken))
  side_flows e test m flows more_flows worked (Taken a side taken is) (Taken b side' taken' is') =
      subst (λ (l : List (ℕ × Flowing I)). AreFlowsBelow l more_flows) (sym is)
      (((b, subst (λ (l : List (ℕ × Flowing I)). Contains l (m, b)) (sym is') (at_head (m, b) []), side_below e test worked taken.passes a b side side'), tt))

  pub sides_below : (e : Expr) (tests : List (Test × ℕ)) (flows more_flows : List (ℕ × Flowing I)) → Each (λ (t : Test × ℕ). AreWorked d p id f facts point n fact e t.0) tests → AreSides d p id f facts point n fact e tests flows →
      AreSides d p id f others point n other e tests more_flows → AreFlowsBelow flows more_flows
  sides_below e [] flows more_flows worked s s' = subst (λ (l : List (ℕ × Flowing I)). AreFlowsBelow l more_flows) (sym s) tt
  sides_below e (t ∷ tests) flows more_flows worked (first, rest, side, sides, is) (first', rest', side', sides', is') =
      let here = side_flows e t.0 t.1 first first' worked.0 side side' in
      let later = sides_below e tests rest rest' worked.1 sides sides' in
      subst (λ (l : List (ℕ × Flowing I)). AreFlowsBelow l more_flows) (sym is)
      (subst (λ (l : List (ℕ × Flowing I)). AreFlowsBelow (first ++ rest) l) (sym is')
      (each_append (λ (a : ℕ × Flowing I). (b : Flowing I) × Contains (first' ++ rest') (a.0, b) × FlowBelow a.1 b) first rest
      (flows_in first first' (first' ++ rest') (λ x c. Contains-append_left first' rest' x c) here) (flows_in rest rest' (first' ++ rest') (λ x c. Contains-append_right first' rest' x c) later)))
