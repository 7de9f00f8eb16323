-- What facts say behind a test: the point to which an outcome leads has what the test leaves of the sets of its point.
use Rattle.std.proofs.Common.{arith, ◌≡◌, ◌⊎◌, inl, inr, ◌<◌, ℕ, zero, suc, ℤ, Bool, true, false, List, [], ◌∷◌, length, Contains, Option, Some, None, slice_get, refl, ap, sym, ◌∙◌, subst, cond}
use Rattle.std.specs.Prelude.{option_and_then}
use Rattle.std.specs.List.{filter}
use Rattle.std.proofs.lemmas.List.Elements.{Contains-append_left, Contains-append_right}
use Rattle.std.proofs.lemmas.Option.{same_Some, slice_get_within}
use Rattle.cc_rules.specs.CcFlow.declared.types.Point.{Point}
use Rattle.cc_rules.specs.CcFlow.Points.{flow_of}
use Rattle.cc_state_values_sound.specs.CcPlaces.Abstract.{HasValue}
use Rattle.cc_state_values_sound.specs.CcPlaces.declared.abs.Abs.{Abs}
use Rattle.cc_program.specs.declared.expr.Expr.{Expr}
use Rattle.cc_program.specs.declared.func.Func.{Func}
use Rattle.cc_program.specs.declared.program.Program.{Program}
use Rattle.cc_program.specs.declared.value.Value.{Value}
use Rattle.cc_proof_covers.specs.Views.{View}
use Rattle.cc_proof_forms.specs.Refined.{MayLead, Refines}
use Rattle.cc_proof_rules.proofs.Arrivals.{known_flag, known_local, known_cell, known_same, register_there}
use Rattle.cc_proof_rules.proofs.Lists.{in_first, in_rest, no_member, first_or_rest}
use Rattle.cc_proof_rules.proofs.Asks.{flow_met, flow_arrives}
use Rattle.cc_proof_rules.proofs.Registers.{register_at, register_is}
use Rattle.cc_proof_rules.specs.Arrivals.{flag_in, HasFlag, IsKnown, Arrives}
use Rattle.cc_proof_rules.specs.Outcomes.{IsTestAt, PassesAt, PassesWith}
use Rattle.cc_rules.specs.Rules.{act_at, IsSolution}
use Rattle.cc_rules.specs.CcRulesFlows.Acts.{Act}
use Rattle.cc_rules.specs.CcRulesFlows.Flows.{tests_of, equals, equal_to, IsSide, IsTaken, Side, Taken, Barred, Untaken, AreSides, Flows, OfSets, OfReads, OfWrites, OfTurns, OfSaves, OfSavesAlone, OfRestores, OfTests, OfReturns, OfPasses, OfCalls}
use Rattle.cc_rules.specs.CcRulesFlows.Nexts.{statement_of}
use Rattle.cc_rules.specs.CcRulesFlows.Tests.{Test, MayPass, IsLeftAlike, Alike, Unlike, IsLeftBy}
use Rattle.cc_rules.specs.CcRulesNeeds.Flowing.{Flowing, of_fact}
use Rattle.cc_state.specs.Shape.{HaveShape, IsPointFact}
use Rattle.cc_state.specs.View.{view}
use Rattle.cc_rules.specs.CcStateFacts.declared.facts.Facts.{Facts}
use Rattle.cc_rules.specs.CcStateFacts.declared.facts.PointFact.{PointFact}
use Rattle.cc_rules.specs.CcStateFacts.Facts.{fact_at, local_of, has_pair}
use Rattle.cc_rules.specs.CcStateKeys.Tracked.{registers, register_number}
use Rattle.cc_state_values_sound.specs.CcStateOperators.Domains.{Domain}
use Rattle.cc_rules.specs.CcStateReads.Reads.{registers_at}
use Rattle.cc_state_values_sound.proofs.Choices.{GivesAll}
use Rattle.cc_state_values_sound.specs.CcSyntax.Registers.{is_register}

-- ---- what a filter keeps

kept_by : (test : ℕ → Bool) (y x : ℕ) (xs : List ℕ) (b : Bool) → test y ≡ b → (Contains (filter test xs) x → Contains xs x × (test x ≡ true)) → Contains (cond b (y ∷ filter test xs) (filter test xs)) x → Contains (y ∷ xs) x × (test x ≡ true)
kept_by test y x xs true h more c = elim (first_or_rest y (filter test xs) x c) [
  | inl e ↦ (subst (λ (z : ℕ). Contains (y ∷ xs) z) e (in_first y xs), ap test (sym e) ∙ h)
  | inr r ↦ let w = more r in (in_rest y xs x w.0, w.1)
]
kept_by test y x xs false h more c = let w = more c in (in_rest y xs x w.0, w.1)

of_filter : (test : ℕ → Bool) (xs : List ℕ) (x : ℕ) → Contains (filter test xs) x → Contains xs x × (test x ≡ true)
of_filter test [] x c = no_member x c
of_filter test (y ∷ xs) x c = kept_by test y x xs (test y) refl (λ r. of_filter test xs x r) c

some_at : {A : Type 0} (xs : List A) (i : ℕ) → i < length xs → (x : A) × (slice_get xs i ≡ Some x)
some_at [] i l = absurd (omega (arith, l))
some_at (x ∷ xs) zero l = (x, refl)
some_at (x ∷ xs) (suc i) l = some_at xs i (omega (arith, l))

module _ {I : Type 0} (d : Domain I) (all : GivesAll d) (p : Program) (facts : Facts I) (shape : HaveShape d p facts) (solution : IsSolution d p facts) where
  abbrev v : View
  v = view d p facts

  module _ (n : ℕ) (q : Point) (f : Func) (fact : PointFact I) (numbered : slice_get (flow_of p).points n ≡ Some q) (function : slice_get p.funcs q.func ≡ Some f) (there : fact_at facts n ≡ Some fact) where
    abbrev sets : ℕ → Option (Abs I)
    sets = registers_at facts f n

    -- ---- what flows from a test

    abbrev Sides : Expr → List (Test × ℕ) → List (ℕ × Flowing I) → Type 0
    Sides e tests flows = AreSides d p q.func f facts q n fact e tests flows

    abbrev ASide : Expr → Test → ℕ → List (ℕ × Flowing I) → Type 0
    ASide e test k flows = Side d p q.func f facts q n fact e test k flows

    abbrev IsASide : Expr → Test → Flowing I → Type 0
    IsASide e test flow = IsSide d p q.func f facts q n fact e test flow

    abbrev IsATaken : Expr → Test → Flowing I → Type 0
    IsATaken e test flow = IsTaken d p q.func f facts q n fact e test flow

    no_tests : {C : Type 0} (act other : Act) (e : Expr) (tests : List (Test × ℕ)) → tests_of n q.next act ≡ Some (e, tests) → act ≡ other → tests_of n q.next other ≡ None → C
    no_tests act other e tests h i none = absurd (let z : None ≡ Some (e, tests) = sym none ∙ ap (tests_of n q.next) (sym i) ∙ h in cc)

    flow_sides : (act : Act) (e : Expr) (tests : List (Test × ℕ)) (flows : List (ℕ × Flowing I)) → tests_of n q.next act ≡ Some (e, tests) → Flows d p q.func f facts q n fact act flows → Sides e tests flows
    flow_sides act e tests flows h (OfSets r number x y i g k l) = no_tests act _ e tests h i refl
    flow_sides act e tests flows h (OfReads r number a y i g k l) = no_tests act _ e tests h i refl
    flow_sides act e tests flows h (OfWrites a x y i g k) = no_tests act _ e tests h i refl
    flow_sides act e tests flows h (OfTurns on i g) = no_tests act _ e tests h i refl
    flow_sides act e tests flows h (OfSaves r number x i g k l) = no_tests act _ e tests h i refl
    flow_sides act e tests flows h (OfSavesAlone i g) = no_tests act _ e tests h i refl
    flow_sides act e tests flows h (OfRestores x y off on i g k l m) = no_tests act _ e tests h i refl
    flow_sides act e tests flows h (OfTests x others i sides) =
        let same : (x, others) ≡ (e, tests) = same_Some (x, others) (e, tests) (sym i ∙ h) in
        subst (λ (z : Expr × List (Test × ℕ)). Sides z.0 z.1 flows) same sides
    flow_sides act e tests flows h (OfReturns x i g) = no_tests act _ e tests h i refl
    flow_sides act e tests flows h (OfPasses i g) = no_tests act _ e tests h i refl
    flow_sides act e tests flows h (OfCalls result g args i k) = no_tests act _ e tests h i refl

    -- what flows where one of them passes
    abbrev IsAmong : Expr → Test → ℕ → List (ℕ × Flowing I) → Type 0
    IsAmong e test k flows = (first : List (ℕ × Flowing I)) × ASide e test k first × ((x : ℕ × Flowing I) → Contains first x → Contains flows x)

    side_among : (e : Expr) (tests : List (Test × ℕ)) (flows : List (ℕ × Flowing I)) → Sides e tests flows → (test : Test) (k : ℕ) → Contains tests (test, k) → IsAmong e test k flows
    side_among e [] flows sides test k c = no_member (test, k) c
    side_among e (t ∷ tests) flows (first, rest, side, more, is) test k c = elim (first_or_rest t tests (test, k) c) [
      | inl same ↦ (
        first,
        subst (λ (z : Test × ℕ). ASide e z.0 z.1 first) same side,
        λ x h. subst (λ (l : List (ℕ × Flowing I)). Contains l x) (sym is) (Contains-append_left first rest x h),
      )
      | inr later ↦ let w = side_among e tests rest more test k later in (
        w.0,
        w.1,
        λ x h. subst (λ (l : List (ℕ × Flowing I)). Contains l x) (sym is) (Contains-append_right first rest x (w.2 x h)),
      )
    ]

    taken_side : (e : Expr) (test : Test) (k : ℕ) (flows : List (ℕ × Flowing I)) → MayPass d p q.func f sets e test → ((flow : Flowing I) → IsASide e test flow → IsATaken e test flow) → ASide e test k flows → (flow : Flowing I) × IsASide e test flow × Contains flows (k, flow)
    taken_side e test k flows may h (Taken flow side taken is) = (flow, side, subst (λ (l : List (ℕ × Flowing I)). Contains l (k, flow)) (sym is) (in_first (k, flow) []))
    taken_side e test k flows may h (Barred none is) = absurd (none may)
    taken_side e test k flows may h (Untaken flow side none is) = absurd (none (h flow side))

    -- ---- the test of an outcome

    its_shape : IsPointFact d p f fact
    its_shape = shape.point_facts n fact q f (listed (slice_get facts.at n) refl there) numbered function
      where
        listed : (o : Option (Option (PointFact I))) → slice_get facts.at n ≡ o → option_and_then (λ (x : Option (PointFact I)). x) o ≡ Some fact → slice_get facts.at n ≡ Some (Some fact)
        listed None e h = absurd (cc)
        listed (Some x) e h = e ∙ ap Some h

    known : IsKnown d p facts n f fact
    known = record { function = (q, numbered, function); there = there }

    module _ (z : ℤ) (e : Expr) (test : Test) (tested : IsTestAt p n z q.func f e test) where
      abbrev Leads : Type 0
      Leads = MayLead v f n (PassesAt d p facts n) (PassesWith d p facts n) z

      abbrev With : ℕ → Value → Type 0
      With r x = PassesWith d p facts n r x z

      -- a register is not without a member left
      left_some : (flow : Flowing I) → IsASide e test flow → Leads → (number r : ℕ) (y u : Abs I) (x : Value) → slice_get (registers f) number ≡ Some r → local_of fact number ≡ Some y → flow.local number ≡ Some u → HasValue d.has y x →
          (w : Value) × HasValue d.has u w
      left_some flow side leads number r y u x at is_y is_u h =
          let is = register_at f number r at in
          let own = register_is f r number is in
          let s = leads.some r x own (fact, f, number, there, (q, numbered, function), is, (y, is_y, h)) in
          let k = known_local d all p facts n f fact known r s.0 s.1 in
          let same : k.0 ≡ number = same_Some k.0 number (sym k.1 ∙ is) in
          let same_y : k.2.0 ≡ y = same_Some k.2.0 y (sym k.2.1 ∙ ap (local_of fact) same ∙ is_y) in
          let left = side.locals number r y at is_y in
          let same_u : left.0 ≡ u = same_Some left.0 u (sym left.1 ∙ is_u) in
          (s.0, subst (λ (a : Abs I). HasValue d.has a s.0) same_u (s.2 q.func f e test tested own y left.0 left.2 (subst (λ (a : Abs I). HasValue d.has a s.0) same_y k.2.2)))

      taken : (flow : Flowing I) → IsASide e test flow → Leads → IsATaken e test flow
      taken flow side leads = record {
        passes = leads.all q.func f e test tested;
        left = λ number y u x is_y is_u h.
            (let l = slice_get_within fact.locals number y is_y in
            let c = its_shape.local_count in
            let r = some_at (registers f) number (omega (arith, l, c)) in
            left_some flow side leads number r.0 y u x r.1 is_y is_u h);
      }

      -- ---- what is left there

      flag_there : (flow : Flowing I) → IsASide e test flow → (on : Bool) → flag_in (of_fact fact) on ≡ true → flag_in flow on ≡ true
      flag_there flow side true h = side.on ∙ h
      flag_there flow side false h = side.off ∙ h

      side_flag : (flow : Flowing I) → IsASide e test flow → HasFlag flow
      side_flag flow side = by its_shape.flag
        where
          by : (fact.off ≡ true) ⊎ (fact.on ≡ true) → HasFlag flow
          by (inl h) = inl (side.off ∙ h)
          by (inr h) = inr (side.on ∙ h)

      -- by all registers that a cell equals
      left_by : (x : Value) (rs : List ℕ) → ((r : ℕ) → Contains rs r → (is_register f r ≡ true) × With r x) → (y u : Abs I) → IsLeftBy d p q.func f sets e test rs y u → HasValue d.has y x → HasValue d.has u x
      left_by x [] each y u same h = subst (λ (a : Abs I). HasValue d.has a x) (sym same) h
      left_by x (r ∷ rs) each y u (mid, left, more) h =
          left_by x rs (λ s c. each s (in_rest r rs s c)) mid u more (step left)
        where
          step : IsLeftAlike d p q.func f sets e test r y mid → HasValue d.has mid x
          step (Alike own by) = let w = each r (in_first r rs) in w.1 q.func f e test tested w.0 y mid by h
          step (Unlike none same) = subst (λ (a : Abs I). HasValue d.has a x) (sym same) h

      equal_register : (cell r : ℕ) → Contains (equal_to d p q.func f facts q n fact cell) r → (number : ℕ) × (register_number f r ≡ Some number) × (has_pair fact number cell ≡ true)
      equal_register cell r c = by (register_number f r) refl (of_filter (λ s. equals d p q.func f facts q n fact (register_number f s) cell) (registers f) r c).1
        where
          by : (o : Option ℕ) → register_number f r ≡ o → equals d p q.func f facts q n fact o cell ≡ true → (number : ℕ) × (register_number f r ≡ Some number) × (has_pair fact number cell ≡ true)
          by None g h = absurd (cc)
          by (Some number) g h = (number, g, h)

      module _ (k : ℕ) (flow : Flowing I) (side : IsASide e test flow) (arrives : Arrives d p facts k f flow) where
        cell_left : (i : ℕ) (x : Value) → v.cell n i x → ((r : ℕ) → v.same n r i → is_register f r ≡ true → With r x) → v.cell k i x
        cell_left i x h each =
            let c = known_cell d all p facts n f fact known i x h in
            let left = side.cells c.0 c.2.0 c.2.1 in
            arrives.cells i c.0 x c.1 (
              left.0,
              left.1,
              left_by x (equal_to d p q.func f facts q n fact c.0)
                  (λ r among.
                  (let w = equal_register c.0 r among in
                  let own = register_is f r w.0 w.1 in
                  (own, each r (known_same d all p facts n f fact known r i w.0 c.0 w.1 c.1 w.2) own)))
                  c.2.0 left.0 left.2 c.2.2,
            )

        local_left : (r : ℕ) (x : Value) → is_register f r ≡ true → v.local n r x → With r x → v.local k r x
        local_left r x own h with_it =
            let l = known_local d all p facts n f fact known r x h in
            let left = side.locals l.0 r l.2.0 (register_there f r l.0 l.1) l.2.1 in
            arrives.locals r l.0 x l.1 (left.0, left.1, with_it q.func f e test tested own l.2.0 left.0 left.2 l.2.2)

        same_there : (r i : ℕ) → v.same k r i → v.same n r i
        same_there r i h = let w = arrives.pairs r i h in known_same d all p facts n f fact known r i w.0 w.1 w.2 w.3 (sym (side.pairs w.0 w.1) ∙ w.4)

        refines : Refines v f n (PassesAt d p facts n) (PassesWith d p facts n) z k
        refines = record {
          reached = arrives.reached;
          flags = λ on h. arrives.flags on (flag_there flow side on (known_flag d all p facts n f fact known on h));
          locals = λ r x own h w. local_left r x own h w;
          cells = λ i x t h each. cell_left i x h each;
          sames = same_there;
        }

      -- where the outcome may be, the point to which it leads has that
      pub side_refines : (tests : List (Test × ℕ)) → tests_of n q.next (act_at (statement_of f q) f) ≡ Some (e, tests) → (k : ℕ) → Contains tests (test, k) → Contains q.next k → Leads →
          Refines v f n (PassesAt d p facts n) (PassesWith d p facts n) z k
      side_refines tests are k among at leads =
          let met = flow_met d all p facts solution n q f fact numbered function there in
          let sides = flow_sides (act_at (statement_of f q) f) e tests met.1.0 are met.1.1 in
          let one = side_among e tests met.1.0 sides test k among in
          let taken_flow = taken_side e test k one.0 (leads.all q.func f e test tested) (λ flow side. taken flow side leads) one.1 in
          let flow = taken_flow.0 in
          refines k flow taken_flow.1
          (flow_arrives d all p facts solution n q f fact numbered function there k at flow (side_flag flow taken_flow.1) met.1.0 met.0 met.1.2 met.2 (one.2 (k, flow) taken_flow.2))
