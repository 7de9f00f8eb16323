-- What each rule asks at a point that is reached, where facts solve the constraints, and that they have it.
use Rattle.std.proofs.Common.{arith, ◌≡◌, inl, inr, ℕ, ◌<◌, List, [], ◌∷◌, ◌++◌, map, Contains, Option, Some, None, slice_get, refl, sym, ap, subst, ◌∙◌}
use Rattle.std.specs.Prelude.{◌==◌, option_and_then}
use Rattle.std.specs.List.{filter, flat_map}
use Rattle.std.proofs.lemmas.Bool.{eq-eqb}
use Rattle.std.proofs.lemmas.Option.{same_Some}
use Rattle.cc_rules.specs.CcFlow.declared.types.Point.{Point}
use Rattle.cc_rules.specs.CcFlow.Points.{count_of, flow_of}
use Rattle.cc_program.specs.declared.func.Func.{Func}
use Rattle.cc_program.specs.declared.program.Program.{Program}
use Rattle.cc_proof_rules.proofs.Arrivals.{arrives, joined_has_flag, joined_arrives}
use Rattle.cc_proof_rules.proofs.Functions.{point_below, next_function}
use Rattle.cc_proof_rules.proofs.Lists.{contains_at, in_first, in_rest, in_map, in_flat, in_filter, in_numbers, no_member, first_or_rest, all_front, all_back}
use Rattle.cc_proof_rules.specs.Arrivals.{HasFlag, IsKnown, Arrives}
use Rattle.cc_rules.specs.Constraints.{Rule, Initial, Start, Flow, Write, Touch, Call, Back, Return, Handler, Stability, at_point, rules_at, constraints}
use Rattle.cc_rules.specs.Rules.{act_at, AreFirstSets, IsStarted, flows_to, ComesTo, ComesToEach, ForEach, AskedHere, AskedIn, IsSolution}
use Rattle.cc_rules.specs.CcRulesFlows.Nexts.{statement_of}
use Rattle.cc_rules.specs.CcRulesNeeds.Flowing.{Flowing, of_fact, numbers}
use Rattle.cc_rules.specs.CcRulesNeeds.Needs.{Needs, Has as HasPart, HasAll}
use Rattle.cc_state.specs.Shape.{HaveShape}
use Rattle.cc_rules.specs.CcStateFacts.declared.facts.Facts.{Facts}
use Rattle.cc_rules.specs.CcStateFacts.declared.facts.PointFact.{PointFact}
use Rattle.cc_rules.specs.CcStateFacts.Facts.{fact_at}
use Rattle.cc_rules.specs.CcStateKeys.Keys.{keys_of}
use Rattle.cc_state_values_sound.specs.CcStateOperators.Domains.{Domain}
use Rattle.cc_state_values_sound.proofs.Choices.{GivesAll}

rule_there : (p : Program) (n : ℕ) (rule : Rule) → n < count_of p → Contains rules_at rule → Contains (constraints p) (at_point n rule)
rule_there p n rule l c =
    in_rest (at_point 0 Initial) (flat_map (λ n. map (at_point n) rules_at) (numbers 0 (count_of p))) (at_point n rule)
    (in_flat (λ n. map (at_point n) rules_at) (numbers 0 (count_of p)) n (at_point n rule) (in_numbers 0 (count_of p) n (omega arith) (omega (arith, l))) (in_map (at_point n) rules_at rule c))

-- the rules of a point, by their places
rule_at : (i : ℕ) (rule : Rule) → slice_get rules_at i ≡ Some rule → Contains rules_at rule
rule_at i rule e = contains_at rules_at i rule e

module _ {I : Type 0} (d : Domain I) (all : GivesAll d) (p : Program) (facts : Facts I) (solution : IsSolution d p facts) where
  -- what is asked, and that facts have it
  abbrev pub IsHad : (Needs I → Type 0) → Type 0
  IsHad Asked = (ns : Needs I) × Asked ns × HasAll d.below ns facts

  pub initial_met : IsHad (AreFirstSets d p facts 0 (keys_of p))
  initial_met = let m = solution (at_point 0 Initial) (in_first (at_point 0 Initial) (flat_map (λ n. map (at_point n) rules_at) (numbers 0 (count_of p)))) in (m.0, m.1, m.2)

  pub start_met : (n : ℕ) → n < count_of p → IsHad (IsStarted d p facts n)
  start_met n l = let m = solution (at_point n Start) (rule_there p n Start l (rule_at 0 Start refl)) in (m.0, m.1, m.2)

  module _ (n : ℕ) (q : Point) (f : Func) (fact : PointFact I) (numbered : slice_get (flow_of p).points n ≡ Some q) (function : slice_get p.funcs q.func ≡ Some f) (there : fact_at facts n ≡ Some fact) where
    pub known_point : IsKnown d p facts n f fact
    known_point = record { function = (q, numbered, function); there = there }

    -- a rule at the point
    abbrev pub Asked : Rule → Needs I → Type 0
    Asked rule ns = AskedHere d p facts n q.func f q fact rule (act_at (statement_of f q) f) ns

    asked_here : (rule : Rule) (ns : Needs I) → AskedIn d p facts rule n (fact_at facts n) ns → Asked rule ns
    asked_here rule ns h =
        let k = subst (λ (o : Option (PointFact I)). AskedIn d p facts rule n o ns) there h in
        let at = k.3 in
        let point : k.2 ≡ q = same_Some k.2 q (sym at.numbered ∙ numbered) in
        let own : k.0 ≡ q.func = sym at.own ∙ ap (λ (r : Point). r.func) point in
        let body : k.1 ≡ f = same_Some k.1 f (sym at.function ∙ ap (slice_get p.funcs) own ∙ function) in
        subst (λ (id : ℕ). AskedHere d p facts n id f q fact rule (act_at (statement_of f q) f) ns) own
        (subst (λ (g : Func). AskedHere d p facts n k.0 g q fact rule (act_at (statement_of g q) g) ns) body
        (subst (λ (r : Point). AskedHere d p facts n k.0 k.1 r fact rule (act_at (statement_of k.1 r) k.1) ns) point k.4))

    below : n < count_of p
    below = point_below p n q numbered

    pub flow_met : IsHad (Asked Flow)
    flow_met = let m = solution (at_point n Flow) (rule_there p n Flow below (rule_at 1 Flow refl)) in (m.0, asked_here Flow m.0 m.1, m.2)

    pub write_met : IsHad (Asked Write)
    write_met = let m = solution (at_point n Write) (rule_there p n Write below (rule_at 2 Write refl)) in (m.0, asked_here Write m.0 m.1, m.2)

    pub touch_met : IsHad (Asked Touch)
    touch_met = let m = solution (at_point n Touch) (rule_there p n Touch below (rule_at 3 Touch refl)) in (m.0, asked_here Touch m.0 m.1, m.2)

    pub call_met : IsHad (Asked Call)
    call_met = let m = solution (at_point n Call) (rule_there p n Call below (rule_at 4 Call refl)) in (m.0, asked_here Call m.0 m.1, m.2)

    pub back_met : IsHad (Asked Back)
    back_met = let m = solution (at_point n Back) (rule_there p n Back below (rule_at 5 Back refl)) in (m.0, asked_here Back m.0 m.1, m.2)

    pub return_met : IsHad (Asked Return)
    return_met = let m = solution (at_point n Return) (rule_there p n Return below (rule_at 6 Return refl)) in (m.0, asked_here Return m.0 m.1, m.2)

    pub handler_met : IsHad (Asked Handler)
    handler_met = let m = solution (at_point n Handler) (rule_there p n Handler below (rule_at 7 Handler refl)) in (m.0, asked_here Handler m.0 m.1, m.2)

    pub stability_met : IsHad (Asked Stability)
    stability_met = let m = solution (at_point n Stability) (rule_there p n Stability below (rule_at 8 Stability refl)) in (m.0, asked_here Stability m.0 m.1, m.2)

    -- ---- what flows to a next point is there

    abbrev pub Comes : List ℕ → List (ℕ × Flowing I) → Needs I → Type 0
    Comes next flows ns = ComesToEach d p facts n q.func f q fact next flows ns

    module _ (k : ℕ) (at : Contains q.next k) (one : Flowing I) (flag : HasFlag one) where
      comes_by : (list : List (Flowing I)) (ns : Needs I) → ComesTo d p facts n q.func f q fact k list ns → HasAll d.below ns facts → Contains list one → Arrives d p facts k f one
      comes_by [] ns h has c = no_member one c
      comes_by (a ∷ list) ns (flow, joined, is) has c =
          joined_arrives d all p facts k f (a ∷ list) flow one joined c
          (arrives d all p facts k f flow (next_function d p facts n q f numbered function k at) (subst (λ (ms : Needs I). HasAll d.below ms facts) is has)
          (joined_has_flag d all p facts k f (a ∷ list) flow one joined c flag))

      among : (flows : List (ℕ × Flowing I)) → Contains flows (k, one) → Contains (flows_to d p facts n q.func f q fact k flows) one
      among flows c =
          in_map (λ (a : ℕ × Flowing I). a.1) (filter (λ (a : ℕ × Flowing I). a.0 == k) flows) (k, one)
          (in_filter (λ (a : ℕ × Flowing I). a.0 == k) flows (k, one) c (eq-eqb k k refl))

      comes_among : (next : List ℕ) (flows : List (ℕ × Flowing I)) (ns : Needs I) → Comes next flows ns → HasAll d.below ns facts → Contains next k → Contains flows (k, one) → Arrives d p facts k f one
      comes_among [] flows ns h has c among_flows = no_member k c
      comes_among (j ∷ next) flows ns (here, rest, first, more, is) has c among_flows =
          let both : HasAll d.below (here ++ rest) facts = subst (λ (ms : Needs I). HasAll d.below ms facts) is has in
          elim (first_or_rest j next k c) [
            | inl e ↦ comes_by (flows_to d p facts n q.func f q fact k flows) here (subst (λ (m : ℕ). ComesTo d p facts n q.func f q fact m (flows_to d p facts n q.func f q fact m flows) here) e first)
                (all_front (HasPart d.below facts) here rest both) (among flows among_flows)
            | inr r ↦ comes_among next flows rest more (all_back (HasPart d.below facts) here rest both) r among_flows
          ]

      pub flow_arrives : (flows : List (ℕ × Flowing I)) (ns : Needs I) → Comes q.next flows ns → HasAll d.below ns facts → Contains flows (k, one) → Arrives d p facts k f one
      flow_arrives flows ns h has c = comes_among q.next flows ns h has at c

      -- what flows to each next point
      pub to_all_arrives : (flows : List (ℕ × Flowing I)) (ns : Needs I) → Comes q.next flows ns → HasAll d.below ns facts → flows ≡ map (λ k. (k, one)) q.next → Arrives d p facts k f one
      to_all_arrives flows ns h has e =
          flow_arrives flows ns h has (subst (λ (z : List (ℕ × Flowing I)). Contains z (k, one)) (sym e) (in_map (λ (j : ℕ). (j, one)) q.next k at))

    -- ---- what is asked for each of some functions

    pub for_one : (asks : ℕ → Func → Needs I → Type 0) (gs : List ℕ) (ns : Needs I) → ForEach d p facts n q.func f q fact asks gs ns → HasAll d.below ns facts → (g : ℕ) → Contains gs g →
        (callee : Func) × (here : Needs I) × (slice_get p.funcs g ≡ Some callee) × asks g callee here × HasAll d.below here facts
    for_one asks [] ns h has g c = no_member g c
    for_one asks (j ∷ gs) ns (callee, here, rest, there, asked, more, is) has g c =
        let both : HasAll d.below (here ++ rest) facts = subst (λ (ms : Needs I). HasAll d.below ms facts) is has in
        elim (first_or_rest j gs g c) [
          | inl e ↦ (callee, here, ap (slice_get p.funcs) (sym e) ∙ there, subst (λ (m : ℕ). asks m callee here) e asked, all_front (HasPart d.below facts) here rest both)
          | inr r ↦ for_one asks gs rest more (all_back (HasPart d.below facts) here rest both) g r
        ]

  -- a point that is reached has a flag
  pub fact_flag : HaveShape d p facts → (n : ℕ) (q : Point) (f : Func) (fact : PointFact I) → slice_get (flow_of p).points n ≡ Some q → slice_get p.funcs q.func ≡ Some f → fact_at facts n ≡ Some fact → HasFlag (of_fact fact)
  fact_flag shape n q f fact numbered function there = (shape.point_facts n fact q f (listed (slice_get facts.at n) refl there) numbered function).flag
    where
      listed : (o : Option (Option (PointFact I))) → slice_get facts.at n ≡ o → option_and_then (λ (x : Option (PointFact I)). x) o ≡ Some fact → slice_get facts.at n ≡ Some (Some fact)
      listed None e h = absurd (cc)
      listed (Some x) e h = e ∙ ap Some h
