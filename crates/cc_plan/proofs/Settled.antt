-- What is worked out step by step is what is stated of a program, its facts and its profile.
use Rattle.std.proofs.Common.{◌≡◌, ◌∙◌, ◌≤◌, arith, ℕ, true, List, All, get_or, length, map, Option, subst}
use Rattle.std.specs.Prelude.{nat_le, ◌&&◌}
use Rattle.std.specs.List.{list_all}
use Rattle.std.proofs.lemmas.Bool.Decides.{nat_tests}
use Rattle.std.proofs.lemmas.List.Sums.{AllPass-from_list_all}
use Rattle.cc_cost.specs.declared.profile.Profile.{Profile}
use Rattle.cc_cost_ranking.specs.declared.costs.Cost.{Cost}
use Rattle.cc_cost_ranking.specs.declared.types.Budgets.{Budgets}
use Rattle.cc_cost_ranking.specs.declared.types.Weights.{Weights}
use Rattle.cc_state_points.specs.CcFlow.declared.types.Flow.{Flow}
use Rattle.cc_state_points.specs.CcFlow.declared.types.Point.{Point}
use Rattle.cc_state_points.specs.CcFlow.Points.{flow_of}
use Rattle.cc_layout.specs.Seats.{ram}
use Rattle.cc_plan.specs.Plans.{IsBreachOf, IsPlanOf, IsTableOf, candidates_of, costs_of, prices_of}
use Rattle.cc_plan.specs.Settings.{budgets_of, weights_of}
use Rattle.cc_plan_choice.specs.Choice.{IsChoice}
use Rattle.cc_plan_costs.specs.Costs.{cost_of, price_of}
use Rattle.cc_plan_costs.specs.Counts.{counts_of}
use Rattle.cc_plan_legal.specs.declared.candidate.Candidate.{Candidate}
use Rattle.cc_plan_legal.specs.declared.kinds.Plan.{Plan}
use Rattle.cc_plan_legal.specs.declared.legal.Illegal.{Illegal}
use Rattle.cc_plan_legal.specs.Legality.{first_illegal}
use Rattle.cc_plan_offers.specs.Offers.{offers_from}
use Rattle.cc_plan_table.specs.Table.{table_text}
use Rattle.cc_program.specs.declared.program.Program.{Program}
use Rattle.cc_rewrite_names.specs.NewNames.{word_names}
use Rattle.cc_sets.specs.declared.vals.Vals.{Vals}
use Rattle.cc_slots.specs.Domain.{vals_domain}
use Rattle.cc_slots.specs.Slots.{AreSlots}
use Rattle.cc_slots_types.specs.declared.slot.Slot.{Slot}
use Rattle.cc_state_points.specs.CcStateFacts.declared.facts.Facts.{Facts}
use Rattle.cc_state_points.proofs.CcSyntax.Prefixes.{both_true}

within : (n most : ℕ) → nat_le n most ≡ true → n ≤ most
within n most h = grind (arith, nat_tests)

pub small_counts : (counts : List (List ℕ × ℕ)) → list_all (λ c. nat_le c.1 1000000000) counts ≡ true → All (λ c. c.1 ≤ 1000000000) counts
small_counts counts h k d l = within (get_or counts k d).1 1000000000 (AllPass-from_list_all (λ (c : List ℕ × ℕ). nat_le c.1 1000000000) counts h k d l)

pub few_weights : (code time : ℕ) → (nat_le code 1000 && nat_le time 1000) ≡ true → (code ≤ 1000) × (time ≤ 1000)
few_weights code time h =
    let both = both_true (nat_le code 1000) (nat_le time 1000) h in
    (within code 1000 both.0, within time 1000 both.1)

module _ (p : Program) (facts : Facts Vals) (slots : List Slot) where
  -- by points, counts and slots that are these
  module _ (profile : Profile) (points : List Point) (counts : List ℕ) (these : List Slot) (at : points ≡ (flow_of p).points) (often : counts ≡ counts_of profile.counts p) (are : these ≡ slots) where
    pub prices_are : map (price_of points counts facts p) these ≡ prices_of p facts profile slots
    prices_are = λ i. map (price_of (at i) (often i) facts p) (are i)

    pub costs_are : map (cost_of points counts facts p) these ≡ costs_of p facts profile slots
    costs_are = λ i. map (cost_of (at i) (often i) facts p) (are i)

  module _ (of : AreSlots p vals_domain facts slots) (seen : List Candidate) (same : seen ≡ candidates_of p slots) where
    pub breach_is : (plan : Plan) (breach : Option Illegal) → breach ≡ first_illegal seen plan → IsBreachOf p facts plan breach
    breach_is plan breach h = record { slots = slots; are = of; first = subst (λ (cs : List Candidate). breach ≡ first_illegal cs plan) same h }

    pub plan_is : (profile : Profile) (prices : List Cost) (weights : Weights) (budgets : Budgets) → prices ≡ prices_of p facts profile slots → weights ≡ weights_of profile → budgets ≡ budgets_of profile
        → (plan : Plan) → IsChoice seen (offers_from prices 0 seen) weights budgets plan → IsPlanOf p facts profile plan
    plan_is profile prices weights budgets e w b plan h = record {
      slots = slots;
      are = of;
      chosen =
          subst (λ (x : Budgets). IsChoice (candidates_of p slots) (offers_from (prices_of p facts profile slots) 0 (candidates_of p slots)) (weights_of profile) x plan) b
          (subst (λ (x : Weights). IsChoice (candidates_of p slots) (offers_from (prices_of p facts profile slots) 0 (candidates_of p slots)) x budgets plan) w
          (subst (λ (xs : List Cost). IsChoice (candidates_of p slots) (offers_from xs 0 (candidates_of p slots)) weights budgets plan) e
          (subst (λ (cs : List Candidate). IsChoice cs (offers_from prices 0 cs) weights budgets plan) same h)));
    }

  -- the table of words, slots and costs that are these
  module _ (of : AreSlots p vals_domain facts slots) where
    pub table_is : (profile : Profile) (plan : Plan) (after : ℕ) (words : List (List ℕ)) (these : List Slot) (costs : List Cost) (before : ℕ)
        → words ≡ word_names p (length plan.words) → these ≡ slots → costs ≡ costs_of p facts profile slots → before ≡ ram p
        → (text : List ℕ) → text ≡ table_text p words these plan costs (record { before = before; after = after }) → IsTableOf p facts profile plan after text
    table_is profile plan after words these costs before w s k b text h = record {
      slots = slots;
      are = of;
      written = h ∙ (λ i. table_text p (w i) (s i) plan (k i) (record { before = b i; after = after }));
    }
