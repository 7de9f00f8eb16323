-- The plan of a program, what a plan breaks, and the table of a plan, by the program's slots.
use Rattle.std.specs.Prelude.{◌≡◌, ℕ, List, Option, None, length, map}
use Rattle.cc_cost.specs.declared.profile.Profile.{Profile}
use Rattle.cc_cost_ranking.specs.declared.costs.Cost.{Cost}
use Rattle.cc_state_points.specs.CcFlow.Points.{flow_of}
use Rattle.cc_layout.specs.Seats.{ram}
use Rattle.cc_rewrite_names.specs.NewNames.{word_names}
use Rattle.cc_plan_choice.specs.Choice.{IsChoice}
use Rattle.cc_plan_costs.specs.Costs.{cost_of, price_of}
use Rattle.cc_plan_costs.specs.Counts.{counts_of}
use Rattle.cc_plan_legal.specs.declared.candidate.Candidate.{Candidate}
use Rattle.cc_plan_legal.specs.declared.kinds.Plan.{Plan}
use Rattle.cc_plan_legal.specs.declared.legal.Illegal.{Illegal}
use Rattle.cc_plan_legal.specs.Candidates.{candidate_of}
use Rattle.cc_plan_legal.specs.Legality.{first_illegal}
use Rattle.cc_plan_offers.specs.Offers.{offers_from}
use Rattle.cc_plan_table.specs.Table.{table_text}
use Rattle.cc_program.specs.declared.program.Program.{Program}
use Rattle.cc_sets.specs.declared.vals.Vals.{Vals}
use Rattle.cc_slots.specs.Domain.{vals_domain}
use Rattle.cc_slots.specs.Slots.{AreSlots}
use Rattle.cc_slots_accesses.specs.Arrays.{is_array}
use Rattle.cc_slots_types.specs.declared.slot.Slot.{Slot}
use Rattle.cc_state_points.specs.CcStateFacts.declared.facts.Facts.{Facts}
use Rattle.cc_plan.specs.Settings.{budgets_of, weights_of}

-- slots as plans see them
abbrev pub candidates_of : Program → List Slot → List Candidate
candidates_of p slots = map (λ (slot : Slot). candidate_of slot (is_array p slot.key)) slots

module _ (p : Program) (facts : Facts Vals) where
  -- what coding each slot costs, where functions run as often as the profile says; and as it is ranked, with the bytes of its table
  abbrev pub costs_of : Profile → List Slot → List Cost
  costs_of profile slots = map (cost_of (flow_of p).points (counts_of profile.counts p) facts p) slots

  abbrev pub prices_of : Profile → List Slot → List Cost
  prices_of profile slots = map (price_of (flow_of p).points (counts_of profile.counts p) facts p) slots

  -- the plan that is chosen of the program's slots
  pub record IsPlanOf (profile : Profile) (plan : Plan) : Type 0 where
    pub slots : List Slot
    pub are : AreSlots p vals_domain facts slots
    pub chosen : IsChoice (candidates_of p slots) (offers_from (prices_of profile slots) 0 (candidates_of p slots)) (weights_of profile) (budgets_of profile) plan

  -- the first of the program's slots that breaks a rule, and its least rule; none where the plan is legal
  pub record IsBreachOf (plan : Plan) (breach : Option Illegal) : Type 0 where
    pub slots : List Slot
    pub are : AreSlots p vals_domain facts slots
    pub first : breach ≡ first_illegal (candidates_of p slots) plan

  abbrev pub IsLegal : Plan → Type 0
  IsLegal plan = IsBreachOf plan None

  -- the table of the program's slots under a plan, where so much RAM is taken afterwards
  pub record IsTableOf (profile : Profile) (plan : Plan) (after : ℕ) (text : List ℕ) : Type 0 where
    pub slots : List Slot
    pub are : AreSlots p vals_domain facts slots
    pub written : text ≡ table_text p (word_names p (length plan.words)) slots plan (costs_of profile slots) (record { before = ram p; after = after })
