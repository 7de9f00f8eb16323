-- Which plan is chosen. Of the slots without a reason those are taken that the ranking takes; where they are no constants and no
-- arrays, they are placed in words.
use Rattle.std.specs.Prelude.{◌≡◌, ◌==◌, ℕ, Bool, true, List, None, Some, All, slice_get, IsPermutation}
use Rattle.std.specs.List.{list_any}
use Rattle.cc_bins.specs.declared.types.Bins.{Bins}
use Rattle.cc_bins.specs.Placing.{IsPlacing}
use Rattle.cc_cost_ranking.specs.declared.types.Budgets.{Budgets}
use Rattle.cc_cost_ranking.specs.declared.types.Costed.{Costed}
use Rattle.cc_cost_ranking.specs.declared.types.Weights.{Weights}
use Rattle.cc_cost_ranking.specs.Ranking.{AreApart, IsRanking}
use Rattle.cc_plan_choice.specs.declared.fate.Fate.TheVariants as fate
use Rattle.cc_plan_choice.specs.Fates.{slots_with, wants_from}
use Rattle.cc_plan_legal.specs.declared.candidate.Candidate.{Candidate}
use Rattle.cc_plan_legal.specs.declared.kinds.Plan.{Plan}
use Rattle.cc_plan_legal.specs.Plans.{slots_of}

-- a slot that is there, and has no reason
pub record IsFree (slots : List Candidate) (slot : ℕ) : Type 0 where
  pub candidate : Candidate
  pub there : slice_get slots slot ≡ Some candidate
  pub free : candidate.reason ≡ None

abbrev pub is_offered : List Costed → ℕ → Bool
is_offered offers slot = list_any (λ (o : Costed). o.slot == slot) offers

-- what is offered to the ranking: the slots without a reason, each once
pub record AreOffers (slots : List Candidate) (offers : List Costed) : Type 0 where
  pub apart : AreApart offers
  pub free : All (λ (o : Costed). IsFree slots o.slot) offers
  pub complete : (slot : ℕ) (c : Candidate) → slice_get slots slot ≡ Some c → c.reason ≡ None → is_offered offers slot ≡ true

pub record IsChoice (slots : List Candidate) (offers : List Costed) (weights : Weights) (budgets : Budgets) (plan : Plan) : Type 0 where
  -- the slots that are taken, in rank order and in another
  pub ranked : List ℕ
  pub ranking : IsRanking weights budgets offers ranked
  pub taken : List ℕ
  pub permuted : IsPermutation ranked taken
  -- where those stand that share words
  pub bins : Bins
  pub placed : IsPlacing (wants_from taken 0 slots) bins
  pub words : plan.words ≡ bins.words
  pub fields : IsPermutation bins.fields plan.fields
  pub consts : plan.consts ≡ slots_with taken (slots_of plan.fields) fate.Const slots
  pub arrays : plan.arrays ≡ slots_with taken (slots_of plan.fields) fate.Array slots
  pub budget : plan.budget ≡ slots_with taken (slots_of plan.fields) fate.Left slots
  pub dissolved : plan.dissolved ≡ slots_with taken (slots_of plan.fields) fate.Dissolved slots
