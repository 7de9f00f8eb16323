use Rattle.std.proofs.Common.{◌∙◌, ◌≡◌, ◌≤◌, ◌*◌, ◌^◌, ℕ, List, All, None, ap, length, map, subst, sym}
use Rattle.std.proofs.lemmas.List.{length-map}
use Rattle.std.proofs.lemmas.Result.{IfOk-weaker}
use Rattle.cc_cost_ranking.specs.declared.costs.Cost.{Cost}
use Rattle.cc_state_points.specs.CcFlow.declared.types.Flow.{Flow}
use Rattle.cc_plan.proofs.Settled.{breach_is, plan_is, prices_are, small_counts}
use Rattle.cc_plan.proofs.SlotLemmas.{ready}
use Rattle.cc_plan.specs.Plans.{IsLegal, IsPlanOf, candidates_of}
use Rattle.cc_plan_choice.specs.Choice.{IsChoice}
use Rattle.cc_plan_costs.specs.Costs.{IsPriceable, price_of}
use Rattle.cc_plan_costs.specs.Counts.{counts_of}
use Rattle.cc_plan_legal.specs.declared.candidate.Candidate.{Candidate}
use Rattle.cc_plan_legal.specs.declared.kinds.Plan.{Plan}
use Rattle.cc_plan_legal.specs.Candidates.{candidate_of}
use Rattle.cc_plan_legal.specs.Legality.{first_illegal}
use Rattle.cc_plan_legal.specs.Short.{AreShort}
use Rattle.cc_plan_offers.specs.Offers.{offers_from}
use Rattle.cc_slots_accesses.specs.Arrays.{is_array}
use Rattle.cc_slots_types.specs.declared.slot.Slot.{Slot}
use Rattle.cc_plan.proofs.planning.plan.Goals as goal

pub slots-requires : goal.slots-requires
slots-requires c = record { normal = c.requires.limits.normal; few = c.requires.limits.few_points; low = c.requires.low; flow = c.requires.flow; shape = c.requires.shape }

pub counts_of-requires : goal.counts_of-requires
counts_of-requires c = subst (λ (gs : List (List ℕ × ℕ)). All (λ (g : List ℕ × ℕ). g.1 ≤ 1000000000) gs) (sym c.all.ensures) (small_counts c.args.profile.now.counts c.args.profile.now.counted)

pub prices-requires : goal.prices-requires
prices-requires c =
    let slots = c.in_ok-slots.slots.items in
    let it = ready c.args.p.now c.args.facts.now c.requires.limits c.requires.shape c.requires.low slots c.in_ok-slots.ensures in
    record {
      counts = subst (λ (ns : List ℕ). All (λ (n : ℕ). n ≤ 2 ^ 30) ns) (sym c.deref-2.ensures.value) c.in_ok-counts.ensures.most;
      slots = subst (λ (ss : List Slot). All IsPriceable ss) (sym c.deref-3.ensures.value) it.priceable;
    }

pub plan-requires : goal.plan-requires
plan-requires c =
    let p = c.args.p.now in
    let slots = c.in_ok-slots.slots.items in
    let it = ready p c.args.facts.now c.requires.limits c.requires.shape c.requires.low slots c.in_ok-slots.ensures in
    let seen = c.deref-4.ensures.value ∙ (c.in_ok-seen.ensures ∙ ap (candidates_of p) c.deref.ensures.value) in
    let count = ap length seen ∙ length-map slots (λ (slot : Slot). candidate_of slot (is_array p slot.key)) in
    let priced = ap length (c.deref-5.ensures.value ∙ c.in_ok-prices.ensures) ∙ (length-map c.deref-3.result.now (price_of c.all-2.result.now c.deref-2.result.now c.args.facts.now p) ∙ ap length c.deref-3.ensures.value) in
    record {
      few = subst (λ (n : ℕ). n ≤ 2 ^ 32) (sym count) it.few;
      costs = count ∙ sym priced;
      weights = c.weights_of-weights.ensures.few;
      short = subst AreShort (sym seen) it.short;
      bytes = subst (λ (cs : List Candidate). All (λ (x : Candidate). x.count * x.bytes ≤ 2 ^ 35) cs) (sym seen) it.bytes;
    }

pub returns-clause-chosen : goal.returns-clause-chosen
returns-clause-chosen c =
    let p = c.args.p.now in
    let facts = c.args.facts.now in
    let profile = c.args.profile.now in
    let slots = c.in_ok-slots.slots.items in
    let seen = c.deref-4.ensures.value ∙ (c.in_ok-seen.ensures ∙ ap (candidates_of p) c.deref.ensures.value) in
    let often = c.deref-2.ensures.value ∙ (c.in_ok-counts.ensures.value ∙ ap (λ (gs : List (List ℕ × ℕ)). counts_of gs p) c.all.ensures) in
    let at = c.all-2.ensures ∙ ap (λ (f : Flow). f.points) c.requires.flow in
    let prices = c.deref-5.ensures.value ∙ (c.in_ok-prices.ensures ∙ prices_are p facts slots profile c.all-2.result.now c.deref-2.result.now c.deref-3.result.now at often c.deref-3.ensures.value) in
    IfOk-weaker c.plan.result
    (IsChoice c.deref-4.result.now (offers_from c.deref-5.result.now 0 c.deref-4.result.now) c.weights_of-weights.result c.budgets_of-budgets.result)
    (IsPlanOf p facts profile)
    (plan_is p facts slots c.in_ok-slots.ensures c.deref-4.result.now seen profile c.deref-5.result.now c.weights_of-weights.result c.budgets_of-budgets.result prices c.weights_of-weights.ensures.value c.budgets_of-budgets.ensures)
    c.plan.ensures.choice

pub returns-clause-legal : goal.returns-clause-legal
returns-clause-legal c =
    let p = c.args.p.now in
    let slots = c.in_ok-slots.slots.items in
    let seen = c.deref-4.ensures.value ∙ (c.in_ok-seen.ensures ∙ ap (candidates_of p) c.deref.ensures.value) in
    IfOk-weaker c.plan.result (λ (plan : Plan). first_illegal c.deref-4.result.now plan ≡ None) (IsLegal p c.args.facts.now)
    (λ (plan : Plan) h. breach_is p c.args.facts.now slots c.in_ok-slots.ensures c.deref-4.result.now seen plan None (sym h)) c.plan.ensures.legal
