use Rattle.std.proofs.Common.{◌∙◌, ◌≡◌, ◌≤◌, ◌^◌, ℕ, List, Option, None, ap, length, subst, sym}
use Rattle.std.proofs.lemmas.List.{length-map}
use Rattle.std.proofs.lemmas.Result.{IfOk-weaker}
use Rattle.cc_plan.proofs.Settled.{breach_is}
use Rattle.cc_plan.proofs.SlotLemmas.{ready}
use Rattle.cc_plan.specs.Plans.{IsBreachOf, candidates_of}
use Rattle.cc_plan_legal.specs.declared.candidate.Candidate.{Candidate}
use Rattle.cc_plan_legal.specs.declared.legal.Illegal.{Illegal}
use Rattle.cc_plan_legal.specs.Candidates.{candidate_of}
use Rattle.cc_plan_legal.specs.Legality.{first_illegal}
use Rattle.cc_slots_accesses.specs.Arrays.{is_array}
use Rattle.cc_slots_types.specs.declared.slot.Slot.{Slot}
use Rattle.cc_plan.proofs.legality.legal.Goals as goal

pub slots-requires : goal.slots-requires
slots-requires c = record { normal = c.requires.limits.normal; few = c.requires.limits.few_points; low = c.requires.low; flow = c.requires.flow; shape = c.requires.shape }

pub first_illegal-requires : goal.first_illegal-requires
first_illegal-requires c =
    let p = c.args.p.now in
    let slots = c.in_ok-slots.slots.items in
    let seen = c.deref-2.ensures.value ∙ (c.in_ok-seen.ensures ∙ ap (candidates_of p) c.deref.ensures.value) in
    let few = ready p c.args.facts.now c.requires.limits c.requires.shape c.requires.low slots c.in_ok-slots.ensures in
    subst (λ (n : ℕ). n ≤ 2 ^ 32) (sym (ap length seen ∙ length-map slots (λ (slot : Slot). candidate_of slot (is_array p slot.key)))) few.few

pub returns : goal.returns
returns c =
    let p = c.args.p.now in
    let slots = c.in_ok-slots.slots.items in
    let seen = c.deref-2.ensures.value ∙ (c.in_ok-seen.ensures ∙ ap (candidates_of p) c.deref.ensures.value) in
    IfOk-weaker c.first_illegal.result (λ (b : Option Illegal). b ≡ first_illegal c.deref-2.result.now c.args.plan.now) (IsBreachOf p c.args.facts.now c.args.plan.now)
    (breach_is p c.args.facts.now slots c.in_ok-slots.ensures c.deref-2.result.now seen c.args.plan.now) c.first_illegal.ensures
