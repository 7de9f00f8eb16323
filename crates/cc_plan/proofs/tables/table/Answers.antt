use Rattle.std.proofs.Common.{◌∙◌, ◌≡◌, ◌≤◌, ◌^◌, ℕ, List, All, ap, length, map, subst, sym}
use Rattle.std.proofs.lemmas.Result.{IfOk-weaker}
use Rattle.std.specs.Prelude.{Vec}
use Rattle.std.specs.declared.alloc.Global.{Global}
use Rattle.cc_state_points.specs.CcFlow.declared.types.Flow.{Flow}
use Rattle.cc_plan.proofs.Settled.{costs_are, small_counts, table_is}
use Rattle.cc_plan.proofs.SlotLemmas.{ready}
use Rattle.cc_plan.specs.Plans.{IsTableOf}
use Rattle.cc_plan_costs.specs.Costs.{IsPriceable}
use Rattle.cc_plan_costs.specs.Counts.{counts_of}
use Rattle.cc_plan_table.specs.Table.{table_text}
use Rattle.cc_rewrite_names.specs.NewNames.{word_names}
use Rattle.cc_slots_types.specs.declared.slot.Slot.{Slot}
use Rattle.cc_state_points.proofs.CcSyntax.StructureLemmas.{sound_sizes}
use Rattle.cc_plan.proofs.tables.table.Goals as goal

pub slots-requires : goal.slots-requires
slots-requires c = record { normal = c.requires.limits.normal; few = c.requires.limits.few_points; low = c.requires.low; flow = c.requires.flow; shape = c.requires.shape }

pub counts_of-requires : goal.counts_of-requires
counts_of-requires c = subst (λ (gs : List (List ℕ × ℕ)). All (λ (g : List ℕ × ℕ). g.1 ≤ 1000000000) gs) (sym c.all.ensures) (small_counts c.args.profile.now.counts c.args.profile.now.counted)

pub costs-requires : goal.costs-requires
costs-requires c =
    let slots = c.in_ok-slots.slots.items in
    let it = ready c.args.p.now c.args.facts.now c.requires.limits c.requires.shape c.requires.low slots c.in_ok-slots.ensures in
    record {
      counts = subst (λ (ns : List ℕ). All (λ (n : ℕ). n ≤ 2 ^ 30) ns) (sym c.deref.ensures.value) c.in_ok-counts.ensures.most;
      slots = subst (λ (ss : List Slot). All IsPriceable ss) (sym c.deref-2.ensures.value) it.priceable;
    }

pub ram-requires : goal.ram-requires
ram-requires c = sound_sizes c.args.p.now c.requires.limits.normal.sound

pub table-requires : goal.table-requires
table-requires c =
    let slots = c.in_ok-slots.slots.items in
    let it = ready c.args.p.now c.args.facts.now c.requires.limits c.requires.shape c.requires.low slots c.in_ok-slots.ensures in
    subst (λ (ss : List Slot). length ss ≤ 2 ^ 32) (sym c.deref-4.ensures.value) it.few

pub returns : goal.returns
returns c =
    let p = c.args.p.now in
    let facts = c.args.facts.now in
    let profile = c.args.profile.now in
    let slots = c.in_ok-slots.slots.items in
    let often = c.deref.ensures.value ∙ (c.in_ok-counts.ensures.value ∙ ap (λ (gs : List (List ℕ × ℕ)). counts_of gs p) c.all.ensures) in
    let at = c.all-2.ensures ∙ ap (λ (f : Flow). f.points) c.requires.flow in
    let costs = c.deref-5.ensures.value ∙ (c.in_ok-costs.ensures ∙ costs_are p facts slots profile c.all-2.result.now c.deref.result.now c.deref-2.result.now at often c.deref-2.ensures.value) in
    let words = c.deref-3.ensures.value ∙ (c.in_ok-words.ensures ∙ ap (word_names p) (ap length c.all-3.ensures)) in
    IfOk-weaker c.table.result
    (λ (text : Vec ℕ Global). text.items ≡ table_text p c.deref-3.result.now c.deref-4.result.now c.args.plan.now c.deref-5.result.now (record { before = c.ram.result; after = c.args.after }))
    (λ (text : Vec ℕ Global). IsTableOf p facts profile c.args.plan.now c.args.after text.items)
    (λ (text : Vec ℕ Global) h. table_is p facts slots c.in_ok-slots.ensures profile c.args.plan.now c.args.after c.deref-3.result.now c.deref-4.result.now c.deref-5.result.now c.ram.result words c.deref-4.ensures.value costs c.ram.ensures text.items h)
    c.table.ensures
