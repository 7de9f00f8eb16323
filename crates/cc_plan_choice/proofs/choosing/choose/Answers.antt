use Rattle.std.proofs.Common.{◌∙◌, ◌≡◌, ◌≤◌, ℕ, List, true, false, All, IsPermutation, subst, sym, ap}
use Rattle.std.proofs.lemmas.List.Elements.{All-same}
use Rattle.cc_bins.specs.declared.types.Want.{Want}
use Rattle.cc_bins.specs.Packed.{AreApart}
use Rattle.cc_bins.specs.Placing.{IsPlacing}
use Rattle.cc_plan_choice.specs.declared.fate.Fate.{Fate}
use Rattle.cc_plan_choice.specs.declared.fate.Fate.TheVariants as fate
use Rattle.cc_plan_choice.specs.Fates.{slots_with, wants_from}
use Rattle.cc_plan_choice.proofs.Chosen.{choice_legal, choice_of, few_wants, parts_are, small_wants}
use Rattle.cc_plan_choice.proofs.Wanted.{wants_apart}
use Rattle.cc_plan_legal.specs.Plans.{slots_of}
use Rattle.cc_plan_choice.proofs.choosing.choose.Goals as goal

pub wants-requires-clause-bits : goal.wants-requires-clause-bits
wants-requires-clause-bits c =
    let taken = c.in_ok-taken.taken.items in
    let permuted = subst (λ (xs : List ℕ). IsPermutation xs taken) c.deref.ensures.value c.in_ok-taken.ensures.permuted in
    subst (λ (xs : List ℕ). All (λ (x : Want). x.bits ≤ 16) (wants_from xs 0 c.args.slots.now)) (sym c.deref-2.ensures.value)
    (few_wants c.args.slots.now c.args.offers.now c.args.weights.now c.args.budgets.now c.requires.short c.requires.offered c.in_ok-ranked.ranked.items c.in_ok-ranked.ensures taken permuted)

pub place-requires-clause-bits : goal.place-requires-clause-bits
place-requires-clause-bits c =
    let taken = c.in_ok-taken.taken.items in
    let permuted = subst (λ (xs : List ℕ). IsPermutation xs taken) c.deref.ensures.value c.in_ok-taken.ensures.permuted in
    let wanted = c.deref-3.ensures.value ∙ c.in_ok-wanted.ensures ∙ ap (λ (xs : List ℕ). wants_from xs 0 c.args.slots.now) c.deref-2.ensures.value in
    All-same (λ (x : Want). (1 ≤ x.bits) × (x.bits ≤ 16)) c.deref-3.result.now (wants_from taken 0 c.args.slots.now) wanted
    (small_wants c.args.slots.now c.args.offers.now c.args.weights.now c.args.budgets.now c.requires.short c.requires.offered c.in_ok-ranked.ranked.items c.in_ok-ranked.ensures taken permuted)

pub place-requires-clause-slots : goal.place-requires-clause-slots
place-requires-clause-slots c =
    let taken = c.in_ok-taken.taken.items in
    let wanted = c.deref-3.ensures.value ∙ c.in_ok-wanted.ensures ∙ ap (λ (xs : List ℕ). wants_from xs 0 c.args.slots.now) c.deref-2.ensures.value in
    subst AreApart (sym wanted) (wants_apart taken 0 c.args.slots.now)

pub unreachable-requires : goal.unreachable-requires
unreachable-requires c =
    let slots = c.args.slots.now in
    let taken = c.in_ok-taken.taken.items in
    let bins = c.in_ok-bins.bins in
    let p = c.in_ok-parts.parts in
    let permuted = subst (λ (xs : List ℕ). IsPermutation xs taken) c.deref.ensures.value c.in_ok-taken.ensures.permuted in
    let wanted = c.deref-3.ensures.value ∙ c.in_ok-wanted.ensures ∙ ap (λ (xs : List ℕ). wants_from xs 0 slots) c.deref-2.ensures.value in
    let placed = subst (λ (xs : List Want). IsPlacing xs bins) wanted c.in_ok-bins.ensures.placing in
    let of_fate = λ (f : Fate). ap (λ (xs : List ℕ). slots_with xs (slots_of p.fields) f slots) c.deref-4.ensures.value in
    let is = parts_are slots c.args.offers.now c.args.weights.now c.args.budgets.now c.requires.short c.requires.offered c.in_ok-ranked.ranked.items c.in_ok-ranked.ensures taken permuted
    bins placed c.in_ok-bins.ensures.once p c.in_ok-parts.ensures.words c.in_ok-parts.ensures.permuted c.in_ok-parts.ensures.sorted (c.in_ok-parts.ensures.consts ∙ of_fate fate.Const)
    (c.in_ok-parts.ensures.arrays ∙ of_fate fate.Array) (c.in_ok-parts.ensures.budget ∙ of_fate fate.Left) (c.in_ok-parts.ensures.dissolved ∙ of_fate fate.Dissolved) in
    let e : true ≡ false = sym is ∙ c.into_plan.ensures.none.0 c.in-None.is in
    absurd (cc)

pub returns-clause-legal : goal.returns-clause-legal
returns-clause-legal c =
    let slots = c.args.slots.now in
    let taken = c.in_ok-taken.taken.items in
    let bins = c.in_ok-bins.bins in
    let p = c.in_ok-parts.parts in
    let permuted = subst (λ (xs : List ℕ). IsPermutation xs taken) c.deref.ensures.value c.in_ok-taken.ensures.permuted in
    let wanted = c.deref-3.ensures.value ∙ c.in_ok-wanted.ensures ∙ ap (λ (xs : List ℕ). wants_from xs 0 slots) c.deref-2.ensures.value in
    let placed = subst (λ (xs : List Want). IsPlacing xs bins) wanted c.in_ok-bins.ensures.placing in
    let of_fate = λ (f : Fate). ap (λ (xs : List ℕ). slots_with xs (slots_of p.fields) f slots) c.deref-4.ensures.value in
    let h = choice_of slots c.args.offers.now c.args.weights.now c.args.budgets.now c.in_ok-ranked.ranked.items c.in_ok-ranked.ensures taken permuted
    bins placed p c.in_ok-parts.ensures.words c.in_ok-parts.ensures.permuted (c.in_ok-parts.ensures.consts ∙ of_fate fate.Const) (c.in_ok-parts.ensures.arrays ∙ of_fate fate.Array)
    (c.in_ok-parts.ensures.budget ∙ of_fate fate.Left) (c.in_ok-parts.ensures.dissolved ∙ of_fate fate.Dissolved) c.in-Some.plan c.in-Some.ensures.plan in
    choice_legal slots c.args.offers.now c.args.weights.now c.args.budgets.now c.requires.short c.requires.offered c.in-Some.plan h
