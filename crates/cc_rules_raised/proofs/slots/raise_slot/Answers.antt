-- Each slot has its way.
use Rattle.std.proofs.Common.{◌≡◌, true, sym, subst}
use Rattle.std.proofs.lemmas.Result.{IfOk-weaker}
use Rattle.cc_rules_asked.specs.CcRulesNeeds.declared.needs.Slot.{Slot}
use Rattle.cc_rules_asked.specs.CcRulesNeeds.declared.needs.Slot.TheVariants.{CellAt, Apart}
use Rattle.cc_rules_asked.specs.CcRulesNeeds.Needs.{Has}
use Rattle.cc_rules_asked.specs.CcRulesNeeds.Raised.{IsPut}
use Rattle.cc_rules_raised.proofs.SlotParts.{IsSlotOutcome}
use Rattle.cc_rules_raised.proofs.Told.{other_may, other_risen}
use Rattle.cc_rules_raised.proofs.slots.raise_slot.Goals as goal
use Rattle.cc_rules_raised.specs.Slots.{MayRise, IsRisen}

pub raise_cell_part-requires : goal.raise_cell_part-requires
raise_cell_part-requires g c = subst (λ (s : Slot). MayRise s c.args.part.now c.args.facts.now) c.in-CellAt.is c.requires

pub raise_apart_part-requires : goal.raise_apart_part-requires
raise_apart_part-requires g c = subst (λ (s : Slot). MayRise s c.args.part.now c.args.facts.now) c.in-Apart.is c.requires

pub raise_key-requires : goal.raise_key-requires
raise_key-requires g c = other_may c.args.slot c.args.part.now c.args.facts.now c.in_default.not-CellAt c.in_default.not-Apart c.requires

pub returns-in-CellAt : goal.returns-in-CellAt
returns-in-CellAt g c =
    let is = c.raise_cell_part.ensures in
    let one : IsSlotOutcome g.I.Lattice.IsBelow c.args.facts.now c.raise_cell_part.new.facts c.raise_cell_part.result (CellAt c.in-CellAt.n c.in-CellAt.j) c.args.part.now = record { rose = is.rose; had = is.had; same = is.same; held = is.held } in
    let out = subst (λ (s : Slot). IsSlotOutcome g.I.Lattice.IsBelow c.args.facts.now c.raise_cell_part.new.facts c.raise_cell_part.result s c.args.part.now) (sym c.in-CellAt.is) one in
    record { rose = out.rose; had = out.had; same = out.same; held = out.held }

pub returns-in-Apart : goal.returns-in-Apart
returns-in-Apart g c =
    let is = c.raise_apart_part.ensures in
    let one : IsSlotOutcome g.I.Lattice.IsBelow c.args.facts.now c.raise_apart_part.new.facts c.raise_apart_part.result (Apart c.in-Apart.n c.in-Apart.r c.in-Apart.j) c.args.part.now = record { rose = is.rose; had = is.had; same = is.same; held = is.held } in
    let out = subst (λ (s : Slot). IsSlotOutcome g.I.Lattice.IsBelow c.args.facts.now c.raise_apart_part.new.facts c.raise_apart_part.result s c.args.part.now) (sym c.in-Apart.is) one in
    record { rose = out.rose; had = out.had; same = out.same; held = out.held }

pub returns-in_default : goal.returns-in_default
returns-in_default g c =
    let below = g.I.Lattice.IsBelow in
    let f = c.args.facts.now in
    let new = c.raise_key.new.facts in
    let slot = c.args.slot in
    let part = c.args.part.now in
    let is = c.raise_key.ensures in
    record {
      rose = IfOk-weaker c.raise_key.result (λ rose. rose ≡ true → (Has below f (slot, part) → ⊥) × IsPut below slot part f new) (λ rose. rose ≡ true → (Has below f (slot, part) → ⊥) × IsRisen below slot part f new)
          (λ rose h e. ((h e).0, other_risen below slot part f new c.in_default.not-CellAt c.in_default.not-Apart (h e).1)) is.rose;
      had = is.had;
      same = is.same;
      held = is.held;
    }
