-- A cell gets values alone; where none are needed nothing rises.
use Rattle.std.proofs.Common.{true≢false, Some, refl, ap, sym, subst, ◌∙◌}
use Rattle.cc_rules_asked.specs.CcRulesNeeds.declared.needs.Part.{Part}
use Rattle.cc_rules_asked.specs.CcRulesNeeds.declared.needs.Part.TheVariants.{Values}
use Rattle.cc_rules_asked.specs.CcRulesNeeds.declared.needs.Slot.TheVariants.{CellAt}
use Rattle.cc_rules_raised.proofs.SlotParts.{IsSlotOutcome, has_none, values_alone}
use Rattle.cc_rules_raised.proofs.slots.raise_cell_part.Goals as goal
use Rattle.cc_rules_raised.specs.Slots.{MayRise}

pub raise_cell-requires : goal.raise_cell-requires
raise_cell-requires g c = subst (λ (x : Part g.row.I.Denot). MayRise (CellAt c.args.n c.args.j) x c.args.facts.now) (c.in-Values.is ∙ ap Values c.in-Some.is) c.requires

pub unreachable-requires : goal.unreachable-requires
unreachable-requires g c = values_alone c.args.n c.args.j c.args.part.now c.args.facts.now c.requires c.in_default.not-Values

pub returns-in-None : goal.returns-in-None
returns-in-None g c = record {
  rose = λ e. absurd (true≢false (sym e));
  had = λ e. (has_none g.I.Lattice.IsBelow c.args.facts.now c.args.n c.args.j c.args.part.now (c.in-Values.is ∙ ap Values c.in-None.is), refl);
  same = tt;
  held = λ h. h;
}

pub returns-in-Some : goal.returns-in-Some
returns-in-Some g c =
    let is = c.raise_cell.ensures in
    let part : IsSlotOutcome g.I.Lattice.IsBelow c.args.facts.now c.raise_cell.new.facts c.raise_cell.result (CellAt c.args.n c.args.j) (Values (Some c.in-Some.set)) = record { rose = is.rose; had = is.had; same = is.same; held = is.held } in
    let out = subst (IsSlotOutcome g.I.Lattice.IsBelow c.args.facts.now c.raise_cell.new.facts c.raise_cell.result (CellAt c.args.n c.args.j)) (sym (c.in-Values.is ∙ ap Values c.in-Some.is)) part in
    record { rose = out.rose; had = out.had; same = out.same; held = out.held }
