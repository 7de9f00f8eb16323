-- A pair gets marks alone.
use Rattle.std.proofs.Common.{true, true≢false, refl, ap, sym, subst, ◌∙◌}
use Rattle.cc_rules_asked.specs.CcRulesNeeds.declared.needs.Part.{Part}
use Rattle.cc_rules_asked.specs.CcRulesNeeds.declared.needs.Part.TheVariants.{Mark}
use Rattle.cc_rules_asked.specs.CcRulesNeeds.declared.needs.Slot.TheVariants.{Apart}
use Rattle.cc_rules_raised.proofs.SlotParts.{IsSlotOutcome, has_no_mark, marks_alone}
use Rattle.cc_rules_raised.proofs.slots.raise_apart_part.Goals as goal
use Rattle.cc_rules_raised.specs.Slots.{MayRise}

pub raise_apart-requires : goal.raise_apart-requires
raise_apart-requires g c = subst (λ (x : Part g.row.I.Denot). MayRise (Apart c.args.n c.args.r c.args.j) x c.args.facts.now) c.in-Mark.is c.requires

pub unreachable-requires : goal.unreachable-requires
unreachable-requires g c = marks_alone c.args.n c.args.r c.args.j c.args.part.now c.args.facts.now c.requires c.in_default.not-Mark

pub returns-then-apart : goal.returns-then-apart
returns-then-apart g c =
    let is = c.raise_apart.ensures in
    let part : IsSlotOutcome g.I.Lattice.IsBelow c.args.facts.now c.raise_apart.new.facts c.raise_apart.result (Apart c.args.n c.args.r c.args.j) (Mark true) = record { rose = is.rose; had = is.had; same = is.same; held = is.held } in
    let out = subst (IsSlotOutcome g.I.Lattice.IsBelow c.args.facts.now c.raise_apart.new.facts c.raise_apart.result (Apart c.args.n c.args.r c.args.j)) (sym (c.in-Mark.is ∙ ap Mark c.if-apart.true)) part in
    record { rose = out.rose; had = out.had; same = out.same; held = out.held }

pub returns-else-apart : goal.returns-else-apart
returns-else-apart g c = record {
  rose = λ e. absurd (true≢false (sym e));
  had = λ e. (has_no_mark g.I.Lattice.IsBelow c.args.facts.now c.args.n c.args.r c.args.j c.args.part.now (c.in-Mark.is ∙ ap Mark c.if-apart.false), refl);
  same = tt;
  held = λ h. h;
}
