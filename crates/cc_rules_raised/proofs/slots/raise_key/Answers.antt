-- What is put is the part that was copied; the slot's set is such as a memory holds, and nothing else is another.
use Rattle.std.proofs.Common.{◌≡◌, subst, sym}
use Rattle.cc_rules_asked.specs.CcRulesNeeds.declared.needs.Part.{Part}
use Rattle.cc_rules_asked.specs.CcRulesNeeds.Needs.{Has}
use Rattle.cc_rules_asked.specs.CcRulesNeeds.Raised.{MayGet, IsPut}
use Rattle.cc_rules_raised.proofs.Memory.{key_held}
use Rattle.cc_rules_raised.proofs.slots.raise_key.Goals as goal
use Rattle.cc_state_limits.specs.Held.{AreHeld}

pub raise_part-requires : goal.raise_part-requires
raise_part-requires g c = subst (λ (x : Part g.row.I.Denot). MayGet c.args.slot x c.args.facts.now) (sym c.in_ok-copy.ensures) c.requires

pub returns-in_err-rose-clause-held : goal.returns-in_err-rose-clause-held
returns-in_err-rose-clause-held g c = λ h. subst AreHeld (sym c.in_err-rose.ensures.same) h

pub returns : goal.returns
returns g c =
    let below = g.I.Lattice.IsBelow in
    let f = c.args.facts.now in
    let new = c.raise_part.new.facts in
    let slot = c.args.slot in
    let is = c.in_ok-rose.ensures in
    let copy = c.in_ok-copy.ensures in
    record {
      rose = λ e. subst (λ (x : Part g.row.I.Denot). (Has below f (slot, x) → ⊥) × IsPut below slot x f new) copy (is.rose e);
      had = λ e. subst (λ (x : Part g.row.I.Denot). Has below f (slot, x) × (new ≡ f)) copy (is.had e);
      same = tt;
      held = key_held below slot c.in_ok-copy.copy f new c.in_ok-rose.rose is.rose is.had
          (record { whole = c.held_slot.ensures.whole; results = c.held_slot.ensures.results; levels = c.held_slot.ensures.levels });
    }
