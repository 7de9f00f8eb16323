-- What comes of raising a slot by a part, whatever the slot and the part are called.
use Rattle.std.proofs.Common.{◌≡◌, ℕ, Bool, true, false, true≢false, Option, None, Result, IfOk, OnErr, refl, sym, ap, subst, ◌∙◌}
use Rattle.std.specs.Prelude.{is_some, option_and_then}
use Rattle.cc_rules_asked.specs.CcPlaces.declared.abs.Abs.{Abs}
use Rattle.cc_rules_asked.specs.CcRulesNeeds.declared.needs.Part.{Part}
use Rattle.cc_rules_asked.specs.CcRulesNeeds.declared.needs.Part.TheVariants.{Mark, LevelSet, Flags, Values}
use Rattle.cc_rules_asked.specs.CcRulesNeeds.declared.needs.Slot.{Slot}
use Rattle.cc_rules_asked.specs.CcRulesNeeds.declared.needs.Slot.TheVariants.{CellAt, Apart}
use Rattle.cc_rules_asked.specs.CcRulesNeeds.Needs.{Has}
use Rattle.cc_rules_raised.specs.Slots.{MayRise, IsRisen}
use Rattle.cc_rules_asked.specs.CcStateFacts.declared.facts.Facts.{Facts}
use Rattle.cc_rules_asked.specs.CcStateFacts.declared.facts.PointFact.{PointFact}
use Rattle.cc_rules_asked.specs.CcStateFacts.Facts.{fact_at, cell_of, cell_at}
use Rattle.cc_state_limits.specs.Held.{AreHeld}

module _ {I : Type 0} (below : I → I → Type 0) where
  pub record IsSlotOutcome {E : Type 0} (f g : Facts I) (r : Result Bool E) (slot : Slot) (part : Part I) : Type 0 where
    pub rose : IfOk r (λ rose. rose ≡ true → (Has below f (slot, part) → ⊥) × IsRisen below slot part f g)
    pub had : IfOk r (λ rose. rose ≡ false → Has below f (slot, part) × (g ≡ f))
    pub same : OnErr r (g ≡ f)
    pub held : AreHeld f → AreHeld g

  -- nothing is needed
  pub has_none : (f : Facts I) (n j : ℕ) (part : Part I) → part ≡ Values None → Has below f (CellAt n j, part)
  has_none f n j part e = subst (λ (x : Part I). Has below f (CellAt n j, x)) (sym e) tt

  pub has_no_mark : (f : Facts I) (n r j : ℕ) (part : Part I) → part ≡ Mark false → Has below f (Apart n r j, part)
  has_no_mark f n r j part e = subst (λ (x : Part I). Has below f (Apart n r j, x)) (sym e) (λ t. absurd (true≢false (sym t)))

module _ {I : Type 0} where
  -- cells get values alone, and pairs marks
  pub values_alone : (n j : ℕ) (part : Part I) (f : Facts I) → MayRise (CellAt n j) part f → ((y : Option (Abs I)) → part ≡ Values y → ⊥) → ⊥
  values_alone n j (Values y) f h other = other y refl
  values_alone n j (Mark b) f h other = h
  values_alone n j (LevelSet x) f h other = h
  values_alone n j (Flags off on) f h other = h

  pub marks_alone : (n r j : ℕ) (part : Part I) (f : Facts I) → MayRise (Apart n r j) part f → ((b : Bool) → part ≡ Mark b → ⊥) → ⊥
  marks_alone n r j (Mark b) f h other = other b refl
  marks_alone n r j (Values y) f h other = h
  marks_alone n r j (LevelSet x) f h other = h
  marks_alone n r j (Flags off on) f h other = h

  -- a point that has a cell is reached
  pub cell_reached : (f : Facts I) (n j : ℕ) → None ≡ fact_at f n → is_some (cell_at f n j) ≡ true → ⊥
  cell_reached f n j e h = true≢false (sym h ∙ ap (λ (o : Option (PointFact I)). is_some (option_and_then (λ (x : PointFact I). cell_of x j) o)) (sym e))
