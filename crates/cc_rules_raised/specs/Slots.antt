-- Facts that rise in one slot: of a key or a function by a part that is put there, of a point by what is known there, changed in one thing.
use Rattle.std.specs.Prelude.{◌≡◌, ◌<◌, ℕ, true, is_some, length, Some, None}
use Rattle.cc_rules_asked.specs.CcPlaces.declared.abs.Abs.{Abs}
use Rattle.cc_rules_asked.specs.CcPlaces.Abstract.{AreOfOneKind}
use Rattle.cc_rules_asked.specs.CcRulesNeeds.declared.needs.Part.{Part}
use Rattle.cc_rules_asked.specs.CcRulesNeeds.declared.needs.Part.TheVariants.{Mark, Values}
use Rattle.cc_rules_asked.specs.CcRulesNeeds.declared.needs.Slot.{Slot}
use Rattle.cc_rules_asked.specs.CcRulesNeeds.declared.needs.Slot.TheVariants.{CellAt, Apart}
use Rattle.cc_rules_asked.specs.CcRulesNeeds.Points.{ArePointsAlike, IsRaisedAt}
use Rattle.cc_rules_asked.specs.CcRulesNeeds.Raised.{MayGet, IsPut}
use Rattle.cc_rules_raised.specs.Completed.{fact_with_cell, fact_apart}
use Rattle.cc_rules_asked.specs.CcStateFacts.declared.facts.Facts.{Facts}
use Rattle.cc_rules_asked.specs.CcStateFacts.declared.facts.PointFact.{PointFact}
use Rattle.cc_rules_asked.specs.CcStateFacts.Facts.{fact_at, cell_at}

module _ {I : Type 0} where
  -- a point has a set of a cell, of the kind of some values
  pub record MayGetCell (f : Facts I) (n j : ℕ) (y : Abs I) : Type 0 where
    pub there : n < length f.at
    pub reached : is_some (cell_at f n j) ≡ true
    pub kind : (held : Abs I) → cell_at f n j ≡ Some held → AreOfOneKind y held
    pub alike : (fact : PointFact I) → fact_at f n ≡ Some fact → ArePointsAlike (fact_with_cell fact j y) fact

  pub record MayPart (f : Facts I) (n r j : ℕ) : Type 0 where
    pub there : n < length f.at
    pub reached : is_some (fact_at f n) ≡ true
    pub alike : (fact : PointFact I) → fact_at f n ≡ Some fact → ArePointsAlike (fact_apart fact r j) fact

  abbrev pub MayRise : Slot → Part I → Facts I → Type 0
  MayRise (CellAt n j) (Values None) f = Unit {0}
  MayRise (CellAt n j) (Values (Some y)) f = MayGetCell f n j y
  MayRise (CellAt n j) _ f = ⊥
  MayRise (Apart n r j) (Mark apart) f = MayPart f n r j
  MayRise (Apart n r j) _ f = ⊥
  MayRise slot part f = MayGet slot part f

  module _ (below : I → I → Type 0) where
    -- by this at the point
    pub record IsRisenBy (change : PointFact I → PointFact I) (n : ℕ) (f g : Facts I) : Type 0 where
      pub fact : PointFact I
      pub known : fact_at f n ≡ Some fact
      pub risen : IsRaisedAt below f n (change fact) g

    abbrev pub IsRisen : Slot → Part I → Facts I → Facts I → Type 0
    IsRisen (CellAt n j) (Values (Some y)) f g = IsRisenBy (λ fact. fact_with_cell fact j y) n f g
    IsRisen (CellAt n j) _ f g = ⊥
    IsRisen (Apart n r j) (Mark true) f g = IsRisenBy (λ fact. fact_apart fact r j) n f g
    IsRisen (Apart n r j) _ f g = ⊥
    IsRisen slot part f g = IsPut below slot part f g
